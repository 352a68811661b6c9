-- `file::writing::write_rules` meets its contract. The loop's invariant: the lines of the rules so far stand from `from` on.
-- Assumes nothing.
use native.Mathlib.Omega.{arith}
use Rattle.file.proofs.FileBytes.{lined_start, lined_length, lined_end, lined_room, lined_next}
use Rattle.file.proofs.writing.write_rules.Goals as goal

pub loop-i-init : goal.loop-i-init
loop-i-init c = let a = c.args in let p = c.requires in lined_start a.rules.bytes.now a.from a.out.now p.1

pub write_rule-at-requires : goal.write_rule-at-requires
write_rule-at-requires c = let a = c.args in let p = c.requires in let l = c.loop-i in (omega arith, (p.0, lined_room a.rules.bytes.now a.from a.out.now p.1 l.out l.at l.i l.invariant (omega arith)))

pub loop-i-preserved : goal.loop-i-preserved
loop-i-preserved c = let a = c.args in let p = c.requires in let l = c.loop-i in lined_next a.rules.bytes.now a.from a.out.now p.1 l.out l.at l.i l.invariant (omega arith) _ c.write_rule-at.result c.write_rule-at.ensures.bytes c.write_rule-at.ensures.next

pub shape_of-out : goal.shape_of-out
shape_of-out c = let a = c.args in let p = c.requires in let l = c.loop-i in lined_length a.rules.bytes.now a.from a.out.now p.1 l.out l.at l.i l.invariant

pub returns : goal.returns
returns c = let a = c.args in let p = c.requires in let l = c.loop-i in lined_end a.rules.bytes.now a.from a.out.now p.1 l.out l.at l.i l.invariant (omega arith)
