-- `file::loading::store_rules` meets its contract. The loop's invariant: the rules so far stand in their slots, and the lines from here on are the others.
-- Assumes nothing.
use Prim.Native.Nat.{◌-◌}
use native.Mathlib.Omega.{arith}
use Rattle.file.proofs.Storing.{Stored, stored_start, stored_length, stored_frame, stored_next, stored_end}
use borrow.Author.Rules.{rules}
use Rattle.file.proofs.loading.store_rules.Goals as goal

pub loop-i-init : goal.loop-i-init
loop-i-init c = let a = c.args in let p = c.requires in stored_start a.file.now a.from a.count a.last a.image.now p.0 p.1.1.0 p.1.1.1.0 p.1.1.1.1 p.1.0

pub store_rule-at-requires : goal.store_rule-at-requires
store_rule-at-requires c = let a = c.args in let p = c.requires in let l = c.loop-i in (stored_frame a.file.now a.from a.count a.last a.image.now p.0 p.1.1.0 p.1.1.1.0 p.1.1.1.1 l.image l.at l.i l.invariant c.loop-i-test.true, (omega arith, omega (arith, stored_length a.file.now a.from a.count a.last a.image.now p.0 p.1.1.0 p.1.1.1.0 p.1.1.1.1 l.image l.at l.i l.invariant)))

pub loop-i-preserved : goal.loop-i-preserved
loop-i-preserved c = let a = c.args in let p = c.requires in let l = c.loop-i in stored_next a.file.now a.from a.count a.last a.image.now p.0 p.1.1.0 p.1.1.1.0 p.1.1.1.1 l.image l.at l.i l.invariant c.loop-i-test.true c.store_rule-at.result c.store_rule-at.ensures.next _ c.store_rule-at.ensures.slot

pub shape_of-image : goal.shape_of-image
shape_of-image c = let a = c.args in let p = c.requires in let l = c.loop-i in stored_length a.file.now a.from a.count a.last a.image.now p.0 p.1.1.0 p.1.1.1.0 p.1.1.1.1 l.image l.at l.i l.invariant

pub returns : goal.returns
returns c = let a = c.args in let p = c.requires in let l = c.loop-i in stored_end a.file.now a.from a.count a.last a.image.now p.0 p.1.1.0 p.1.1.1.0 p.1.1.1.1 l.image l.at l.i l.invariant c.loop-i-test.false
