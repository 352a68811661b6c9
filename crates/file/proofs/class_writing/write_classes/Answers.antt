-- `file::class_writing::write_classes` meets its contract. The loop's invariant: the lines of the classes so far stand after the head's.
-- Assumes nothing.
use Prim.Native.Nat.{◌+◌, ◌-◌}
use native.Mathlib.Omega.{arith}
use Rattle.rules.specs.Limits.{max_symbol}
use Rattle.file.proofs.ClassOutput.{Lined, lined_start, lined_length, lined_end, lined_room, lined_next}
use Rattle.file.proofs.class_writing.write_classes.Goals as goal

pub loop-symbol-init : goal.loop-symbol-init
loop-symbol-init c = let a = c.args in let p = c.requires in lined_start a.masks.now a.out.now p.1.1

pub mask_at-mask-requires : goal.mask_at-mask-requires
mask_at-mask-requires c = (c.requires.0, (c.loop-symbol.invariant.low, c.loop-symbol-test.true))

pub write_class-at-requires : goal.write_class-at-requires
write_class-at-requires c = let a = c.args in let p = c.requires in let l = c.loop-symbol in (lined_room a.masks.now a.out.now p.1.1 l.out l.at l.symbol l.invariant c.loop-symbol-test.true c.mask_at-mask.result c.mask_at-mask.ensures, p.1.0)

pub loop-symbol-preserved : goal.loop-symbol-preserved
loop-symbol-preserved c = let a = c.args in let p = c.requires in let l = c.loop-symbol in lined_next a.masks.now a.out.now p.1.1 l.out l.at l.symbol l.invariant c.loop-symbol-test.true c.mask_at-mask.result c.mask_at-mask.ensures _ c.write_class-at.result c.write_class-at.ensures.bytes c.write_class-at.ensures.next

pub shape_of-out : goal.shape_of-out
shape_of-out c = let a = c.args in let p = c.requires in let l = c.loop-symbol in lined_length a.masks.now a.out.now p.1.1 l.out l.at l.symbol l.invariant

pub returns : goal.returns
returns c = let a = c.args in let p = c.requires in let l = c.loop-symbol in
    let told = lined_end a.masks.now a.out.now p.1.1 l.out l.at l.symbol l.invariant c.loop-symbol-test.false in
    record {
      next = told.0;
      bytes = told.1;
    }
