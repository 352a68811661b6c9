-- `file::class_writing::classes_size` meets its contract. The loop's invariant: the sizes of the lines so far are added up.
-- Assumes nothing.
use Prim.Native.Nat.{◌+◌, ◌-◌}
use native.Mathlib.Omega.{arith}
use Rattle.rules.specs.Limits.{max_symbol}
use Rattle.file.proofs.ClassOutput.{Sized, sized_start, sized_next, sized_end}
use borrow.Author.Rules.{rules}
use Rattle.file.proofs.class_writing.classes_size.Goals as goal

pub loop-symbol-init : goal.loop-symbol-init
loop-symbol-init c = sized_start c.args.masks.now

pub mask_at-requires : goal.mask_at-requires
mask_at-requires c = (c.requires, (c.loop-symbol.invariant.low, c.loop-symbol-test.true))

pub overflow_add-n : goal.overflow_add-n
overflow_add-n c = omega (arith, c.loop-symbol.invariant.small, c.class_size-n.ensures.1)

pub loop-symbol-preserved : goal.loop-symbol-preserved
loop-symbol-preserved c = let l = c.loop-symbol in sized_next c.args.masks.now l.symbol l.invariant.low c.loop-symbol-test.true c.mask_at.result c.mask_at.ensures l.n c.class_size-n.result l.invariant c.class_size-n.ensures.0 c.class_size-n.ensures.1

pub returns : goal.returns
returns c = let l = c.loop-symbol in sized_end c.args.masks.now l.n l.symbol l.invariant c.loop-symbol-test.false
