-- `file::defining::class_in` meets its contract: the tests in turn.
-- Assumes nothing.
use mathlib.Core.Path.{refl}
use native.Mathlib.Omega.{arith}
use Rattle.file.proofs.ClassTests.{class_short, class_under, class_over, class_length, class_told}
use Rattle.file.proofs.defining.class_in.Goals as goal

pub returns-then-f-le-LETTERS : goal.returns-then-f-le-LETTERS
returns-then-f-le-LETTERS c = class_short c.args.low c.args.f.now c.if-f-le-LETTERS.true

pub returns-then-symbol-low : goal.returns-then-symbol-low
returns-then-symbol-low c = class_under c.args.low c.args.f.now c.if-symbol-low.true

pub returns-then-symbol-gt-MAX_SYMBOL : goal.returns-then-symbol-gt-MAX_SYMBOL
returns-then-symbol-gt-MAX_SYMBOL c = class_over c.args.low c.args.f.now c.if-symbol-gt-MAX_SYMBOL.true

pub returns-then-f-end : goal.returns-then-f-end
returns-then-f-end c = class_length c.args.low c.args.f.now _ (omega arith) c.if-f-end.true

pub returns : goal.returns
returns c = class_told c.args.low c.args.f.now c.requires c.if-symbol-low.false c.if-symbol-gt-MAX_SYMBOL.false _ (omega arith) c.if-f-end.false _ refl _ c.class_mask.ensures
