-- `classes::symbols::step` meets its contract.
-- Assumes nothing.
use Prim.Native.Nat.{ℕ, ◌%◌, ◌≤◌, ◌<◌}
use mathlib.Core.Path.{ap, subst}
use native.Mathlib.Nat.{mod-lt}
use native.Mathlib.Omega.{arith}
use lib.ListN.{length}
use Rattle.classes.proofs.Standing.{step_same, step_other, step_yes, step_no}
use Rattle.classes.proofs.symbols.step.Goals as goal

pub returns-then-symbol-letter : goal.returns-then-symbol-letter
returns-then-symbol-letter c = step_same c.args.masks.now c.args.symbol c.args.letter c.args.q c.if-symbol-lt-FIRST_CLASS.true c.if-symbol-letter.true

pub returns-then-symbol-lt-FIRST_CLASS : goal.returns-then-symbol-lt-FIRST_CLASS
returns-then-symbol-lt-FIRST_CLASS c = step_other c.args.masks.now c.args.symbol c.args.letter c.args.q c.if-symbol-lt-FIRST_CLASS.true c.if-symbol-letter.false

pub nonzero_rem-q : goal.nonzero_rem-q
nonzero_rem-q c = let h : 1 ≤ c.size_in-n.result = omega (arith, c.size_in-n.ensures.0, ap length c.mask_of-mask.ensures, c.requires.1) in
    omega arith

pub is_letter_in-requires : goal.is_letter_in-requires
is_letter_in-requires c = let e = c.size_in-n.ensures.0 in
    let h : 1 ≤ c.size_in-n.result = omega (arith, e, ap length c.mask_of-mask.ensures, c.requires.1) in
    subst (λ (n : ℕ). c.args.q % c.size_in-n.result < n) e (mod-lt c.args.q h)

pub nonzero_div-result : goal.nonzero_div-result
nonzero_div-result c = let h : 1 ≤ c.size_in-n.result = omega (arith, c.size_in-n.ensures.0, ap length c.mask_of-mask.ensures, c.requires.1) in
    omega arith

pub returns-then-is_letter_in : goal.returns-then-is_letter_in
returns-then-is_letter_in c = step_yes c.args.masks.now c.args.symbol c.args.letter c.args.q _ _ c.mask_of-mask.ensures c.size_in-n.ensures.0 _ c.is_letter_in.ensures c.if-is_letter_in.true

pub returns : goal.returns
returns c = step_no c.args.masks.now c.args.symbol c.args.letter c.args.q _ _ c.mask_of-mask.ensures c.size_in-n.ensures.0 _ c.is_letter_in.ensures c.if-is_letter_in.false
