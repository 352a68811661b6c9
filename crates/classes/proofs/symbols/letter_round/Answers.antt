-- `classes::symbols::letter_round` meets its contract.
-- Assumes nothing.
use Prim.Native.Nat.{ℕ, ◌%◌, ◌≤◌, ◌<◌}
use mathlib.Core.Path.{ap, subst, ◌∙◌}
use mathlib.Core.List.{List}
use native.Mathlib.Nat.{mod-lt}
use native.Mathlib.Omega.{arith}
use lib.ListN.{length, get_or}
use Rattle.classes.specs.Masks.{letters_in}
use Rattle.classes.proofs.Standing.{alone_round}
use Rattle.classes.proofs.symbols.letter_round.Goals as goal

pub returns-then-symbol-lt-FIRST_CLASS : goal.returns-then-symbol-lt-FIRST_CLASS
returns-then-symbol-lt-FIRST_CLASS c = alone_round c.args.masks.now c.args.symbol c.if-symbol-lt-FIRST_CLASS.true c.args.q

pub nonzero_rem-q : goal.nonzero_rem-q
nonzero_rem-q c = let h : 1 ≤ c.size_in.result = omega (arith, c.size_in.ensures.0, ap length c.mask_of-mask.ensures, c.requires.1) in
    omega arith

pub letter_in-requires : goal.letter_in-requires
letter_in-requires c = let e = c.size_in.ensures.0 in
    let h : 1 ≤ c.size_in.result = omega (arith, e, ap length c.mask_of-mask.ensures, c.requires.1) in
    subst (λ (n : ℕ). c.args.q % c.size_in.result < n) e (mod-lt c.args.q h)

pub returns : goal.returns
returns c = c.letter_in.ensures
    ∙ (ap (λ (n : ℕ). get_or (letters_in c.mask_of-mask.result) (c.args.q % n) 0) c.size_in.ensures.0
    ∙ ap (λ (l : List ℕ). get_or l (c.args.q % length l) 0) c.mask_of-mask.ensures)
