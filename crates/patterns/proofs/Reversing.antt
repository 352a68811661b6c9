-- The loop that stores choice j of a run of symbols, the last letter first.
-- Assumes nothing.
use Prim.Native.Nat.{ℕ, suc, ◌+◌, ◌-◌, ◌/◌, ◌%◌, ◌≤◌, ◌<◌}
use mathlib.Core.Path.{◌≡◌, sym, ap, ◌∙◌}
use mathlib.Core.List.{List, reverse}
use native.Mathlib.Omega.{arith}
use lib.ListN.{length, get_or, drop, set}
use Rattle.classes.specs.Classes.{Classes, letters}
use Rattle.classes.specs.Expansion.{size}
use Rattle.classes.specs.Ordinal.{choice_at}
use Rattle.classes.proofs.Ordinal.{choice_symbol, choice_long, size_at}
use Rattle.fitting.specs.Fitting.{Str}
use Rattle.literals.proofs.Matching.{quotient_begin, quotient_next}
use Rattle.side.specs.Wrote.{Wrote}
use Rattle.side.proofs.Writing as W
use Rattle.patterns.proofs.Symbols.{get_d_reverse}

-- n letters are stored from a on, and q is left of j for the symbols before theirs
pub record Reversing (k : Classes) (s : Str) (j : ℕ) (xs : List ℕ) (a : ℕ) (ys : List ℕ) (q n : ℕ) : Type 0 where
  pub reached : n ≤ length s
  pub left : q ≡ j / size k (drop (length s - n) s)
  pub wrote : Wrote xs a n (λ i. get_or (reverse (choice_at k s j)) i 0) ys

module _ (k : Classes) (s : Str) (ok : 1 ≤ size k s) (j : ℕ) (xs : List ℕ) (a : ℕ) where
  pub begin : Reversing k s j xs a xs j 0
  begin =
      let e : length s ≡ length s - 0 = omega arith in
      record { reached = omega arith; left = quotient_begin k s j ∙ ap (λ (n : ℕ). j / size k (drop n s)) e; wrote = W.begin xs a _ }

  module _ (room : a + length s ≤ length xs) (ys : List ℕ) (q n : ℕ) (r : Reversing k s j xs a ys q n) (h : n < length s) (c : ℕ) (is : c ≡ get_or s (length s - 1 - n) 0) where
    -- the place of the next letter's symbol c
    abbrev i : ℕ
    i = length s - 1 - n

    at : suc (length s - 1 - n) ≡ length s - n
    at = omega arith

    before : length s - 1 - n ≡ length s - (n + 1)
    before = omega arith

    left_here : q ≡ j / size k (drop (suc i) s)
    left_here = r.left ∙ ap (λ (m : ℕ). j / size k (drop m s)) (sym at)

    pub symbol_some : 1 ≤ length (letters k c)
    symbol_some = rw is (size_at k s i ok (omega arith))

    letter_is : get_or (letters k (get_or s i 0)) (q % length (letters k (get_or s i 0))) 0 ≡ get_or (reverse (choice_at k s j)) n 0
    letter_is =
        sym (get_d_reverse (choice_at k s j) n (omega (arith, choice_long k s j ok))
        ∙ (ap (λ (m : ℕ). get_or (choice_at k s j) (m - 1 - n) 0) (choice_long k s j ok)
        ∙ (choice_symbol k s j i ok (omega arith) ∙ ap (λ (m : ℕ). get_or (letters k (get_or s i 0)) (m % length (letters k (get_or s i 0))) 0) (sym left_here))))

    pub next : (v : ℕ) → v ≡ get_or (letters k c) (q % length (letters k c)) 0 → (p : ℕ) → p ≡ q / length (letters k c)
        → Reversing k s j xs a (set ys (a + n) v) p (n + 1)
    next v e p f = record {
      reached = omega arith;
      left = f ∙ (ap (λ (d : ℕ). q / length (letters k d)) is ∙ quotient_next k s j q i (omega arith) left_here ∙ ap (λ (m : ℕ). j / size k (drop m s)) before);
      wrote = W.next xs a n _ ys v r.wrote (omega arith) (e ∙ (ap (λ (d : ℕ). get_or (letters k d) (q % length (letters k d)) 0) is ∙ letter_is));
    }
