-- Where a target ends, and the two answers that its end tells apart.
-- Assumes nothing.
use Prim.Native.Nat.{ℕ, suc, ◌+◌, ◌≤◌, ◌<◌}
use mathlib.Core.Path.{◌≡◌, refl, sym, ap, ◌∙◌}
use mathlib.Core.Bool.{Bool, true, false, cond, ◌&&◌}
use mathlib.Core.List.{[], ◌∷◌}
use native.Mathlib.Omega.{arith}
use lib.Dec.{eqb}
use lib.ListN.{length, get_or, drop}
use lib.Seq.{drop-cons}
use borrow.Author.Tests.{eq-eqb, ne_eqb}
use Rattle.rules.specs.Shape.{Production}
use Rattle.fitting.specs.Fitting.{Str, starts, fits}
use Rattle.literals.specs.Matching.{end_of}

-- a target of one letter
and-true : (b : Bool) → (b && true) ≡ b
and-true true = refl
and-true false = refl

single_starts : (t w : Str) (y : ℕ) → length t ≡ 1 → starts t (y ∷ w) ≡ eqb (get_or t 0 0) y
single_starts [] w y e = absurd (omega arith)
single_starts (x ∷ []) w y e = and-true (eqb x y)
single_starts (x ∷ z ∷ t) w y e = absurd (omega arith)

module _ (t f : Str) (i : ℕ) (one : length t ≡ 1) (h : i < length f) where
  by_letter : starts t (drop i f) ≡ eqb (get_or t 0 0) (get_or f i 0)
  by_letter = ap (starts t) (drop-cons f i 0 h) ∙ single_starts t (drop (suc i) f) (get_or f i 0) one

  pub other_letter : (get_or t 0 0 ≡ get_or f i 0 → ⊥) → 0 ≡ cond (starts t (drop i f)) (i + length t) 0
  other_letter n = sym (ap (λ (b : Bool). cond b (i + length t) 0) (by_letter ∙ ne_eqb _ _ n))

  pub that_letter : get_or t 0 0 ≡ get_or f i 0 → i + 1 ≡ cond (starts t (drop i f)) (i + length t) 0
  that_letter e = ap (λ (n : ℕ). i + n) (sym one) ∙ sym (ap (λ (b : Bool). cond b (i + length t) 0) (by_letter ∙ eq-eqb _ _ e))

-- the end of what a test finds, which is never 0
module _ (n : ℕ) (some : 1 ≤ n) where
  pub ended_no : (b : Bool) (e : ℕ) → e ≡ cond b n 0 → e ≡ 0 → b ≡ false
  ended_no true e g z = absurd (omega arith)
  ended_no false e g z = refl

  pub ended_yes : (b : Bool) (e : ℕ) → e ≡ cond b n 0 → (e ≡ 0 → ⊥) → b ≡ true
  ended_yes true e g z = refl
  ended_yes false e g z = absurd (z g)

pub ended_at : (b : Bool) (n e : ℕ) → e ≡ cond b n 0 → b ≡ true → e ≡ n
ended_at b n e g t = g ∙ ap (λ (x : Bool). cond x n 0) t

-- the end of a rule, by whether it fits
module _ (r : Production) (f : Str) (i : ℕ) where
  pub end_none : fits r f i ≡ false → 0 ≡ end_of r f i
  end_none e = sym (ap (λ (b : Bool). cond b (i + length r.target) 0) e)

  pub end_some : fits r f i ≡ true → i + length r.target ≡ end_of r f i
  end_some e = sym (ap (λ (b : Bool). cond b (i + length r.target) 0) e)
