-- Tests and bounded searches.
-- Assumes nothing.
use mathlib.Core.Path.{◌≡◌, refl, sym, ap, ◌∙◌}
use Prim.Native.Nat.{ℕ, zero, suc, ◌≤◌, ◌<◌}
use native.Mathlib.Nat.{not-suc-le-zero}
use native.Mathlib.Omega.{arith}
use mathlib.Core.Bool.{Bool, true, false, true≢false}
use mathlib.Core.List.{[], ◌∷◌}
use lib.Dec.{eqb, ltb}
use borrow.Author.Tests.{ltb-true, ltb-false, eqb-true, eqb-false, eq-eqb}
use Rattle.automaton.specs.Automaton.{Str, same}

pub by_bool {ℓ} : {A : Type ℓ} (b : Bool) → (b ≡ true → A) → (b ≡ false → A) → A
by_bool true f g = f refl
by_bool false f g = g refl

pub clash {ℓ} : {A : Type ℓ} {b : Bool} → b ≡ true → b ≡ false → A
clash p q = absurd (true≢false (sym p ∙ q))

pub by_less {ℓ} : {A : Type ℓ} (m n : ℕ) → (m < n → A) → (n ≤ m → A) → A
by_less m n f g = by_bool (ltb m n) (λ e. f (ltb-true m n e)) (λ e. g (ltb-false m n e))

pub by_same {ℓ} : {A : Type ℓ} (m n : ℕ) → (m ≡ n → A) → ((m ≡ n → ⊥) → A) → A
by_same m n f g = by_bool (eqb m n) (λ e. f (eqb-true m n e)) (λ e. g (eqb-false m n e))

pub by_nat {ℓ} : {A : Type ℓ} (x : ℕ) → (x ≡ 0 → A) → ((y : ℕ) → x ≡ suc y → A) → A
by_nat zero f g = f refl
by_nat (suc x) f g = g x refl

-- all of the first b numbers are 0, or one of them is not
pub by_some {ℓ} : {A : Type ℓ} (b : ℕ) (g : ℕ → ℕ) → (((k : ℕ) → k < b → g k ≡ 0) → A) → ((k : ℕ) → k < b → 0 < g k → A) → A
by_some zero g none some = none (λ k l. absurd (not-suc-le-zero l))
by_some (suc b) g none some =
    by_some b g
    (λ all. by_nat (g b)
    (λ z. none (λ k l. by_same k b (λ e. ap g e ∙ z) (λ ne. all k (omega arith))))
    (λ y e. some b (omega arith) (omega arith)))
    (λ k l p. some k (omega arith) p)

pub same_refl : (s : Str) → same s s ≡ true
same_refl [] = refl
same_refl (x ∷ s) = rw (eq-eqb x x refl) (same_refl s)
