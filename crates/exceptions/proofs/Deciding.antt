-- Tests that decide claims: joined by and, or, not, and over all or some numbers up to a bound.
-- Assumes nothing.
use mathlib.Core.Path.{◌≡◌, refl, sym, subst}
use mathlib.Core.Logic.{◌⊎◌, ⊎_elim}
use Prim.Native.Nat.{ℕ, zero, suc, ◌≤◌, ◌<◌}
use native.Mathlib.Omega.{arith}
use mathlib.Core.Bool.{Bool, true, false, not, ◌&&◌, ◌||◌}
use lib.Dec.{eqb, leb, ltb}
use borrow.Author.Tests.{leb-true, leb-false, ltb-true, ltb-false, eqb-true, eqb-false}
use Rattle.automaton.proofs.Tests.{by_same, clash}
use Rattle.minimality.specs.Judging.{Decides}
use Rattle.minimality.proofs.Scan.{decided, refuted}
use Rattle.exceptions.specs.Judging.{all_to, some_to}

-- two tests of one claim agree
pub decides_same : (P : Type 0) (a b : Bool) → Decides P a → Decides P b → a ≡ b
decides_same P true true d e = refl
decides_same P true false d e = absurd (e.no refl (d.yes refl))
decides_same P false true d e = absurd (d.no refl (e.yes refl))
decides_same P false false d e = refl

pub affirmed : (P : Type 0) → P → Decides P true
affirmed P p = record { yes = λ e. p; no = λ e n. clash refl e }

pub answer_yes : (P : Type 0) (a : Bool) → Decides P a → P → a ≡ true
answer_yes P a d p = decides_same P a true d (affirmed P p)

-- a claim that a test decides holds where it cannot fail
pub stable : (P : Type 0) (a : Bool) → Decides P a → ((P → ⊥) → ⊥) → P
stable P true d n = d.yes refl
stable P false d n = absurd (n (d.no refl))

-- ---- numbers

pub decides_eq : (a b : ℕ) → Decides (a ≡ b) (eqb a b)
decides_eq a b = record { yes = eqb-true a b; no = eqb-false a b }

pub decides_le : (a b : ℕ) → Decides (a ≤ b) (leb a b)
decides_le a b = record { yes = leb-true a b; no = λ e l. let m = leb-false a b e in omega arith }

pub decides_lt : (a b : ℕ) → Decides (a < b) (ltb a b)
decides_lt a b = record { yes = ltb-true a b; no = λ e l. let m = ltb-false a b e in omega arith }

-- ---- and, or, implies

-- the first test is necessary, and where its claim holds the second decides
pub decides_and : (P Q : Type 0) (a b : Bool) → Decides P a → (Q → P) → (P → Decides Q b) → Decides Q (a && b)
decides_and P Q true b d f g = g (d.yes refl)
decides_and P Q false b d f g = refuted Q (λ q. d.no refl (f q))

pub decides_or : (P Q : Type 0) (a b : Bool) → Decides P a → Decides Q b → Decides (P ⊎ Q) (a || b)
decides_or P Q true b d e = affirmed (P ⊎ Q) (◌⊎◌.inl (d.yes refl))
decides_or P Q false b d e =
    record { yes = λ t. ◌⊎◌.inr (e.yes t); no = λ t s. ⊎_elim (d.no refl) (e.no t) s }

pub decides_implies : (P Q : Type 0) (a b : Bool) → Decides P a → Decides Q b → Decides (P → Q) (not a || b)
decides_implies P Q true b d e = record { yes = λ t p. e.yes t; no = λ t f. e.no t (f (d.yes refl)) }
decides_implies P Q false b d e = affirmed (P → Q) (λ p. absurd (d.no refl p))

-- ---- all and some numbers up to n

last_or_less : (P : ℕ → Type 0) (n k : ℕ) → P (suc n) → ((j : ℕ) → j ≤ n → P j) → k ≤ suc n → P k
last_or_less P n k p f h = by_same k (suc n) (λ e. subst P (sym e) p) (λ ne. f k (omega arith))

pub decides_all : (P : ℕ → Type 0) (t : ℕ → Bool) → ((k : ℕ) → Decides (P k) (t k)) → (n : ℕ) → Decides ((k : ℕ) → k ≤ n → P k) (all_to n t)
unfolding all_to
decides_all P t d zero =
    decided (P 0) ((k : ℕ) → k ≤ 0 → P k) (t 0)
    (λ p k h. let e : k ≡ 0 = omega arith in subst P (sym e) p) (λ f. f 0 (omega arith)) (d 0)
decides_all P t d (suc n) =
    decides_and (P (suc n)) ((k : ℕ) → k ≤ suc n → P k) (t (suc n)) (all_to n t) (d (suc n)) (λ f. f (suc n) (omega arith))
    (λ p. decided ((k : ℕ) → k ≤ n → P k) ((k : ℕ) → k ≤ suc n → P k) (all_to n t)
    (λ f k h. last_or_less P n k p f h) (λ f k h. f k (omega arith)) (decides_all P t d n))

abbrev pub Some : (ℕ → Type 0) → ℕ → Type 0
Some P n = (k : ℕ) × (k ≤ n) × P k

pub decides_some : (P : ℕ → Type 0) (t : ℕ → Bool) → ((k : ℕ) → Decides (P k) (t k)) → (n : ℕ) → Decides (Some P n) (some_to n t)
unfolding some_to
decides_some P t d zero =
    decided (P 0) (Some P 0) (t 0)
    (λ p. (0, (let z : 0 ≤ 0 = omega arith in z), p)) (λ s. let h = s.1 in let e : s.0 ≡ 0 = omega arith in subst P e s.2) (d 0)
decides_some P t d (suc n) =
    decided (P (suc n) ⊎ Some P n) (Some P (suc n)) (t (suc n) || some_to n t)
    (λ u. ⊎_elim (λ p. (suc n, (let z : suc n ≤ suc n = omega arith in z), p)) (λ s. let h = s.1 in (s.0, (let z : s.0 ≤ suc n = omega arith in z), s.2)) u)
    (λ s. let h = s.1 in by_same s.0 (suc n) (λ e. ◌⊎◌.inl (subst P e s.2)) (λ ne. ◌⊎◌.inr (s.0, (let z : s.0 ≤ n = omega arith in z), s.2)))
    (decides_or (P (suc n)) (Some P n) (t (suc n)) (some_to n t) (d (suc n)) (decides_some P t d n))
