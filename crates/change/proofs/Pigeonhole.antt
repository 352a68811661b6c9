-- The pigeonhole principle: marked numbers that are related to numbers below b, no two to the same, are no more than b.
-- Assumes nothing.
use mathlib.Core.Path.{◌≡◌, refl, sym, ap, ◌∙◌, subst}
use mathlib.Core.Logic.{◌⊎◌}
use Prim.Native.Nat.{ℕ, zero, suc, ◌≤◌, ◌<◌}
use native.Mathlib.Omega.{arith}
use Rattle.automaton.specs.Bounds.{some}
use Rattle.automaton.proofs.Tests.{by_same, by_nat}
use Rattle.compaction.specs.Compaction.{marked}

-- x is related to y; but what was related to the last number b is related to v, which is given up
abbrev Moved : (ℕ → ℕ → Type 0) → ℕ → ℕ → ℕ → ℕ → Type 0
Moved R b v x y = (R x y × (y ≡ v → ⊥)) ⊎ (R x b × (y ≡ v))

moved_once : (R : ℕ → ℕ → Type 0) (b v : ℕ) → ((x z y : ℕ) → R x y → R z y → x ≡ z) → (x z y : ℕ) → Moved R b v x y → Moved R b v z y → x ≡ z
moved_once R b v d x z y (◌⊎◌.inl p) (◌⊎◌.inl q) = d x z y p.0 q.0
moved_once R b v d x z y (◌⊎◌.inl p) (◌⊎◌.inr q) = absurd (p.1 q.1)
moved_once R b v d x z y (◌⊎◌.inr p) (◌⊎◌.inl q) = absurd (q.1 p.1)
moved_once R b v d x z y (◌⊎◌.inr p) (◌⊎◌.inr q) = d x z b p.0 q.0

-- each of the first k that is marked is related to a number below b
abbrev pub Related : (ℕ → ℕ) → ℕ → ℕ → (ℕ → ℕ → Type 0) → Type 0
Related m k b R = (x : ℕ) → x < k → 0 < m x → (y : ℕ) × (y < b) × R x y

moved_related : (m : ℕ → ℕ) (k b v : ℕ) (R : ℕ → ℕ → Type 0) → ((x z y : ℕ) → R x y → R z y → x ≡ z) → v < suc b → R k v → Related m (suc k) (suc b) R → Related m k b (Moved R b v)
moved_related m k b v R d l r a x h p =
    let t = a x (omega arith) p in
    let y = t.0 in
    let o = t.1 in
    let ne : y ≡ v → ⊥ = λ e. let z : x ≡ k = d x k v (subst (R x) e t.2) r in omega arith in
    by_same y b
    (λ e. (v, (let z : v < b = by_same v b (λ g. absurd (ne (e ∙ sym g))) (λ g. omega arith) in z), ◌⊎◌.inr (subst (R x) e t.2, refl)))
    (λ g. (y, (let z : y < b = omega arith in z), ◌⊎◌.inl (t.2, ne)))

pub pigeonhole : (m : ℕ → ℕ) (k b : ℕ) (R : ℕ → ℕ → Type 0) → ((x z y : ℕ) → R x y → R z y → x ≡ z) → Related m k b R → marked m k ≤ b
unfolding marked
pigeonhole m zero b R d a = omega arith
pigeonhole m (suc k) zero R d a =
    by_nat (m k)
    (λ z. let i = pigeonhole m k zero R d (λ x h p. a x (omega arith) p) in let e : some (m k) ≡ 0 = ap some z in omega arith)
    (λ y z. let t = a k (omega arith) (omega arith) in let l = t.1 in absurd (omega arith))
pigeonhole m (suc k) (suc b) R d a =
    by_nat (m k)
    (λ z. let i = pigeonhole m k (suc b) R d (λ x h p. a x (omega arith) p) in let e : some (m k) ≡ 0 = ap some z in omega arith)
    (λ y z.
    let t = a k (omega arith) (omega arith) in
    let i = pigeonhole m k b (Moved R b t.0) (moved_once R b t.0 d) (moved_related m k b t.0 R d t.1 t.2 a) in
    let e : some (m k) ≡ 1 = ap some z in
    omega arith)

-- where all are marked, as many are as there are
pub marked_all : (k : ℕ) → marked (λ x. 1) k ≡ k
unfolding marked
marked_all zero = refl
marked_all (suc k) = let i = marked_all k in omega arith
