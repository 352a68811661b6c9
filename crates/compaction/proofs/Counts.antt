-- The number of marked rows, one row after another.
-- Assumes nothing.
use mathlib.Core.Path.{◌≡◌, refl, ap}
use Prim.Native.Nat.{ℕ, zero, suc, ◌+◌, ◌≤◌, ◌<◌}
use native.Mathlib.Omega.{arith}
use Rattle.automaton.specs.Bounds.{some}
use mathlib.Core.Bool.{Bool, not, cond}
use mathlib.Core.List.{List, [], ◌∷◌}
use lib.ListN.{length, get_or, take}
use lib.Dec.{eqb, eqb-suc-zero}
use lib.Seq.{take-suc}
use Rattle.std.specs.List.{count_by}
use Rattle.std.proofs.lemmas.List.Sums.{sum_by-append}
use Rattle.compaction.specs.Compaction.{marked}

one_some : (x : ℕ) → cond (not (eqb x 0)) 1 0 ≡ some x
one_some zero = refl
one_some (suc x) = ap (λ (b : Bool). cond (not b) 1 0) (eqb-suc-zero x)

-- the marks of the first k rows that are set
pub marked_count : (m : List ℕ) (k : ℕ) → k ≤ length m → count_by (λ (x : ℕ). not (eqb x 0)) (take k m) ≡ marked (λ x. get_or m x 0) k
unfolding marked
marked_count m zero h = refl
marked_count m (suc k) h =
    let a = marked_count m k (omega arith) in
    let t = ap (count_by (λ (x : ℕ). not (eqb x 0))) (take-suc m k 0 h) in
    let s = sum_by-append (λ (x : ℕ). cond (not (eqb x 0)) 1 0) (take k m) (get_or m k 0 ∷ []) in
    let o = one_some (get_or m k 0) in
    omega arith

pub some_one : (x : ℕ) → 0 < x → some x ≡ 1
some_one zero h = absurd (omega arith)
some_one (suc x) h = refl

module _ (m : ℕ → ℕ) where
  pub marked_none : 0 ≡ marked m 0
  unfolding marked
  marked_none = refl

  more : (i x : ℕ) → some (m i) ≡ x → marked m (i + 1) ≡ marked m i + x
  unfolding marked
  more i x e =
      let z : i + 1 ≡ suc i = omega arith in
      let y : marked m (i + 1) ≡ marked m (suc i) = ap (marked m) z in
      omega arith

  pub marked_skip : (i k : ℕ) → m i ≡ 0 → k ≡ marked m i → k ≡ marked m (i + 1)
  marked_skip i k e g = let y = more i 0 (ap some e) in omega arith

  pub marked_keep : (i k : ℕ) → 0 < m i → k ≡ marked m i → k + 1 ≡ marked m (i + 1)
  marked_keep i k h g = let y = more i 1 (some_one (m i) h) in omega arith
