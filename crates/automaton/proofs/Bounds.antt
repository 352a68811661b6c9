-- The successors of all states number at most the states and the names: each state is needed and leads to a name.
-- Assumes nothing.
use mathlib.Core.Path.{◌≡◌, refl, sym, ap, ◌∙◌, subst}
use Prim.Native.Nat.{ℕ, zero, suc, ◌+◌, ◌-◌, ◌*◌, ◌≤◌, ◌<◌}
use native.Mathlib.Omega.{arith}
use mathlib.Core.Bool.{Bool, cond}
use mathlib.Core.List.{[], ◌∷◌}
use lib.Dec.{ltb}
use lib.ListN.{length}
use borrow.Author.Tests.{lt-ltb, le-ltb}
use Rattle.automaton.specs.Automaton.{Str, Rows, phones_at, look, Letters, Sound, Needed}
use Rattle.automaton.specs.Listing.{own}
use Rattle.automaton.specs.Totals.{sum, total}
use Rattle.automaton.specs.Bounds.{some, degree, final}
use Rattle.automaton.proofs.Tests.{by_less, by_same, by_nat}
use Rattle.automaton.proofs.Endings.{leads}
use Rattle.automaton.proofs.Totals.{sum_ext, total_step, total_blank}

-- ---- sums

pub sum_le : (g h : ℕ → ℕ) (k : ℕ) → ((c : ℕ) → 0 < c → c ≤ k → g c ≤ h c) → sum g k ≤ sum h k
unfolding sum
sum_le g h zero a = omega arith
sum_le g h (suc k) a = let i = sum_le g h k (λ c z l. a c z (omega arith)) in let b = a (suc k) (omega arith) (omega arith) in omega arith

-- one term is smaller by e
pub sum_less : (g h : ℕ → ℕ) (k c e : ℕ) → ((c : ℕ) → 0 < c → c ≤ k → g c ≤ h c) → 0 < c → c ≤ k → g c + e ≤ h c → sum g k + e ≤ sum h k
unfolding sum
sum_less g h zero c e a z l b = absurd (omega arith)
sum_less g h (suc k) c e a z l b =
    by_same c (suc k)
    (λ q.
    let i = sum_le g h k (λ c z l. a c z (omega arith)) in
    let x : g c ≡ g (suc k) = ap g q in
    let y : h c ≡ h (suc k) = ap h q in
    omega arith)
    (λ q. let i = sum_less g h k c e (λ c z l. a c z (omega arith)) z (omega arith) b in let d = a (suc k) (omega arith) (omega arith) in omega arith)

pub sum_one : (g : ℕ → ℕ) (k c : ℕ) → 0 < c → c ≤ k → g c ≤ sum g k
unfolding sum
sum_one g zero c z l = absurd (omega arith)
sum_one g (suc k) c z l =
    by_same c (suc k)
    (λ q. let x : g c ≡ g (suc k) = ap g q in omega arith)
    (λ q. let i = sum_one g k c z (omega arith) in omega arith)

pub sum_22 : (g h : ℕ → ℕ) (k : ℕ) → sum (λ c. g c + 22 * h c) k ≡ sum g k + 22 * sum h k
unfolding sum
sum_22 g h zero = omega arith
sum_22 g h (suc k) = let i = sum_22 g h k in omega arith

times : ℕ → ℕ → ℕ
times z zero = 0
times z (suc d) = times z d + z

times_none : (d : ℕ) → times 0 d ≡ 0
unfolding times
times_none zero = refl
times_none (suc d) = let i = times_none d in omega arith

times_one : (d : ℕ) → times 1 d ≡ d
unfolding times
times_one zero = refl
times_one (suc d) = let i = times_one d in omega arith

times_suc : (z d : ℕ) → times z (suc d) ≡ times z d + z
unfolding times
times_suc z d = refl

sum_zero : (g : ℕ → ℕ) → sum g 0 ≡ 0
unfolding sum
sum_zero g = refl

-- the first term apart
sum_first : (g : ℕ → ℕ) (j d : ℕ) → sum (λ p. g (j + p)) (suc d) ≡ g (suc j) + sum (λ p. g (suc j + p)) d
unfolding sum
sum_first g j zero = let z : j + 1 ≡ suc j = omega arith in let y : g (j + 1) ≡ g (suc j) = ap g z in omega arith
sum_first g j (suc d) =
    let i = sum_first g j d in
    let z : j + suc (suc d) ≡ suc j + suc d = omega arith in
    let y : g (j + suc (suc d)) ≡ g (suc j + suc d) = ap g z in
    omega arith

-- ---- every state leads to a name, so it counts one

own_some : (p : Str) → (p ≡ [] → ⊥) → length (own p) ≡ 1
own_some [] ne = absurd (ne refl)
own_some (x ∷ p) ne = refl

module _ (f : Rows) (n : ℕ) (s : Sound f n) where
  total_word : (q : ℕ) → q ≤ n → (w : Str) → Letters w → (look f q w ≡ [] → ⊥) → 0 < total f q
  total_word q h [] t ne = let e = total_step f n s q h in let o = own_some (phones_at f q) ne in omega arith
  total_word q h (c ∷ w) t ne =
      let l = t.1 in
      let z = t.0 in
      let x = s.earlier q c h l in
      let i = total_word (f q c) (omega arith) w t.2 ne in
      let e = total_step f n s q h in
      let b = sum_one (λ c. total f (f q c)) 63 c z (omega arith) in
      omega arith

  pub total_some : (q : ℕ) → 0 < q → q ≤ n → 0 < total f q
  total_some q z h = let r = leads f n s q z h in total_word q h r.0 r.1 r.2

  -- ---- the states above i taken apart: a successor above i counts z, one up to i its names

  weight : ℕ → ℕ → ℕ → ℕ
  weight z i q = cond (ltb i q) z (total f q)

  weight_high : (z i q : ℕ) → i < q → weight z i q ≡ z
  unfolding weight
  weight_high z i q h = ap (λ (t : Bool). cond t z (total f q)) (lt-ltb i q h)

  weight_low : (z i q : ℕ) → q ≤ i → weight z i q ≡ total f q
  unfolding weight
  weight_low z i q h = ap (λ (t : Bool). cond t z (total f q)) (le-ltb i q h)

  weight_some : (q : ℕ) → weight 1 0 q ≡ some q
  weight_some zero = weight_low 1 0 0 (omega arith) ∙ total_blank f n s
  weight_some (suc q) = weight_high 1 0 (suc q) (omega arith)

  row : ℕ → ℕ → ℕ → ℕ
  row z i p = sum (λ c. weight z i (f p c)) 63

  row_own : (z j : ℕ) → suc j ≤ n → row z j (suc j) + final f (suc j) ≡ total f (suc j)
  unfolding row final
  row_own z j h =
      let e = total_step f n s (suc j) h in
      let g = sum_ext (λ c. weight z j (f (suc j) c)) (λ c. total f (f (suc j) c)) 63 (λ c y l. weight_low z j (f (suc j) c) (let x = s.earlier (suc j) c h (omega arith) in omega arith)) in
      omega arith

  weight_falls : (z j q : ℕ) → z ≤ 1 → suc j ≤ n → weight z j q ≤ weight z (suc j) q
  weight_falls z j q hz h =
      by_less j q
      (λ l. by_same q (suc j)
      (λ e.
      let a = weight_high z j q l in
      let b = weight_low z (suc j) q (omega arith) in
      let t = total_some q (omega arith) (omega arith) in omega arith)
      (λ ne. let a = weight_high z j q l in let b = weight_high z (suc j) q (omega arith) in omega arith))
      (λ l. let a = weight_low z j q l in let b = weight_low z (suc j) q (omega arith) in omega arith)

  row_falls : (z j p : ℕ) → z ≤ 1 → suc j ≤ n → row z j p ≤ row z (suc j) p
  unfolding row
  row_falls z j p hz h = sum_le (λ c. weight z j (f p c)) (λ c. weight z (suc j) (f p c)) 63 (λ c y l. weight_falls z j (f p c) hz h)

  row_less : (z j p c : ℕ) → z ≤ 1 → suc j ≤ n → 0 < c → c < 64 → f p c ≡ suc j → row z j p + (total f (suc j) - z) ≤ row z (suc j) p
  unfolding row
  row_less z j p c hz h y l e =
      let a = weight_high z j (f p c) (omega arith) in
      let b = weight_low z (suc j) (f p c) (omega arith) in
      let t = total_some (suc j) (omega arith) h in
      let g : total f (f p c) ≡ total f (suc j) = ap (total f) e in
      sum_less (λ c. weight z j (f p c)) (λ c. weight z (suc j) (f p c)) 63 c (total f (suc j) - z) (λ d u v. weight_falls z j (f p d) hz h) y (omega arith) (omega arith)

  module _ (nd : Needed f n) where
    -- the states above i, d of them
    apart : (z : ℕ) → z ≤ 1 → (d i : ℕ) → i + suc d ≡ n → sum (λ p. row z i (i + p)) (suc d) + sum (λ p. final f (i + p)) (suc d) ≤ total f n + times z d
    apart z hz zero i e =
        let a = sum_first (row z i) i 0 in
        let b = sum_first (final f) i 0 in
        let o = row_own z i (omega arith) in
        let x : suc i ≡ n = omega arith in
        let t : total f (suc i) ≡ total f n = ap (total f) x in
        let s0 = sum_zero (λ p. row z i (suc i + p)) in
        let s1 = sum_zero (λ p. final f (suc i + p)) in
        omega arith
    apart z hz (suc d) i e =
        let ih = apart z hz d (suc i) (omega arith) in
        let a = sum_first (row z i) i (suc d) in
        let b = sum_first (final f) i (suc d) in
        let o = row_own z i (omega arith) in
        let t = total_some (suc i) (omega arith) (omega arith) in
        let r = nd (suc i) (omega arith) (omega arith) in
        let p = r.0 in
        let c = r.1 in
        let pn = r.2 in
        let cl = r.3 in
        let fe : f p c ≡ suc i = r.4 in
        let x = s.earlier p c r.2 r.3 in
        let cz : 0 < c = by_nat c (λ z. let u = s.unused p r.2 in let v : f p c ≡ f p 0 = ap (f p) z in absurd (omega arith)) (λ y g. omega arith) in
        let pe : suc i + (p - suc i) ≡ p = omega arith in
        let le = sum_less (λ p. row z i (suc i + p)) (λ p. row z (suc i) (suc i + p)) (suc d) (p - suc i) (total f (suc i) - z)
        (λ q u v. row_falls z i (suc i + q) hz (omega arith)) (omega arith) (omega arith)
        (subst (λ (t : ℕ). row z i t + (total f (suc i) - z) ≤ row z (suc i) t) (sym pe) (row_less z i p c hz (omega arith) cz cl fe)) in
        let m = times_suc z d in
        omega arith

    all_apart : (z : ℕ) → z ≤ 1 → 0 < n → sum (λ p. sum (λ c. weight z 0 (f p c)) 63) n + sum (final f) n ≤ total f n + times z (n - 1)
    unfolding row
    all_apart z hz h =
        let e : suc (n - 1) ≡ n = omega arith in
        let a = apart z hz (n - 1) 0 (omega arith) in
        let b : sum (λ p. row z 0 (0 + p)) (suc (n - 1)) ≡ sum (row z 0) n = ap (sum (λ p. row z 0 (0 + p))) e ∙ sum_ext (λ p. row z 0 (0 + p)) (row z 0) n (λ c u v. let y : 0 + c ≡ c = omega arith in ap (row z 0) y) in
        let d : sum (λ p. final f (0 + p)) (suc (n - 1)) ≡ sum (final f) n = ap (sum (λ p. final f (0 + p))) e ∙ sum_ext (λ p. final f (0 + p)) (final f) n (λ c u v. let y : 0 + c ≡ c = omega arith in ap (final f) y) in
        omega arith

    -- no more states end a name than there are names
    pub finals_few : 0 < n → sum (final f) n ≤ total f n
    finals_few h = let a = all_apart 0 (omega arith) h in let t = times_none (n - 1) in omega arith

    -- the successors of all states, and the states that end a name, are fewer than the states and the names
    pub edges_few : 0 < n → sum (degree f) n + sum (final f) n + 1 ≤ total f n + n
    unfolding degree
    edges_few h =
        let a = all_apart 1 (omega arith) h in
        let t = times_one (n - 1) in
        let b : sum (λ p. sum (λ c. weight 1 0 (f p c)) 63) n ≡ sum (λ p. sum (λ c. some (f p c)) 63) n =
        sum_ext (λ p. sum (λ c. weight 1 0 (f p c)) 63) (λ p. sum (λ c. some (f p c)) 63) n
        (λ p u v. sum_ext (λ c. weight 1 0 (f p c)) (λ c. some (f p c)) 63 (λ c x y. weight_some (f p c))) in
        omega arith
