-- The cells of a list: no more than its states, and 22 for each name.
-- Assumes nothing.
use mathlib.Core.Path.{◌≡◌, refl, ap, ◌∙◌}
use Prim.Native.Nat.{ℕ, zero, suc, ◌+◌, ◌-◌, ◌*◌, ◌≤◌, ◌<◌}
use native.Mathlib.Omega.{arith}
use mathlib.Core.List.{List, [], ◌∷◌, ◌++◌}
use lib.ListN.{length, get_or, length-append}
use Rattle.automaton.specs.Automaton.{key_of, val_of, at, cells_of, rows_of, Sorted, Laid, Sound, Needed}
use Rattle.automaton.specs.Totals.{sum, total}
use Rattle.automaton.specs.Bounds.{some, degree, final}
use Rattle.automaton.proofs.Tests.{by_less, by_same}
use Rattle.automaton.proofs.Endings.{zeros}
use Rattle.automaton.proofs.Totals.{own_one}
use Rattle.automaton.proofs.Bounds.{sum_22, finals_few, edges_few}
use Rattle.states.specs.States.{lower, upper}
use Rattle.states.proofs.Cells.{at_here, at_there, lower_less, lower_stop, lower_short, halves, at_upper, upper_sorted, sorted_length, same-cells}
use Rattle.states.proofs.Parts.{part_length}
use Rattle.compaction.proofs.Counts.{some_one}

-- one place more has one cell more at most
lower_step : (lo c : ℕ) (l : List ℕ) → Sorted lo l → length (lower (suc c) l) ≤ length (lower c l) + some (at l c)
lower_step lo c [] s = omega arith
lower_step lo c (x ∷ l) s =
    by_less (key_of x) c
    (λ h.
    let a : length (lower (suc c) (x ∷ l)) ≡ suc (length (lower (suc c) l)) = ap length (lower_less (suc c) x l (omega arith)) in
    let b : length (lower c (x ∷ l)) ≡ suc (length (lower c l)) = ap length (lower_less c x l h) in
    let e : some (at (x ∷ l) c) ≡ some (at l c) = ap some (at_there x l c (λ q. omega arith)) in
    let i = lower_step (suc (key_of x)) c l s.3 in omega arith)
    (λ h. by_same (key_of x) c
    (λ q.
    let a : length (lower (suc c) (x ∷ l)) ≡ suc (length (lower (suc c) l)) = ap length (lower_less (suc c) x l (omega arith)) in
    let z = lower_short (suc (key_of x)) (suc c) l s.3 (omega arith) in
    let e : some (at (x ∷ l) c) ≡ 1 = ap some (at_here x l c q) ∙ some_one (val_of x) s.2 in omega arith)
    (λ q. let a : length (lower (suc c) (x ∷ l)) ≡ 0 = ap length (lower_stop (suc c) x l (omega arith)) in omega arith))

lower_count : (l : List ℕ) → Sorted 1 l → (k : ℕ) → length (lower (suc k) l) ≤ sum (λ c. some (at l c)) k
unfolding sum
lower_count l s zero = let z = lower_short 1 1 l s (omega arith) in omega arith
lower_count l s (suc k) = let i = lower_count l s k in let t = lower_step 1 (suc k) l s in omega arith

-- cells of phones are there only where something stands at their places
upper_none : (l t : List ℕ) → upper 64 l ≡ t → Sorted 64 t → ((k : ℕ) → k < 22 → at l (64 + k) ≡ 0) → length t ≡ 0
upper_none l [] e s a = refl
upper_none l (x ∷ t) e s a =
    let lo = s.0 in
    let hi = s.1 in
    let v = s.2 in
    let z : 64 + (key_of x - 64) ≡ key_of x = omega arith in
    let y = a (key_of x - 64) (omega arith) in
    let g : at l (64 + (key_of x - 64)) ≡ at l (key_of x) = ap (at l) z in
    let u : at l (key_of x) ≡ val_of x = at_upper 64 l (key_of x) lo ∙ (ap (λ (v : List ℕ). at v (key_of x)) e ∙ at_here x t (key_of x) refl) in
    absurd (omega arith)

module _ (ws : List ℕ) (n : ℕ) (s : Sound (rows_of ws) n) (l : Laid ws n) where
  high_short : (q : ℕ) → q ≤ n → length (upper 64 (cells_of ws q)) ≤ 22 * final (rows_of ws) q
  unfolding rows_of final
  high_short q h =
      let so = upper_sorted 64 1 (cells_of ws q) (l.sorted q h) in
      let len = sorted_length 64 (upper 64 (cells_of ws q)) so (omega arith) in
      by_same (rows_of ws q (64 + 0)) 0
      (λ e.
      let o = upper_none (cells_of ws q) (upper 64 (cells_of ws q)) refl so (λ k b. zeros 22 (λ k. rows_of ws q (64 + k)) (s.padded q h) e k b) in omega arith)
      (λ ne. let o = own_one (rows_of ws) q ne in omega arith)

  row_short : (q : ℕ) → q ≤ n → length (cells_of ws q) ≤ degree (rows_of ws) q + 22 * final (rows_of ws) q
  unfolding rows_of degree
  row_short q h =
      let a : length (lower 64 (cells_of ws q) ++ upper 64 (cells_of ws q)) ≡ length (cells_of ws q) = ap length (halves 64 (cells_of ws q)) in
      let b = length-append (lower 64 (cells_of ws q)) (upper 64 (cells_of ws q)) in
      let d = lower_count (cells_of ws q) (l.sorted q h) 63 in
      let e = high_short q h in
      omega arith

  row_end : (q : ℕ) → q ≤ n → get_or ws (suc q) 0 ≡ get_or ws q 0 + length (cells_of ws q)
  unfolding cells_of
  row_end q h = let e = l.ends q h in let p = part_length ws (get_or ws q 0) (get_or ws (suc q) 0 - get_or ws q 0) in omega arith

  blank_none : length (cells_of ws 0) ≡ 0
  unfolding rows_of
  blank_none = ap length (same-cells 1 (cells_of ws 0) [] (l.sorted 0 (omega arith)) tt (λ k h. s.blank k h))

  ends_within : (m : ℕ) → m ≤ n → get_or ws (suc m) 0 ≤ 4200 + sum (λ q. degree (rows_of ws) q + 22 * final (rows_of ws) q) m
  unfolding sum
  ends_within zero h = let e = row_end 0 h in let b = blank_none in let t = l.start in omega arith
  ends_within (suc m) h = let i = ends_within m (omega arith) in let e = row_end (suc m) h in let r = row_short (suc m) h in omega arith

  -- the cells end before the states and 22 for each name
  pub filled : Needed (rows_of ws) n → get_or ws (suc n) 0 ≤ 4200 + n + 22 * total (rows_of ws) n
  filled nd =
      let e = ends_within n (omega arith) in
      let d = sum_22 (degree (rows_of ws)) (final (rows_of ws)) n in
      by_less 0 n
      (λ h. let a = finals_few (rows_of ws) n s nd h in let b = edges_few (rows_of ws) n s nd h in omega arith)
      (λ h.
      let z : n ≡ 0 = omega arith in
      let r = row_end 0 (omega arith) in
      let b = blank_none in
      let t = l.start in
      let g : get_or ws (suc n) 0 ≡ get_or ws 1 0 = ap (λ (t : ℕ). get_or ws (suc t) 0) z in
      omega arith)
