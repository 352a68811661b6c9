-- The groups of phones of a state stand in its last cells, one place after another.
-- Assumes nothing.
use mathlib.Core.Path.{◌≡◌, refl, sym, ap, ◌∙◌, subst}
use Prim.Native.Nat.{ℕ, zero, suc, ◌+◌, ◌-◌, ◌≤◌, ◌<◌}
use native.Mathlib.Omega.{arith}
use mathlib.Core.List.{List, [], ◌∷◌}
use lib.ListN.{get_or, get_or-eq_default}
use Rattle.automaton.specs.Automaton.{key_of, val_of, at, part, rows_of, Sorted, Padded}
use Rattle.automaton.proofs.Tests.{by_same}
use Rattle.automaton.proofs.Endings.{zeros}
use Rattle.states.specs.States.{Split, Placing}
use Rattle.states.proofs.Cells.{at_here, at_there, at_upper, upper_sorted, sorted_none, sorted_length, val_self, cell_some}
use Rattle.states.proofs.Parts.{part_get, part_length}
use Rattle.packing.specs.Packing.{StateAsks}
use Rattle.phone_strings.specs.Groups.{PhoneCells}

in_order_cons : (lo x : ℕ) (l : List ℕ) (k : ℕ) → key_of x ≡ lo → ((j : ℕ) → at l (suc lo + j) ≡ val_of (get_or l j 0)) → at (x ∷ l) (lo + k) ≡ val_of (get_or (x ∷ l) k 0)
in_order_cons lo x l zero e a = at_here x l (lo + 0) (let z : key_of x ≡ lo + 0 = omega arith in z)
in_order_cons lo x l (suc k) e a =
    let z : lo + suc k ≡ suc lo + k = omega arith in
    at_there x l (lo + suc k) (λ g. omega arith) ∙ (ap (at l) z ∙ a k)

-- cells of rising places, where a place with nothing is followed by such places alone, say of the places from lo on what they hold in turn
in_order : (lo : ℕ) (l : List ℕ) → Sorted lo l → Padded (86 - lo) (λ k. at l (lo + k)) → (k : ℕ) → at l (lo + k) ≡ val_of (get_or l k 0)
in_order lo [] s p k = sym (val_self 0 (omega arith))
in_order lo (x ∷ l) s p k =
    let a = s.0 in
    let b = s.1 in
    let v = s.2 in
    let here : key_of x ≡ lo = by_same (key_of x) lo (λ e. e)
    (λ ne.
    let y : lo + (key_of x - lo) ≡ key_of x = omega arith in
    let t = ap (at (x ∷ l)) y ∙ at_here x l (key_of x) refl in
    let u : at (x ∷ l) (lo + 0) ≡ 0 = sorted_none (key_of x) (x ∷ l) (lo + 0) ((let w : key_of x ≤ key_of x = omega arith in w), s.1, s.2, s.3) (omega arith) in
    let z = zeros (86 - lo) (λ k. at (x ∷ l) (lo + k)) p u (key_of x - lo) (omega arith) in
    absurd (omega arith)) in
    in_order_cons lo x l k here (λ j.
    in_order (suc lo) l (subst (λ (t : ℕ). Sorted (suc t) l) here s.3)
    (λ i h z.
    let u : lo + suc i ≡ suc lo + i = omega arith in
    let w : lo + suc (suc i) ≡ suc lo + suc i = omega arith in
    sym (at_there x l (suc lo + suc i) (λ e. omega arith)) ∙ (ap (at (x ∷ l)) (sym w)
    ∙ p (suc i) (omega arith) (ap (at (x ∷ l)) u ∙ (at_there x l (suc lo + i) (λ e. omega arith) ∙ z)))) j)

pub phone_cells : (ws : List ℕ) (n q a e i : ℕ) → StateAsks ws n q → Placing ws n q a e → Split ws a e 64 i → PhoneCells ws q i e
unfolding rows_of
phone_cells ws n q a e i s p f =
    let l = part ws i (e - i) in
    let long = part_length ws i (e - i) in
    let sorted : Sorted 64 l = subst (Sorted 64) f.high (upper_sorted 64 1 (part ws a (e - a)) p.sorted) in
    let same : (c : ℕ) → 64 ≤ c → at l c ≡ rows_of ws q c = λ c h.
    sym (ap (λ (t : List ℕ). at t c) p.cells ∙ (at_upper 64 (part ws a (e - a)) c h ∙ ap (λ (t : List ℕ). at t c) f.high)) in
    let turn : (k : ℕ) → at l (64 + k) ≡ val_of (get_or l k 0) = in_order 64 l sorted (λ k h z.
    same (64 + suc k) (omega arith) ∙ s.sound.padded q s.inside k h (sym (same (64 + k) (omega arith)) ∙ z)) in
    let holds : (k : ℕ) → rows_of ws q (64 + k) ≡ val_of (get_or l k 0) = λ k. sym (same (64 + k) (omega arith)) ∙ turn k in
    let few = sorted_length 64 l sorted (omega arith) in
    record {
      order = f.most;
      inside = p.within;
      few = omega arith;
      some = λ k h. subst (λ (x : ℕ). 0 < val_of x) (part_get ws i (e - i) k h) (cell_some 64 l sorted k (omega arith)).0;
      same = λ k h. holds k ∙ ap val_of (part_get ws i (e - i) k h);
      none = λ k h. holds k ∙ (ap val_of (get_or-eq_default l 0 (omega arith)) ∙ val_self 0 (omega arith));
    }
