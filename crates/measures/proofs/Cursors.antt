-- The cells of a row one after another: the places passed over are empty.
-- Assumes nothing.
use mathlib.Core.Path.{◌≡◌, refl, sym, ap, ◌∙◌, subst}
use Prim.Native.Nat.{ℕ, suc, ◌+◌, ◌-◌, ◌≤◌, ◌<◌}
use native.Mathlib.Omega.{arith}
use mathlib.Core.List.{List, ◌∷◌}
use lib.ListN.{get_or}
use Rattle.automaton.specs.Automaton.{key_of, val_of, at, part, rows_of, Sorted, Sound}
use Rattle.automaton.proofs.Endings.{zeros}
use Rattle.states.specs.States.{Placing, Split}
use Rattle.states.proofs.Cells.{at_here, at_there, at_upper, at_lower, lower_sorted, upper_sorted, sorted_none}
use Rattle.states.proofs.Parts.{part_cons, part_none}
use Rattle.compaction.proofs.Marks.{cell_leads}

-- the cells i to e are those of the letters above lo
pub record Cursor (ws : List ℕ) (q a e lo i : ℕ) : Type 0 where
  pub least : a ≤ i
  pub most : i ≤ e
  pub small : lo ≤ 63
  pub sorted : Sorted (suc lo) (part ws i (e - i))
  pub letters : (k : ℕ) → a ≤ k → k < e → key_of (get_or ws k 0) < 64
  pub same : (c : ℕ) → lo < c → c < 64 → rows_of ws q c ≡ at (part ws i (e - i)) c

pub cursor_begin : (ws : List ℕ) (n q a to e : ℕ) → Placing ws n q a to → Split ws a to 64 e → Cursor ws q a e 0 a
unfolding rows_of
cursor_begin ws n q a to e p s =
    record {
      least = omega arith;
      most = s.least;
      small = omega arith;
      sorted = subst (Sorted 1) s.low (lower_sorted 64 1 (part ws a (to - a)) p.sorted (omega arith));
      letters = λ k h l. (cell_leads ws n q a to e p s k h l).0;
      same = λ c z h. ap (λ (t : List ℕ). at t c) p.cells ∙ (sym (at_lower 64 1 (part ws a (to - a)) c p.sorted h) ∙ ap (λ (t : List ℕ). at t c) s.low);
    }

-- what cell i says
pub record Here (ws : List ℕ) (q a e lo i : ℕ) : Type 0 where
  pub low : lo < key_of (get_or ws i 0)
  pub high : key_of (get_or ws i 0) < 64
  pub turn : rows_of ws q (key_of (get_or ws i 0)) ≡ val_of (get_or ws i 0)
  pub none : (c : ℕ) → lo < c → c < key_of (get_or ws i 0) → rows_of ws q c ≡ 0
  pub some : 0 < val_of (get_or ws i 0)
  pub next : Cursor ws q a e (key_of (get_or ws i 0)) (i + 1)

pub cursor_at : (ws : List ℕ) (q a e lo i : ℕ) → Cursor ws q a e lo i → i < e → Here ws q a e lo i
cursor_at ws q a e lo i c h =
    let g = part_cons ws i e h in
    let x = get_or ws i 0 in
    let l = part ws (i + 1) (e - (i + 1)) in
    let s : Sorted (suc lo) (get_or ws i 0 ∷ part ws (i + 1) (e - (i + 1))) = subst (Sorted (suc lo)) g c.sorted in
    let s0 = s.0 in
    let hi = c.letters i c.least h in
    let le = c.least in
    record {
      low = omega arith;
      high = hi;
      turn = c.same (key_of x) (omega arith) hi ∙ (ap (λ (t : List ℕ). at t (key_of x)) g ∙ at_here x l (key_of x) refl);
      none = λ d u v. c.same d u (omega arith) ∙ (ap (λ (t : List ℕ). at t d) g
          ∙ sorted_none (key_of x) (x ∷ l) d ((let w : key_of x ≤ key_of x = omega arith in w), s.1, s.2, s.3) v);
      some = s.2;
      next = record {
        least = omega arith;
        most = omega arith;
        small = omega arith;
        sorted = s.3;
        letters = c.letters;
        same = λ d u v. c.same d (omega arith) v ∙ (ap (λ (t : List ℕ). at t d) g ∙ at_there x l d (λ o. omega arith));
      };
    }

pub cursor_end : (ws : List ℕ) (q a e lo i : ℕ) → Cursor ws q a e lo i → e ≤ i → (c : ℕ) → lo < c → c < 64 → rows_of ws q c ≡ 0
cursor_end ws q a e lo i c h d u v = c.same d u v ∙ ap (λ (t : List ℕ). at t d) (part_none ws i (e - i) (omega arith))

-- ---- a row ends a name just where cells are left after those of letters

pub phones_none : (ws : List ℕ) (n q a to e : ℕ) → Placing ws n q a to → Split ws a to 64 e → to ≤ e → rows_of ws q (64 + 0) ≡ 0
unfolding rows_of
phones_none ws n q a to e p s h =
    let z : 64 + 0 ≡ 64 = omega arith in
    ap (λ (t : List ℕ). at t (64 + 0)) p.cells
    ∙ (at_upper 64 (part ws a (to - a)) (64 + 0) (omega arith) ∙ ap (λ (t : List ℕ). at t (64 + 0)) (s.high ∙ part_none ws e (to - e) (omega arith)))

pub phones_left : (ws : List ℕ) (n q a to e : ℕ) → Sound (rows_of ws) n → q ≤ n → Placing ws n q a to → Split ws a to 64 e → e < to → rows_of ws q (64 + 0) ≡ 0 → ⊥
unfolding rows_of
phones_left ws n q a to e so qn p s h z =
    let g = part_cons ws e to h in
    let x = get_or ws e 0 in
    let l = part ws (e + 1) (to - (e + 1)) in
    let t : Sorted 64 (get_or ws e 0 ∷ part ws (e + 1) (to - (e + 1))) = subst (Sorted 64) (s.high ∙ g) (upper_sorted 64 1 (part ws a (to - a)) p.sorted) in
    let lo = t.0 in
    let hi = t.1 in
    let v = t.2 in
    let y : 64 + (key_of x - 64) ≡ key_of x = omega arith in
    let o = zeros 22 (λ k. rows_of ws q (64 + k)) (so.padded q qn) z (key_of x - 64) (omega arith) in
    let w : rows_of ws q (64 + (key_of x - 64)) ≡ val_of x = ap (rows_of ws q) y ∙ (ap (λ (t : List ℕ). at t (key_of x)) p.cells
    ∙ (at_upper 64 (part ws a (to - a)) (key_of x) lo ∙ (ap (λ (t : List ℕ). at t (key_of x)) (s.high ∙ g) ∙ at_here x l (key_of x) refl))) in
    omega arith
