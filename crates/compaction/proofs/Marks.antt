-- Marking: the marks after a row, after all rows from i on.
-- Assumes nothing.
use mathlib.Core.Path.{◌≡◌, refl, sym, ap, ◌∙◌, subst}
use mathlib.Core.Logic.{◌⊎◌, ⊎_elim}
use Prim.Native.Nat.{ℕ, ◌+◌, ◌-◌, ◌≤◌, ◌<◌}
use native.Mathlib.Omega.{arith}
use mathlib.Core.List.{List}
use lib.ListN.{length, get_or, set, length-set}
use lib.Seq.{get_or-set_same, get_or-set_other}
use Rattle.automaton.specs.Automaton.{key_of, val_of, at, part, rows_of, Sorted, Sound}
use Rattle.automaton.proofs.Tests.{by_same}
use Rattle.states.specs.States.{Written, Placing, Split, lower}
use Rattle.states.proofs.Cells.{at_cell, cell_for, lower_below, lower_sorted, at_lower}
use Rattle.states.proofs.Parts.{part_length, part_get}
use Rattle.compaction.specs.Compaction.{zero_of, SweepAsks, CellsAsk, CellsMarked, RowMarked, RowSpread, Spread}

-- ---- the cells of a row one by one

pub marked_begin : (ws : List ℕ) (a : ℕ) (m : List ℕ) → CellsMarked ws a a m m
marked_begin ws a m = record { hit = λ k l h. absurd (omega arith); other = λ x. ◌⊎◌.inl refl; long = refl }

pub marked_next : (ws : List ℕ) (a k : ℕ) (m m' : List ℕ) (x : ℕ) → CellsMarked ws a k m m' → a ≤ k → x ≡ val_of (get_or ws k 0) → x < length m → CellsMarked ws a (k + 1) m (set m' x 1)
marked_next ws a k m m' x q l e h =
    let g = q.long in
    let here : get_or (set m' x 1) x 0 ≡ 1 = get_or-set_same m' x 1 0 (omega arith) in
    record {
      hit = λ d u v. by_same (val_of (get_or ws d 0)) x
          (λ o. ap (λ (v : ℕ). get_or (set m' x 1) v 0) o ∙ here)
          (λ ne. get_or-set_other m' x (val_of (get_or ws d 0)) 1 0 ne ∙ q.hit d u (by_same d k (λ o. absurd (ne (ap (λ (t : ℕ). val_of (get_or ws t 0)) o ∙ sym e))) (λ o. omega arith)));
      other = λ y. by_same y x
          (λ o. ◌⊎◌.inr (ap (λ (v : ℕ). get_or (set m' x 1) v 0) o ∙ here, k, l, (let z : k < k + 1 = omega arith in z), sym (o ∙ e)))
          (λ ne. ⊎_elim
          (λ s. ◌⊎◌.inl (get_or-set_other m' x y 1 0 ne ∙ s))
          (λ s. let b = s.3 in ◌⊎◌.inr (get_or-set_other m' x y 1 0 ne ∙ s.0, s.1, s.2, (let z : s.1 < k + 1 = omega arith in z), s.4)) (q.other y));
      long = length-set m' x 1 ∙ q.long;
    }

pub marked_end : (ws : List ℕ) (a k e : ℕ) (m m' : List ℕ) → k ≡ e → CellsMarked ws a k m m' → CellsMarked ws a e m m'
marked_end ws a k e m m' o c = subst (λ (t : ℕ). CellsMarked ws a t m m') o c

module _ (ws : List ℕ) (n q a e i : ℕ) (p : Placing ws n q a e) (s : Split ws a e 64 i) where
  low_is : lower 64 (part ws a (e - a)) ≡ part ws a (i - a)
  low_is = s.low

  low_sorted : Sorted 1 (part ws a (i - a))
  low_sorted = subst (Sorted 1) low_is (lower_sorted 64 1 (part ws a (e - a)) p.sorted (omega arith))

  low_at : (c : ℕ) → c < 64 → at (part ws a (i - a)) c ≡ rows_of ws q c
  unfolding rows_of
  low_at c h =
      ap (λ (t : List ℕ). at t c) (sym low_is) ∙ (at_lower 64 1 (part ws a (e - a)) c p.sorted h ∙ ap (λ (t : List ℕ). at t c) (sym p.cells))

  get_at : (k : ℕ) → a ≤ k → k < i → get_or (part ws a (i - a)) (k - a) 0 ≡ get_or ws k 0
  get_at k h l = let z : a + (k - a) ≡ k = omega arith in part_get ws a (i - a) (k - a) (omega arith) ∙ ap (λ (t : ℕ). get_or ws t 0) z

  -- a cell below place 64 leads to a successor
  pub cell_leads : (k : ℕ) → a ≤ k → k < i → (key_of (get_or ws k 0) < 64) × (rows_of ws q (key_of (get_or ws k 0)) ≡ val_of (get_or ws k 0))
  cell_leads k h l =
      let g = get_at k h l in
      let len = part_length ws a (i - a) in
      let b : key_of (get_or (part ws a (i - a)) (k - a) 0) < 64 =
      subst (λ (t : List ℕ). key_of (get_or t (k - a) 0) < 64) low_is (lower_below 64 (part ws a (e - a)) (k - a) (subst (λ (t : List ℕ). k - a < length t) (sym low_is) (omega arith))) in
      let b' : key_of (get_or ws k 0) < 64 = subst (λ (t : ℕ). key_of t < 64) g b in
      let r = at_cell 1 (part ws a (i - a)) low_sorted (k - a) (omega arith) in
      (b', sym (low_at (key_of (get_or ws k 0)) b') ∙ subst (λ (t : ℕ). at (part ws a (i - a)) (key_of t) ≡ val_of t) g r)

  -- each successor has its cell
  pub leads_cell : (c : ℕ) → c < 64 → 0 < rows_of ws q c → (k : ℕ) × (a ≤ k) × (k < i) × (val_of (get_or ws k 0) ≡ rows_of ws q c)
  leads_cell c h z =
      let t = low_at c h in
      let r = cell_for (part ws a (i - a)) c (let y : 0 < at (part ws a (i - a)) c = omega arith in y) in
      let len = part_length ws a (i - a) in
      let b = r.1 in
      let le = s.least in
      (a + r.0, (let y : a ≤ a + r.0 = omega arith in y), (let y : a + r.0 < i = omega arith in y), ap val_of (sym (part_get ws a (i - a) r.0 (omega arith))) ∙ (r.3 ∙ t))

  pub row_asks : (m : List ℕ) → Sound (rows_of ws) n → q ≤ n → n + 1 ≤ length m → CellsAsk ws m a i
  row_asks m so h l =
      let w = p.within in
      let mo = s.most in
      record {
        order = s.least;
        within = omega arith;
        room = λ k u v. let x = cell_leads k u v in let y = x.1 in let z = so.earlier q (key_of (get_or ws k 0)) h x.0 in omega arith;
      }

  pub row_marked : (m m' : List ℕ) → CellsMarked ws a i m m' → RowMarked ws q m m'
  row_marked m m' k =
      record {
        hit = λ c l z. let r = leads_cell c l z in subst (λ (t : ℕ). get_or m' t 0 ≡ 1) r.3 (k.hit r.0 r.1 r.2);
        other = λ x. ⊎_elim (λ o. ◌⊎◌.inl o) (λ o. let t = cell_leads o.1 o.2 o.3 in ◌⊎◌.inr (o.0, (key_of (get_or ws o.1 0), t.0, t.1 ∙ o.4))) (k.other x);
        long = k.long;
      }

pub spread_skip : (ws : List ℕ) (i : ℕ) (m : List ℕ) → get_or m i 0 ≡ 0 → RowSpread ws i m m
spread_skip ws i m e = record { hit = λ h. absurd (omega arith); other = λ x. ◌⊎◌.inl refl; long = refl }

pub spread_mark : (ws : List ℕ) (i : ℕ) (m m' : List ℕ) → (get_or m i 0 ≡ 0 → ⊥) → RowMarked ws i m m' → RowSpread ws i m m'
spread_mark ws i m m' ne a =
    record {
      hit = λ h c l z. let e = a.hit c l z in omega arith;
      other = λ x. ⊎_elim (λ s. ◌⊎◌.inl s) (λ s. ◌⊎◌.inr (s.0, (let z : 0 < get_or m i 0 = omega arith in z), s.1)) (a.other x);
      long = a.long;
    }

pub spread_begin : (ws m₀ m : List ℕ) (top : ℕ) → Written zero_of 0 (top + 1) m₀ m → top + 1 ≤ length m₀ → Spread ws top (top + 1) (set (set m 0 1) top 1)
spread_begin ws m₀ m top w h =
    let g = w.long in
    let g₁ : length (set m 0 1) ≡ length m = length-set m 0 1 in
    let root : get_or (set (set m 0 1) top 1) top 0 ≡ 1 = get_or-set_same (set m 0 1) top 1 0 (omega arith) in
    record {
      zeroth = by_same 0 top
          (λ e. let q : get_or (set (set m 0 1) top 1) 0 0 ≡ get_or (set (set m 0 1) top 1) top 0 = ap (λ (v : ℕ). get_or (set (set m 0 1) top 1) v 0) e in omega arith)
          (λ ne. let q = get_or-set_other (set m 0 1) top 0 1 0 ne in let r = get_or-set_same m 0 1 0 (omega arith) in omega arith);
      root = omega arith;
      closed = λ j c a b. absurd (omega arith);
      why = λ x a b p.
          let q = get_or-set_other (set m 0 1) top x 1 0 (omega arith) in
          let r = get_or-set_other m 0 x 1 0 (omega arith) in
          let s : get_or m (0 + x) 0 ≡ 0 = w.done x (omega arith) in
          let z : 0 + x ≡ x = omega arith in
          let t : get_or m (0 + x) 0 ≡ get_or m x 0 = ap (λ (v : ℕ). get_or m v 0) z in
          absurd (omega arith);
    }

module _ (ws m m' : List ℕ) (top i : ℕ) (s : Sound (rows_of ws) top) (p : 0 < i) (b : i ≤ top + 1) (a : Spread ws top i m) (r : RowSpread ws (i - 1) m m') where
  more : (x : ℕ) → 0 < get_or m x 0 → 0 < get_or m' x 0
  more x h = ⊎_elim (λ e. omega arith) (λ e. let q = e.0 in omega arith) (r.other x)

  closed_next : (j c : ℕ) → i - 1 ≤ j → j ≤ top → 0 < get_or m' j 0 → c < 64 → 0 < get_or m' (rows_of ws j c) 0
  closed_next j c lo hi h l =
      by_same (rows_of ws j c) 0
      (λ z. subst (λ (v : ℕ). 0 < get_or m' v 0) (sym z) (more 0 a.zeroth))
      (λ z.
      by_same j (i - 1)
      (λ e.
      let g : 0 < get_or m (i - 1) 0 =
      ⊎_elim
      (λ q. let t : get_or m j 0 ≡ get_or m (i - 1) 0 = ap (λ (v : ℕ). get_or m v 0) e in omega arith)
      (λ q. q.1) (r.other j) in
      let y : rows_of ws j c ≡ rows_of ws (i - 1) c = ap (λ (v : ℕ). rows_of ws v c) e in
      subst (λ (v : ℕ). 0 < get_or m' (rows_of ws v c) 0) (sym e) (r.hit g c l (omega arith)))
      (λ ne.
      ⊎_elim
      (λ q. more (rows_of ws j c) (a.closed j c (omega arith) hi (let t : 0 < get_or m j 0 = omega arith in t) l))
      (λ q. let u = q.2 in let d = u.1 in let e = u.2 in let x = s.earlier (i - 1) u.0 (omega arith) d in absurd (omega arith)) (r.other j)))

  pub spread_next : Spread ws top (i - 1) m'
  spread_next =
      record {
        zeroth = more 0 a.zeroth;
        root = more top a.root;
        closed = closed_next;
        why = λ x z l h.
            ⊎_elim
            (λ q. let y = a.why x z l (let t : 0 < get_or m x 0 = omega arith in t) in (y.0, y.1, more y.0 y.2, y.3))
            (λ q. (i - 1, (let t : i - 1 ≤ top = omega arith in t), more (i - 1) q.1, q.2)) (r.other x);
      }

pub asks_kept : (ws m m' : List ℕ) (top : ℕ) → SweepAsks ws m top → length m' ≡ length m → SweepAsks ws m' top
asks_kept ws m m' top q e =
    let k = q.marked in
    record { sound = q.sound; laid = q.laid; states = q.states; marked = omega arith; small = q.small }

pub spread_end : (ws m : List ℕ) (top i : ℕ) → i ≡ 0 → Spread ws top i m → Spread ws top 0 m
spread_end ws m top i e a = subst (λ (x : ℕ). Spread ws top x m) e a
