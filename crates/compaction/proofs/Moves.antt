-- Moving: the marked rows below i stand at their new numbers.
-- Assumes nothing.
use mathlib.Core.Path.{◌≡◌, refl, sym, ap, ap₂, ◌∙◌, subst}
use Prim.Native.Nat.{ℕ, zero, suc, ◌+◌, ◌-◌, ◌≤◌, ◌<◌}
use native.Mathlib.Omega.{arith}
use mathlib.Core.Bool.{Bool, cond}
use mathlib.Core.List.{List, [], ◌∷◌, map}
use lib.Dec.{eqb}
use lib.ListN.{length, get_or, set, length-set}
use lib.Seq.{get_or-set_same, get_or-set_other}
use borrow.Author.Tests.{eq-eqb, ne_eqb, lt-ltb, le-ltb}
use Rattle.automaton.specs.Automaton.{key_of, val_of, cell_of, at, part, cells_of, rows_of, Sorted, Laid, look, Sound}
use Rattle.automaton.proofs.Tests.{by_less, by_same}
use Rattle.automaton.proofs.Sweep.{Renumbered, look_renumbered, sound_renumbered, needed_renumbered}
use Rattle.states.specs.States.{Written}
use Rattle.states.proofs.Cells.{key_cell, val_cell, at_here, at_there, at_cell, cell_some}
use Rattle.states.proofs.Parts.{part_length, part_ext, part_get}
use Rattle.states.proofs.Rows.{begins_rise, placing}
use Rattle.compaction.specs.Compaction.{SweepAsks, Spread, marked, new_cell, moved_of, KeepAsks, Moved, RowKept, Swept}
use Rattle.compaction.proofs.Counts.{marked_none, marked_skip, marked_keep}

-- ---- renumbered cells

pub new_low : (m : List ℕ) (x : ℕ) → key_of x < 64 → new_cell m x ≡ cell_of (key_of x) (get_or m (val_of x) 0)
unfolding new_cell
new_low m x h = ap (λ (t : Bool). cond t (cell_of (key_of x) (get_or m (val_of x) 0)) x) (lt-ltb (key_of x) 64 h)

pub new_high : (m : List ℕ) (x : ℕ) → 64 ≤ key_of x → new_cell m x ≡ x
unfolding new_cell
new_high m x h = ap (λ (t : Bool). cond t (cell_of (key_of x) (get_or m (val_of x) 0)) x) (le-ltb (key_of x) 64 h)

-- a cell's successor has a new number, above 0
abbrev Leads : List ℕ → ℕ → Type 0
Leads m x = key_of x < 64 → (0 < get_or m (val_of x) 0) × (get_or m (val_of x) 0 < 16777216)

new_key : (m : List ℕ) (x : ℕ) → Leads m x → key_of (new_cell m x) ≡ key_of x
new_key m x a =
    by_less (key_of x) 64
    (λ h. ap key_of (new_low m x h) ∙ key_cell (key_of x) (get_or m (val_of x) 0) (a h).1)
    (λ h. ap key_of (new_high m x h))

new_val : (m : List ℕ) (x : ℕ) → Leads m x → key_of x < 64 → val_of (new_cell m x) ≡ get_or m (val_of x) 0
new_val m x a h = ap val_of (new_low m x h) ∙ val_cell (key_of x) (get_or m (val_of x) 0) (a h).1

abbrev AllLead : List ℕ → List ℕ → Type 0
AllLead m l = (j : ℕ) → j < length l → Leads m (get_or l j 0)

tail_leads : (m : List ℕ) (x : ℕ) (l : List ℕ) → AllLead m (x ∷ l) → AllLead m l
tail_leads m x l a j h = a (suc j) (omega arith)

new_sorted : (m : List ℕ) (lo : ℕ) (l : List ℕ) → AllLead m l → Sorted lo l → Sorted lo (map (new_cell m) l)
new_sorted m lo [] a s = tt
new_sorted m lo (x ∷ l) a s =
    let o = a 0 (omega arith) in
    let k = new_key m x o in
    let k0 = s.0 in
    let k1 = s.1 in
    let k2 = s.2 in
    let v : 0 < val_of (new_cell m x) = by_less (key_of x) 64
    (λ h. let e = new_val m x o h in let z = (o h).0 in omega arith)
    (λ h. let e : val_of (new_cell m x) ≡ val_of x = ap val_of (new_high m x h) in omega arith) in (
      (let z : lo ≤ key_of (new_cell m x) = omega arith in z),
      (let z : key_of (new_cell m x) < 86 = omega arith in z),
      v,
      subst (λ (t : ℕ). Sorted (suc t) (map (new_cell m) l)) (sym k) (new_sorted m (suc (key_of x)) l (tail_leads m x l a) s.3),
    )

new_at_low : (m l : List ℕ) (c : ℕ) → AllLead m l → get_or m 0 0 ≡ 0 → c < 64 → at (map (new_cell m) l) c ≡ get_or m (at l c) 0
new_at_low m [] c a z h = sym z
new_at_low m (x ∷ l) c a z h =
    let o = a 0 (omega arith) in
    let k = new_key m x o in
    by_same (key_of x) c
    (λ e. at_here (new_cell m x) (map (new_cell m) l) c (k ∙ e) ∙ (new_val m x o (let y : key_of x < 64 = omega arith in y) ∙ ap (λ (t : ℕ). get_or m t 0) (sym (at_here x l c e))))
    (λ ne. at_there (new_cell m x) (map (new_cell m) l) c (λ e. ne (sym k ∙ e)) ∙ (new_at_low m l c (tail_leads m x l a) z h ∙ ap (λ (t : ℕ). get_or m t 0) (sym (at_there x l c ne))))

new_at_high : (m l : List ℕ) (c : ℕ) → AllLead m l → 64 ≤ c → at (map (new_cell m) l) c ≡ at l c
new_at_high m [] c a h = refl
new_at_high m (x ∷ l) c a h =
    let o = a 0 (omega arith) in
    let k = new_key m x o in
    by_same (key_of x) c
    (λ e. at_here (new_cell m x) (map (new_cell m) l) c (k ∙ e) ∙ (ap val_of (new_high m x (let y : 64 ≤ key_of x = omega arith in y)) ∙ sym (at_here x l c e)))
    (λ ne. at_there (new_cell m x) (map (new_cell m) l) c (λ e. ne (sym k ∙ e)) ∙ (new_at_high m l c (tail_leads m x l a) h ∙ sym (at_there x l c ne)))

part_map : (m ws : List ℕ) (a n : ℕ) (w : List ℕ) (b : ℕ) → ((j : ℕ) → j < n → get_or w (b + j) 0 ≡ new_cell m (get_or ws (a + j) 0)) → part w b n ≡ map (new_cell m) (part ws a n)
part_map m ws a zero w b e = refl
part_map m ws a (suc n) w b e =
    let x : a + 0 ≡ a = omega arith in
    let y : b ≡ b + 0 = omega arith in
    ap₂ (λ (u : ℕ) (v : List ℕ). u ∷ v) (ap (λ (u : ℕ). get_or w u 0) y ∙ (e 0 (omega arith) ∙ ap (λ (u : ℕ). new_cell m (get_or ws u 0)) x))
    (part_map m ws (suc a) n w (suc b) (λ j l.
    let g : suc b + j ≡ b + suc j = omega arith in
    let h : a + suc j ≡ suc a + j = omega arith in
    ap (λ (u : ℕ). get_or w u 0) g ∙ (e (suc j) (omega arith) ∙ ap (λ (u : ℕ). new_cell m (get_or ws u 0)) h)))

-- ---- the marked rows below i stand at their new numbers, the rows from i on as before

pub record Compacting (ws m₀ : List ℕ) (i k : ℕ) (w m : List ℕ) : Type 0 where
  pub old : ℕ → ℕ
  pub low : k ≤ i
  pub count : k ≡ marked (λ x. get_or m₀ x 0) i
  pub started : 0 < i → (0 < k) × (get_or m 0 0 ≡ 0)
  pub olds : (a : ℕ) → a < k → (old a < i) × (0 < get_or m₀ (old a) 0) × (get_or m (old a) 0 ≡ a)
  pub news : (x : ℕ) → x < i → 0 < get_or m₀ x 0 → get_or m x 0 < k
  pub rising : (x y : ℕ) → x < y → y < i → 0 < get_or m₀ x 0 → 0 < get_or m₀ y 0 → get_or m x 0 < get_or m y 0
  pub turns : (x c : ℕ) → x < i → 0 < get_or m₀ x 0 → c < 64 → rows_of w (get_or m x 0) c ≡ get_or m (rows_of ws x c) 0
  pub voices : (x j : ℕ) → x < i → 0 < get_or m₀ x 0 → j < 22 → rows_of w (get_or m x 0) (64 + j) ≡ rows_of ws x (64 + j)
  pub marks : (x : ℕ) → i ≤ x → get_or m x 0 ≡ get_or m₀ x 0
  pub start : get_or w 0 0 ≡ 4200
  pub ends : (q : ℕ) → q < k → get_or w q 0 ≤ get_or w (suc q) 0
  pub sorted : (q : ℕ) → q < k → Sorted 1 (cells_of w q)
  pub base : get_or w k 0 ≤ get_or ws i 0
  pub begins : (x : ℕ) → i ≤ x → x < 4200 → get_or w x 0 ≡ get_or ws x 0
  pub ahead : (x : ℕ) → get_or ws i 0 ≤ x → get_or w x 0 ≡ get_or ws x 0
  pub longm : length m ≡ length m₀
  pub longw : length w ≡ length ws

pub compact_begin : (ws m₀ : List ℕ) (top : ℕ) → Laid ws top → Compacting ws m₀ 0 0 ws m₀
compact_begin ws m₀ top l =
    record {
      old = λ a. 0;
      low = omega arith;
      count = marked_none (λ x. get_or m₀ x 0);
      started = λ h. absurd (omega arith);
      olds = λ a h. absurd (omega arith);
      news = λ x h. absurd (omega arith);
      rising = λ x y h l. absurd (omega arith);
      turns = λ x c h. absurd (omega arith);
      voices = λ x c h. absurd (omega arith);
      marks = λ x h. refl;
      start = l.start;
      ends = λ q h. absurd (omega arith);
      sorted = λ q h. absurd (omega arith);
      base = omega arith;
      begins = λ x h g. refl;
      ahead = λ x h. refl;
      longm = refl;
      longw = refl;
    }

compact_skip : (ws m₀ : List ℕ) (top i k : ℕ) (w m : List ℕ) → Laid ws top → i ≤ top → Compacting ws m₀ i k w m → get_or m₀ i 0 ≡ 0 → 0 < i → Compacting ws m₀ (i + 1) k w m
compact_skip ws m₀ top i k w m la it a e p =
    let lo = a.low in
    let below : (x : ℕ) → x < i + 1 → 0 < get_or m₀ x 0 → x < i =
    λ x l h. by_same x i (λ q. let t : get_or m₀ x 0 ≡ get_or m₀ i 0 = ap (λ (v : ℕ). get_or m₀ v 0) q in absurd (omega arith)) (λ q. omega arith) in
    let up = begins_rise ws top i (i + 1) la (omega arith) (omega arith) in
    let bs = a.base in
    record {
      old = a.old;
      low = omega arith;
      count = marked_skip (λ x. get_or m₀ x 0) i k e a.count;
      started = λ h. a.started p;
      olds = λ b h. let o = a.olds b h in let l = o.0 in ((let t : a.old b < i + 1 = omega arith in t), o.1, o.2);
      news = λ x l h. a.news x (below x l h) h;
      rising = λ x y l n h g. a.rising x y l (below y n g) h g;
      turns = λ x c l h. a.turns x c (below x l h) h;
      voices = λ x j l h. a.voices x j (below x l h) h;
      marks = λ x l. a.marks x (omega arith);
      start = a.start;
      ends = a.ends;
      sorted = a.sorted;
      base = omega arith;
      begins = λ x l. a.begins x (omega arith);
      ahead = λ x l. a.ahead x (omega arith);
      longm = a.longm;
      longw = a.longw;
    }

rows_are : (ws : List ℕ) (q c : ℕ) → rows_of ws q c ≡ at (cells_of ws q) c
unfolding rows_of
rows_are ws q c = refl

climb : (w : List ℕ) (k : ℕ) → ((q : ℕ) → q < k → get_or w q 0 ≤ get_or w (suc q) 0) → (p d : ℕ) → p + d ≤ k → get_or w p 0 ≤ get_or w (p + d) 0
climb w k e p zero h = let z : p ≡ p + 0 = omega arith in let y : get_or w p 0 ≡ get_or w (p + 0) 0 = ap (λ (t : ℕ). get_or w t 0) z in omega arith
climb w k e p (suc d) h =
    let i = climb w k e p d (omega arith) in
    let s = e (p + d) (omega arith) in
    let z : suc (p + d) ≡ p + suc d = omega arith in
    let y : get_or w (suc (p + d)) 0 ≡ get_or w (p + suc d) 0 = ap (λ (t : ℕ). get_or w t 0) z in
    omega arith

rises : (w : List ℕ) (k : ℕ) → ((q : ℕ) → q < k → get_or w q 0 ≤ get_or w (suc q) 0) → (p q : ℕ) → p ≤ q → q ≤ k → get_or w p 0 ≤ get_or w q 0
rises w k e p q h l =
    let z : p + (q - p) ≡ q = omega arith in
    let y : get_or w (p + (q - p)) 0 ≡ get_or w q 0 = ap (λ (t : ℕ). get_or w t 0) z in
    let i = climb w k e p (q - p) (omega arith) in
    omega arith

module _ (ws m₀ : List ℕ) (top i k : ℕ) (w m w' : List ℕ) (q₀ : SweepAsks ws m₀ top) (sp : Spread ws top 0 m₀) (it : i ≤ top)
    (a : Compacting ws m₀ i k w m) (p : 0 < get_or m₀ i 0) (v : Moved w (set m i k) i k w') where
  M : List ℕ
  M = set m i k

  s : Sound (rows_of ws) top
  s = q₀.sound

  at_i : get_or M i 0 ≡ k
  unfolding M
  at_i = let g = a.longm in let f = q₀.marked in get_or-set_same m i k 0 (omega arith)

  at_other : (x : ℕ) → (x ≡ i → ⊥) → get_or M x 0 ≡ get_or m x 0
  unfolding M
  at_other x ne = get_or-set_other m i x k 0 ne

  old' : ℕ → ℕ
  old' b = cond (eqb b k) i (a.old b)

  old_new : (b : ℕ) → b ≡ k → old' b ≡ i
  unfolding old'
  old_new b e = ap (λ (t : Bool). cond t i (a.old b)) (eq-eqb b k e)

  old_kept : (b : ℕ) → (b ≡ k → ⊥) → old' b ≡ a.old b
  unfolding old'
  old_kept b ne = ap (λ (t : Bool). cond t i (a.old b)) (ne_eqb b k ne)

  olds' : (b : ℕ) → b < k + 1 → (old' b < i + 1) × (0 < get_or m₀ (old' b) 0) × (get_or M (old' b) 0 ≡ b)
  olds' b l =
      by_same b k
      (λ e. subst (λ (x : ℕ). (x < i + 1) × (0 < get_or m₀ x 0) × (get_or M x 0 ≡ b)) (sym (old_new b e)) (omega arith, p, at_i ∙ sym e))
      (λ ne.
      let o = a.olds b (omega arith) in
      let u = o.0 in
      subst (λ (x : ℕ). (x < i + 1) × (0 < get_or m₀ x 0) × (get_or M x 0 ≡ b)) (sym (old_kept b ne))
      (omega arith, o.1, at_other (a.old b) (omega arith) ∙ o.2))

  news' : (x : ℕ) → x < i + 1 → 0 < get_or m₀ x 0 → get_or M x 0 < k + 1
  news' x l h =
      by_same x i
      (λ e. let t : get_or M x 0 ≡ k = ap (λ (t : ℕ). get_or M t 0) e ∙ at_i in omega arith)
      (λ ne. let t = at_other x ne in let n = a.news x (omega arith) h in omega arith)

  rising' : (x y : ℕ) → x < y → y < i + 1 → 0 < get_or m₀ x 0 → 0 < get_or m₀ y 0 → get_or M x 0 < get_or M y 0
  rising' x y l n h g =
      let tx = at_other x (let z : x ≡ i → ⊥ = λ e. omega arith in z) in
      by_same y i
      (λ e. let t : get_or M y 0 ≡ k = ap (λ (t : ℕ). get_or M t 0) e ∙ at_i in let o = a.news x (omega arith) h in omega arith)
      (λ ne. let t = at_other y ne in let o = a.rising x y l (omega arith) h g in omega arith)

  started' : (0 < k + 1) × (get_or M 0 0 ≡ 0)
  started' =
      by_same 0 i
      (λ e. let lo = a.low in let z : k ≡ 0 = omega arith in (omega arith, ap (λ (t : ℕ). get_or M t 0) e ∙ (at_i ∙ z)))
      (λ ne. (omega arith, at_other 0 ne ∙ (a.started (omega arith)).1))

  -- the words: row i lies from A to E and moves to B
  record Words : Type 0 where
    A : get_or w i 0 ≡ get_or ws i 0
    E : get_or w (suc i) 0 ≡ get_or ws (suc i) 0
    order : get_or ws i 0 ≤ get_or ws (suc i) 0
    base : 4200 ≤ get_or w k 0
    small : i < 4180

  words : Words
  words =
      let st = q₀.states in
      let lo = a.low in
      let r = rises w k a.ends 0 k (omega arith) (omega arith) in
      let z = a.start in
      record {
        A = a.begins i (omega arith) (omega arith);
        E = a.begins (suc i) (omega arith) (omega arith);
        order = q₀.laid.ends i it;
        base = omega arith;
        small = omega arith;
      }

  last_other : (x : ℕ) → (x ≡ suc k → ⊥) → get_or w' x 0 ≡ get_or v.between x 0
  last_other x ne = ap (λ (t : List ℕ). get_or t x 0) v.last ∙ get_or-set_other v.between (suc k) x (get_or w k 0 + (get_or w (suc i) 0 - get_or w i 0)) 0 ne

  last_same : get_or w' (suc k) 0 ≡ get_or w k 0 + (get_or w (suc i) 0 - get_or w i 0)
  last_same =
      let g = v.text.long in
      let h = a.longw in
      let u = words in
      let b = u.base in
      let sm = u.small in
      let lo = a.low in
      let bs = a.base in
      let i1 = begins_rise ws top i (suc top) q₀.laid (omega arith) (omega arith) in
      let i2 = q₀.laid.inside in
      ap (λ (t : List ℕ). get_or t (suc k) 0) v.last ∙ get_or-set_same v.between (suc k) (get_or w k 0 + (get_or w (suc i) 0 - get_or w i 0)) 0 (omega arith)

  begin_kept : (q : ℕ) → q ≤ k → get_or w' q 0 ≡ get_or w q 0
  begin_kept q h =
      let u = words in
      let b = u.base in
      let sm = u.small in
      let lo = a.low in
      last_other q (λ e. omega arith) ∙ v.text.before q (omega arith)

  cells_kept : (q : ℕ) → q < k → cells_of w' q ≡ cells_of w q
  unfolding cells_of
  cells_kept q h =
      let u = words in
      let b = u.base in
      let sm = u.small in
      let lo = a.low in
      let st = a.start in
      let r1 = rises w k a.ends 0 q (omega arith) (omega arith) in
      let r2 = rises w k a.ends (suc q) k (omega arith) (omega arith) in
      ap₂ (λ (x y : ℕ). part w' x (y - x)) (begin_kept q (omega arith)) (begin_kept (suc q) (omega arith))
      ∙ part_ext w' w (get_or w q 0) (get_or w q 0) (get_or w (suc q) 0 - get_or w q 0)
      (λ j l. last_other (get_or w q 0 + j) (λ e. omega arith) ∙ v.text.before (get_or w q 0 + j) (omega arith))

  cells_new : cells_of w' k ≡ map (new_cell M) (cells_of ws i)
  unfolding cells_of M
  cells_new =
      let u = words in
      let b = u.base in
      let sm = u.small in
      let lo = a.low in
      let ea = u.A in
      let ee = u.E in
      let k0 = begin_kept k (omega arith) in
      let k1 = last_same in
      let z : get_or w' (suc k) 0 - get_or w' k 0 ≡ get_or ws (suc i) 0 - get_or ws i 0 = omega arith in
      ap₂ (part w') k0 z
      ∙ part_map (set m i k) ws (get_or ws i 0) (get_or ws (suc i) 0 - get_or ws i 0) w' (get_or w k 0)
      (λ j l. last_other (get_or w k 0 + j) (λ e. omega arith)
      ∙ (v.text.done j (omega arith)
      ∙ ap (new_cell (set m i k)) (ap (λ (t : ℕ). get_or w (t + j) 0) ea ∙ a.ahead (get_or ws i 0 + j) (omega arith))))

  leads : AllLead M (cells_of ws i)
  leads j h g =
      let so = q₀.laid.sorted i it in
      let x = get_or (cells_of ws i) j 0 in
      let c = at_cell 1 (cells_of ws i) so j h in
      let z = cell_some 1 (cells_of ws i) so j h in
      let z0 = z.0 in
      let e : rows_of ws i (key_of x) ≡ val_of x = rows_are ws i (key_of x) ∙ c in
      let o = s.earlier i (key_of x) it g in
      let mk = sp.closed i (key_of x) (omega arith) it p g in
      let mk' : 0 < get_or m₀ (val_of x) 0 = subst (λ (t : ℕ). 0 < get_or m₀ t 0) e mk in
      let t = at_other (val_of x) (λ q. omega arith) in
      let y = (a.started (omega arith)).1 in
      let r = a.rising 0 (val_of x) z0 (omega arith) sp.zeroth mk' in
      let n = a.news (val_of x) (omega arith) mk' in
      let lo = a.low in
      let sm = words.small in
      (omega arith, omega arith)

  row_kept : (q c : ℕ) → q < k → rows_of w' q c ≡ rows_of w q c
  unfolding rows_of
  row_kept q c h = ap (λ (t : List ℕ). at t c) (cells_kept q h)

  row_turn : (c : ℕ) → c < 64 → rows_of w' k c ≡ get_or M (rows_of ws i c) 0
  unfolding rows_of
  row_turn c h = ap (λ (t : List ℕ). at t c) cells_new ∙ new_at_low M (cells_of ws i) c leads started'.1 h

  row_voice : (j : ℕ) → rows_of w' k (64 + j) ≡ rows_of ws i (64 + j)
  unfolding rows_of
  row_voice j = ap (λ (t : List ℕ). at t (64 + j)) cells_new ∙ new_at_high M (cells_of ws i) (64 + j) leads (omega arith)

  kept_mark : (x c : ℕ) → x < i → c < 64 → get_or M (rows_of ws x c) 0 ≡ get_or m (rows_of ws x c) 0
  kept_mark x c l h = let e = s.earlier x c (omega arith) h in at_other (rows_of ws x c) (omega arith)

  turns' : (x c : ℕ) → x < i + 1 → 0 < get_or m₀ x 0 → c < 64 → rows_of w' (get_or M x 0) c ≡ get_or M (rows_of ws x c) 0
  turns' x c l h g =
      by_same x i
      (λ e.
      ap (λ (t : ℕ). rows_of w' t c) (ap (λ (t : ℕ). get_or M t 0) e ∙ at_i)
      ∙ (row_turn c g ∙ ap (λ (t : ℕ). get_or M (rows_of ws t c) 0) (sym e)))
      (λ ne.
      let n = a.news x (omega arith) h in
      ap (λ (t : ℕ). rows_of w' t c) (at_other x ne)
      ∙ (row_kept (get_or m x 0) c n ∙ (a.turns x c (omega arith) h g ∙ sym (kept_mark x c (omega arith) g))))

  voices' : (x j : ℕ) → x < i + 1 → 0 < get_or m₀ x 0 → j < 22 → rows_of w' (get_or M x 0) (64 + j) ≡ rows_of ws x (64 + j)
  voices' x j l h g =
      by_same x i
      (λ e.
      ap (λ (t : ℕ). rows_of w' t (64 + j)) (ap (λ (t : ℕ). get_or M t 0) e ∙ at_i)
      ∙ (row_voice j ∙ ap (λ (t : ℕ). rows_of ws t (64 + j)) (sym e)))
      (λ ne.
      let n = a.news x (omega arith) h in
      ap (λ (t : ℕ). rows_of w' t (64 + j)) (at_other x ne)
      ∙ (row_kept (get_or m x 0) (64 + j) n ∙ a.voices x j (omega arith) h g))

  sorted' : (q : ℕ) → q < k + 1 → Sorted 1 (cells_of w' q)
  sorted' q h =
      by_same q k
      (λ e. subst (λ (t : ℕ). Sorted 1 (cells_of w' t)) (sym e) (subst (Sorted 1) (sym cells_new) (new_sorted M 1 (cells_of ws i) leads (q₀.laid.sorted i it))))
      (λ ne. let z : q < k = omega arith in subst (Sorted 1) (sym (cells_kept q z)) (a.sorted q z))

  ends' : (q : ℕ) → q < k + 1 → get_or w' q 0 ≤ get_or w' (suc q) 0
  ends' q h =
      by_same q k
      (λ e.
      let x : get_or w' q 0 ≡ get_or w' k 0 = ap (λ (t : ℕ). get_or w' t 0) e in
      let y : get_or w' (suc q) 0 ≡ get_or w' (suc k) 0 = ap (λ (t : ℕ). get_or w' (suc t) 0) e in
      let k0 = begin_kept k (omega arith) in
      let k1 = last_same in omega arith)
      (λ ne.
      let k0 = begin_kept q (omega arith) in
      let k1 = begin_kept (suc q) (omega arith) in
      let o = a.ends q (omega arith) in omega arith)

  begins' : (x : ℕ) → i + 1 ≤ x → x < 4200 → get_or w' x 0 ≡ get_or ws x 0
  begins' x h l =
      let u = words in
      let b = u.base in
      let lo = a.low in
      by_same x (suc k)
      (λ e.
      let ki : k ≡ i = omega arith in
      let k0 : get_or w k 0 ≡ get_or w i 0 = ap (λ (t : ℕ). get_or w t 0) ki in
      let k1 = last_same in
      let ea = u.A in
      let ee = u.E in
      let or = u.order in
      let x1 : get_or w' x 0 ≡ get_or w' (suc k) 0 = ap (λ (t : ℕ). get_or w' t 0) e in
      let x2 : get_or ws x 0 ≡ get_or ws (suc i) 0 = ap (λ (t : ℕ). get_or ws t 0) (let z : x ≡ suc i = omega arith in z) in
      omega arith)
      (λ ne. last_other x ne ∙ (v.text.before x (omega arith) ∙ a.begins x (omega arith) l))

  pub compact_keep : Compacting ws m₀ (i + 1) (k + 1) w' (set m i k)
  unfolding M
  compact_keep =
      let lo = a.low in
      let u = words in
      let b = u.base in
      let ea = u.A in
      let ee = u.E in
      let or = u.order in
      let bs = a.base in
      let k1 = last_same in
      let sm = u.small in
      let z : suc i ≡ i + 1 = omega arith in
      let zk : suc k ≡ k + 1 = omega arith in
      let z1 : get_or ws (suc i) 0 ≡ get_or ws (i + 1) 0 = ap (λ (t : ℕ). get_or ws t 0) z in
      let z2 : get_or w' (suc k) 0 ≡ get_or w' (k + 1) 0 = ap (λ (t : ℕ). get_or w' t 0) zk in
      record {
        old = old';
        low = omega arith;
        count = marked_keep (λ x. get_or m₀ x 0) i k p a.count;
        started = λ h. started';
        olds = olds';
        news = news';
        rising = rising';
        turns = turns';
        voices = voices';
        marks = λ x l. at_other x (let z : x ≡ i → ⊥ = λ e. omega arith in z) ∙ a.marks x (omega arith);
        start = begin_kept 0 (omega arith) ∙ a.start;
        ends = ends';
        sorted = sorted';
        base = omega arith;
        begins = begins';
        ahead = λ x l. last_other x (λ e. omega arith) ∙ (v.text.after x (omega arith) ∙ a.ahead x (omega arith));
        longm = length-set m i k ∙ a.longm;
        longw = ap length v.last ∙ (length-set v.between (suc k) (get_or w k 0 + (get_or w (suc i) 0 - get_or w i 0)) ∙ (v.text.long ∙ a.longw));
      }

pub compact_next : (ws m₀ : List ℕ) (top i k : ℕ) (w m w' m' : List ℕ) (r : ℕ) → SweepAsks ws m₀ top → Spread ws top 0 m₀ → i ≤ top
    → Compacting ws m₀ i k w m → RowKept w m i k w' m' r → Compacting ws m₀ (i + 1) r w' m'
compact_next ws m₀ top i k w m w' m' r q sp it a z =
    let same = a.marks i (omega arith) in
    by_same (get_or m i 0) 0
    (λ e.
    let o = z.skipped e in
    let pos : 0 < i = by_same i 0 (λ h. let t : get_or m₀ i 0 ≡ get_or m₀ 0 0 = ap (λ (t : ℕ). get_or m₀ t 0) h in let y = sp.zeroth in absurd (omega arith)) (λ h. omega arith) in
    subst (λ (t : ℕ). Compacting ws m₀ (i + 1) t w' m') (sym o.0)
    (subst (λ (t : List ℕ). Compacting ws m₀ (i + 1) k w' t) (sym o.1)
    (subst (λ (t : List ℕ). Compacting ws m₀ (i + 1) k t m) (sym o.2)
    (compact_skip ws m₀ top i k w m q.laid it a (sym same ∙ e) pos))))
    (λ ne.
    let o = z.kept (omega arith) in
    subst (λ (t : ℕ). Compacting ws m₀ (i + 1) t w' m') (sym o.0)
    (subst (λ (t : List ℕ). Compacting ws m₀ (i + 1) (k + 1) w' t) (sym o.1)
    (compact_keep ws m₀ top i k w m w' q sp it a (omega arith) o.2)))

-- what keeping row i asks
pub compact_fits : (ws m₀ : List ℕ) (top i k : ℕ) (w m : List ℕ) → SweepAsks ws m₀ top → i ≤ top → Compacting ws m₀ i k w m → KeepAsks w m i k
compact_fits ws m₀ top i k w m q it a =
    let st = q.states in
    let mk = q.marked in
    let lm = a.longm in
    let lw = a.longw in
    let A = a.begins i (omega arith) (omega arith) in
    let E = a.begins (suc i) (omega arith) (omega arith) in
    let or = q.laid.ends i it in
    let r = rises w k a.ends 0 k (omega arith) (omega arith) in
    let s0 = a.start in
    let bs = a.base in
    let lo = a.low in
    let sm = q.small in
    let i1 = begins_rise ws top (suc i) (suc top) q.laid (omega arith) (omega arith) in
    let i2 = q.laid.inside in
    let z : i + 1 ≡ suc i = omega arith in
    let pl = placing ws top i (get_or ws i 0) (get_or ws (suc i) 0) q.laid it refl (ap (λ (t : ℕ). get_or ws t 0) (sym z)) in
    record {
      low = lo;
      few = omega arith;
      mark = omega arith;
      base = omega arith;
      down = omega arith;
      order = omega arith;
      within = omega arith;
      small = omega arith;
      leads = λ x h l g.
          let e = a.ahead x (omega arith) in
          let y : get_or ws i 0 + (x - get_or ws i 0) ≡ x = omega arith in
          let len = part_length ws (get_or ws i 0) (get_or ws (suc i) 0 - get_or ws i 0) in
          let c = at_cell 1 (part ws (get_or ws i 0) (get_or ws (suc i) 0 - get_or ws i 0)) pl.sorted (x - get_or ws i 0) (omega arith) in
          let gt : get_or (part ws (get_or ws i 0) (get_or ws (suc i) 0 - get_or ws i 0)) (x - get_or ws i 0) 0 ≡ get_or w x 0 =
          part_get ws (get_or ws i 0) (get_or ws (suc i) 0 - get_or ws i 0) (x - get_or ws i 0) (omega arith) ∙ (ap (λ (t : ℕ). get_or ws t 0) y ∙ sym e) in
          let c' : at (part ws (get_or ws i 0) (get_or ws (suc i) 0 - get_or ws i 0)) (key_of (get_or w x 0)) ≡ val_of (get_or w x 0) =
          subst (λ (t : ℕ). at (part ws (get_or ws i 0) (get_or ws (suc i) 0 - get_or ws i 0)) (key_of t) ≡ val_of t) gt c in
          let rw : rows_of ws i (key_of (get_or w x 0)) ≡ val_of (get_or w x 0) = rows_are ws i (key_of (get_or w x 0)) ∙ (ap (λ (t : List ℕ). at t (key_of (get_or w x 0))) pl.cells ∙ c') in
          let f = q.sound.earlier i (key_of (get_or w x 0)) it g in omega arith;
    }

module _ (ws m₀ : List ℕ) (top i k : ℕ) (w m : List ℕ) (q : SweepAsks ws m₀ top) (sp : Spread ws top 0 m₀) (e : i ≡ top + 1) (a : Compacting ws m₀ i k w m) where
  injects : (x y : ℕ) → x < i → y < i → 0 < get_or m₀ x 0 → 0 < get_or m₀ y 0 → get_or m x 0 ≡ get_or m y 0 → x ≡ y
  injects x y lx ly hx hy g =
      by_less x y
      (λ l. let r = a.rising x y l ly hx hy in absurd (omega arith))
      (λ l. by_less y x (λ n. let r = a.rising y x n lx hy hx in absurd (omega arith)) (λ n. omega arith))

  returns_to : (x : ℕ) → x < i → 0 < get_or m₀ x 0 → a.old (get_or m x 0) ≡ x
  returns_to x l h =
      let n = a.news x l h in
      let o = a.olds (get_or m x 0) n in
      injects (a.old (get_or m x 0)) x o.0 l o.1 h o.2

  some : 0 < k
  some = (a.started (omega arith)).0

  last_is : a.old (k - 1) ≡ top
  last_is =
      let p = some in
      let o = a.olds (k - 1) (omega arith) in
      let l = o.0 in
      let g = o.2 in
      by_same (a.old (k - 1)) top (λ h. h)
      (λ ne.
      let r = a.rising (a.old (k - 1)) top (omega arith) (omega arith) o.1 sp.root in
      let n = a.news top (omega arith) sp.root in
      absurd (omega arith))

  under_kept : (b c : ℕ) → b ≤ k - 1 → c < 64 → (rows_of ws (a.old b) c < i) × (0 < get_or m₀ (rows_of ws (a.old b) c) 0)
  under_kept b c l h =
      let p = some in
      let o = a.olds b (omega arith) in
      let u = o.0 in
      let f = q.sound.earlier (a.old b) c (omega arith) h in
      (omega arith, sp.closed (a.old b) c (omega arith) (omega arith) o.1 h)

  renumbered : Renumbered (rows_of ws) top (rows_of w) (k - 1) a.old (λ x. get_or m x 0)
  renumbered =
      let p = some in
      record {
        inside = λ b l. let o = a.olds b (omega arith) in let u = o.0 in omega arith;
        first =
            let o = a.olds 0 (omega arith) in
            by_same (a.old 0) 0 (λ h. h)
            (λ ne.
            let r = a.rising 0 (a.old 0) (omega arith) o.0 sp.zeroth o.1 in
            let g = o.2 in absurd (omega arith));
        rising = λ b d l n.
            let o = a.olds b (omega arith) in
            let r = a.olds d (omega arith) in
            let g = o.2 in
            let f = r.2 in
            by_less (a.old b) (a.old d) (λ t. t)
            (λ t. by_same (a.old b) (a.old d)
            (λ h. let u : get_or m (a.old b) 0 ≡ get_or m (a.old d) 0 = ap (λ (t : ℕ). get_or m t 0) h in absurd (omega arith))
            (λ ne. let y = a.rising (a.old d) (a.old b) (omega arith) o.0 r.1 o.1 in absurd (omega arith)));
        voices = λ b j l h.
            let o = a.olds b (omega arith) in
            subst (λ (t : ℕ). rows_of w t (64 + j) ≡ rows_of ws (a.old b) (64 + j)) o.2 (a.voices (a.old b) j o.0 o.1 h);
        turns = λ b c l h.
            let o = a.olds b (omega arith) in
            subst (λ (t : ℕ). rows_of w t c ≡ get_or m (rows_of ws (a.old b) c) 0) o.2 (a.turns (a.old b) c o.0 o.1 h);
        within = λ b c l h. let u = under_kept b c l h in let n = a.news (rows_of ws (a.old b) c) u.0 u.1 in omega arith;
        back = λ b c l h. let u = under_kept b c l h in returns_to (rows_of ws (a.old b) c) u.0 u.1;
      }

  pub swept : Swept ws m₀ top w (k - 1)
  swept =
      let p = some in
      let lo = a.low in
      let st = q.states in
      let bs = a.base in
      let lw = a.longw in
      let ins = q.laid.inside in
      let zk : suc (k - 1) ≡ k = omega arith in
      let zi : i ≡ suc top = omega arith in
      let wk : get_or w (suc (k - 1)) 0 ≡ get_or w k 0 = ap (λ (t : ℕ). get_or w t 0) zk in
      let wi : get_or ws i 0 ≡ get_or ws (suc top) 0 = ap (λ (t : ℕ). get_or ws t 0) zi in
      record {
        count = zk ∙ (a.count ∙ ap (marked (λ x. get_or m₀ x 0)) zi);
        fewer = omega arith;
        laid = record {
          few = omega arith;
          start = a.start;
          ends = λ x l. a.ends x (omega arith);
          inside = omega arith;
          sorted = λ x l. a.sorted x (omega arith);
        };
        shrunk = omega arith;
        begins = λ x l h. a.begins x (omega arith) h;
        sound = sound_renumbered (rows_of ws) top (rows_of w) (k - 1) a.old (λ x. get_or m x 0) q.sound renumbered;
        needed = needed_renumbered (rows_of ws) top (rows_of w) (k - 1) a.old (λ x. get_or m x 0) q.sound renumbered
            (λ b z l.
            let o = a.olds b (omega arith) in
            let r0 = renumbered.rising 0 b z (omega arith) in
            let r1 = renumbered.rising b (k - 1) l (omega arith) in
            let la = last_is in
            let y = sp.why (a.old b) (omega arith) (omega arith) o.1 in
            let j = y.0 in
            let u = y.3 in
            let jl = y.1 in
            let n = a.news j (omega arith) y.2 in
            let t : a.old (get_or m j 0) ≡ j = returns_to j (omega arith) y.2 in
            (get_or m j 0, u.0, (let h : get_or m j 0 ≤ k - 1 = omega arith in h), u.1, ap (λ (v : ℕ). rows_of ws v u.0) t ∙ u.2));
        says = λ v d.
            look_renumbered (rows_of ws) top (rows_of w) (k - 1) a.old (λ x. get_or m x 0) q.sound renumbered (k - 1) (omega arith) v d
            ∙ ap (λ (t : ℕ). look (rows_of ws) t v) last_is;
        past = λ x l. a.ahead x (omega arith);
      }

-- ---- what keeping row i gives

pub kept_skip : (ws m : List ℕ) (i k : ℕ) → get_or m i 0 ≡ 0 → RowKept ws m i k ws m k
kept_skip ws m i k e = record { skipped = λ h. (refl, refl, refl); kept = λ h. absurd (omega arith) }

pub kept_keep : (ws m : List ℕ) (i k : ℕ) (ws' : List ℕ) → (get_or m i 0 ≡ 0 → ⊥) → Moved ws (set m i k) i k ws' → RowKept ws m i k ws' (set m i k) (k + 1)
kept_keep ws m i k ws' ne v = record { skipped = λ h. absurd (ne h); kept = λ h. (refl, refl, v) }

pub keep_set : (ws m : List ℕ) (i k : ℕ) → KeepAsks ws m i k → KeepAsks ws (set m i k) i k
keep_set ws m i k a =
    let e = length-set m i k in
    let b = a.mark in
    record {
      low = a.low;
      few = a.few;
      mark = omega arith;
      base = a.base;
      down = a.down;
      order = a.order;
      within = a.within;
      small = a.small;
      leads = λ x h l g. let y = a.leads x h l g in omega arith;
    }

-- row i lies from a to e and moves to b
pub moved-of : (ws m : List ℕ) (i k a e b : ℕ) (v : List ℕ) → a ≡ get_or ws i 0 → e ≡ get_or ws (i + 1) 0 → b ≡ get_or ws k 0 → Written (moved_of m ws a) b (e - a) ws v → Moved ws m i k (set v (k + 1) (b + (e - a)))
moved-of ws m i k a e b v x y z w =
    let s : i + 1 ≡ suc i = omega arith in
    let t : k + 1 ≡ suc k = omega arith in
    let y' : e ≡ get_or ws (suc i) 0 = y ∙ ap (λ (t : ℕ). get_or ws t 0) s in
    let l : e - a ≡ get_or ws (suc i) 0 - get_or ws i 0 = omega arith in
    let r : b + (e - a) ≡ get_or ws k 0 + (get_or ws (suc i) 0 - get_or ws i 0) = omega arith in
    record {
      between = v;
      text = subst (λ (u : ℕ). Written (moved_of m ws u) (get_or ws k 0) (get_or ws (suc i) 0 - get_or ws i 0) ws v) x
          (subst (λ (u : ℕ). Written (moved_of m ws a) u (get_or ws (suc i) 0 - get_or ws i 0) ws v) z
          (subst (λ (u : ℕ). Written (moved_of m ws a) b u ws v) l w));
      last = ap₂ (λ (u o : ℕ). set v u o) t r;
    }
