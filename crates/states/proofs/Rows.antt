-- Laws of words as they are written, and of rows as they are compared and appended.
-- Assumes nothing.
use mathlib.Core.Path.{◌≡◌, refl, sym, ap, ap₂, ◌∙◌, subst}
use Prim.Native.Nat.{ℕ, zero, suc, ◌+◌, ◌-◌, ◌≤◌, ◌<◌, max}
use native.Mathlib.Omega.{arith}
use mathlib.Core.Bool.{Bool}
use mathlib.Core.List.{List, [], ◌∷◌, ◌++◌, append_assoc}
use lib.Dec.{eqb}
use lib.Pointwise.{pointwise, bytes_decides}
use lib.ListN.{length, get_or, set, take, drop, length-set, length-append}
use native.Mathlib.Numerals.{add-one}
use lib.Seq.{get_or-set_same, get_or-set_other, drop-cons}
use Rattle.automaton.specs.Automaton.{Str, Rows, val_of, cell_of, at, part, cells_of, rows_of, Sorted, Laid, end_state, Letters, Alike}
use Rattle.automaton.specs.Changes.{Keeps, First}
use Rattle.automaton.proofs.Tests.{by_less, by_same, clash}
use Rattle.states.specs.States.{lower, upper, past, one, with_successor, groups, with_phones, Split, Valued, AsksState, Placing, Wrote, Lowered, Ended, Compared, FoundOrAdded, Written, copy_of, group_of, CellPut, Skipped, AppendAsks, Appended, EndAsks}
use Rattle.states.specs.declared.Placed.{Placed}
use Rattle.states.specs.declared.Cut.{Cut}
use Rattle.states.proofs.Cells.{same-cells, groups_length, sorted_length, lower_short}
use Rattle.states.proofs.Parts.{part_length, part_ext, part_slice, part_get, value_of}

-- ---- writing

pub written_begin : (v : ℕ → ℕ) (b : ℕ) (ws : List ℕ) → Written v b 0 ws ws
written_begin v b ws = record { done = λ j l. absurd (omega arith); before = λ x l. refl; after = λ x l. refl; long = refl }

pub written_next : (v : ℕ → ℕ) (b k : ℕ) (ws ws' : List ℕ) (y : ℕ) → Written v b k ws ws' → b + k < length ws → y ≡ v k → Written v b (k + 1) ws (set ws' (b + k) y)
written_next v b k ws ws' y a h e =
    let g = a.long in
    record {
      done = λ j l. by_same j k
          (λ q. ap (λ (x : ℕ). get_or (set ws' (b + k) y) (b + x) 0) q ∙ (get_or-set_same ws' (b + k) y 0 (omega arith) ∙ (e ∙ ap v (sym q))))
          (λ q. get_or-set_other ws' (b + k) (b + j) y 0 (omega arith) ∙ a.done j (omega arith));
      before = λ x l. get_or-set_other ws' (b + k) x y 0 (omega arith) ∙ a.before x l;
      after = λ x l. get_or-set_other ws' (b + k) x y 0 (omega arith) ∙ a.after x (omega arith);
      long = length-set ws' (b + k) y ∙ a.long;
    }

pub written_end : (v : ℕ → ℕ) (b k m : ℕ) (ws ws' : List ℕ) → k ≡ m → Written v b k ws ws' → Written v b m ws ws'
written_end v b k m ws ws' e w = subst (λ (x : ℕ). Written v b x ws ws') e w

pub none_put : (ws : List ℕ) (o c r : ℕ) → r ≡ 0 → CellPut ws o c r ws o
none_put ws o c r e =
    let z : length (one c r) ≡ 0 = ap (λ (t : ℕ). length (one c t)) e in
    record { next = omega arith; text = written_end (λ j. get_or (one c r) j 0) o 0 (length (one c r)) ws ws (sym z) (written_begin (λ j. get_or (one c r) j 0) o ws) }

one_put' : (ws : List ℕ) (o c r : ℕ) → o < length ws → CellPut ws o c (suc r) (set ws o (cell_of c (suc r))) (o + 1)
one_put' ws o c r h =
    let z : o + 0 ≡ o = omega arith in
    let v : ℕ → ℕ = λ j. get_or (one c (suc r)) j 0 in
    record {
      next = omega arith;
      text = subst (λ (t : ℕ). Written (λ j. get_or (one c (suc r)) j 0) o 1 ws (set ws t (cell_of c (suc r)))) z
          (written_next (λ j. get_or (one c (suc r)) j 0) o 0 ws ws (cell_of c (suc r)) (written_begin (λ j. get_or (one c (suc r)) j 0) o ws) (omega arith) refl);
    }

pub one_put : (ws : List ℕ) (o c r y : ℕ) → (r ≡ 0 → ⊥) → o < length ws → y ≡ cell_of c r → CellPut ws o c r (set ws o y) (o + 1)
one_put ws o c zero y ne h e = absurd (ne refl)
one_put ws o c (suc r) y ne h e = subst (λ (t : ℕ). CellPut ws o c (suc r) (set ws o t) (o + 1)) (sym e) (one_put' ws o c r h)

-- ---- reading a row

module _ (ws : List ℕ) (n q : ℕ) (a : AsksState ws n q) where
  begins_within : (d : ℕ) → q + d ≤ suc n → get_or ws q 0 ≤ get_or ws (q + d) 0
  begins_within zero h = let z : q + 0 ≡ q = omega arith in let e : get_or ws (q + 0) 0 ≡ get_or ws q 0 = ap (λ (t : ℕ). get_or ws t 0) z in omega arith
  begins_within (suc d) h =
      let i = begins_within d (omega arith) in
      let e = a.laid.ends (q + d) (omega arith) in
      let z : suc (q + d) ≡ q + suc d = omega arith in
      let g : get_or ws (suc (q + d)) 0 ≡ get_or ws (q + suc d) 0 = ap (λ (t : ℕ). get_or ws t 0) z in
      omega arith

pub begins_rise : (ws : List ℕ) (n p q : ℕ) → Laid ws n → p ≤ q → q ≤ suc n → get_or ws p 0 ≤ get_or ws q 0
begins_rise ws n p q l h g =
    by_same p (suc n)
    (λ e. let z : p ≡ q = omega arith in let y : get_or ws p 0 ≡ get_or ws q 0 = ap (λ (t : ℕ). get_or ws t 0) z in omega arith)
    (λ e.
    let z : p + (q - p) ≡ q = omega arith in
    let y : get_or ws (p + (q - p)) 0 ≡ get_or ws q 0 = ap (λ (t : ℕ). get_or ws t 0) z in
    let i = begins_within ws n p (record { laid = l; state = omega arith }) (q - p) (omega arith) in
    omega arith)

pub placing : (ws : List ℕ) (n q a e : ℕ) → Laid ws n → q ≤ n → a ≡ get_or ws q 0 → e ≡ get_or ws (q + 1) 0 → Placing ws n q a e
unfolding cells_of
placing ws n q a e l h x y =
    let z : q + 1 ≡ suc q = omega arith in
    let y' : e ≡ get_or ws (suc q) 0 = y ∙ ap (λ (t : ℕ). get_or ws t 0) z in
    let r = begins_rise ws n 0 q l (omega arith) (omega arith) in
    let s = begins_rise ws n (suc q) (suc n) l (omega arith) (omega arith) in
    let b = l.start in
    let i = l.inside in
    let o = l.ends q h in
    let g : cells_of ws q ≡ part ws a (e - a) = ap₂ (λ (u v : ℕ). part ws u (v - u)) (sym x) (sym y') in
    let so : Sorted 1 (part ws a (e - a)) = subst (Sorted 1) g (l.sorted q h) in
    let len = sorted_length 1 (part ws a (e - a)) so (omega arith) in
    let pl = part_length ws a (e - a) in
    record {
      base = omega arith;
      order = omega arith;
      below = omega arith;
      within = omega arith;
      short = omega arith;
      cells = g;
      sorted = so;
    }

pub value_at : (ws : List ℕ) (n q a e c i r : ℕ) → Placing ws n q a e → Split ws a e c i → Valued ws i e c r → r ≡ rows_of ws q c
unfolding rows_of
value_at ws n q a e c i r p s v = value_of ws a e c i r p.sorted s v ∙ ap (λ (t : List ℕ). at t c) (sym p.cells)

-- ---- comparing rows

pub rows_compared : (ws : List ℕ) (n i t a e b f : ℕ) → Placing ws n i a e → Placing ws n t b f
    → (r : Bool) → r ≡ pointwise eqb (take (e - a) (drop a ws)) (take (f - b) (drop b ws)) → Compared ws i t r
unfolding rows_of
rows_compared ws n i t a e b f p q r c =
    let po = p.order in
    let pw = p.within in
    let qo = q.order in
    let qw = q.within in
    let x : take (e - a) (drop a ws) ≡ cells_of ws i = part_slice ws a (e - a) (omega arith) ∙ sym p.cells in
    let y : take (f - b) (drop b ws) ≡ cells_of ws t = part_slice ws b (f - b) (omega arith) ∙ sym q.cells in
    record {
      alike = λ h k l. ap (λ (u : List ℕ). at u k) (sym x ∙ ((bytes_decides _ _).0 (sym c ∙ h) ∙ y));
      differ = λ h z. clash (c ∙ (bytes_decides _ _).1 (x ∙ (same-cells 1 (cells_of ws i) (cells_of ws t)
          (subst (Sorted 1) (sym p.cells) p.sorted) (subst (Sorted 1) (sym q.cells) q.sorted) (λ k l. z k l) ∙ sym y))) h;
    }

-- ---- finding

-- no row below i holds what row t does
pub record NoneTo (ws : List ℕ) (t i : ℕ) : Type 0 where
  pub within : i ≤ t
  pub none : (j : ℕ) → j < i → Alike (rows_of ws) j t → ⊥

pub settled : (ws : List ℕ) (n i : ℕ) (r : Placed) → First (rows_of ws) (n + 1) i → r.root ≡ i → r.top ≡ max n i → FoundOrAdded ws n r
settled ws n i r f e t =
    let q : n + 1 ≡ suc n = omega arith in
    record {
      first = subst (λ (x : ℕ). First (rows_of ws) (suc n) x) (sym e) (subst (λ (x : ℕ). First (rows_of ws) x i) q f);
      top = t ∙ ap (λ (x : ℕ). max n x) (sym e);
    }

-- ---- appending a row

module _ (ws : List ℕ) (n : ℕ) (l : List ℕ) (ws' : List ℕ) (a : Laid ws n) (b : Appended ws n l ws') (few : suc n < 4190) where
  begin_kept : (x : ℕ) → x ≤ suc n → get_or ws' x 0 ≡ get_or ws x 0
  begin_kept x h = b.begins x (omega arith) (λ e. omega arith)

  pub cells_kept : (q : ℕ) → q ≤ n → cells_of ws' q ≡ cells_of ws q
  unfolding cells_of
  cells_kept q h =
      let e = begin_kept q (omega arith) in
      let g = begin_kept (suc q) (omega arith) in
      let r = begins_rise ws n 0 q a (omega arith) (omega arith) in
      let s = begins_rise ws n (suc q) (suc n) a (omega arith) (omega arith) in
      let st = a.start in
      ap₂ (λ (u v : ℕ). part ws' u (v - u)) e g
      ∙ part_ext ws' ws (get_or ws q 0) (get_or ws q 0) (get_or ws (suc q) 0 - get_or ws q 0) (λ j k. b.before (get_or ws q 0 + j) (omega arith) (omega arith))

  pub cells_new : cells_of ws' (suc n) ≡ l
  unfolding cells_of
  cells_new =
      let e = begin_kept (suc n) (omega arith) in
      let s = b.stop in
      let z : get_or ws' (suc (suc n)) 0 - get_or ws' (suc n) 0 ≡ length l = omega arith in
      ap₂ (part ws') e z ∙ b.cells

  pub rows_kept : Keeps (rows_of ws) (rows_of ws') n
  unfolding rows_of
  rows_kept q k h o = ap (λ (t : List ℕ). at t k) (cells_kept q h)

  pub row_new : (k : ℕ) → rows_of ws' (suc n) k ≡ at l k
  unfolding rows_of
  row_new k = ap (λ (t : List ℕ). at t k) cells_new

  pub laid_new : Sorted 1 l → get_or ws (suc n) 0 + length l ≤ length ws → Laid ws' (suc n)
  laid_new so room =
      let lo = b.long in
      let s = b.stop in
      record {
        few = few;
        start = begin_kept 0 (omega arith) ∙ a.start;
        ends = λ q h. by_same q (suc n)
            (λ e.
            let u : get_or ws' q 0 ≡ get_or ws' (suc n) 0 = ap (λ (t : ℕ). get_or ws' t 0) e in
            let v : get_or ws' (suc q) 0 ≡ get_or ws' (suc (suc n)) 0 = ap (λ (t : ℕ). get_or ws' (suc t) 0) e in
            let w = begin_kept (suc n) (omega arith) in omega arith)
            (λ ne.
            let u = begin_kept q (omega arith) in
            let v = begin_kept (suc q) (omega arith) in
            let w = a.ends q (omega arith) in omega arith);
        inside = omega arith;
        sorted = λ q h. by_same q (suc n)
            (λ e. subst (λ (t : ℕ). Sorted 1 (cells_of ws' t)) (sym e) (subst (Sorted 1) (sym cells_new) so))
            (λ ne. let z : q ≤ n = omega arith in subst (Sorted 1) (sym (cells_kept q z)) (a.sorted q z));
      }

-- ---- the parts of an appended row

get_d_left : (l m : List ℕ) (j : ℕ) → j < length l → get_or (l ++ m) j 0 ≡ get_or l j 0
get_d_left [] m j h = absurd (omega arith)
get_d_left (x ∷ l) m zero h = refl
get_d_left (x ∷ l) m (suc j) h = get_d_left l m j (omega arith)

get_d_right : (l m : List ℕ) (j : ℕ) → get_or (l ++ m) (length l + j) 0 ≡ get_or m j 0
get_d_right [] m j = let z : 0 + j ≡ j = omega arith in ap (λ (t : ℕ). get_or m t 0) z
get_d_right (x ∷ l) m j =
    let z : suc (length l) + j ≡ suc (length l + j) = omega arith in
    ap (λ (t : ℕ). get_or (x ∷ (l ++ m)) t 0) z ∙ get_d_right l m j

pub wrote_join : (l m : List ℕ) (o : ℕ) (ws w ws' : List ℕ) → Wrote l o ws w → Wrote m (o + length l) w ws' → Wrote (l ++ m) o ws ws'
wrote_join l m o ws w ws' a b =
    let e = length-append l m in
    record {
      done = λ j h. by_less j (length l)
          (λ g. b.before (o + j) (omega arith) ∙ (a.done j g ∙ sym (get_d_left l m j g)))
          (λ g.
          let x : o + j ≡ o + length l + (j - length l) = omega arith in
          let y : length l + (j - length l) ≡ j = omega arith in
          ap (λ (t : ℕ). get_or ws' t 0) x ∙ (b.done (j - length l) (omega arith) ∙ (sym (get_d_right l m (j - length l)) ∙ ap (λ (t : ℕ). get_or (l ++ m) t 0) y)));
      before = λ x h. b.before x (omega arith) ∙ a.before x h;
      after = λ x h. b.after x (omega arith) ∙ a.after x (omega arith);
      long = b.long ∙ a.long;
    }

-- words copied are a part of the words
pub wrote_part : (ws : List ℕ) (a o n : ℕ) (ws' : List ℕ) (l : List ℕ) → l ≡ part ws a n → Written (copy_of ws a) o n ws ws' → Wrote l o ws ws'
wrote_part ws a o n ws' l e w =
    let len : length l ≡ n = ap length e ∙ part_length ws a n in
    record {
      done = λ j h. w.done j (omega arith) ∙ (sym (part_get ws a n j (omega arith)) ∙ ap (λ (t : List ℕ). get_or t j 0) (sym e));
      before = w.before;
      after = λ x h. w.after x (omega arith);
      long = w.long;
    }

part_wrote : (l : List ℕ) (o : ℕ) (ws ws' : List ℕ) → Wrote l o ws ws' → part ws' o (length l) ≡ l
part_wrote [] o ws ws' w = refl
part_wrote (x ∷ l) o ws ws' w =
    let z : o + 0 ≡ o = omega arith in
    ap₂ (λ (u : ℕ) (v : List ℕ). u ∷ v) (ap (λ (t : ℕ). get_or ws' t 0) (sym z) ∙ w.done 0 (omega arith))
    (part_wrote l (suc o) ws' ws' (record {
      done = λ j h. let y : suc o + j ≡ o + suc j = omega arith in ap (λ (t : ℕ). get_or ws' t 0) y ∙ w.done (suc j) (omega arith);
      before = λ y h. refl;
      after = λ y h. refl;
      long = refl;
    }))

pub lowered_of : (ws : List ℕ) (n q c : ℕ) (ws' : List ℕ) (r : Cut) → AppendAsks ws n q → (a e i b : ℕ) → Placing ws n q a e → Split ws a e c i → b ≡ get_or ws (n + 1) 0
    → Written (copy_of ws a) b (i - a) ws ws' → r.at ≡ i → r.to ≡ e → r.out ≡ b + (i - a) → Lowered ws n q c ws' r
lowered_of ws n q c ws' r k a e i b p s x w ra rt ro =
    let z : n + 1 ≡ suc n = omega arith in
    let x' : b ≡ get_or ws (suc n) 0 = x ∙ ap (λ (t : ℕ). get_or ws t 0) z in
    let l : lower c (cells_of ws q) ≡ part ws a (i - a) = ap (lower c) p.cells ∙ s.low in
    let len : length (lower c (cells_of ws q)) ≡ i - a = ap length l ∙ part_length ws a (i - a) in
    let y1 = s.least in
    let y2 = s.most in
    let y3 = p.short in
    let y4 = p.below in
    record {
      text = subst (λ (t : ℕ). Wrote (lower c (cells_of ws q)) t ws ws') x' (wrote_part ws a b (i - a) ws' (lower c (cells_of ws q)) l w);
      next = omega arith;
      high = ap (upper c) p.cells ∙ (s.high ∙ ap₂ (λ (u v : ℕ). part ws u (v - u)) (sym ra) (sym rt));
      short = omega arith;
      order = omega arith;
      below = omega arith;
    }

pub asks_fits : (ws : List ℕ) (n q : ℕ) → Laid ws n → q ≤ n → (q < length ws) × (n + 1 < length ws) × (q + 1 < length ws) × (n < 4190)
asks_fits ws n q l h =
    let s = l.start in
    let r = begins_rise ws n 0 (suc n) l (omega arith) (omega arith) in
    let i = l.inside in
    let f = l.few in
    (omega arith, omega arith, omega arith, f)

-- the cells copied are those before but one
pub ended_of : (ws : List ℕ) (n i e c o j : ℕ) (w : List ℕ) → Skipped ws i e c j → Written (copy_of ws j) o (e - j) ws w
    → Ended ws n o (past c (part ws i (e - i))) (set w (n + 2) (o + (e - j)))
ended_of ws n i e c o j w s v =
    let l = s.rest in
    let len : length (past c (part ws i (e - i))) ≡ e - j = ap length l ∙ part_length ws j (e - j) in
    record { between = w; text = wrote_part ws j o (e - j) w (past c (part ws i (e - i))) l v; last = ap (λ (t : ℕ). set w (n + 2) (o + t)) (sym len) }

pub appended : (ws : List ℕ) (n : ℕ) (l : List ℕ) (w : List ℕ) (m ws' : List ℕ) (o : ℕ) → Laid ws n → n < 4190 → o ≡ get_or ws (suc n) 0 + length l
    → Wrote l (get_or ws (suc n) 0) ws w → Ended w n o m ws' → Appended ws n (l ++ m) ws'
appended ws n l w m ws' o a few e u v =
    let s = a.start in
    let r = begins_rise ws n 0 (suc n) a (omega arith) (omega arith) in
    let i = a.inside in
    let b = get_or ws (suc n) 0 in
    let j : Wrote (l ++ m) (get_or ws (suc n) 0) ws v.between = wrote_join l m (get_or ws (suc n) 0) ws w v.between u (subst (λ (t : ℕ). Wrote m t w v.between) e v.text) in
    let len = length-append l m in
    let lo = j.long in
    let z : n + 2 ≡ suc (suc n) = omega arith in
    let g : ws' ≡ set v.between (suc (suc n)) (get_or ws (suc n) 0 + length (l ++ m)) =
    v.last ∙ ap₂ (λ (x y : ℕ). set v.between x y) z (let y : o + length m ≡ get_or ws (suc n) 0 + length (l ++ m) = omega arith in y) in
    let oth : (x : ℕ) → (x ≡ suc (suc n) → ⊥) → get_or ws' x 0 ≡ get_or v.between x 0 =
    λ x ne. ap (λ (t : List ℕ). get_or t x 0) g ∙ get_or-set_other v.between (suc (suc n)) x (get_or ws (suc n) 0 + length (l ++ m)) 0 ne in
    record {
      stop = ap (λ (t : List ℕ). get_or t (suc (suc n)) 0) g ∙ get_or-set_same v.between (suc (suc n)) (get_or ws (suc n) 0 + length (l ++ m)) 0 (omega arith);
      cells = part_ext ws' v.between (get_or ws (suc n) 0) (get_or ws (suc n) 0) (length (l ++ m)) (λ k h. oth (get_or ws (suc n) 0 + k) (λ q. omega arith))
          ∙ part_wrote (l ++ m) (get_or ws (suc n) 0) ws v.between j;
      begins = λ x h ne. oth x ne ∙ j.before x (omega arith);
      before = λ x h k. oth x (λ q. omega arith) ∙ j.before x k;
      after = λ x h. oth x (λ q. omega arith) ∙ j.after x h;
      long = ap length g ∙ (length-set v.between (suc (suc n)) (get_or ws (suc n) 0 + length (l ++ m)) ∙ lo);
    }

-- ---- what turning and voicing ask and give

module _ (ws : List ℕ) (n q c r : ℕ) (k : AppendAsks ws n q) (w : List ℕ) (s : Cut) (a : Lowered ws n q c w s) where
  pub put_fits : s.out < length w
  put_fits = let o = a.next in let h = a.short in let b = k.room in let l = a.text.long in omega arith

  one_short : length (one c r) ≤ 1
  one_short = one_few c r
    where
      one_few : (c r : ℕ) → length (one c r) ≤ 1
      one_few c zero = omega arith
      one_few c (suc r) = omega arith

  pub close_fits : (w₂ : List ℕ) (o : ℕ) → CellPut w s.out c r w₂ o
      → (s.at ≤ s.to) × (s.to ≤ o) × (4200 ≤ o) × (o + (s.to - s.at) ≤ length w₂) × (length w₂ ≤ 16777216) × (n < 4190)
  close_fits w₂ o p =
      let x = a.next in
      let h = a.short in
      let b = k.room in
      let l = a.text.long in
      let m = p.text.long in
      let z = p.next in
      let f = one_short in
      let d = a.below in
      let st = k.laid.start in
      let ri = begins_rise ws n 0 (suc n) k.laid (omega arith) (omega arith) in
      let sm = k.small in
      let nf = k.laid.few in
      (a.order, omega arith, omega arith, omega arith, omega arith, nf)

  pub with_successor_appended : (w₂ : List ℕ) (o : ℕ) (ws' : List ℕ) → CellPut w s.out c r w₂ o → Ended w₂ n o (past c (part w₂ s.at (s.to - s.at))) ws'
      → Appended ws n (with_successor c r (cells_of ws q)) ws'
  unfolding with_successor
  with_successor_appended w₂ o ws' p e =
      let x = a.next in
      let z = p.next in
      let d = a.below in
      let or = a.order in
      let len = length-append (lower c (cells_of ws q)) (one c r) in
      let same : part w₂ s.at (s.to - s.at) ≡ upper c (cells_of ws q) =
      part_ext w₂ ws s.at s.at (s.to - s.at) (λ j h. p.text.before (s.at + j) (omega arith) ∙ a.text.before (s.at + j) (omega arith)) ∙ sym a.high in
      let j : Wrote (lower c (cells_of ws q) ++ one c r) (get_or ws (suc n) 0) ws w₂ =
      wrote_join (lower c (cells_of ws q)) (one c r) (get_or ws (suc n) 0) ws w w₂ a.text (subst (λ (t : ℕ). Wrote (one c r) t w w₂) x p.text) in
      subst (λ (t : List ℕ). Appended ws n t ws') (append_assoc (lower c (cells_of ws q)) (one c r) (past c (upper c (cells_of ws q))))
      (appended ws n (lower c (cells_of ws q) ++ one c r) w₂ (past c (upper c (cells_of ws q))) ws' o k.laid k.laid.few (omega arith) j
      (subst (λ (t : List ℕ). Ended w₂ n o (past c t) ws') same e))

groups_get : (b : ℕ) (p : List ℕ) (j : ℕ) → j < length p → get_or (groups b p) j 0 ≡ cell_of (b + j) (val_of (get_or p j 0))
groups_get b [] j h = absurd (omega arith)
groups_get b (x ∷ p) zero h = let z : b ≡ b + 0 = omega arith in ap (λ (t : ℕ). cell_of t (val_of x)) z
groups_get b (x ∷ p) (suc j) h =
    let z : suc b + j ≡ b + suc j = omega arith in
    groups_get (suc b) p j (omega arith) ∙ ap (λ (t : ℕ). cell_of t (val_of (get_or p j 0))) z

module _ (ws : List ℕ) (n q : ℕ) (p : List ℕ) (k : AppendAsks ws n q) (few : length p ≤ 22) (w : List ℕ) (s : Cut) (a : Lowered ws n q 64 w s) where
  low_short : length (lower 64 (cells_of ws q)) ≤ 63
  low_short = let z = lower_short 1 64 (cells_of ws q) (k.laid.sorted q k.state) (omega arith) in omega arith

  pub voice_fits : (s.out + length p ≤ length w) × (n + 2 < length w) × (s.out + length p ≤ 16777216)
  voice_fits =
      let x = a.next in
      let b = k.room in
      let l = a.text.long in
      let h = low_short in
      let st = k.laid.start in
      let nf = k.laid.few in
      let ri = begins_rise ws n 0 (suc n) k.laid (omega arith) (omega arith) in
      let sm = k.small in
      (omega arith, omega arith, omega arith)

  pub with_phones_appended : (w₂ : List ℕ) → Written (group_of p) s.out (length p) w w₂ → Appended ws n (with_phones p (cells_of ws q)) (set w₂ (n + 2) (s.out + length p))
  unfolding with_phones
  with_phones_appended w₂ v =
      let g = groups_length 64 p in
      appended ws n (lower 64 (cells_of ws q)) w (groups 64 p) (set w₂ (n + 2) (s.out + length p)) s.out k.laid k.laid.few a.next a.text
      (record {
        between = w₂;
        text = record {
          done = λ j h. v.done j (omega arith) ∙ sym (groups_get 64 p j (omega arith));
          before = v.before;
          after = λ x h. v.after x (omega arith);
          long = v.long;
        };
        last = ap (λ (t : ℕ). set w₂ (n + 2) (s.out + t)) (sym g);
      })

-- ---- following a name

pub letters_next : (name : Str) (i : ℕ) → i < length name → Letters (drop i name) → (0 < get_or name i 0) × (get_or name i 0 < 64) × Letters (drop (i + 1) name)
letters_next name i h l =
    let t = subst Letters (drop-cons name i 0 h) l in
    (t.0, t.1, subst (λ (x : ℕ). Letters (drop x name)) (sym (add-one i)) t.2)

-- the rest of the name, from q, ends where the whole does
pub record Following (ws : List ℕ) (n : ℕ) (name : Str) (q i : ℕ) : Type 0 where
  pub within : q ≤ n
  pub place : i ≤ length name
  pub rest : end_state (rows_of ws) n name ≡ end_state (rows_of ws) q (drop i name)
  pub letters : Letters (drop i name)

pub follow_next : (ws : List ℕ) (n : ℕ) (name : Str) (q i : ℕ) → EndAsks ws n name → Following ws n name q i → i < length name
    → (c r : ℕ) → c ≡ get_or name i 0 → r ≡ rows_of ws q c → Following ws n name r (i + 1)
follow_next ws n name q i a f h c r e g =
    let l = letters_next name i h f.letters in
    let w = f.within in
    let x = a.sound.earlier q (get_or name i 0) w l.1 in
    let y : r ≡ rows_of ws q (get_or name i 0) = g ∙ ap (λ (v : ℕ). rows_of ws q v) e in
    record {
      within = omega arith;
      place = omega arith;
      rest = f.rest ∙ (ap (end_state (rows_of ws) q) (drop-cons name i 0 h)
          ∙ (ap (λ (v : ℕ). end_state (rows_of ws) v (drop (suc i) name)) (sym y) ∙ ap (λ (v : ℕ). end_state (rows_of ws) r (drop v name)) (sym (add-one i))));
      letters = l.2;
    }

-- from 0 nothing leads on
blank_ends : (f : Rows) → ((k : ℕ) → k < 86 → f 0 k ≡ 0) → (w : Str) → Letters w → end_state f 0 w ≡ 0
blank_ends f b [] l = refl
blank_ends f b (c ∷ w) l = ap (λ (v : ℕ). end_state f v w) (b c (let h = l.1 in omega arith)) ∙ blank_ends f b w l.2

pub follow_none : (ws : List ℕ) (n : ℕ) (name : Str) (q i : ℕ) → EndAsks ws n name → Following ws n name q i → q ≡ 0 → 0 ≡ end_state (rows_of ws) n name
follow_none ws n name q i a f e =
    sym (f.rest ∙ (ap (λ (v : ℕ). end_state (rows_of ws) v (drop i name)) e ∙ blank_ends (rows_of ws) a.sound.blank (drop i name) f.letters))
