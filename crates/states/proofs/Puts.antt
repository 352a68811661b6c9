-- The change of one name, as its function makes it: what each call asks and what it gives.
-- Assumes nothing.
use mathlib.Core.Path.{◌≡◌, refl, sym, ap, ap₂, ◌∙◌, subst}
use mathlib.Core.Logic.{◌⊎◌, ⊎_elim}
use Prim.Native.Nat.{ℕ, zero, suc, ◌+◌, ◌-◌, ◌≤◌, ◌<◌, max}
use native.Mathlib.Omega.{arith}
use native.Mathlib.Numerals.{add-one}
use mathlib.Core.List.{List, [], ◌∷◌}
use lib.ListN.{length, get_or, set, drop, drop_of_length-le, length-drop, get_or-eq_default}
use lib.Seq.{get_or-set_same, get_or-set_other, drop-cons}
use Rattle.automaton.specs.Automaton.{Str, Rows, val_of, cells_of, rows_of, Sorted, Laid}
use Rattle.automaton.specs.Changes.{Phones, WithSuccessor, WithPhones, Put}
use Rattle.automaton.proofs.Tests.{by_less, by_same}
use Rattle.automaton.proofs.Change.{put_end, put_next}
use Rattle.states.specs.States.{FoundOrAdded, with_successor, with_phones, AppendAsks, Appended, Interned, PathOf, EndAsks, PutAsks, PutGives}
use Rattle.states.specs.declared.Placed.{Placed}
use Rattle.states.proofs.Cells.{val_self, sorted_length, with_successor_sorted, with_successor_other, with_successor_there, with_phones_sorted, with_phones_there, with_phones_other}
use Rattle.states.proofs.Rows.{letters_next, rows_kept, row_new, laid_new, begins_rise, Following, follow_next}

-- ---- the row after n, with_successor or with_phones

pub laid_less : (ws : List ℕ) (n : ℕ) → Laid ws (suc n) → Laid ws n
laid_less ws n l =
    let e = l.ends (suc n) (omega arith) in
    let i = l.inside in
    let f = l.few in
    record { few = omega arith; start = l.start; ends = λ q h. l.ends q (omega arith); inside = omega arith; sorted = λ q h. l.sorted q (omega arith) }

-- a row appended: it is laid, and has no more than 85 cells
pub record Grown (ws : List ℕ) (n : ℕ) (l ws' : List ℕ) : Type 0 where
  pub laid : Laid ws' (suc n)
  pub short : length l ≤ 85

grown : (ws : List ℕ) (n q : ℕ) (l ws' : List ℕ) → AppendAsks ws n q → Appended ws n l ws' → Sorted 1 l → Grown ws n l ws'
grown ws n q l ws' k a s =
    let z = sorted_length 1 l s (omega arith) in
    let r = k.room in
    let f = k.few in
    record { laid = laid_new ws n l ws' k.laid a (omega arith) s (omega arith); short = omega arith }

pub with_successor_grown : (ws : List ℕ) (n q c r : ℕ) (ws' : List ℕ) → AppendAsks ws n q → 0 < c → c < 64 → r < 5000 → Appended ws n (with_successor c r (cells_of ws q)) ws' → Grown ws n (with_successor c r (cells_of ws q)) ws'
with_successor_grown ws n q c r ws' k z l h a = grown ws n q (with_successor c r (cells_of ws q)) ws' k a (with_successor_sorted c r (cells_of ws q) (omega arith) z (omega arith) (k.laid.sorted q k.state))

pub with_successor_of : (ws : List ℕ) (n q c r : ℕ) (ws' : List ℕ) → AppendAsks ws n q → 0 < c → c < 64 → r < 5000 → Appended ws n (with_successor c r (cells_of ws q)) ws' → WithSuccessor (rows_of ws) (rows_of ws') n q c r
unfolding rows_of
with_successor_of ws n q c r ws' k z l h a =
    let f = k.few in
    record {
      keeps = rows_kept ws n (with_successor c r (cells_of ws q)) ws' k.laid a (omega arith);
      there = row_new ws n (with_successor c r (cells_of ws q)) ws' k.laid a (omega arith) c ∙ with_successor_there c r 1 (cells_of ws q) (omega arith) (k.laid.sorted q k.state);
      others = λ j b ne. row_new ws n (with_successor c r (cells_of ws q)) ws' k.laid a (omega arith) j ∙ with_successor_other c r (cells_of ws q) j (omega arith) ne;
    }

group_is : (p : Str) → Phones p → (k : ℕ) → val_of (get_or p k 0) ≡ get_or p k 0
group_is p t k =
    by_less k (length p)
    (λ h. val_self (get_or p k 0) (t.bytes k h))
    (λ h. let e : get_or p k 0 ≡ 0 = get_or-eq_default p 0 h in val_self (get_or p k 0) (omega arith))

group_some : (p : Str) → Phones p → (k : ℕ) → k < length p → 0 < val_of (get_or p k 0)
group_some p t k h = let e = group_is p t k in let s = t.sounded k h in omega arith

pub with_phones_grown : (ws : List ℕ) (n q : ℕ) (p : Str) (ws' : List ℕ) → AppendAsks ws n q → Phones p → Appended ws n (with_phones p (cells_of ws q)) ws' → Grown ws n (with_phones p (cells_of ws q)) ws'
with_phones_grown ws n q p ws' k t a = grown ws n q (with_phones p (cells_of ws q)) ws' k a (with_phones_sorted p (cells_of ws q) t.few (group_some p t) (k.laid.sorted q k.state))

pub with_phones_of : (ws : List ℕ) (n q : ℕ) (p : Str) (ws' : List ℕ) → AppendAsks ws n q → Phones p → Appended ws n (with_phones p (cells_of ws q)) ws' → WithPhones (rows_of ws) (rows_of ws') n q p
unfolding rows_of
with_phones_of ws n q p ws' k t a =
    let f = k.few in
    record {
      keeps = rows_kept ws n (with_phones p (cells_of ws q)) ws' k.laid a (omega arith);
      there = λ j b. row_new ws n (with_phones p (cells_of ws q)) ws' k.laid a (omega arith) (64 + j) ∙ (with_phones_there p (cells_of ws q) j ∙ group_is p t j);
      others = λ j b. row_new ws n (with_phones p (cells_of ws q)) ws' k.laid a (omega arith) j ∙ with_phones_other p (cells_of ws q) j t.few (group_some p t) (k.laid.sorted q k.state) b;
    }

-- the row after n is laid, so that it can be looked for
pub phones_settle : (ws : List ℕ) (n q : ℕ) (p : Str) (ws' : List ℕ) → AppendAsks ws n q → Phones p → Appended ws n (with_phones p (cells_of ws q)) ws' → Laid ws' (n + 1)
phones_settle ws n q p ws' k t v = let z : suc n ≡ n + 1 = omega arith in subst (Laid ws') z (with_phones_grown ws n q p ws' k t v).laid

pub successor_settle : (ws : List ℕ) (n q c r : ℕ) (ws' : List ℕ) → AppendAsks ws n q × (0 < c) × (c < 64) × (r < 5000) → Appended ws n (with_successor c r (cells_of ws q)) ws' → Laid ws' (n + 1)
successor_settle ws n q c r ws' k v = let z : suc n ≡ n + 1 = omega arith in subst (Laid ws') z (with_successor_grown ws n q c r ws' k.0 k.1 k.2 k.3 v).laid

-- what lies in front of the last row in use
module _ (ws : List ℕ) (n : ℕ) (l ws' : List ℕ) (r : Placed) (few : n < 4180) (a : Appended ws n l ws') (g : Grown ws n l ws') (s : FoundOrAdded ws' n r) where
  top_is : (r.top ≡ n) ⊎ (r.top ≡ suc n)
  top_is =
      let t = s.top in
      let w = s.first.within in
      by_less n r.root (λ h. ◌⊎◌.inr (omega arith)) (λ h. ◌⊎◌.inl (omega arith))

  pub laid_top : Laid ws' r.top
  laid_top =
      ⊎_elim
      (λ e. subst (Laid ws') (sym e) (laid_less ws' n g.laid))
      (λ e. subst (Laid ws') (sym e) g.laid) top_is

  pub end_top : get_or ws' (suc r.top) 0 ≤ get_or ws (suc n) 0 + 85
  end_top =
      let sh = g.short in
      let st = a.stop in
      ⊎_elim
      (λ e. let x : get_or ws' (suc r.top) 0 ≡ get_or ws' (suc n) 0 = ap (λ (t : ℕ). get_or ws' (suc t) 0) e in let y = a.begins (suc n) (omega arith) (λ q. omega arith) in omega arith)
      (λ e. let x : get_or ws' (suc r.top) 0 ≡ get_or ws' (suc (suc n)) 0 = ap (λ (t : ℕ). get_or ws' (suc t) 0) e in omega arith) top_is

-- ---- the change

module _ (ws : List ℕ) (n q : ℕ) (name : Str) (from : ℕ) (p : Str) (a : PutAsks ws n q name from p) where
  pub put_letter : (from ≡ length name → ⊥) → (c : ℕ) → c ≡ get_or name from 0 → (0 < c) × (c < 64) × (from < length name)
  put_letter ne c e =
      let h = a.place in
      let l = letters_next name from (omega arith) a.letters in
      let x = l.0 in
      let y = l.1 in
      (omega arith, omega arith, omega arith)

  pub below_asks : (from ≡ length name → ⊥) → (c x : ℕ) → c ≡ get_or name from 0 → x ≡ rows_of ws q c → PutAsks ws n x name (from + 1) p
  below_asks ne c x e g =
      let h = a.place in
      let l = letters_next name from (omega arith) a.letters in
      let k = put_letter ne c e in
      let z = k.1 in
      let y = a.sound.earlier q c a.inside z in
      let i = a.inside in
      let r = a.room in
      record {
        sound = a.sound;
        laid = a.laid;
        inside = omega arith;
        states = a.states;
        few = a.few;
        place = omega arith;
        room = omega arith;
        small = a.small;
        letters = l.2;
        phones = a.phones;
      }

  pub end_asks : AppendAsks ws n q
  end_asks = let s = a.states in let r = a.room in record { laid = a.laid; state = a.inside; few = omega arith; room = omega arith; small = a.small }

  put_top : (m i : ℕ) (g : Rows) (r : Placed) → r.root ≡ i → r.top ≡ max m i → (nm : Str) → Put (rows_of ws) n q nm p g (max m i) i → Put (rows_of ws) n q nm p g r.top r.root
  put_top m i g r e t nm u = subst (λ (x : ℕ). Put (rows_of ws) n q nm p g x r.root) (sym t) (subst (λ (x : ℕ). Put (rows_of ws) n q nm p g (max m i) x) (sym e) u)

  pub end_gives : from ≡ length name → (ws' : List ℕ) (r : Placed) → Interned ws n (with_phones p (cells_of ws q)) ws' r → PutGives ws n q name from p ws' r
  end_gives e ws' r i =
      let v = i.row in
      let s = i.found in
      let d : [] ≡ drop from name = sym (drop_of_length-le name {i = from} (omega arith)) in
      let st = a.states in
      let g = with_phones_grown ws n q p ws' end_asks a.phones v in
      let sh = g.short in
      let en = end_top ws n (with_phones p (cells_of ws q)) ws' r (omega arith) v g s in
      record {
        rows = subst (λ (x : Str). Put (rows_of ws) n q x p (rows_of ws') r.top r.root) d
            (put_top n r.root (rows_of ws') r refl s.top []
            (put_end (rows_of ws) n q p (rows_of ws') r.root a.sound a.inside a.phones (with_phones_of ws n q p ws' end_asks a.phones v) s.first));
        laid = laid_top ws n (with_phones p (cells_of ws q)) ws' r (omega arith) v g s;
        grown = omega arith;
        begins = λ x h o. v.begins x h (λ q. ⊎_elim (λ b. omega arith) (λ b. omega arith) o);
        before = v.before;
        after = λ x l. v.after x (omega arith);
        long = v.long;
      }

  module _ (ne : from ≡ length name → ⊥) (c x : ℕ) (e : c ≡ get_or name from 0) (g : x ≡ rows_of ws q c) (m : List ℕ) (b : Placed) (u : PutGives ws n x name (from + 1) p m b) where
    len : length (drop (from + 1) name) ≡ length name - (from + 1)
    len = length-drop (from + 1) name

    pub next_asks : AppendAsks m b.top q × (0 < c) × (c < 64) × (b.root < 5000)
    next_asks =
        let h = a.place in
        let o = u.rows in
        let w = o.most in
        let lo = o.least in
        let ro = o.root in
        let i = a.inside in
        let st = a.states in
        let fw = a.few in
        let rm = a.room in
        let gr = u.grown in
        let lg = u.long in
        let sm = a.small in
        let k = put_letter ne c e in
        let y = len in
        (record { laid = u.laid; state = omega arith; few = omega arith; room = omega arith; small = omega arith }, k.0, k.1, omega arith)

    kept_end : get_or ws (suc n) 0 ≤ get_or m (suc b.top) 0
    kept_end =
        let lo = u.rows.least in
        let st = a.states in
        let x = u.begins (suc n) (omega arith) (◌⊎◌.inl (omega arith)) in
        let y = begins_rise m b.top (suc n) (suc b.top) u.laid (omega arith) (omega arith) in
        omega arith

    pub next_gives : (ws' : List ℕ) (r : Placed) → Interned m b.top (with_successor c b.root (cells_of m q)) ws' r → PutGives ws n q name from p ws' r
    next_gives ws' r i =
        let t = i.row in
        let s = i.found in
        let h = a.place in
        let k = put_letter ne c e in
        let z = k.0 in
        let y = k.1 in
        let d : drop from name ≡ c ∷ drop (from + 1) name = drop-cons name from 0 (omega arith) ∙ ap₂ (λ (v : ℕ) (l : Str). v ∷ l) (sym e) (ap (λ (v : ℕ). drop v name) (sym (add-one from))) in
        let o = u.rows in
        let j : Put (rows_of ws) n (rows_of ws q c) (drop (from + 1) name) p (rows_of m) b.top b.root = subst (λ (v : ℕ). Put (rows_of ws) n v (drop (from + 1) name) p (rows_of m) b.top b.root) g o in
        let w = o.most in
        let lo = o.least in
        let ll = len in
        let na = next_asks in
        let few = na.0.few in
        let gr = with_successor_grown m b.top q c b.root ws' na.0 z y na.3 t in
        let sh = gr.short in
        let ug = u.grown in
        let en = end_top m b.top (with_successor c b.root (cells_of m q)) ws' r few t gr s in
        let ue = kept_end in
        record {
          rows = subst (λ (v : Str). Put (rows_of ws) n q v p (rows_of ws') r.top r.root) (sym d)
              (put_top b.top r.root (rows_of ws') r refl s.top (c ∷ drop (from + 1) name)
              (put_next (rows_of ws) n q c (drop (from + 1) name) p (rows_of m) b.top b.root (rows_of ws') r.root a.sound a.inside z y j
              (with_successor_of m b.top q c b.root ws' na.0 z y na.3 t) s.first));
          laid = laid_top m b.top (with_successor c b.root (cells_of m q)) ws' r few t gr s;
          grown = omega arith;
          begins = λ v l o. t.begins v l (λ q. ⊎_elim (λ b. omega arith) (λ b. omega arith) o) ∙ u.begins v l (⊎_elim (λ b. ◌⊎◌.inl b) (λ b. ◌⊎◌.inr (let z : n + (length name - (from + 1)) + 2 < v = omega arith in z)) o);
          before = λ v l f. t.before v l (omega arith) ∙ u.before v l f;
          after = λ v l. t.after v (omega arith) ∙ u.after v (omega arith);
          long = t.long ∙ u.long;
        }

-- ---- the states on a name's way

-- q is the state after i letters, and the states before it stand in the path
pub record Tracing (ws : List ℕ) (n : ℕ) (name : Str) (path : List ℕ) (q i : ℕ) : Type 0 where
  pub follows : Following ws n name q i
  pub filled : PathOf ws n name i path
  pub here : get_or path i 0 ≡ q

-- one state more: r after the next letter
pub trace_next : (ws : List ℕ) (n : ℕ) (name : Str) (path : List ℕ) (q i : ℕ) → EndAsks ws n name → Tracing ws n name path q i → i < length name → i + 1 < length path
    → (c r : ℕ) → c ≡ get_or name i 0 → r ≡ rows_of ws q c → Tracing ws n name (set path (i + 1) r) r (i + 1)
trace_next ws n name path q i k a o l c r g h =
    let there : get_or (set path (i + 1) r) (i + 1) 0 ≡ r = get_or-set_same path (i + 1) r 0 l in
    let kept : (j : ℕ) → j ≤ i → get_or (set path (i + 1) r) j 0 ≡ get_or path j 0 = λ j o. get_or-set_other path (i + 1) j r 0 (omega arith) in
    record {
      follows = follow_next ws n name q i k a.follows o c r g h;
      filled = record {
        start = kept 0 (omega arith) ∙ a.filled.start;
        next = λ j o. by_same j i
            (λ z.
            let y : suc j ≡ i + 1 = omega arith in
            ap (λ (t : ℕ). get_or (set path (i + 1) r) t 0) y
            ∙ (there ∙ (h ∙ ap₂ (rows_of ws) (sym (kept j (omega arith) ∙ (ap (λ (t : ℕ). get_or path t 0) z ∙ a.here))) (g ∙ ap (λ (t : ℕ). get_or name t 0) (sym z)))))
            (λ ne. kept (suc j) (omega arith) ∙ (a.filled.next j (omega arith) ∙ ap (λ (t : ℕ). rows_of ws t (get_or name j 0)) (sym (kept j (omega arith)))));
      };
      here = there;
    }

module _ (ws : List ℕ) (n : ℕ) (name p : Str) (a : PutAsks ws n n name 0 p) (path : List ℕ) (t : PathOf ws n name (length name) path) where
  -- from each state on the way, the rest of the name may be changed
  pub path_asks : (i : ℕ) → i ≤ length name → PutAsks ws n (get_or path i 0) name i p
  path_asks zero h = subst (λ (q : ℕ). PutAsks ws n q name 0 p) (sym t.start) a
  path_asks (suc i) h =
      let z : i + 1 ≡ suc i = omega arith in
      subst (λ (j : ℕ). PutAsks ws n (get_or path (suc i) 0) name j p) z
      (below_asks ws n (get_or path i 0) name i p (path_asks i (omega arith)) (λ e. omega arith) (get_or name i 0) (get_or path (suc i) 0) refl (t.next i h))

  -- the change from the name's end on
  module _ (last : ℕ) (e : last ≡ get_or path (length name) 0) where
    last_asks : PutAsks ws n last name (length name) p
    last_asks = subst (λ (q : ℕ). PutAsks ws n q name (length name) p) (sym e) (path_asks (length name) (omega arith))

    pub start_asks : AppendAsks ws n last × Phones p
    start_asks = (end_asks ws n last name (length name) p last_asks, a.phones)

    pub start_gives : (w : List ℕ) (b : Placed) → Interned ws n (with_phones p (cells_of ws last)) w b → PutGives ws n (get_or path (length name) 0) name (length name) p w b
    start_gives w b i = subst (λ (q : ℕ). PutGives ws n q name (length name) p w b) e (end_gives ws n last name (length name) p last_asks refl w b i)

module _ (ws : List ℕ) (n : ℕ) (name p : Str) (a : PutAsks ws n n name 0 p) (path : List ℕ) (t : PathOf ws n name (length name) path) (i c q : ℕ) (h : 0 < i) (l : i ≤ length name)
    (e : c ≡ get_or name (i - 1) 0) (g : q ≡ get_or path (i - 1) 0) where
  before_asks : PutAsks ws n q name (i - 1) p
  before_asks = subst (λ (x : ℕ). PutAsks ws n x name (i - 1) p) (sym g) (path_asks ws n name p a path t (i - 1) (omega arith))

  leads : get_or path i 0 ≡ rows_of ws q c
  leads =
      let z : i ≡ suc (i - 1) = omega arith in
      ap (λ (x : ℕ). get_or path x 0) z ∙ (t.next (i - 1) (omega arith) ∙ ap₂ (rows_of ws) (sym g) (sym e))

  module _ (m : List ℕ) (b : Placed) (u : PutGives ws n (get_or path i 0) name i p m b) where
    there : PutGives ws n (get_or path i 0) name (i - 1 + 1) p m b
    there = let z : i ≡ i - 1 + 1 = omega arith in subst (λ (x : ℕ). PutGives ws n (get_or path i 0) name x p m b) z u

    pub back_asks : AppendAsks m b.top q × (0 < c) × (c < 64) × (b.root < 5000)
    back_asks = next_asks ws n q name (i - 1) p before_asks (λ o. omega arith) c (get_or path i 0) e leads m b there

    pub back_gives : (ws' : List ℕ) (r : Placed) → Interned m b.top (with_successor c b.root (cells_of m q)) ws' r → PutGives ws n (get_or path (i - 1) 0) name (i - 1) p ws' r
    back_gives ws' r o =
        subst (λ (x : ℕ). PutGives ws n x name (i - 1) p ws' r) g
        (next_gives ws n q name (i - 1) p before_asks (λ o. omega arith) c (get_or path i 0) e leads m b there ws' r o)

-- where a change of the name from its end on led to w₀, the change from place i on leads to w
pub record Along (n : ℕ) (name p path w₀ : Str) (b₀ : Placed) (i : ℕ) (w : Str) (b : Placed) : Type 0 where
  pub place : i ≤ length name
  pub gives : (ws : List ℕ) → PutAsks ws n n name 0 p → PathOf ws n name (length name) path
      → PutGives ws n (get_or path (length name) 0) name (length name) p w₀ b₀ → PutGives ws n (get_or path i 0) name i p w b

pub along_next : (n : ℕ) (name p path w₀ : Str) (b₀ : Placed) (i : ℕ) (w : Str) (b : Placed) → Along n name p path w₀ b₀ i w b → 0 < i → (c q : ℕ) → c ≡ get_or name (i - 1) 0 → q ≡ get_or path (i - 1) 0
    → (w' : Str) (r : Placed) → Interned w b.top (with_successor c b.root (cells_of w q)) w' r → Along n name p path w₀ b₀ (i - 1) w' r
along_next n name p path w₀ b₀ i w b a h c q e g w' r o =
    let l = a.place in
    record {
      place = omega arith;
      gives = λ ws k t u. back_gives ws n name p k path t i c q h l e g w b (a.gives ws k t u) w' r o;
    }

pub along_end : (n : ℕ) (name p path w₀ : Str) (b₀ : Placed) (i : ℕ) (w : Str) (b : Placed) → Along n name p path w₀ b₀ i w b → i ≤ 0
    → (ws : List ℕ) → PutAsks ws n n name 0 p → PathOf ws n name (length name) path
    → PutGives ws n (get_or path (length name) 0) name (length name) p w₀ b₀ → PutGives ws n n name 0 p w b
along_end n name p path w₀ b₀ i w b a h ws k t u =
    let z : i ≡ 0 = omega arith in
    subst (λ (q : ℕ). PutGives ws n q name 0 p w b) t.start (subst (λ (j : ℕ). PutGives ws n (get_or path j 0) name j p w b) z (a.gives ws k t u))
