-- The prefixes of a pattern are numbered one after the other: one step of the numbering, and the loop over a pattern.
-- Assumes nothing.
use mathlib.Core.Path.{◌≡◌, refl, sym, ap, ap₂, ◌∙◌, subst}
use mathlib.Core.Logic.{◌≢◌, ◌⊎◌, inl, inr}
use Prim.Native.Nat.{ℕ, zero, suc, ◌+◌, ◌*◌, ◌≤◌, ◌<◌}
use native.Mathlib.Omega.{arith}
use native.Mathlib.Decide.{dec_le}
use native.Mathlib.Numerals.{add-one}
use mathlib.Core.Bool.{true, false, or-true}
use mathlib.Core.List.{List, [], ◌∷◌, ◌++◌, append-nil}
use lib.Dec.{eqb, eqb→eq}
use lib.ListN.{length, get_or, take, drop, length-append, length-take, length-drop, take-append-drop}
use lib.Seq.{append_snoc, take-suc, take_all, get_or-take, get_or-drop}
use borrow.Author.Tests.{eqb-false}
use Rattle.tables.specs.Words.{row_size}
use Rattle.rules.proofs.Cases.{by_bool}
use Rattle.fitting.specs.Fitting.{Str}
use Rattle.tables.specs.States.{member, index, number_one, states, numbered, child, right_states}
use Rattle.tables.proofs.Trie.{distinct, insert}
use Rattle.tables.proofs.Truth.{clash, true_eq}
use Rattle.tables.proofs.Suffix.{same_refl, Closed}
use Rattle.tables.proofs.Count.{Within, states_length}
use Rattle.tables.proofs.Numbering.{member_append, get_d_index, index_lt, index_new, numbered_closed, numbered_nil, numbered_pattern, distinct_states, index_nil}
use Rattle.tables.proofs.Build.{child_new, child_kept, child_fresh, other_string, child_none, states_more}
use Rattle.rules.specs.Limits.{max_pattern}
use Rattle.side.specs.Patterns.{pattern_at, patterns_of, Patterns, state_count}
use Rattle.side.specs.Steps.{Children, NewChild, Step}

-- ---- one step

module _ (st : List Str) (root : member [] st ≡ true) (once : distinct st ≡ true) (closed : Closed (numbered st)) (zeroth : index [] st ≡ 0)
    (q c : ℕ) (h : q < length st) (small : c < row_size) (look look' : ℕ → ℕ → ℕ) (nb : Children st look) (r m : ℕ) (d : Step look look' q (length st) c r m) where
  abbrev new : Str
  new = get_or st q [] ++ (c ∷ [])

  pub record Stepped (st' : List Str) : Type 0 where
    pub state : r ≡ index new st'
    pub count : m ≡ length st'
    pub rows : Children st' look'

  is_child : look q c ≡ child st q c
  is_child = nb.children q c h small

  old : member new st ≡ true → Stepped st
  old t =
      let f = d.found (λ z. clash t (child_none st root closed zeroth q c (sym is_child ∙ z))) in
      record {
        state = f.0 ∙ is_child ∙ rw t;
        count = f.1.0;
        rows = record { children = λ k e l o. f.1.1 k e l o ∙ nb.children k e l o };
      }

  module _ (t : member new st ≡ false) where
    made : (r ≡ length st) × ((m ≡ length st + 1) × NewChild look look' q (length st) c)
    made = d.made (is_child ∙ rw t)

    one_more : length (st ++ (new ∷ [])) ≡ length st + 1
    one_more = length-append st (new ∷ [])

    -- the other children of the old states
    other : (k e : ℕ) → k < length st → e < row_size → (k ≢ q) ⊎ (e ≢ c) → look' k e ≡ child (st ++ (new ∷ [])) k e
    other k e l o n =
        made.1.1.other k e l o n ∙ nb.children k e l o
        ∙ sym (child_kept st once closed q c h t k e l (other_string st once closed q c h t k e l n))

    old_row : (k e : ℕ) → k < length st → e < row_size → look' k e ≡ child (st ++ (new ∷ [])) k e
    old_row k e l o =
        by_bool (eqb k q)
        (λ u. by_bool (eqb e c)
        (λ v.
        let a : k ≡ q = eqb→eq k q (true_eq (eqb k q) u) in
        let b : e ≡ c = eqb→eq e c (true_eq (eqb e c) v) in
        ap₂ look' a b ∙ made.1.1.child ∙ sym (child_new st once closed q c h t) ∙ sym (ap₂ (child (st ++ (new ∷ []))) a b))
        (λ v. other k e l o (inr (eqb-false e c v))))
        (λ u. other k e l o (inl (eqb-false k q u)))

    fresh : Stepped (st ++ (new ∷ []))
    fresh =
        record {
          state = made.0 ∙ sym (index_new new st t);
          count = made.1.0 ∙ sym one_more;
          rows = record { children = λ k e l o. both k e l o (dec_le (suc k) (length st)) };
        }
      where
        both : (k e : ℕ) → k < length (st ++ (new ∷ [])) → e < row_size → Dec (k < length st) → look' k e ≡ child (st ++ (new ∷ [])) k e
        both k e l o (yes y) = old_row k e y o
        both k e l o (no y) =
            let a : k ≡ length st = omega (arith, one_more) in
            ap (λ (v : ℕ). look' v e) a ∙ made.1.1.row e o ∙ sym (child_fresh st once closed q c h t e) ∙ sym (ap (λ (v : ℕ). child (st ++ (new ∷ [])) v e) a)

  pub step : Stepped (number_one st new)
  step =
      by_bool (member new st)
      (λ t. rw t (old t))
      (λ t. rw t (fresh t))

-- ---- longer and longer prefixes of a pattern

insert_snoc : (w : Str) (st : List Str) (s : Str) (c : ℕ) → insert st s (w ++ (c ∷ [])) ≡ number_one (insert st s w) (s ++ (w ++ (c ∷ [])))
insert_snoc [] st s c = refl
insert_snoc (x ∷ w) st s c =
    insert_snoc w (number_one st (s ++ (x ∷ []))) (s ++ (x ∷ [])) c
    ∙ ap (number_one (insert (number_one st (s ++ (x ∷ []))) (s ++ (x ∷ [])) w)) (append_snoc s x (w ++ (c ∷ [])))

insert_append : (a b : Str) (st : List Str) (s : Str) → insert st s (a ++ b) ≡ insert (insert st s a) (s ++ a) b
insert_append [] b st s = ap (λ (t : Str). insert st t b) (sym (append-nil s))
insert_append (x ∷ a) b st s =
    insert_append a b (number_one st (s ++ (x ∷ []))) (s ++ (x ∷ []))
    ∙ ap (λ (t : Str). insert (insert (number_one st (s ++ (x ∷ []))) (s ++ (x ∷ [])) a) t b) (append_snoc s x a)

one_grows : (st : List Str) (x : Str) → length st ≤ length (number_one st x)
one_grows st x = by_bool (member x st) (λ t. rw t (omega arith)) (λ t. rw t (omega (arith, length-append st (x ∷ []))))

insert_grows : (r : Str) (st : List Str) (s : Str) → length st ≤ length (insert st s r)
insert_grows [] st s = omega arith
insert_grows (c ∷ r) st s = omega (arith, one_grows st (s ++ (c ∷ [])), insert_grows r (number_one st (s ++ (c ∷ []))) (s ++ (c ∷ [])))

-- one pattern more gives no fewer states
pub states_grow : (pats : List Str) (p : Str) → length (states pats) ≤ length (states (pats ++ (p ∷ [])))
states_grow pats p = rw (states_more pats p) (insert_grows p (states pats) [])

module _ (pats : List Str) (p : Str) where
  -- the states once the first m symbols are numbered
  abbrev pub upto : ℕ → List Str
  upto m = states (pats ++ (take m p ∷ []))

  pub upto_zero : upto 0 ≡ states pats
  upto_zero = states_more pats []

  pub upto_next : (m : ℕ) → m < length p → upto (m + 1) ≡ number_one (upto m) (take m p ++ (get_or p m 0 ∷ []))
  upto_next m h =
      let e : take (m + 1) p ≡ take m p ++ (get_or p m 0 ∷ []) = ap (λ (k : ℕ). take k p) (add-one m) ∙ take-suc p m 0 h in
      states_more pats (take (m + 1) p) ∙ ap (insert (states pats) []) e
      ∙ insert_snoc (take m p) (states pats) [] (get_or p m 0)
      ∙ ap (λ (l : List Str). number_one l (take m p ++ (get_or p m 0 ∷ []))) (sym (states_more pats (take m p)))

  pub upto_few : (m : ℕ) → length (upto m) ≤ length (states (pats ++ (p ∷ [])))
  upto_few m =
      rw (states_more pats (take m p), states_more pats p)
      (subst (λ (w : Str). length (insert (states pats) [] (take m p)) ≤ length (insert (states pats) [] w)) (take-append-drop m p)
      (rw (insert_append (take m p) (drop m p) (states pats) []) (insert_grows (drop m p) (insert (states pats) [] (take m p)) (take m p))))

  pub has-prefix : (m : ℕ) → member (take m p) (upto m) ≡ true
  has-prefix m =
      numbered_pattern (pats ++ (take m p ∷ [])) (take m p)
      (member_append (take m p) pats (take m p ∷ []) ∙ rw (same_refl (take m p)) (or-true (member (take m p) pats)))

  -- the first m symbols are numbered: q is their state, and n the states
  pub record Inserting (look : ℕ → ℕ → ℕ) (q n m : ℕ) : Type 0 where
    pub reached : m ≤ length p
    pub state : q ≡ index (take m p) (upto m)
    pub count : n ≡ length (upto m)
    pub rows : Children (upto m) look

  pub begin : (look : ℕ → ℕ → ℕ) (n : ℕ) → Children (states pats) look → n ≡ length (states pats) → Inserting look 0 n 0
  begin look n nb f =
      record {
        reached = omega arith;
        state = sym (ap (index []) upto_zero ∙ index_nil pats);
        count = f ∙ ap length (sym upto_zero);
        rows = subst (λ (l : List Str). Children l look) (sym upto_zero) nb;
      }

  module _ (look : ℕ → ℕ → ℕ) (q n m : ℕ) (i : Inserting look q n m) where
    pub below : q < n
    below = let l = index_lt (take m p) (upto m) (has-prefix m) in omega (arith, i.state, i.count)

    str : get_or (upto m) q [] ≡ take m p
    str = ap (λ (k : ℕ). get_or (upto m) k []) i.state ∙ get_d_index (take m p) (upto m) (has-prefix m)

    module _ (h : m < length p) (small : get_or p m 0 < row_size) where
      -- where there is no child there is one state more to come
      pub more : look q (get_or p m 0) ≡ 0 → length (upto (m + 1)) ≡ n + 1
      more z =
          let c = get_or p m 0 in
          let lt : q < length (upto m) = omega (arith, below, i.count) in
          let f : member (take m p ++ (c ∷ [])) (upto m) ≡ false =
          subst (λ (w : Str). member (w ++ (c ∷ [])) (upto m) ≡ false) str
          (child_none (upto m) (numbered_nil (pats ++ (take m p ∷ []))) (numbered_closed (pats ++ (take m p ∷ []))) (index_nil (pats ++ (take m p ∷ []))) q c
          (sym (i.rows.children q c lt small) ∙ z)) in
          ap length (upto_next m h) ∙ rw f (length-append (upto m) ((take m p ++ (c ∷ [])) ∷ [])) ∙ ap (λ (k : ℕ). k + 1) (sym i.count)

      pub next : (look' : ℕ → ℕ → ℕ) (r n' : ℕ) → Step look look' q n (get_or p m 0) r n' → (Inserting look' r n' (m + 1)) × (n ≤ n')
      next look' r n' d =
          let c = get_or p m 0 in
          let st = upto m in
          let pm = pats ++ (take m p ∷ []) in
          let e : number_one st (get_or st q [] ++ (c ∷ [])) ≡ upto (m + 1) = ap (λ (w : Str). number_one st (w ++ (c ∷ []))) str ∙ sym (upto_next m h) in
          let s = step st (numbered_nil pm) (distinct_states pm) (numbered_closed pm) (index_nil pm) q c (omega (arith, below, i.count)) small look look' i.rows r n' (subst (λ (k : ℕ). Step look look' q k c r n') i.count d) in (
            record {
              reached = omega arith;
              state = s.state ∙ ap₂ index (ap (λ (w : Str). w ++ (c ∷ [])) str ∙ sym (ap (λ (k : ℕ). take k p) (add-one m) ∙ take-suc p m 0 h)) e;
              count = s.count ∙ ap length e;
              rows = subst (λ (l : List Str). Children l look') e s.rows;
            },
            omega (arith, one_grows st (get_or st q [] ++ (c ∷ [])), s.count, i.count),
          )

    pub finished : length p ≤ m → (n ≡ length (states (pats ++ (p ∷ [])))) × (Children (states (pats ++ (p ∷ []))) look)
    finished h =
        let e : take m p ≡ p = take_all m p h in (
          i.count ∙ ap (λ (w : Str). length (states (pats ++ (w ∷ [])))) e,
          subst (λ (w : Str). Children (states (pats ++ (w ∷ []))) look) e i.rows,
        )

-- ---- the patterns as they lie

pub patterns_next : (ps ls : List ℕ) (i : ℕ) → patterns_of ps ls (i + 1) ≡ patterns_of ps ls i ++ (pattern_at ps ls i ∷ [])
unfolding patterns_of
patterns_next ps ls i = rw add-one

pub patterns_length : (ps ls : List ℕ) (n : ℕ) → length (patterns_of ps ls n) ≡ n
unfolding patterns_of
patterns_length ps ls zero = refl
patterns_length ps ls (suc n) = omega (arith, length-append (patterns_of ps ls n) (pattern_at ps ls n ∷ []), patterns_length ps ls n)

pub patterns_less : (ps ls : List ℕ) (k n : ℕ) → k ≤ n → Patterns ps ls n → Patterns ps ls k
patterns_less ps ls k n h p =
    record {
      few = omega (arith, p.few);
      room = omega (arith, p.room);
      lens = omega (arith, p.lens);
      short = λ i l. p.short i (omega arith);
      small = λ j l. p.small j (omega arith);
    }

-- more patterns have no fewer states
pub count-grows : (ps ls : List ℕ) (k n : ℕ) → k ≤ n → state_count ps ls k ≤ state_count ps ls n
unfolding patterns_of
count-grows ps ls k zero h = let e : k ≡ 0 = omega arith in rw e (omega arith)
count-grows ps ls k (suc n) h = go (dec_le k n) (λ y. count-grows ps ls k n y)
  where
    go : Dec (k ≤ n) → (k ≤ n → state_count ps ls k ≤ state_count ps ls n) → state_count ps ls k ≤ state_count ps ls (suc n)
    go (yes y) f = omega (arith, f y, states_grow (patterns_of ps ls n) (pattern_at ps ls n))
    go (no y) f = let e : k ≡ suc n = omega arith in rw e (omega arith)

module _ (ps ls : List ℕ) (n : ℕ) (ok : Patterns ps ls n) where
  module _ (i : ℕ) (h : i < n) where
    pub pattern_length : length (pattern_at ps ls i) ≡ get_or ls i 0
    pattern_length =
        let a = ok.short i h in
        let b = ok.room in
        simp (length-take, length-drop) (omega arith)

    pub pattern_symbol : (m : ℕ) → m < get_or ls i 0 → get_or (pattern_at ps ls i) m 0 ≡ get_or ps (max_pattern * i + m) 0
    pattern_symbol m l = get_or-take (get_or ls i 0) (drop (max_pattern * i) ps) m 0 l ∙ get_or-drop (max_pattern * i) ps m 0

    pub symbol_small : (m : ℕ) → m < get_or ls i 0 → get_or ps (max_pattern * i + m) 0 < row_size
    symbol_small m l = ok.small (max_pattern * i + m) (omega (arith, ok.short i h))

within_snoc : (b : ℕ) (l : List Str) (x : Str) → Within b l → length x ≤ b → Within b (l ++ (x ∷ []))
unfolding Within
within_snoc b [] x w h = (h, tt)
within_snoc b (y ∷ l) x w h = (w.0, within_snoc b l x w.1 h)

within_all : (ps ls : List ℕ) (n : ℕ) → Patterns ps ls n → Within max_pattern (patterns_of ps ls n)
unfolding Within patterns_of
within_all ps ls zero ok = tt
within_all ps ls (suc n) ok =
    within_snoc max_pattern (patterns_of ps ls n) (pattern_at ps ls n) (within_all ps ls n (patterns_less ps ls n (suc n) (omega arith) ok))
    (omega (arith, pattern_length ps ls (suc n) ok n (omega arith), ok.short n (omega arith)))

pub count-few : (ps ls : List ℕ) (n : ℕ) → Patterns ps ls n → state_count ps ls n ≤ right_states
count-few ps ls n ok = omega (arith, states_length max_pattern (patterns_of ps ls n) (within_all ps ls n ok), patterns_length ps ls n, ok.few)

-- ---- the symbols of pattern i, as they lie

module _ (ps ls : List ℕ) (i : ℕ) where
  -- m of them are numbered
  abbrev pub Symbols : (ℕ → ℕ → ℕ) → ℕ → ℕ → ℕ → Type 0
  Symbols look q n m = Inserting (patterns_of ps ls i) (pattern_at ps ls i) look q n m

  as_states : state_count ps ls (i + 1) ≡ length (states (patterns_of ps ls i ++ (pattern_at ps ls i ∷ [])))
  as_states = ap (λ (l : List Str). length (states l)) (patterns_next ps ls i)

  module _ (ok : Patterns ps ls (i + 1)) (look : ℕ → ℕ → ℕ) (q n m : ℕ) (s : Symbols look q n m) where
    len_is : length (pattern_at ps ls i) ≡ get_or ls i 0
    len_is = pattern_length ps ls (i + 1) ok i (omega arith)

    pub symbols-few : n ≤ state_count ps ls (i + 1)
    symbols-few = omega (arith, upto_few (patterns_of ps ls i) (pattern_at ps ls i) m, s.count, as_states)

    pub symbols-below : q < n
    symbols-below = below (patterns_of ps ls i) (pattern_at ps ls i) look q n m s

    module _ (h : m < get_or ls i 0) where
      abbrev c : ℕ
      c = get_or ps (max_pattern * i + m) 0

      is : get_or (pattern_at ps ls i) m 0 ≡ c
      is = pattern_symbol ps ls (i + 1) ok i (omega arith) m h

      pub symbols-small : c < row_size
      symbols-small = symbol_small ps ls (i + 1) ok i (omega arith) m h

      -- a new state is one of those that are counted
      pub symbols-more : look q c ≡ 0 → n + 1 ≤ state_count ps ls (i + 1)
      symbols-more z =
          let e = more (patterns_of ps ls i) (pattern_at ps ls i) look q n m s (omega (arith, len_is)) (omega (arith, is, symbols-small)) (ap (look q) is ∙ z) in
          omega (arith, upto_few (patterns_of ps ls i) (pattern_at ps ls i) (m + 1), as_states)

      pub symbols-next : (look' : ℕ → ℕ → ℕ) (r n' : ℕ) → Step look look' q n c r n' → (Symbols look' r n' (m + 1)) × (n ≤ n')
      symbols-next look' r n' d =
          next (patterns_of ps ls i) (pattern_at ps ls i) look q n m s (omega (arith, len_is)) (omega (arith, is, symbols-small)) look' r n'
          (subst (λ (k : ℕ). Step look look' q n k r n') (sym is) d)

    pub symbols-finished : get_or ls i 0 ≤ m → (n ≡ state_count ps ls (i + 1)) × Children (states (patterns_of ps ls (i + 1))) look
    symbols-finished h =
        let f = finished (patterns_of ps ls i) (pattern_at ps ls i) look q n m s (omega (arith, len_is)) in
        (f.0 ∙ sym as_states, subst (λ (l : List Str). Children (states l) look) (sym (patterns_next ps ls i)) f.1)

-- where no state but the empty string's is numbered, it has no child
pub no-child : (look : ℕ → ℕ → ℕ) → ((c : ℕ) → c < row_size → look 0 c ≡ 0) → (ps ls : List ℕ) → Children (states (patterns_of ps ls 0)) look
unfolding patterns_of
no-child look f ps ls = record { children = λ q c h l. row q c h l }
  where
    row : (q c : ℕ) → q < 1 → c < row_size → look q c ≡ child ([] ∷ []) q c
    row q c h l =
        let e : q ≡ 0 = omega arith in
        ap (λ (k : ℕ). look k c) e ∙ f c l ∙ sym (ap (λ (k : ℕ). child ([] ∷ []) k c) e)

pub count-some : (ps ls : List ℕ) (n : ℕ) → 1 ≤ state_count ps ls n
unfolding patterns_of
count-some ps ls n = count-grows ps ls 0 n (omega arith)
