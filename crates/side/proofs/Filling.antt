-- The loops that fill a side, over the patterns as they lie.
-- Assumes nothing.
use mathlib.Core.Path.{◌≡◌, refl, sym, ap, ◌∙◌, subst, subst₂}
use Prim.Native.Nat.{ℕ, suc, ◌+◌, ◌-◌, ◌*◌, ◌/◌, ◌%◌, ◌^◌, ◌≤◌, ◌<◌}
use native.Mathlib.Omega.{arith}
use native.Mathlib.Decide.{dec_le}
use mathlib.Core.Bool.{true}
use mathlib.Core.List.{List, [], tail}
use lib.Bits.{bit_or}
use lib.ListN.{length, get_or, take, drop, length-append, length-take, length-drop, get_or-append}
use lib.Seq.{take_all, ext_get_or, get_or-append-add, get_or-drop}
use Rattle.rules.specs.Memory.{over}
use Rattle.fitting.specs.Fitting.{Str}
use Rattle.tables.specs.States.{states, member, index, longest, numbered}
use Rattle.tables.proofs.Trie.{failure}
use Rattle.tables.specs.Words.{tab, row_size, set_size}
use Rattle.tables.proofs.Numbering.{index_lt}
use Rattle.tables.proofs.Words.{length_tab, get_d_tab}
use Rattle.rules.specs.Limits.{max_pattern}
use Rattle.side.specs.Patterns.{patterns_of, Patterns, state_count}
use Rattle.side.specs.Wrote.{Wrote, Past}
use Rattle.side.specs.Steps.{cell, run, part, Inside, Symbols, Numbered}
use Rattle.side.specs.Filled.{Level, Final, Owned, Finished, Raised, side_rows, side_sets}
use Rattle.side.proofs.Inserting.{patterns_length, pattern_length}
use Rattle.side.proofs.Parts.{patterns_at, part_is, part_tail, small_part, symbols_of, symbols_rest}
use Rattle.side.proofs.Prefixes.{prefix_member, prefix_early, count_early}
use Rattle.side.proofs.Levels.{Cells, some_state, level_cells, numbered_cells, inside, run_own, run_fail}
use Rattle.side.proofs.Rising as R
use Rattle.side.proofs.Owning as O

pub past_none : (k : ℕ) (xs : List ℕ) → Past k xs xs
past_none k xs = record { len = refl; same = λ j l. refl }

pub past_more : (k : ℕ) (xs ys zs : List ℕ) → Past k xs ys → Past k ys zs → Past k xs zs
past_more k xs ys zs a b = record { len = b.len ∙ a.len; same = λ j l. b.same j l ∙ a.same j l }

pub past_wrote : (k a n : ℕ) (g : ℕ → ℕ) (xs ys : List ℕ) → Wrote xs a n g ys → a + n ≤ k → Past k xs ys
past_wrote k a n g xs ys w h = record { len = w.len; same = λ j l. w.above j (omega arith) }

module _ (ps ls : List ℕ) (n : ℕ) (ok : Patterns ps ls n) where
  abbrev pats : List Str
  pats = patterns_of ps ls n

  abbrev st : List Str
  st = states pats

  module _ (i : ℕ) (h : i < n) where
    pub in_list : i < length pats
    in_list = omega (arith, patterns_length ps ls n)

    -- the first d symbols, and their run
    module _ (d : ℕ) (l : d ≤ get_or ls i 0) where
      prefix_is : part ps (max_pattern * i) (max_pattern * i + d) ≡ take d (get_or pats i [])
      prefix_is = part_is ps ls i d l ∙ ap (take d) (sym (patterns_at ps ls n i h))

      pub symbols : Symbols ps (max_pattern * i) (max_pattern * i + d)
      symbols = symbols_of ps ls n i d ok h l

      pub run_is : (rows : List ℕ) → Cells pats rows → run (cell rows) 0 (part ps (max_pattern * i) (max_pattern * i + d)) ≡ index (take d (get_or pats i [])) st
      run_is rows cs =
          run_own pats rows cs (part ps (max_pattern * i) (max_pattern * i + d)) (small_part ps (max_pattern * i) (max_pattern * i + d) symbols)
          (ap (λ (w : Str). member w st) prefix_is ∙ prefix_member pats i d in_list)
          ∙ ap (λ (w : Str). index w st) prefix_is

      pub prefix_lt : (rows : List ℕ) → Cells pats rows → run (cell rows) 0 (part ps (max_pattern * i) (max_pattern * i + d)) < length st
      prefix_lt rows cs = rw (run_is rows cs) (index_lt (take d (get_or pats i [])) st (prefix_member pats i d in_list))

    -- ---- the own sets

    pattern_is : take (get_or ls i 0) (get_or pats i []) ≡ get_or pats i []
    pattern_is =
        let e = patterns_at ps ls n i h in
        take_all (get_or ls i 0) (get_or pats i []) (omega (arith, ap length e, pattern_length ps ls n ok i h))

    pub own_next : (rows sets sets' : List ℕ) (q e count : ℕ) → Numbered st rows → Owned pats i sets → e ≡ max_pattern * i + get_or ls i 0 → q ≡ run (cell rows) 0 (part ps (max_pattern * i) e)
        → Wrote sets (set_size * q + i / 64) 1 (λ _. bit_or (get_or sets (set_size * q + i / 64) 0) (2 ^ (i % 64))) sets' → Owned pats (i + 1) sets'
    own_next rows sets sets' q e count nb own f g w =
        O.put pats i in_list q sets sets' own
        (subst (λ (x : Str). member x st ≡ true) pattern_is (prefix_member pats i (get_or ls i 0) in_list))
        (g ∙ ap (λ (k : ℕ). run (cell rows) 0 (part ps (max_pattern * i) k)) f ∙ run_is (get_or ls i 0) (omega arith) rows (numbered_cells pats rows nb) ∙ ap (λ (x : Str). index x st) pattern_is)
        w (omega (arith, ok.few))

    -- ---- one length

    long_is : (d : ℕ) → d ≤ get_or ls i 0 → d ≤ length (get_or pats i [])
    long_is d l = omega (arith, ap length (patterns_at ps ls n i h), pattern_length ps ls n ok i h)

    module _ (rows sets : List ℕ) (d : ℕ) (lv : Level pats rows sets d i) where
      pub level_skip : get_or ls i 0 < d → Level pats rows sets d (i + 1)
      level_skip l = R.skip pats rows sets d i lv in_list (omega (arith, ap length (patterns_at ps ls n i h), pattern_length ps ls n ok i h))

      module _ (pos : 0 < d) (l : d ≤ get_or ls i 0) where
        q_is : run (cell rows) 0 (part ps (max_pattern * i) (max_pattern * i + d)) ≡ index (take d (get_or pats i [])) st
        q_is = run_is d l rows (level_cells pats rows sets d i lv)

        f_is : run (cell rows) 0 (part ps (max_pattern * i + 1) (max_pattern * i + d)) ≡ failure st (index (take d (get_or pats i [])) st)
        f_is =
            let a = max_pattern * i in
            let e = max_pattern * i + d in
            let s = symbols d l in
            let t : part ps (a + 1) e ≡ tail (take d (get_or pats i [])) = part_tail ps a e (omega arith) s.inside ∙ ap tail (prefix_is d l) in
            run_fail pats rows sets d lv.final (part ps (a + 1) e) (small_part ps (a + 1) e (symbols_rest ps a e s (omega arith))) (short (a + 1) e (omega arith))
            ∙ ap (λ (w : Str). index (longest (numbered st) w) st) t
            ∙ sym (R.failure-is pats rows sets d i lv in_list pos (long_is d l))
          where
            short : (b e : ℕ) → e - b ≤ d → length (part ps b e) ≤ d
            short b e h = simp length-take (omega arith)

        pub differ : run (cell rows) 0 (part ps (max_pattern * i) (max_pattern * i + d)) ≡ run (cell rows) 0 (part ps (max_pattern * i + 1) (max_pattern * i + d)) → ⊥
        differ e = R.differ pats rows sets d i lv in_list pos (long_is d l) (sym q_is ∙ e ∙ f_is)

        pub level_again : run (cell rows) 0 (part ps (max_pattern * i) (max_pattern * i + d)) < length (states (take i pats)) → Level pats rows sets d (i + 1)
        level_again low = R.again pats rows sets d i lv in_list pos (long_is d l) (subst (λ (q : ℕ). q < length (states (take i pats))) q_is low)

        pub level_next : (rows' sets' : List ℕ)
            → Finished rows sets (run (cell rows) 0 (part ps (max_pattern * i) (max_pattern * i + d))) (run (cell rows) 0 (part ps (max_pattern * i + 1) (max_pattern * i + d))) rows' sets' → Level pats rows' sets' d (i + 1)
        level_next rows' sets' f =
            R.next pats rows sets d i lv in_list pos (long_is d l) rows' sets' (subst₂ (λ (x y : ℕ). Finished rows sets x y rows' sets') q_is f_is f)

  pub level_inside : (rows sets : List ℕ) (d i : ℕ) → Level pats rows sets d i → row_size * state_count ps ls n ≤ length rows → Inside rows (state_count ps ls n)
  level_inside rows sets d i lv h = inside pats rows (level_cells pats rows sets d i lv) h

  pub own_inside : (rows : List ℕ) → Numbered st rows → row_size * state_count ps ls n ≤ length rows → Inside rows (state_count ps ls n)
  own_inside rows nb h = inside pats rows (numbered_cells pats rows nb) h

  pub level-end : (rows sets : List ℕ) (d : ℕ) → 0 < d → Level pats rows sets d n → Level pats rows sets (d + 1) 0
  level-end rows sets d pos lv = R.level-end pats rows sets d pos (subst (Level pats rows sets d) (sym (patterns_length ps ls n)) lv)

  pub level-begin : (rows sets : List ℕ) → Numbered st rows → Owned pats n sets → Level pats rows sets 1 0
  level-begin rows sets nb own =
      R.level-begin pats rows sets nb (subst (λ (k : ℕ). Owned pats k sets) (sym (patterns_length ps ls n)) own) (take_all (length pats) pats (omega arith))

-- ---- the loop over the patterns at one length

module _ (ps ls : List ℕ) (n count d : ℕ) (xs zs : List ℕ) where
  -- top is a state of the first i patterns, so that the states of d symbols up to it are finished
  pub record Rising (rows sets : List ℕ) (top i : ℕ) : Type 0 where
    pub reached : i ≤ n
    pub level : Level (patterns_of ps ls n) rows sets d i
    pub low : top < length (states (take i (patterns_of ps ls n)))
    pub rows_past : Past (row_size * count) xs rows
    pub sets_past : Past (set_size * count) zs sets

pub rise-same : {ps ls xs zs rows sets rows' sets' : List ℕ} {n count d i top top' : ℕ} → rows' ≡ rows → sets' ≡ sets → top' ≡ top → Rising ps ls n count d xs zs rows sets top i → Rising ps ls n count d xs zs rows' sets' top' i
rise-same {ps} {ls} {xs} {zs} {rows} {sets} {rows'} {sets'} {n} {count} {d} {i} {top} {top'} a b e r =
    subst (λ (t : ℕ). Rising ps ls n count d xs zs rows' sets' t i) (sym e) (subst₂ (λ (x y : List ℕ). Rising ps ls n count d xs zs x y top i) (sym a) (sym b) r)

module _ (ps ls : List ℕ) (n count d : ℕ) (xs zs : List ℕ) (ok : Patterns ps ls n) (cn : count ≡ state_count ps ls n) (room : row_size * count ≤ length xs) (place : set_size * count ≤ length zs) (pos : 0 < d) where
  pub rise-begin : Level (patterns_of ps ls n) xs zs d 0 → Rising ps ls n count d xs zs xs zs 0 0
  rise-begin lv = record { reached = omega arith; level = lv; low = some_state []; rows_past = past_none (row_size * count) xs; sets_past = past_none (set_size * count) zs }

  module _ (rows sets : List ℕ) (top i : ℕ) (r : Rising ps ls n count d xs zs rows sets top i) where
    pub rise-end : n ≤ i → (Level (patterns_of ps ls n) rows sets (d + 1) 0) × (Past (row_size * count) xs rows) × (Past (set_size * count) zs sets)
    rise-end h =
        let e : i ≡ n = omega (arith, r.reached) in
        (level-end ps ls n ok rows sets d pos (subst (Level (patterns_of ps ls n) rows sets d) e r.level), r.rows_past, r.sets_past)

    module _ (h : i < n) where
      -- the level is known up to pattern i, which changed nothing
      rise_on : Level (patterns_of ps ls n) rows sets d (i + 1) → Rising ps ls n count d xs zs rows sets top (i + 1)
      rise_on lv =
          record {
            reached = omega arith;
            level = lv;
            low = omega (arith, r.low, count_early (patterns_of ps ls n) i (in_list ps ls n ok i h));
            rows_past = r.rows_past;
            sets_past = r.sets_past;
          }

      pub rise-skip : get_or ls i 0 < d → Rising ps ls n count d xs zs rows sets top (i + 1)
      rise-skip l = rise_on (level_skip ps ls n ok i h rows sets d r.level l)

      module _ (l : d ≤ get_or ls i 0) where
        abbrev q : ℕ
        q = run (cell rows) 0 (part ps (max_pattern * i) (max_pattern * i + d))

        abbrev f : ℕ
        f = run (cell rows) 0 (part ps (max_pattern * i + 1) (max_pattern * i + d))

        within : Inside rows count
        within = subst (Inside rows) (sym cn) (level_inside ps ls n ok rows sets d i r.level (omega (arith, cn, r.rows_past.len)))

        pub rise-asks : (Inside rows count) × (set_size * count ≤ length sets) × (Symbols ps (max_pattern * i) (max_pattern * i + d)) × (max_pattern * i < max_pattern * i + d) × (q ≡ f → ⊥)
        rise-asks = (within, omega (arith, r.sets_past.len), symbols ps ls n ok i h d l, omega arith, differ ps ls n ok i h rows sets d r.level pos l)

        cells : Cells (patterns_of ps ls n) rows
        cells = level_cells (patterns_of ps ls n) rows sets d i r.level

        rise_up : (rows' sets' : List ℕ) → Finished rows sets q f rows' sets' → Rising ps ls n count d xs zs rows' sets' q (i + 1)
        rise_up rows' sets' fin =
            let b = prefix_lt ps ls n ok i h d l rows cells in
            record {
              reached = omega arith;
              level = level_next ps ls n ok i h rows sets d r.level pos l rows' sets' fin;
              low = rw (run_is ps ls n ok i h d l rows cells) (prefix_early (patterns_of ps ls n) i (in_list ps ls n ok i h) d);
              rows_past = past_more (row_size * count) xs rows rows' r.rows_past (past_wrote (row_size * count) (row_size * q) row_size _ rows rows' fin.row (omega (arith, cn)));
              sets_past = past_more (set_size * count) zs sets sets' r.sets_past (past_wrote (set_size * count) (set_size * q) set_size _ sets sets' fin.set (omega (arith, cn)));
            }

        -- the state of pattern i is an earlier one's, or it is completed now
        pub rise-next : (u : ℕ) (rows' sets' : List ℕ) → Raised rows sets q f top u rows' sets' → Rising ps ls n count d xs zs rows' sets' u (i + 1)
        rise-next u rows' sets' fin = go (dec_le q top)
          where
            go : Dec (q ≤ top) → Rising ps ls n count d xs zs rows' sets' u (i + 1)
            go (yes y) =
                let o = fin.old y in
                rise-same o.1.0 o.1.1 o.0 (rise_on (level_again ps ls n ok i h rows sets d r.level pos l (omega (arith, r.low))))
            go (no y) =
                let o = fin.new (omega arith) in
                rise-same refl refl o.0 (rise_up rows' sets' o.1)

-- ---- the loop that puts each place into its own state's set

module _ (ps ls : List ℕ) (n count : ℕ) (zs : List ℕ) where
  pub record Owning (sets : List ℕ) (i : ℕ) : Type 0 where
    pub reached : i ≤ n
    pub owned : Owned (patterns_of ps ls n) i sets
    pub sets_past : Past (set_size * count) zs sets

module _ (ps ls : List ℕ) (n count : ℕ) (zs rows : List ℕ) (ok : Patterns ps ls n) (cn : count ≡ state_count ps ls n) (room : row_size * count ≤ length rows) (place : set_size * count ≤ length zs) (nb : Numbered (states (patterns_of ps ls n)) rows) where
  pub own-begin : Owned (patterns_of ps ls n) 0 zs → Owning ps ls n count zs zs 0
  own-begin o = record { reached = omega arith; owned = o; sets_past = past_none (set_size * count) zs }

  module _ (sets : List ℕ) (i : ℕ) (r : Owning ps ls n count zs sets i) where
    pub own-end : n ≤ i → (Owned (patterns_of ps ls n) n sets) × (Past (set_size * count) zs sets)
    own-end h = (subst (λ (k : ℕ). Owned (patterns_of ps ls n) k sets) (let e : i ≡ n = omega (arith, r.reached) in e) r.owned, r.sets_past)

    module _ (h : i < n) (w : ℕ) (wi : w ≡ get_or ls i 0) where
      pub own-asks : (Inside rows count) × (Symbols ps (max_pattern * i) (max_pattern * i + w))
      own-asks = (subst (Inside rows) (sym cn) (own_inside ps ls n ok rows nb (omega (arith, cn))), symbols ps ls n ok i h w (omega arith))

      pub own-another : (q : ℕ) (sets' : List ℕ) → (q ≡ run (cell rows) 0 (part ps (max_pattern * i) (max_pattern * i + w))) → q < count
          → Wrote sets (set_size * q + i / 64) 1 (λ _. bit_or (get_or sets (set_size * q + i / 64) 0) (2 ^ (i % 64))) sets' → Owning ps ls n count zs sets' (i + 1)
      own-another q sets' e b o =
          record {
            reached = omega arith;
            owned = own_next ps ls n ok i h rows sets sets' q (max_pattern * i + w) count nb r.owned (omega arith) e o;
            sets_past = past_more (set_size * count) zs sets sets' r.sets_past (past_wrote (set_size * count) (set_size * q + i / 64) 1 _ sets sets' o (omega (arith, ok.few)));
          }

-- ---- the whole side

-- a list whose first n elements are f's, and whose others stayed
pub over_tab : (n : ℕ) (f : ℕ → ℕ) (xs ys : List ℕ) → n ≤ length xs → Past n xs ys → ((k : ℕ) → k < n → get_or ys k 0 ≡ f k) → ys ≡ over (tab n f) xs
over_tab n f xs ys h p w =
    ext_get_or 0 ys (over (tab n f) xs) (p.len ∙ sym len) (λ k l. at k l (dec_le (suc k) n))
  where
    len : length (over (tab n f) xs) ≡ length xs
    len = simp (length-append, length-drop, length_tab) (omega arith)

    at : (k : ℕ) → k < length ys → Dec (k < n) → get_or ys k 0 ≡ get_or (over (tab n f) xs) k 0
    at k l (yes y) =
        w k y ∙ sym (get_or-append (tab n f) (drop (length (tab n f)) xs) 0 k (omega (arith, length_tab n f)) ∙ get_d_tab n f k y)
    at k l (no y) =
        let m = k - n in
        let e : length (tab n f) + m ≡ k = omega (arith, length_tab n f) in
        let g : get_or (over (tab n f) xs) (length (tab n f) + m) 0 ≡ get_or xs (length (tab n f) + m) 0 =
        get_or-append-add (tab n f) (drop (length (tab n f)) xs) m 0 ∙ get_or-drop (length (tab n f)) xs m 0 in
        p.same k (omega arith) ∙ ap (λ (j : ℕ). get_or xs j 0) (sym e) ∙ sym g ∙ ap (λ (j : ℕ). get_or (over (tab n f) xs) j 0) e

past_from : (k m : ℕ) (xs ys : List ℕ) → k ≡ m → Past k xs ys → Past m xs ys
past_from k m xs ys e p = subst (λ (j : ℕ). Past j xs ys) e p

module _ (ps ls : List ℕ) (n : ℕ) (ok : Patterns ps ls n) where
  module _ (rows sets : List ℕ) (lv : Level (patterns_of ps ls n) rows sets (max_pattern + 1) 0) where
    all_final : (q : ℕ) → q < state_count ps ls n → Final (patterns_of ps ls n) rows sets q
    all_final =
        R.level_all (patterns_of ps ls n) rows sets max_pattern lv
        (λ k h.
        let g : k < n = omega (arith, patterns_length ps ls n) in
        omega (arith, ap length (patterns_at ps ls n k g), pattern_length ps ls n ok k g, ok.short k g))

    pub rows_filled : (xs : List ℕ) → row_size * state_count ps ls n ≤ length xs → Past (row_size * state_count ps ls n) xs rows → rows ≡ over (side_rows (patterns_of ps ls n)) xs
    rows_filled xs h p =
        over_tab (row_size * state_count ps ls n) _ xs rows h p
        (λ k l.
        let e : row_size * (k / row_size) + k % row_size ≡ k = omega arith in
        ap (λ (j : ℕ). get_or rows j 0) (sym e) ∙ (all_final (k / row_size) (omega arith)).row (k % row_size) (omega arith))

    pub sets_filled : (xs : List ℕ) → set_size * state_count ps ls n ≤ length xs → Past (set_size * state_count ps ls n) xs sets → sets ≡ over (side_sets (patterns_of ps ls n)) xs
    sets_filled xs h p =
        over_tab (set_size * state_count ps ls n) _ xs sets h p
        (λ k l.
        let e : set_size * (k / set_size) + k % set_size ≡ k = omega arith in
        ap (λ (j : ℕ). get_or sets j 0) (sym e) ∙ (all_final (k / set_size) (omega arith)).set (k % set_size) (omega arith))

  pub none_yet : (count : ℕ) (xs ys : List ℕ) → count ≡ state_count ps ls n → Wrote xs 0 (set_size * count) (λ _. 0) ys → Owned (patterns_of ps ls n) 0 ys
  none_yet count xs ys e w = O.none_owned (patterns_of ps ls n) xs ys (subst (λ (k : ℕ). Wrote xs 0 (set_size * k) (λ _. 0) ys) e w)

-- the loop over the lengths
module _ (ps ls : List ℕ) (n count : ℕ) (xs zs : List ℕ) where
  pub record Filling (rows sets : List ℕ) (d : ℕ) : Type 0 where
    pub from : 0 < d
    pub to : d ≤ max_pattern + 1
    pub level : Level (patterns_of ps ls n) rows sets d 0
    pub rows_past : Past (row_size * count) xs rows
    pub sets_past : Past (set_size * count) zs sets

module _ (ps ls : List ℕ) (n count : ℕ) (xs zs : List ℕ) (ok : Patterns ps ls n) (cn : count ≡ state_count ps ls n) where
  pub fill-begin : Numbered (states (patterns_of ps ls n)) xs → Owned (patterns_of ps ls n) n zs → Filling ps ls n count xs zs xs zs 1
  fill-begin nb own =
      record { from = omega arith; to = omega arith; level = level-begin ps ls n ok xs zs nb own; rows_past = past_none (row_size * count) xs; sets_past = past_none (set_size * count) zs }

  pub fill-next : (rows sets rows' sets' : List ℕ) (d : ℕ) → d ≤ max_pattern → Filling ps ls n count xs zs rows sets d
      → (Level (patterns_of ps ls n) rows' sets' (d + 1) 0) × (Past (row_size * count) rows rows') × (Past (set_size * count) sets sets') → Filling ps ls n count xs zs rows' sets' (d + 1)
  fill-next rows sets rows' sets' d h r s =
      record {
        from = omega arith;
        to = omega arith;
        level = s.0;
        rows_past = past_more (row_size * count) xs rows rows' r.rows_past s.1;
        sets_past = past_more (set_size * count) zs sets sets' r.sets_past s.2;
      }

  module _ (rows sets : List ℕ) (d : ℕ) (r : Filling ps ls n count xs zs rows sets d) (h : max_pattern < d) where
    top : Level (patterns_of ps ls n) rows sets (max_pattern + 1) 0
    top = subst (λ (k : ℕ). Level (patterns_of ps ls n) rows sets k 0) (let e : d ≡ max_pattern + 1 = omega (arith, r.to) in e) r.level

    pub fill-rows : (us : List ℕ) → row_size * state_count ps ls n ≤ length us → Past (row_size * count) us xs → rows ≡ over (side_rows (patterns_of ps ls n)) us
    fill-rows us g p =
        rows_filled ps ls n ok rows sets top us g
        (past_from (row_size * count) (row_size * state_count ps ls n) us rows (ap (λ (k : ℕ). row_size * k) cn) (past_more (row_size * count) us xs rows p r.rows_past))

    pub fill-sets : (us vs : List ℕ) → set_size * state_count ps ls n ≤ length us → Wrote us 0 (set_size * count) (λ _. 0) vs → Past (set_size * count) vs zs → sets ≡ over (side_sets (patterns_of ps ls n)) us
    fill-sets us vs g w p =
        sets_filled ps ls n ok rows sets top us g
        (past_from (set_size * count) (set_size * state_count ps ls n) us sets (ap (λ (k : ℕ). set_size * k) cn)
        (past_more (set_size * count) us vs sets (past_wrote (set_size * count) 0 (set_size * count) _ us vs w (omega arith)) (past_more (set_size * count) vs zs sets p r.sets_past)))
