-- The states are completed by ascending length, each from its failure state.
-- Assumes nothing.
use mathlib.Core.Path.{◌≡◌, refl, sym, ap, ap₂, ◌∙◌, subst, subst₂}
use mathlib.Core.Logic.{◌⊎◌, inl, inr, ⊎_elim}
use Prim.Native.Nat.{ℕ, zero, suc, ◌+◌, ◌*◌, ◌/◌, ◌%◌, ◌≤◌, ◌<◌, zero-le, suc-le-suc}
use native.Mathlib.Omega.{arith}
use mathlib.Core.Bool.{Bool, true, false, cond, ◌||◌, or-true, or-false}
use mathlib.Core.List.{List, [], ◌∷◌, ◌++◌, append-nil}
use lib.Dec.{eqb}
use lib.Bits.{bit_or}
use lib.ListN.{length, get_or, length-append}
use lib.Seq.{append_snoc}
use Rattle.rules.proofs.Cases.{by_bool}
use Rattle.fitting.specs.Fitting.{Str, same, ends}
use Rattle.tables.specs.States.{longest, member, index, states, numbered, entry, child}
use Rattle.tables.proofs.Trie.{failure}
use Rattle.tables.proofs.Suffix.{same_refl, Closed, longest_passes}
use Rattle.tables.proofs.Symbols.{Small}
use Rattle.tables.specs.Words.{pack, row_size, set_size}
use Rattle.tables.proofs.Numbering.{get_d_index, index_lt, numbered_closed, numbered_nil, numbered_pattern, index_nil}
use Rattle.tables.proofs.Build.{entry_child, entry_word, entry_fail, ends_failure, complete-row}
use Rattle.tables.proofs.Sets.{pack_or}
use Rattle.side.specs.Wrote.{Wrote}
use Rattle.side.specs.Steps.{cell, run, Inside, Numbered, completed, united}
use Rattle.side.specs.Filled.{at_place, owns, holds, word, Final, Young, Level, Finished, Raised}

-- ---- sets

pub pack_ext : (n : ℕ) (f g : ℕ → Bool) → ((k : ℕ) → k < n → f k ≡ g k) → pack f n ≡ pack g n
unfolding pack
pack_ext zero f g h = refl
pack_ext (suc n) f g h = rw (h zero (suc-le-suc zero-le), pack_ext n (λ k. f (suc k)) (λ k. g (suc k)) (λ k l. h (suc k) (suc-le-suc l)))

pub word_ext : (f g : ℕ → Bool) (j : ℕ) → ((b : ℕ) → b < 64 → f (64 * j + b) ≡ g (64 * j + b)) → word f j ≡ word g j
word_ext f g j h = pack_ext 64 (λ b. f (64 * j + b)) (λ b. g (64 * j + b)) h

pub word_or : (f g h : ℕ → Bool) (j : ℕ) → ((k : ℕ) → (f k || g k) ≡ h k) → bit_or (word f j) (word g j) ≡ word h j
word_or f g h j e = sym (pack_or (λ b. f (64 * j + b)) (λ b. g (64 * j + b)) 64) ∙ pack_ext 64 (λ b. f (64 * j + b) || g (64 * j + b)) (λ b. h (64 * j + b)) (λ b l. e (64 * j + b))

at_or : (t u v : Str → Bool) (l : List Str) → ((x : Str) → member x l ≡ true → (t x || u x) ≡ v x) → (p : ℕ) → (at_place t l p || at_place u l p) ≡ at_place v l p
at_or t u v [] h p = refl
at_or t u v (x ∷ l) h zero = h x (rw (same_refl x))
at_or t u v (x ∷ l) h (suc p) = at_or t u v l (λ y m. h y (rw m (or-true (same y x)))) p

or_again : (a b c : Bool) → c ≡ (a || b) → (c || b) ≡ c
or_again true b c e = rw e
or_again false true c e = rw e
or_again false false c e = or-false c

-- ---- the table of a list of patterns

module _ (pats : List Str) where
  abbrev st : List Str
  st = states pats

  abbrev root : member [] st ≡ true
  root = numbered_nil pats

  abbrev closed : Closed (numbered st)
  closed = numbered_closed pats

  pub entry_lt : (q c : ℕ) → entry st q c < length st
  entry_lt q c = index_lt (longest (numbered st) (get_or st q [] ++ (c ∷ []))) st (longest_passes (numbered st) root (get_or st q [] ++ (c ∷ [])))

  pub some_state : 0 < length st
  some_state = let h = index_lt [] st root in omega arith

  pub child_lt : (q c : ℕ) → child st q c < length st
  child_lt q c =
      by_bool (member (get_or st q [] ++ (c ∷ [])) st) (λ t. rw t (index_lt (get_or st q [] ++ (c ∷ [])) st t)) (λ t. rw t some_state)

  -- each cell holds an entry or a child
  abbrev pub Cells : List ℕ → Type 0
  Cells rows = (q c : ℕ) → q < length st → c < row_size → (cell rows q c ≡ entry st q c) ⊎ (cell rows q c ≡ child st q c)

  pub level_cells : (rows sets : List ℕ) (d i : ℕ) → Level pats rows sets d i → Cells rows
  level_cells rows sets d i lv q c h l = ⊎_elim (λ z. inl (z.row c l)) (λ z. inr (z.row c l)) (lv.either q h)

  pub numbered_cells : (rows : List ℕ) → Numbered st rows → Cells rows
  numbered_cells rows nb q c h l = inr (nb.children q c h l)

  module _ (rows : List ℕ) where
    to_child : (q c : ℕ) → (cell rows q c ≡ entry st q c) ⊎ (cell rows q c ≡ child st q c) → member (get_or st q [] ++ (c ∷ [])) st ≡ true → cell rows q c ≡ index (get_or st q [] ++ (c ∷ [])) st
    to_child q c (inl f) m = f ∙ entry_child st root closed q c m
    to_child q c (inr y) m = y ∙ rw m

    below : (q c : ℕ) → (cell rows q c ≡ entry st q c) ⊎ (cell rows q c ≡ child st q c) → cell rows q c < length st
    below q c (inl f) = rw f (entry_lt q c)
    below q c (inr y) = rw y (child_lt q c)

    module _ (either : Cells rows) where
      pub inside : row_size * length st ≤ length rows → Inside rows (length st)
      inside h =
          record {
            some = some_state;
            room = h;
            below = λ k l.
                let e : row_size * (k / row_size) + k % row_size ≡ k = omega arith in
                subst (λ (j : ℕ). get_or rows j 0 < length st) e (below (k / row_size) (k % row_size) (either (k / row_size) (k % row_size) (omega arith) (omega arith)));
          }

      closed_append : (v w : Str) → member (v ++ w) st ≡ true → member v st ≡ true
      closed_append v [] m = subst (λ (x : Str). member x st ≡ true) (append-nil v) m
      closed_append v (c ∷ w) m = closed v c (closed_append (v ++ (c ∷ [])) w (subst (λ (x : Str). member x st ≡ true) (sym (append_snoc v c w)) m))

      -- a run over a numbered string comes to its state
      pub run_prefix : (w v : Str) → Small w → member (v ++ w) st ≡ true → run (cell rows) (index v st) w ≡ index (v ++ w) st
      run_prefix [] v s m = rw (append-nil v)
      run_prefix (c ∷ w) v s m =
          let n : member (v ++ (c ∷ []) ++ w) st ≡ true = subst (λ (x : Str). member x st ≡ true) (sym (append_snoc v c w)) m in
          let k = closed_append (v ++ (c ∷ [])) w n in
          let g = get_d_index v st (closed v c k) in
          let e : cell rows (index v st) c ≡ index (v ++ (c ∷ [])) st =
          to_child (index v st) c (either (index v st) c (index_lt v st (closed v c k)) s.0) (ap (λ (x : Str). member (x ++ (c ∷ [])) st) g ∙ k)
          ∙ ap (λ (x : Str). index (x ++ (c ∷ [])) st) g in
          ap (λ (q : ℕ). run (cell rows) q w) e ∙ run_prefix w (v ++ (c ∷ [])) s.1 n ∙ ap (λ (x : Str). index x st) (append_snoc v c w)

      pub run_own : (w : Str) → Small w → member w st ≡ true → run (cell rows) 0 w ≡ index w st
      run_own w s m = ap (λ (q : ℕ). run (cell rows) q w) (sym (index_nil pats)) ∙ run_prefix w [] s m

    module _ (sets : List ℕ) (d : ℕ) (final : (q : ℕ) → q < length st → length (get_or st q []) < d → Final pats rows sets q) where
      longest_length : (w : Str) → length (longest (numbered st) w) ≤ length w
      longest_length [] = zero-le
      longest_length (b ∷ w) = by_bool (numbered st (b ∷ w)) (λ t. rw t (omega arith)) (λ t. rw t (let l = longest_length w in omega arith))

      -- a run over no more than d symbols comes to the state of the longest numbered suffix
      pub run-word : (w v : Str) → Small w → length v + length w ≤ d → run (cell rows) (index (longest (numbered st) v) st) w ≡ index (longest (numbered st) (v ++ w)) st
      run-word [] v s l = rw (append-nil v)
      run-word (c ∷ w) v s l =
          let m = longest_passes (numbered st) root v in
          let g = get_d_index (longest (numbered st) v) st m in
          let b : length (get_or st (index (longest (numbered st) v) st) []) < d = rw g (let k = longest_length v in omega arith) in
          let e : cell rows (index (longest (numbered st) v) st) c ≡ index (longest (numbered st) (v ++ (c ∷ []))) st =
          (final (index (longest (numbered st) v) st) (index_lt (longest (numbered st) v) st m) b).row c s.0 ∙ entry_word st root closed v c in
          ap (λ (q : ℕ). run (cell rows) q w) e
          ∙ run-word w (v ++ (c ∷ [])) s.1 (let k = length-append v (c ∷ []) in omega arith)
          ∙ ap (λ (x : Str). index (longest (numbered st) x) st) (append_snoc v c w)

      pub run_fail : (w : Str) → Small w → length w ≤ d → run (cell rows) 0 w ≡ index (longest (numbered st) w) st
      run_fail w s l = ap (λ (q : ℕ). run (cell rows) q w) (sym (index_nil pats)) ∙ run-word w [] s (omega arith)

  -- ---- one state is completed

  module _ (q a : ℕ) (s : Str) (e : get_or st q [] ≡ a ∷ s) where
    abbrev f : ℕ
    f = failure st q

    again : (c : ℕ) → cond (eqb (entry st q c) 0) (entry st f c) (entry st q c) ≡ entry st q c
    again c =
        by_bool (member (get_or st q [] ++ (c ∷ [])) st)
        (λ m.
        let i : child st q c ≡ entry st q c = rw m (sym (entry_child st root closed q c m)) in
        subst (λ (x : ℕ). cond (eqb x 0) (entry st f c) x ≡ entry st q c) i (complete-row st root closed (index_nil pats) q c a s e))
        (λ m.
        let i : entry st q c ≡ entry st f c = entry_fail st root closed q c a s e (ap (λ (x : Str). member (x ++ (c ∷ [])) st) (sym e) ∙ m) in
        by_bool (eqb (entry st q c) 0) (λ t. rw t (sym i)) (λ t. rw t))

    own_or : (p : ℕ) → (owns pats (get_or st q []) p || holds pats (get_or st f []) p) ≡ holds pats (get_or st q []) p
    own_or = at_or _ _ _ pats (λ x m. sym (ends_failure st root closed x (numbered_pattern pats x m) q a s e))

    holds_or : (p : ℕ) → (holds pats (get_or st q []) p || holds pats (get_or st f []) p) ≡ holds pats (get_or st q []) p
    holds_or = at_or _ _ _ pats (λ x m. or_again (same x (get_or st q [])) (ends x (get_or st f [])) (ends x (get_or st q [])) (ends_failure st root closed x (numbered_pattern pats x m) q a s e))

    module _ (rows sets rows' sets' : List ℕ) (done : Finished rows sets q f rows' sets') (ff : Final pats rows sets f) where
      row_of : (x : ℕ) (c : ℕ) → c < row_size → cell rows q c ≡ x → cond (eqb x 0) (entry st f c) x ≡ entry st q c → cell rows' q c ≡ entry st q c
      row_of x c l i h = done.row.wrote c l ∙ ap₂ (λ (u v : ℕ). cond (eqb u 0) v u) i (ff.row c l) ∙ h

      set_of : (g : ℕ → Bool) (j : ℕ) → j < set_size → get_or sets (set_size * q + j) 0 ≡ word g j → ((p : ℕ) → (g p || holds pats (get_or st f []) p) ≡ holds pats (get_or st q []) p) → get_or sets' (set_size * q + j) 0 ≡ word (holds pats (get_or st q [])) j
      set_of g j l i h = done.set.wrote j l ∙ ap₂ bit_or i (ff.set j l) ∙ word_or g (holds pats (get_or st f [])) (holds pats (get_or st q [])) j h

      pub completes : Final pats rows sets q ⊎ Young pats rows sets q → Final pats rows' sets' q
      completes (inl z) =
          record {
            row = λ c l. row_of (entry st q c) c l (z.row c l) (again c);
            set = λ j l. set_of (holds pats (get_or st q [])) j l (z.set j l) holds_or;
          }
      completes (inr y) =
          record {
            row = λ c l. row_of (child st q c) c l (y.row c l) (complete-row st root closed (index_nil pats) q c a s e);
            set = λ j l. set_of (owns pats (get_or st q [])) j l (y.set j l) own_or;
          }

-- q and f are copies of u and v: q is no higher than top, or it is completed from f
pub raised_old : {rows sets : List ℕ} {q u v top : ℕ} → q ≡ u → q ≤ top → Raised rows sets u v top top rows sets
raised_old a h = record { old = λ l. (refl, (refl, refl)); new = λ l. absurd (omega arith) }

pub raised_new : {rows sets rows' sets' : List ℕ} {q f top : ℕ} (u v : ℕ) → q ≡ u → f ≡ v → top < q → Wrote rows (row_size * q) row_size (completed rows q f) rows' → Wrote sets (set_size * q) set_size (united sets q f) sets'
    → Raised rows sets u v top q rows' sets'
raised_new {rows} {sets} {rows'} {sets'} {q} {f} {top} u v a b h r s =
    record {
      old = λ l. absurd (omega arith);
      new = λ l. (a, subst₂ (λ (x y : ℕ). Finished rows sets x y rows' sets') a b (record { row = r; set = s }));
    }
