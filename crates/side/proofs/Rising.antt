-- The loop over the patterns at one length, and the loop over the lengths.
-- Assumes nothing.
use mathlib.Core.Path.{◌≡◌, refl, sym, ap, ap₂, ◌∙◌, subst}
use mathlib.Core.Logic.{◌≢◌, ◌⊎◌, inl, inr, ⊎_elim}
use Prim.Native.Nat.{ℕ, suc, ◌+◌, ◌*◌, ◌≤◌, ◌<◌, zero-le, suc-le-suc}
use native.Mathlib.Nat.{le_of_suc-le-suc, not-suc-le-zero}
use native.Mathlib.Omega.{arith}
use native.Mathlib.Decide.{dec_le}
use mathlib.Core.Bool.{true}
use mathlib.Core.List.{List, [], ◌∷◌, tail}
use lib.Dec.{eqb, eqb→eq}
use lib.ListN.{length, get_or, take, length-take}
use lib.Seq.{get_or-take}
use borrow.Author.Tests.{eqb-false}
use Rattle.tables.specs.Words.{row_size, set_size}
use Rattle.rules.proofs.Cases.{by_bool}
use Rattle.fitting.specs.Fitting.{Str}
use Rattle.tables.specs.States.{longest, member, index, states, numbered, entry, child}
use Rattle.tables.proofs.Trie.{failure}
use Rattle.tables.proofs.Truth.{true_eq}
use Rattle.tables.proofs.Suffix.{longest_passes}
use Rattle.tables.proofs.Numbering.{get_d_index, index_lt, index_get_d, numbered_closed, numbered_nil, distinct_states, index_nil}
use Rattle.tables.proofs.Build.{failure_shorter}
use Rattle.side.specs.Wrote.{Wrote}
use Rattle.side.specs.Steps.{cell, Numbered}
use Rattle.side.specs.Filled.{owns, holds, word, Final, Young, Level, Owned, Finished}
use Rattle.side.proofs.Prefixes.{started, member_at, prefix_member, starts_early}
use Rattle.side.proofs.Levels.{completes}

-- ---- what is not written stays

row_kept : (rows rows' : List ℕ) (q k : ℕ) (g : ℕ → ℕ) → Wrote rows (row_size * q) row_size g rows' → k ≢ q → (c : ℕ) → c < row_size → cell rows' k c ≡ cell rows k c
row_kept rows rows' q k g w d c l = go (dec_le (suc k) q)
  where
    go : Dec (k < q) → cell rows' k c ≡ cell rows k c
    go (yes y) = w.below (row_size * k + c) (omega arith)
    go (no y) = let z : q < k = omega arith in w.above (row_size * k + c) (omega arith)

set_kept : (sets sets' : List ℕ) (q k : ℕ) (g : ℕ → ℕ) → Wrote sets (set_size * q) set_size g sets' → k ≢ q → (j : ℕ) → j < set_size → get_or sets' (set_size * k + j) 0 ≡ get_or sets (set_size * k + j) 0
set_kept sets sets' q k g w d j l = go (dec_le (suc k) q)
  where
    go : Dec (k < q) → get_or sets' (set_size * k + j) 0 ≡ get_or sets (set_size * k + j) 0
    go (yes y) = w.below (set_size * k + j) (omega arith)
    go (no y) = let z : q < k = omega arith in w.above (set_size * k + j) (omega arith)

module _ (pats : List Str) (rows sets rows' sets' : List ℕ) (q f : ℕ) (done : Finished rows sets q f rows' sets') (k : ℕ) (d : k ≢ q) where
  final_kept : Final pats rows sets k → Final pats rows' sets' k
  final_kept z =
      record {
        row = λ c l. row_kept rows rows' q k _ done.row d c l ∙ z.row c l;
        set = λ j l. set_kept sets sets' q k _ done.set d j l ∙ z.set j l;
      }

  young_kept : Young pats rows sets k → Young pats rows' sets' k
  young_kept z =
      record {
        row = λ c l. row_kept rows rows' q k _ done.row d c l ∙ z.row c l;
        set = λ j l. set_kept sets sets' q k _ done.set d j l ∙ z.set j l;
      }

record Cons (w : Str) : Type 0 where
  head : ℕ
  rest : Str
  is : w ≡ head ∷ rest

cons_of : (w : Str) → 0 < length w → Cons w
cons_of [] h = absurd (not-suc-le-zero h)
cons_of (a ∷ s) h = record { head = a; rest = s; is = refl }

-- ---- one pattern at length d

module _ (pats : List Str) (rows sets : List ℕ) (d i : ℕ) (lv : Level pats rows sets d i) (h : i < length pats) where
  abbrev st : List Str
  st = states pats

  abbrev p : Str
  p = get_or pats i []

  -- what is said of the patterns before i, and of pattern i
  these_next : (rows' sets' : List ℕ) → ((k : ℕ) → k < i → d ≤ length (get_or pats k []) → Final pats rows' sets' (index (take d (get_or pats k [])) st))
      → (d ≤ length p → Final pats rows' sets' (index (take d p) st))
      → (k : ℕ) → k < i + 1 → d ≤ length (get_or pats k []) → Final pats rows' sets' (index (take d (get_or pats k [])) st)
  these_next rows' sets' f g k m l = go (dec_le (suc k) i)
    where
      go : Dec (k < i) → Final pats rows' sets' (index (take d (get_or pats k [])) st)
      go (yes y) = f k y l
      go (no y) =
          let e : i ≡ k = omega arith in
          subst (λ (n : ℕ). d ≤ length (get_or pats n []) → Final pats rows' sets' (index (take d (get_or pats n [])) st)) e g l

  -- a shorter pattern has nothing to complete
  pub skip : length p < d → Level pats rows sets d (i + 1)
  skip l = record { final = lv.final; these = these_next rows sets lv.these (λ g. absurd (omega arith)); either = lv.either }

  module _ (pos : 0 < d) (l : d ≤ length p) where
    abbrev w : Str
    w = take d p

    abbrev q : ℕ
    q = index w st

    pub has : member w st ≡ true
    has = prefix_member pats i d h

    str : get_or st q [] ≡ w
    str = get_d_index w st has

    len : length w ≡ d
    len = simp length-take (omega arith)

    cons : Cons w
    cons = cons_of w (omega (arith, len))

    -- a state of an earlier pattern is finished already
    pub again : q < length (states (take i pats)) → Level pats rows sets d (i + 1)
    again low = record { final = lv.final; these = these_next rows sets lv.these (λ g. done); either = lv.either }
      where
        done : Final pats rows sets q
        done =
            let s = starts_early pats i q low (omega (arith, ap length str, len)) in
            let n : length (take i pats) ≡ i = simp length-take (omega arith) in
            let k : s.place < i = omega (arith, s.inside) in
            let g : get_or (take i pats) s.place [] ≡ get_or pats s.place [] = get_or-take i pats s.place [] k in
            let e : take d (get_or pats s.place []) ≡ w = ap₂ (λ (m : ℕ) (x : Str). take m x) (sym (ap length str ∙ len)) (sym g) ∙ s.is ∙ str in
            subst (λ (x : Str). Final pats rows sets (index x st)) e (lv.these s.place k (omega (arith, s.long, ap length g, ap length str, len)))

    shorter : length (get_or st (failure st q) []) < d
    shorter = omega (arith, failure_shorter st (numbered_nil pats) (numbered_closed pats) q cons.head cons.rest (str ∙ cons.is), ap length str, len)

    pub differ : q ≡ failure st q → ⊥
    differ e = let g = ap (λ (k : ℕ). length (get_or st k [])) e in omega (arith, shorter, ap length str, len)

    -- the failure state is where the string without its first symbol leads
    pub failure-is : failure st q ≡ index (longest (numbered st) (tail w)) st
    failure-is = ap (λ (s : Str). index (longest (numbered st) (tail s)) st) str

    failure_lt : failure st q < length st
    failure_lt = index_lt (longest (numbered st) (tail (get_or st q []))) st (longest_passes (numbered st) (numbered_nil pats) (tail (get_or st q [])))

    module _ (rows' sets' : List ℕ) (done : Finished rows sets q (failure st q) rows' sets') where
      new : Final pats rows' sets' q
      new =
          completes pats q cons.head cons.rest (str ∙ cons.is) rows sets rows' sets' done
          (lv.final (failure st q) failure_lt shorter) (lv.either q (index_lt w st has))

      keep : (k : ℕ) → Final pats rows sets k → Final pats rows' sets' k
      keep k z =
          by_bool (eqb k q)
          (λ t. subst (Final pats rows' sets') (sym (eqb→eq k q (true_eq (eqb k q) t))) new)
          (λ t. final_kept pats rows sets rows' sets' q (failure st q) done k (eqb-false k q t) z)

      keep_young : (k : ℕ) → Young pats rows sets k → Final pats rows' sets' k ⊎ Young pats rows' sets' k
      keep_young k z =
          by_bool (eqb k q)
          (λ t. inl (subst (Final pats rows' sets') (sym (eqb→eq k q (true_eq (eqb k q) t))) new))
          (λ t. inr (young_kept pats rows sets rows' sets' q (failure st q) done k (eqb-false k q t) z))

      pub next : Level pats rows' sets' d (i + 1)
      next =
          record {
            final = λ k m g. keep k (lv.final k m g);
            these = these_next rows' sets' (λ k m g. keep (index (take d (get_or pats k [])) st) (lv.these k m g)) (λ g. new);
            either = λ k m. ⊎_elim (λ z. inl (keep k z)) (λ z. keep_young k z) (lv.either k m);
          }

-- ---- from one length to the next

module _ (pats : List Str) (rows sets : List ℕ) where
  abbrev all : List Str
  all = states pats

  pub level-end : (d : ℕ) → 0 < d → Level pats rows sets d (length pats) → Level pats rows sets (d + 1) 0
  level-end d pos lv =
      record {
        final = λ q m g. both q m g (dec_le (suc (length (get_or all q []))) d);
        these = λ k m g. absurd (not-suc-le-zero m);
        either = lv.either;
      }
    where
      both : (q : ℕ) → q < length all → length (get_or all q []) < d + 1 → Dec (length (get_or all q []) < d) → Final pats rows sets q
      both q m g (yes y) = lv.final q m y
      both q m g (no y) =
          let s = get_or all q [] in
          let e : length s ≡ d = omega arith in
          let t = started pats s (omega arith) (member_at all q m) in
          let i : index (take d (get_or pats t.place [])) all ≡ q =
          ap (λ (n : ℕ). index (take n (get_or pats t.place [])) all) (sym e) ∙ ap (λ (x : Str). index x all) t.is ∙ index_get_d all (distinct_states pats) q m in
          subst (Final pats rows sets) i (lv.these t.place t.inside (omega (arith, t.long)))

  -- the empty string's row and set are finished as they are
  pub level-begin : Numbered all rows → Owned pats (length pats) sets → take (length pats) pats ≡ pats → Level pats rows sets 1 0
  level-begin nb ow tk =
      record {
        final = λ q m g. first q m g;
        these = λ k m g. absurd (not-suc-le-zero m);
        either = λ q m. inr (young q m);
      }
    where
      young : (q : ℕ) → q < length all → Young pats rows sets q
      young q m =
          record {
            row = λ c l. nb.children q c m l;
            set = λ j l. ow.words q j m l ∙ ap (λ (x : List Str). word (owns x (get_or all q [])) j) tk;
          }

      empty : (s : Str) → length s < 1 → s ≡ []
      empty [] l = refl
      empty (x ∷ s) l = absurd (not-suc-le-zero (le_of_suc-le-suc l))

      root_entry : (q c : ℕ) → get_or all q [] ≡ [] → child all q c ≡ entry all q c
      root_entry q c e =
          rw e
          (by_bool (member (c ∷ []) all) (λ t. rw t) (λ t. rw t (sym (index_nil pats))))

      first : (q : ℕ) → q < length all → length (get_or all q []) < 1 → Final pats rows sets q
      first q m g =
          let e = empty (get_or all q []) g in
          record {
            row = λ c l. nb.children q c m l ∙ root_entry q c e;
            set = λ j l. (young q m).set j l ∙ ap (λ (s : Str). word (owns pats s) j) e ∙ sym (ap (λ (s : Str). word (holds pats s) j) e);
          }

  -- every state is finished once the longest are
  pub level_all : (d : ℕ) → Level pats rows sets (d + 1) 0 → ((k : ℕ) → k < length pats → length (get_or pats k []) ≤ d) → (q : ℕ) → q < length all → Final pats rows sets q
  level_all d lv short q m = lv.final q m (bound (get_or all q []) (member_at all q m))
    where
      bound : (s : Str) → member s all ≡ true → length s < d + 1
      bound [] e = omega arith
      bound (x ∷ s) e =
          let t = started pats (x ∷ s) (suc-le-suc zero-le) e in
          omega (arith, t.long, short t.place t.inside)
