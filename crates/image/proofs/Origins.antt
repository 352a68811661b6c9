-- The table of the literal rules: read, tested and laid.
--     origin-at          an entry of a table says where its literal rule comes from
--     unfit, crowded, misplaced, tested, finished      whether memory has the table of its rules, rule by rule
--     begun, grown, closed                             the table laid rule by rule
-- Assumes nothing.
use Prim.Native.Nat.{ℕ, zero, suc, ◌+◌, ◌-◌, ◌*◌, ◌≤◌, ◌<◌}
use mathlib.Core.Path.{◌≡◌, refl, sym, ap, ap₂, ◌∙◌}
use mathlib.Core.List.{List, [], ◌∷◌, ◌++◌}
use mathlib.Core.Bool.{Bool, true, false, ◌&&◌}
use native.Mathlib.Omega.{arith}
use native.Mathlib.Numerals.{add-one}
use borrow.Author.Tests.{le-leb, lt-leb, leb-false, eqb-true, eq-eqb, ne_eqb}
use lib.Dec.{leb, eqb}
use lib.ListN.{length, get_or, drop, drop_of_length-le}
use lib.Seq.{get_or-drop, drop-drop, drop-cons}
use Rattle.classes.proofs.Scan.{cap_exact}
use Rattle.numbers.specs.Numbers.{two}
use Rattle.rules.specs.Limits.{max_rules}
use Rattle.rules.specs.Shape.{Entry}
use Rattle.rules.proofs.Cases.{and_l, and_r, by_bool}
use Rattle.classes.specs.Classes.{Classes, defined}
use Rattle.classes.specs.Counting.{capped}
use Rattle.classes.specs.Expansion.{literal_count, literal_total}
use Rattle.classes.specs.Ordinal.{Origin, origin, origin_run, origins}
use Rattle.classes.proofs.Counts.{defined_count}
use Rattle.classes.proofs.Ordinal.{length_run}
use Rattle.image.specs.State.{no_entry, all_defined, expandable}
use Rattle.image.specs.Image.{origin_size, origins_at, table_start, total_of, classes_of, entries_of, origins_of, tabled}
use Rattle.image.specs.Literals.{EntryOf}

-- ---- an entry

two_drop : (n at : ℕ) (s : List ℕ) → two at (drop n s) ≡ two (n + at) s
two_drop n at s =
    let e : n + (at + 1) ≡ n + at + 1 = omega arith in
    ap₂ (λ (a b : ℕ). 256 * a + b) (get_or-drop n s at 0) (get_or-drop n s (at + 1) 0 ∙ ap (λ (k : ℕ). get_or s k 0) e)

entry_on : (s : List ℕ) (at : ℕ) (o : Origin) → EntryOf (drop origin_size s) at o → EntryOf s (origin_size + at) o
entry_on s at o e =
    let n : origin_size + (at + 2) ≡ origin_size + at + 2 = omega arith in
    record { place = sym (two_drop origin_size at s) ∙ e.place; ordinal = ap (λ (k : ℕ). two k s) (sym n) ∙ (sym (two_drop origin_size (at + 2) s) ∙ e.ordinal) }

entry_in : (l : List Origin) (s : List ℕ) (p : ℕ) (d : Origin) → origins_at l s ≡ true → p < length l → EntryOf s (origin_size * p) (get_or l p d)
entry_in [] s p d e h = absurd (omega arith)
entry_in (o ∷ l) s zero d e h =
    let f = and_l (eqb (two 0 s) o.place && eqb (two 2 s) o.ordinal) _ e in
    record { place = eqb-true (two 0 s) o.place (and_l (eqb (two 0 s) o.place) _ f); ordinal = eqb-true (two 2 s) o.ordinal (and_r (eqb (two 0 s) o.place) _ f) }
entry_in (o ∷ l) s (suc p) d e h =
    let n : origin_size + origin_size * p ≡ origin_size * suc p = omega arith in
    let g = entry_on s (origin_size * p) (get_or l p d) (entry_in l (drop origin_size s) p d (and_r (eqb (two 0 s) o.place && eqb (two 2 s) o.ordinal) _ e) (omega arith)) in
    rw (← n) g

-- an entry of a table says where its literal rule comes from
pub origin_at : (d : List ℕ) → tabled d ≡ true → (p : ℕ) → p < length (origins_of d) → EntryOf d (table_start + origin_size * p) (get_or (origins_of d) p (origin 0 0))
unfolding tabled
origin_at d e p h =
    let g = entry_in (origins_of d) (drop table_start d) p (origin 0 0) (and_r (eqb (total_of d) (literal_total (classes_of d) (entries_of d))) _ e) h in
    let n : table_start + (origin_size * p + 2) ≡ table_start + origin_size * p + 2 = omega arith in
    record {
      place = sym (two_drop table_start (origin_size * p) d) ∙ g.place;
      ordinal = ap (λ (k : ℕ). two k d) (sym n) ∙ (sym (two_drop table_start (origin_size * p + 2) d) ∙ g.ordinal);
    }

pub tabled_total : (d : List ℕ) → tabled d ≡ true → total_of d ≡ literal_total (classes_of d) (entries_of d)
unfolding tabled
tabled_total d e = eqb-true (total_of d) (literal_total (classes_of d) (entries_of d)) (and_l _ _ e)

-- ---- the entries of one rule, tested in turn

module _ (q n j : ℕ) (h : j < n) (s : List ℕ) where
  run_here : origin_run q j (n - j) ≡ origin q j ∷ origin_run q (suc j) (n - suc j)
  run_here = let e : n - j ≡ suc (n - suc j) = omega arith in ap (origin_run q j) e

  abbrev left_of : ℕ → List ℕ
  left_of i = drop (origin_size * i) s

  run_place : eqb (two (origin_size * j) s) q ≡ false → origins_at (origin_run q j (n - j)) (left_of j) ≡ false
  run_place e =
      let z : origin_size * j + 0 ≡ origin_size * j = omega arith in
      let f : eqb (two 0 (left_of j)) q ≡ false = ap (λ (x : ℕ). eqb x q) (two_drop (origin_size * j) 0 s ∙ ap (λ (k : ℕ). two k s) z) ∙ e in
      rw (run_here, f)

  run_ordinal : eqb (two (origin_size * j) s) q ≡ true → eqb (two (origin_size * j + 2) s) j ≡ false → origins_at (origin_run q j (n - j)) (left_of j) ≡ false
  run_ordinal a e =
      let z : origin_size * j + 0 ≡ origin_size * j = omega arith in
      let g : eqb (two 0 (left_of j)) q ≡ true = ap (λ (x : ℕ). eqb x q) (two_drop (origin_size * j) 0 s ∙ ap (λ (k : ℕ). two k s) z) ∙ a in
      let f : eqb (two 2 (left_of j)) j ≡ false = ap (λ (x : ℕ). eqb x j) (two_drop (origin_size * j) 2 s) ∙ e in
      rw (run_here, g, f)

  run_on : eqb (two (origin_size * j) s) q ≡ true → eqb (two (origin_size * j + 2) s) j ≡ true
      → origins_at (origin_run q j (n - j)) (left_of j) ≡ origins_at (origin_run q (suc j) (n - suc j)) (left_of (suc j))
  run_on a e =
      let z : origin_size * j + 0 ≡ origin_size * j = omega arith in
      let g : eqb (two 0 (left_of j)) q ≡ true = ap (λ (x : ℕ). eqb x q) (two_drop (origin_size * j) 0 s ∙ ap (λ (k : ℕ). two k s) z) ∙ a in
      let f : eqb (two 2 (left_of j)) j ≡ true = ap (λ (x : ℕ). eqb x j) (two_drop (origin_size * j) 2 s) ∙ e in
      let m : origin_size * j + origin_size ≡ origin_size * suc j = omega arith in
      let k : drop origin_size (left_of j) ≡ left_of (suc j) = drop-drop origin_size (origin_size * j) s ∙ ap (λ (i : ℕ). drop i s) m in
      rw (run_here, g, f, k)

run_end : (q n j : ℕ) (s : List ℕ) → n ≤ j → origins_at (origin_run q j (n - j)) s ≡ true
run_end q n j s h = let e : n - j ≡ 0 = omega arith in rw e

-- the same of n entries that start at `from`
module _ (d : List ℕ) (from q n : ℕ) where
  -- those from the j-th on
  abbrev pub rest_run : ℕ → Bool
  rest_run j = origins_at (origin_run q j (n - j)) (drop (origin_size * j) (drop from d))

  pub rest_first : origins_at (origin_run q 0 n) (drop from d) ≡ rest_run 0
  rest_first = let e : n - 0 ≡ n = omega arith in ap (λ (m : ℕ). origins_at (origin_run q 0 m) (drop from d)) (sym e)

  module _ (j : ℕ) (h : j < n) where
    place_is : two (origin_size * j) (drop from d) ≡ two (from + origin_size * j) d
    place_is = two_drop from (origin_size * j) d

    ordinal_is : two (origin_size * j + 2) (drop from d) ≡ two (from + origin_size * j + 2) d
    ordinal_is = let e : from + (origin_size * j + 2) ≡ from + origin_size * j + 2 = omega arith in two_drop from (origin_size * j + 2) d ∙ ap (λ (k : ℕ). two k d) e

    pub rest_place : (two (from + origin_size * j) d ≡ q → ⊥) → rest_run j ≡ false
    rest_place f = run_place q n j h (drop from d) (ne_eqb _ q (λ e. f (sym place_is ∙ e)))

    module _ (p : two (from + origin_size * j) d ≡ q) where
      pub rest_ordinal : (two (from + origin_size * j + 2) d ≡ j → ⊥) → rest_run j ≡ false
      rest_ordinal f = run_ordinal q n j h (drop from d) (eq-eqb _ q (place_is ∙ p)) (ne_eqb _ j (λ e. f (sym ordinal_is ∙ e)))

      pub rest_on : two (from + origin_size * j + 2) d ≡ j → rest_run j ≡ rest_run (j + 1)
      rest_on e =
          run_on q n j h (drop from d) (eq-eqb _ q (place_is ∙ p)) (eq-eqb _ j (ordinal_is ∙ e))
          ∙ ap (λ (i : ℕ). origins_at (origin_run q i (n - i)) (drop (origin_size * i) (drop from d))) (sym (add-one j))

  pub rest_end : (j : ℕ) → n ≤ j → rest_run j ≡ true
  rest_end j h = run_end q n j (drop (origin_size * j) (drop from d)) h

-- ---- all rules, tested in turn

origins_join : (a b : List Origin) (s : List ℕ) → origins_at (a ++ b) s ≡ (origins_at a s && origins_at b (drop (origin_size * length a) s))
origins_join [] b s = refl
origins_join (o ∷ a) b s =
    let n : origin_size + origin_size * length a ≡ origin_size * length (o ∷ a) = omega arith in
    ap (λ (x : Bool). (eqb (two 0 s) o.place && eqb (two 2 s) o.ordinal) && x)
    (origins_join a b (drop origin_size s)
    ∙ ap (λ (t : List ℕ). origins_at a (drop origin_size s) && origins_at b t) (drop-drop (origin_size * length a) origin_size s ∙ ap (λ (k : ℕ). drop k s) n))
    ∙ sym (and_assoc (eqb (two 0 s) o.place && eqb (two 2 s) o.ordinal) _ _)
  where
    and_assoc : (x y z : Bool) → ((x && y) && z) ≡ (x && (y && z))
    and_assoc true y z = refl
    and_assoc false y z = refl

module _ (d : List ℕ) (k : Classes) (l : List Entry) where
  -- the rules from place q on, before which there are p literal rules, are as they should be
  abbrev pub rest_fine : ℕ → ℕ → Bool
  rest_fine q p =
      all_defined k (drop q l) && (leb (p + literal_total k (drop q l)) max_rules && (eqb (total_of d) (p + literal_total k (drop q l))
      && origins_at (origins k q (drop q l)) (drop (table_start + origin_size * p) d)))

  and-false : (x : Bool) → (x && false) ≡ false
  and-false true = refl
  and-false false = refl

  module _ (q p : ℕ) (h : q < length l) where
    rule_here : drop q l ≡ get_or l q no_entry ∷ drop (suc q) l
    rule_here = drop-cons l q no_entry h

    abbrev many : ℕ
    many = literal_count k (get_or l q no_entry).rule

    pub unfit : capped many ≡ 0 → rest_fine q p ≡ false
    unfit e =
        let z : many ≡ 0 = sym (cap_exact many (omega arith)) ∙ e in
        let f : defined k (get_or l q no_entry).rule ≡ false = defined_count k (get_or l q no_entry).rule ∙ lt-leb 1 many (omega arith) in
        rw (rule_here, f)

    pub crowded : max_rules < p + capped many → rest_fine q p ≡ false
    crowded u =
        let g : max_rules < p + literal_total k (drop q l) =
        rw rule_here (by_bool (leb many max_rules) (λ e. let z : capped many ≡ many = rw e in omega arith) (λ e. let z = leb_high many e in omega arith)) in
        ap (λ (x : Bool). all_defined k (drop q l) && (x && (eqb (total_of d) (p + literal_total k (drop q l))
        && origins_at (origins k q (drop q l)) (drop (table_start + origin_size * p) d)))) (lt-leb _ _ g)
        ∙ and-false (all_defined k (drop q l))
      where
        leb_high : (n : ℕ) → leb n max_rules ≡ false → max_rules < n
        leb_high n e = leb-false n max_rules e

    module _ (n : ℕ) (is : n ≡ capped many) (u : p + n ≤ max_rules) (some : 1 ≤ n) where
      pub many_is : n ≡ many
      many_is = is ∙ cap_exact many (omega arith)

      joined : origins_at (origins k q (drop q l)) (drop (table_start + origin_size * p) d)
          ≡ (origins_at (origin_run q 0 n) (drop (table_start + origin_size * p) d) && origins_at (origins k (suc q) (drop (suc q) l)) (drop (table_start + origin_size * (p + n)) d))
      joined =
          let m : table_start + origin_size * p + origin_size * n ≡ table_start + origin_size * (p + n) = omega arith in
          ap (λ (x : List Entry). origins_at (origins k q x) (drop (table_start + origin_size * p) d)) rule_here
          ∙ (ap (λ (i : ℕ). origins_at (origin_run q 0 i ++ origins k (suc q) (drop (suc q) l)) (drop (table_start + origin_size * p) d)) (sym many_is)
          ∙ (origins_join (origin_run q 0 n) (origins k (suc q) (drop (suc q) l)) (drop (table_start + origin_size * p) d)
          ∙ ap (λ (t : List ℕ). origins_at (origin_run q 0 n) (drop (table_start + origin_size * p) d) && origins_at (origins k (suc q) (drop (suc q) l)) t)
          (ap (λ (i : ℕ). drop (origin_size * i) (drop (table_start + origin_size * p) d)) (length_run q 0 n)
          ∙ (drop-drop (origin_size * n) (table_start + origin_size * p) d ∙ ap (λ (i : ℕ). drop i d) m))))

      total_on : p + literal_total k (drop q l) ≡ p + n + literal_total k (drop (suc q) l)
      total_on = rw rule_here (let e = many_is in omega arith)

      defined_on : all_defined k (drop q l) ≡ all_defined k (drop (suc q) l)
      defined_on =
          let f : defined k (get_or l q no_entry).rule ≡ true = defined_count k (get_or l q no_entry).rule ∙ le-leb 1 many (let e = many_is in omega arith) in
          rw (rule_here, f)

      pub misplaced : origins_at (origin_run q 0 n) (drop (table_start + origin_size * p) d) ≡ false → rest_fine q p ≡ false
      misplaced e =
          let f : origins_at (origins k q (drop q l)) (drop (table_start + origin_size * p) d) ≡ false = joined ∙ rw e in
          rw f (ap (λ (x : Bool). all_defined k (drop q l) && x)
          (ap (λ (x : Bool). leb (p + literal_total k (drop q l)) max_rules && x) (and-false (eqb (total_of d) (p + literal_total k (drop q l)))) ∙ and-false (leb (p + literal_total k (drop q l)) max_rules))
          ∙ and-false (all_defined k (drop q l)))

      pub tested : origins_at (origin_run q 0 n) (drop (table_start + origin_size * p) d) ≡ true → rest_fine q p ≡ rest_fine (suc q) (p + n)
      tested e =
          let f : origins_at (origins k q (drop q l)) (drop (table_start + origin_size * p) d) ≡ origins_at (origins k (suc q) (drop (suc q) l)) (drop (table_start + origin_size * (p + n)) d) = joined ∙ rw e in
          rw (f, total_on, defined_on)

  pub finished : (q p : ℕ) → length l ≤ q → p ≤ max_rules → rest_fine q p ≡ eqb (total_of d) p
  finished q p h u =
      let e : p + 0 ≡ p = omega arith in
      rw (drop_of_length-le l {i = q} h, e, le-leb p max_rules u) (and-true (eqb (total_of d) p))
    where
      and-true : (x : Bool) → (x && true) ≡ x
      and-true true = refl
      and-true false = refl

pub fine_begin : (d : List ℕ) → (expandable (classes_of d) (entries_of d) && tabled d) ≡ rest_fine d (classes_of d) (entries_of d) 0 0
unfolding expandable tabled
fine_begin d =
    let e : 0 + literal_total (classes_of d) (entries_of d) ≡ literal_total (classes_of d) (entries_of d) = omega arith in
    rw e (regroup (all_defined (classes_of d) (entries_of d)) _ _)
  where
    regroup : (a b c : Bool) → ((a && b) && c) ≡ (a && (b && c))
    regroup true b c = refl
    regroup false b c = refl
