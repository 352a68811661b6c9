-- What a build answers and leaves, from the counts and tables of the two sides.
-- Assumes nothing.
use mathlib.Core.Path.{◌≡◌, refl, sym, ap, ap₂, ◌∙◌, subst}
use Prim.Native.Nat.{ℕ, zero, suc, ◌+◌, ◌*◌, ◌/◌, ◌%◌, ◌≤◌, ◌<◌}
use native.Mathlib.Omega.{arith}
use mathlib.Core.Bool.{Bool, true, false}
use mathlib.Core.List.{List, [], ◌∷◌, ◌++◌, map}
use lib.Dec.{leb}
use lib.ListN.{length, get_or}
use borrow.Author.Tests.{le-leb, lt-leb}
use Rattle.rules.specs.Memory.{over}
use Rattle.rules.specs.Shape.{Entry}
use Rattle.rules.specs.Refusals.{accepted, declined}
use Rattle.image.specs.Image.{valid, edits_of, literals_of, total_of}
use Rattle.fitting.specs.Fitting.{Str, ends}
use Rattle.tables.specs.States.{states}
use Rattle.tables.specs.Tables.{Table, at, table_of}
use Rattle.tables.specs.Words.{tab, words_head, rows_of, sets_of, built_words, built_sets, needed_words, needed_sets, words_for, sets_for, building, built_from, built, row_size, set_size}
use Rattle.tables.proofs.Words.{length_tab}
use Rattle.side.specs.Patterns.{patterns_of, Patterns, state_count}
use Rattle.side.specs.Filled.{at_place, holds, side_rows, side_sets}
use Rattle.side.proofs.Levels.{word_ext}
use Rattle.side.proofs.Inserting.{count-few}
use Rattle.patterns.specs.Sides.{side_of, side_table, Laid}
use Rattle.build.specs.Counting.{Counted}

-- ---- one side

at_map : (t : Str → Bool) (f : Entry → Str) (l : List Entry) (p : ℕ) → at_place t (map f l) p ≡ at (λ r. t (f r)) l p
at_map t f [] p = refl
at_map t f (r ∷ l) zero = refl
at_map t f (r ∷ l) (suc p) = at_map t f l p

tab_ext : (n : ℕ) (f g : ℕ → ℕ) → ((k : ℕ) → f k ≡ g k) → tab n f ≡ tab n g
tab_ext zero f g h = refl
tab_ext (suc n) f g h = ap₂ ◌∷◌ (h zero) (tab_ext n (λ k. f (suc k)) (λ k. g (suc k)) (λ k. h (suc k)))

sets-are : (f : Entry → Str) (rules : List Entry) → side_sets (map f rules) ≡ sets_of (table_of f rules)
sets-are f rules =
    tab_ext (set_size * length (states (map f rules))) _ _
    (λ k. word_ext (holds (map f rules) (get_or (states (map f rules)) (k / set_size) [])) ((table_of f rules).holds (k / set_size)) (k % set_size) (λ b l. at_map (λ x. ends x (get_or (states (map f rules)) (k / set_size) [])) f rules (64 * (k % set_size) + b)))

-- n is the number of literal rules, and their patterns are laid
module _ (d : List ℕ) (right : Bool) (ps ls : List ℕ) (n : ℕ) (e : n ≡ total_of d) (a : Laid d right ps ls) where
  are_n : patterns_of ps ls n ≡ map (side_of right) (literals_of d)
  are_n = ap (patterns_of ps ls) e ∙ a.are

  pub side_count : state_count ps ls n ≡ (side_table d right).count
  side_count = ap (λ (l : List Str). length (states l)) are_n

  pub side_ok : Patterns ps ls n
  side_ok = subst (Patterns ps ls) (sym e) a.ok

  pub side_counted : (r : ℕ) → r ≡ state_count ps ls n → Counted d right r ps ls
  side_counted r f = record { is = f ∙ side_count; few = omega (arith, count-few ps ls n side_ok); scratch = a.scratch }

  pub side-rows : side_rows (patterns_of ps ls n) ≡ rows_of (side_table d right)
  side-rows = ap side_rows are_n

  pub side-sets : side_sets (patterns_of ps ls n) ≡ sets_of (side_table d right)
  side-sets = ap side_sets are_n ∙ sets-are (side_of right) (literals_of d)

pub rows_length : (t : Table) → length (rows_of t) ≡ row_size * t.count
rows_length t = length_tab (row_size * t.count) _

pub sets_length : (t : Table) → length (sets_of t) ≡ set_size * t.count
sets_length t = length_tab (set_size * t.count) _

-- ---- both sides

module _ (d : List ℕ) (l r : ℕ) (el : l ≡ (side_table d false).count) (er : r ≡ (side_table d true).count) where
  pub words_are : (edits : ℕ) → edits ≡ edits_of d → words_head edits l r ++ (rows_of (side_table d false) ++ rows_of (side_table d true)) ≡ built_words (edits_of d) (literals_of d)
  unfolding built_words
  words_are edits m = rw (m, el, er)

  words_needed : needed_words l r ≡ words_for (literals_of d)
  words_needed = ap₂ needed_words el er

  sets_needed : needed_sets l r ≡ sets_for (literals_of d)
  sets_needed = ap₂ needed_sets el er

  module _ (ws ss : List ℕ) where
    pub few_words : length ws < needed_words l r → building (declined 11 (needed_words l r)) ws ss ≡ built_from (edits_of d) (literals_of d) ws ss
    few_words h =
        let t : leb (words_for (literals_of d)) (length ws) ≡ false = lt-leb (words_for (literals_of d)) (length ws) (omega (arith, words_needed)) in
        rw t (ap (λ (n : ℕ). building (declined 11 n) ws ss) words_needed)

    pub few_sets : needed_words l r ≤ length ws → length ss < needed_sets l r → building (declined 12 (needed_sets l r)) ws ss ≡ built_from (edits_of d) (literals_of d) ws ss
    few_sets h g =
        let t : leb (words_for (literals_of d)) (length ws) ≡ true = le-leb (words_for (literals_of d)) (length ws) (omega (arith, words_needed)) in
        let u : leb (sets_for (literals_of d)) (length ss) ≡ false = lt-leb (sets_for (literals_of d)) (length ss) (omega (arith, sets_needed)) in
        rw (t, u) (ap (λ (n : ℕ). building (declined 12 n) ws ss) sets_needed)

pub enough : (d ws ss : List ℕ) → words_for (literals_of d) ≤ length ws → sets_for (literals_of d) ≤ length ss → (ws' ss' : List ℕ)
    → ws' ≡ over (built_words (edits_of d) (literals_of d)) ws → ss' ≡ over (built_sets (literals_of d)) ss → building accepted ws' ss' ≡ built_from (edits_of d) (literals_of d) ws ss
enough d ws ss h g ws' ss' e f =
    let t : leb (words_for (literals_of d)) (length ws) ≡ true = le-leb (words_for (literals_of d)) (length ws) h in
    let u : leb (sets_for (literals_of d)) (length ss) ≡ true = le-leb (sets_for (literals_of d)) (length ss) g in
    rw (t, u) (ap₂ (λ (x y : List ℕ). building accepted x y) e f)

pub sets_built : (d : List ℕ) → sets_of (side_table d false) ++ sets_of (side_table d true) ≡ built_sets (literals_of d)
unfolding built_sets
sets_built d = refl

-- refusal 0, or as for a valid image
pub no_ruleset : (d ws ss : List ℕ) → valid d ≡ false → building (declined 0 0) ws ss ≡ built d ws ss
unfolding built
no_ruleset d ws ss e = rw e

pub is-ruleset : (d ws ss : List ℕ) → valid d ≡ true → built_from (edits_of d) (literals_of d) ws ss ≡ built d ws ss
unfolding built
is-ruleset d ws ss e = rw e
