-- A name with no contested letter does not lean on the order of the rules (document 02, request 4): the same rules, with the same classes, say the
-- same of it in any order.
--     passing-order      as many rules fit
--     plain-order      of a word
--     said-order      of the answer that a call gives, with all lent memory
-- Assumes nothing.
use Prim.Native.Nat.{ℕ, zero, suc, ◌+◌, ◌≤◌}
use mathlib.Core.Path.{◌≡◌, refl, sym, ap, ap₂, ◌∙◌}
use mathlib.Core.List.{List, [], ◌∷◌, ◌++◌}
use mathlib.Core.Bool.{Bool, true, false, cond}
use native.Mathlib.Omega.{arith}
use borrow.Author.Tests.{ltb-false}
use mathlib.Core.Option.{none, some}
use lib.Dec.{ltb, leb}
use lib.ListN.{length}
use Rattle.rules.proofs.Cases.{by_bool}
use Rattle.rules.specs.Names.{judged_name}
use Rattle.rules.specs.Refusals.{Reply, accepted, declined}
use Rattle.rules.specs.Shape.{Entry}
use Rattle.exceptions.specs.Judging.{Listing}
use Rattle.classes.specs.Classes.{Classes}
use Rattle.image.specs.Image.{valid, entries_of, classes_of}
use Rattle.fitting.specs.Fitting.{Str, frame, fits_by}
use Rattle.fitting.specs.Reading.{Application, Choice, chosen, nothing, unusable, Piece, applied, Reading, finished, uncovered, bad_tables, cons, past, onward, read_from, passing, first_rule, first_fit, plain}
use Rattle.speech.specs.Words.{Word, words_in, in_name, phones_or, read_word, followed, read_words}
use Rattle.speech.specs.Speech.{Outcome, speaks, answered, judged_by, said_from, Following, judged_for, phones_of, numbers_of, contested_in, contested_of, spoken, refused, delivered, plain_words, plain_said}
use Rattle.reading.specs.Meaning.{Reordered, same, swapped, under, twice}
use Rattle.fitting.proofs.Search.{first_tells}
use Rattle.reading.proofs.Contested.{contested_append}

-- ---- one letter

module _ (t : Entry → Bool) where
  pub passing_order : {l m : List Entry} → Reordered l m → passing t l ≡ passing t m
  passing_order (same l) = refl
  passing_order (swapped r s l) = omega arith
  passing_order (under r d) = ap (λ (k : ℕ). cond (t r) 1 0 + k) (passing_order d)
  passing_order (twice d e) = passing_order d ∙ passing_order e

  one_of : (r : Entry) → t r ≡ true → ◌≡◌ {A = ℕ} (cond (t r) 1 0) 1
  one_of r q = rw q

  zero_of : (r : Entry) → t r ≡ false → ◌≡◌ {A = ℕ} (cond (t r) 1 0) 0
  zero_of r q = rw q

  -- where no more than one passes, the first is the same
  first_order : {l m : List Entry} (n : ℕ) → Reordered l m → passing t l ≤ 1 → first_rule t n l ≡ first_rule t n m
  first_order n (same l) h = refl
  first_order n (swapped r s l) h =
      by_bool (t r)
      (λ p. by_bool (t s) (λ q. absurd (omega (arith, one_of r p, one_of s q))) (λ q. rw (p, q)))
      (λ p. by_bool (t s) (λ q. rw (p, q)) (λ q. rw (p, q)))
  first_order n (under r d) h =
      by_bool (t r) (λ p. rw p) (λ p. rw p (first_order n d (omega (arith, zero_of r p))))
  first_order n (twice d e) h = first_order n d h ∙ first_order n e (omega (arith, passing_order d))

-- ---- one word

not_uncovered : {i : ℕ} {xs : List Piece} → uncovered i ≡ finished xs → ⊥
not_uncovered e = let z : ◌≡◌ {A = ℕ} 0 1 = cc in omega arith

not_bad : {xs : List Piece} → bad_tables ≡ finished xs → ⊥
not_bad e = let z : ◌≡◌ {A = ℕ} 0 1 = cc in omega arith

-- the first piece of what is read to the end, and the rest
record Begun (x : Piece) (r : Reading) (xs : List Piece) : Type 0 where
  rest : List Piece
  reads : r ≡ finished rest
  are : xs ≡ x ∷ rest

begun : (x : Piece) (r : Reading) (xs : List Piece) → cons x r ≡ finished xs → Begun x r xs
begun x (finished ys) xs e = let z : x ∷ ys ≡ xs = cc in record { rest = ys; reads = refl; are = sym z }
begun x (uncovered i) xs e = absurd (not_uncovered e)
begun x bad_tables xs e = absurd (not_bad e)

few : (a : Application) → contested_in (applied a) ≡ 0 → a.fitting ≤ 1
few a e = by_bool (ltb 1 a.fitting) (λ q. let z : contested_in (applied a) ≡ 1 = rw q refl in absurd (omega arith)) (λ q. ltb-false 1 a.fitting q)

module _ (c : Classes) {l m : List Entry} (d : Reordered l m) (f : Str) (n : ℕ) where
  abbrev test : ℕ → Entry → Bool
  test i r = fits_by c r.rule f i

  choice_order : (i : ℕ) (a : Application) → first_fit c l f i ≡ chosen a → a.fitting ≤ 1 → first_fit c m f i ≡ chosen a
  choice_order i a e h =
      let k = first_tells (test i) (passing (test i) l) l a e in
      ap (λ (x : ℕ). first_rule (test i) x m) (sym (passing_order (test i) d))
      ∙ (sym (first_order (test i) (passing (test i) l) d (omega arith)) ∙ e)

  read_order : (k i : ℕ) (xs : List Piece) → contested_of xs ≡ 0 → read_from (first_fit c l f) n k i ≡ finished xs → read_from (first_fit c m f) n k i ≡ finished xs
  read_order zero i xs u e = e
  read_order (suc k) i xs u e =
      by_bool (ltb n i) (λ q. rw q (rw q at e)) (λ q. rw q (by (λ j ys v g. read_order k j ys v g) (first_fit c l f i) refl (rw q at e)))
    where
      by : ((j : ℕ) (ys : List Piece) → contested_of ys ≡ 0 → read_from (first_fit c l f) n k j ≡ finished ys → read_from (first_fit c m f) n k j ≡ finished ys)
          → (x : Choice) → first_fit c l f i ≡ x → onward (first_fit c l f i) i (read_from (first_fit c l f) n k) ≡ finished xs
          → onward (first_fit c m f i) i (read_from (first_fit c m f) n k) ≡ finished xs
      by on (chosen a) y g =
          let b = begun (applied a) (read_from (first_fit c l f) n k (past i a)) xs (ap (λ (z : Choice). onward z i (read_from (first_fit c l f) n k)) (sym y) ∙ g) in
          let s : contested_in (applied a) + contested_of b.rest ≡ 0 = ap contested_of (sym b.are) ∙ u in
          ap (λ (z : Choice). onward z i (read_from (first_fit c m f) n k)) (choice_order i a y (few a (omega arith)))
          ∙ (ap (cons (applied a)) (on (past i a) b.rest (omega arith) b.reads) ∙ ap finished (sym b.are))
      by on nothing y g = absurd (not_uncovered (ap (λ (x : Choice). onward x i (read_from (first_fit c l f) n k)) (sym y) ∙ g))
      by on unusable y g = absurd (not_bad (ap (λ (x : Choice). onward x i (read_from (first_fit c l f) n k)) (sym y) ∙ g))

pub plain_order : (k : Classes) {l m : List Entry} → Reordered l m → (w : Str) (xs : List Piece) → contested_of xs ≡ 0 → plain k l w ≡ finished xs → plain k m w ≡ finished xs
unfolding plain
plain_order k d w xs c e = read_order k d (frame w) (length w) (length w) 1 xs c e

-- ---- the words of a name

-- what is read to the end in two parts
record Parts (r s : Reading) (xs : List Piece) : Type 0 where
  first : List Piece
  second : List Piece
  reads : r ≡ finished first
  follows : s ≡ finished second
  are : xs ≡ first ++ second

parts : (r s : Reading) (xs : List Piece) → followed r s ≡ finished xs → Parts r s xs
parts (finished ys) (finished zs) xs e = let z : ys ++ zs ≡ xs = cc in record { first = ys; second = zs; reads = refl; follows = refl; are = sym z }
parts (finished ys) (uncovered i) xs e = absurd (not_uncovered e)
parts (finished ys) bad_tables xs e = absurd (not_bad e)
parts (uncovered i) s xs e = absurd (not_uncovered e)
parts bad_tables s xs e = absurd (not_bad e)

in-name : (b : ℕ) (r : Reading) (xs : List Piece) → in_name b r ≡ finished xs → r ≡ finished xs
in-name b (finished ys) xs e = e
in-name b (uncovered i) xs e = absurd (not_uncovered e)
in-name b bad_tables xs e = absurd (not_bad e)

module _ (k : Classes) {l l' : List Entry} (d : Reordered l l') (m : Str → Str) where
  word_order : (w : Word) (xs : List Piece) → contested_of xs ≡ 0 → read_word m (plain k l) w ≡ finished xs → read_word m (plain k l') w ≡ finished xs
  word_order w xs c e = by (m w.letters) e
    where
      by : (p : Str) → phones_or p (in_name w.before (plain k l w.letters)) ≡ finished xs → phones_or p (in_name w.before (plain k l' w.letters)) ≡ finished xs
      by [] g = ap (in_name w.before) (plain_order k d w.letters xs c (in-name w.before (plain k l w.letters) xs g))
      by (x ∷ p) g = g

  words_order : (ws : List Word) (xs : List Piece) → contested_of xs ≡ 0 → read_words m (plain k l) ws ≡ finished xs → read_words m (plain k l') ws ≡ finished xs
  words_order [] xs c e = e
  words_order (w ∷ ws) xs c e =
      let b = parts (read_word m (plain k l) w) (read_words m (plain k l) ws) xs e in
      let s : contested_of b.first + contested_of b.second ≡ 0 = sym (contested_append b.first b.second) ∙ (ap contested_of (sym b.are) ∙ c) in
      ap₂ followed (word_order w b.first (omega arith) b.reads) (words_order ws b.second (omega arith) b.follows) ∙ ap finished (sym b.are)

-- ---- the answer of a call

not_spoken : {a b p n c : ℕ} → refused a b ≡ spoken p n c → ⊥
not_spoken e = let z : ◌≡◌ {A = ℕ} 0 1 = cc in omega arith

module _ (phones numbers : List ℕ) (p n : ℕ) where
  -- what is spoken with no contested letter has none
  uncontested : (xs : List Piece) → (delivered (speaks xs 0) phones numbers).told ≡ spoken p n 0 → contested_of xs ≡ 0
  uncontested xs e =
      by_bool (leb (length (phones_of xs)) (length phones))
      (λ q. by_bool (leb (length (numbers_of xs)) (length numbers)) (λ u. count (rw (q, u) at e)) (λ u. absurd (not_spoken (rw (q, u) at e))))
      (λ q. absurd (not_spoken (rw q at e)))
    where
      count : {a b k : ℕ} → spoken a b k ≡ spoken p n 0 → k ≡ 0
      count e = cc

  answered_order : (k : Classes) {l l' : List Entry} → Reordered l l' → (name : Str) (m : Str → Str)
      → (delivered (answered (plain_words k l name m) 0) phones numbers).told ≡ spoken p n 0 → answered (plain_words k l' name m) 0 ≡ answered (plain_words k l name m) 0
  answered_order k {l} {l'} d name m e = by (plain_words k l name m) refl e
    where
      by : (r : Reading) → plain_words k l name m ≡ r → (delivered (answered r 0) phones numbers).told ≡ spoken p n 0 → answered (plain_words k l' name m) 0 ≡ answered r 0
      by (finished xs) q g = ap (λ (r : Reading). answered r 0) (words_order k d m (words_in name) xs (uncontested xs g) q)
      by (uncovered i) q g = absurd (not_spoken g)
      by bad_tables q g = absurd (not_spoken g)

  judged_order : (name : Str) (o o' : Following) → ((m : Str → Str) → (delivered (o m) phones numbers).told ≡ spoken p n 0 → o' m ≡ o m)
      → (l : Listing) → (delivered (judged_for l name o) phones numbers).told ≡ spoken p n 0 → judged_for l name o' ≡ judged_for l name o
  judged_order name o o' h none e = refl
  judged_order name o o' h (some m) e = by (judged_name name) (m name) e
    where
      by : (r : Reply) (q : Str) → (delivered (judged_by r (said_from q (o m))) phones numbers).told ≡ spoken p n 0 → judged_by r (said_from q (o' m)) ≡ judged_by r (said_from q (o m))
      by accepted [] g = h m g
      by accepted (x ∷ q) g = refl
      by (declined a b) q g = refl

  pub said_order : (image image' : List ℕ) → valid image ≡ true → valid image' ≡ true → Reordered (entries_of image) (entries_of image')
      → classes_of image ≡ classes_of image' → (l : Listing) (name : Str)
      → (plain_said image l name phones numbers).told ≡ spoken p n 0 → plain_said image' l name phones numbers ≡ plain_said image l name phones numbers
  unfolding plain_said
  said_order image image' v v' d c l name e =
      rw (v, v')
      (ap (λ (o : Outcome). delivered o phones numbers)
      (ap (λ (k : Classes). judged_for l name (λ m. answered (plain_words k (entries_of image') name m) 0)) (sym c)
      ∙ judged_order name _ _ (λ m g. answered_order (classes_of image) d name m g) l (rw v at e)))
