-- Reading numbered rules by membership is reading their literal rules (document 02, request 5), for every list of rules and every word:
--     fits-literals      a rule fits at i exactly where one of its literal rules does, for all classes
--     one-literal      and then just one does
--     passing-literals      as many literal rules of a list fit as rules: so the same letters are contested
--     first-literals      the first that fits gives the same, and tells the same number
--     plain-literals, words-literals      of a word, and of the words of a name
--     image-literals      so with the rules and the classes of a valid image
-- Assumes nothing.
use Prim.Native.Nat.{ℕ, suc, ◌+◌, ◌-◌, ◌*◌, ◌≤◌, ◌<◌}
use mathlib.Core.Path.{◌≡◌, refl, sym, ap, ap₂, ◌∙◌, fun_ext}
use mathlib.Core.List.{List, [], ◌∷◌, ◌++◌, map}
use mathlib.Core.Bool.{Bool, true, false, cond, ◌&&◌, ◌||◌}
use native.Mathlib.Omega.{arith}
use borrow.Author.Tests.{leb-true, leb-false, eqb-true, ne_eqb}
use lib.Dec.{eqb, leb, ltb}
use lib.ListN.{length, take, drop}
use lib.Seq.{drop-drop}
use Rattle.rules.proofs.Cases.{by_bool, and_l, and_r}
use Rattle.rules.specs.Limits.{max_letter, first_class}
use Rattle.rules.specs.Shape.{Production, Entry}
use Rattle.classes.specs.Classes.{Classes, any, ascending, letters, stands, Proper}
use Rattle.classes.specs.Expansion.{grid, choices, within, literals, under, literal_entries, expand}
use Rattle.classes.proofs.Grid.{any_map, any_and, any_or, any_none, any_count, any_grid, count, count_append, count_map, count_none, count_grid, one_pos, mul_few}
use Rattle.image.specs.Image.{valid, entries_of, classes_of, literals_of}
use Rattle.image.proofs.Literals.{classes_proper, literals_shaped}
use Rattle.fitting.specs.Fitting.{Str, frame, same, starts, ends, fits, same_by, starts_by, ends_by, fits_by}
use Rattle.fitting.specs.Reading.{Application, apply, Choice, chosen, Targets, read_from, first_rule, passing, first_fit, first_literal, plain, plain_literal, Reading}
use Rattle.speech.specs.Words.{words_in, read_words}
use Rattle.speech.specs.Speech.{plain_words, literal_words}
use Rattle.fitting.proofs.Strings.{starts_append, starts_long, starts_same, ends_long, ends_same}

-- ---- one of the choices of a string is, starts or ends a given string

any_same : (k : Classes) (s w : Str) → any (λ a. same a w) (choices k s) ≡ same_by k s w
any_same k [] [] = refl
any_same k [] (y ∷ w) = refl
any_same k (x ∷ s) [] =
    any_grid (λ (a : ℕ) (w : Str). a ∷ w) (λ a. same a []) (λ a. false) (λ a. true) (λ a b. refl) (letters k x) (choices k s)
    ∙ ap (λ (b : Bool). b && any (λ (a : Str). true) (choices k s)) (any_none (letters k x))
any_same k (x ∷ s) (y ∷ w) =
    any_grid (λ (a : ℕ) (w : Str). a ∷ w) (λ a. same a (y ∷ w)) (λ a. eqb a y) (λ a. same a w) (λ a b. refl) (letters k x) (choices k s)
    ∙ ap (λ (b : Bool). stands k x y && b) (any_same k s w)

any_starts : (k : Classes) (s w : Str) → any (λ a. starts a w) (choices k s) ≡ starts_by k s w
any_starts k [] w = refl
any_starts k (x ∷ s) [] =
    any_grid (λ (a : ℕ) (w : Str). a ∷ w) (λ a. starts a []) (λ a. false) (λ a. true) (λ a b. refl) (letters k x) (choices k s)
    ∙ ap (λ (b : Bool). b && any (λ (a : Str). true) (choices k s)) (any_none (letters k x))
any_starts k (x ∷ s) (y ∷ w) =
    any_grid (λ (a : ℕ) (w : Str). a ∷ w) (λ a. starts a (y ∷ w)) (λ a. eqb a y) (λ a. starts a w) (λ a b. refl) (letters k x) (choices k s)
    ∙ ap (λ (b : Bool). stands k x y && b) (any_starts k s w)

any_ends : (k : Classes) (s w : Str) → any (λ a. ends a w) (choices k s) ≡ ends_by k s w
any_ends k s [] = any_same k s []
any_ends k s (y ∷ w) =
    any_or (λ a. same a (y ∷ w)) (λ a. ends a w) (choices k s) ∙ ap₂ ◌||◌ (any_same k s (y ∷ w)) (any_ends k s w)

-- ---- one rule

module _ (r : Production) (f : Str) (i : ℕ) where
  -- what is asked of a literal rule's right context, behind the target
  abbrev follows : Str → Bool
  follows b = starts r.target (drop i f) && starts b (drop (i + length r.target) f)

  fits_within : (a b : Str) → fits (within r a b) f i ≡ (ends a (take i f) && follows b)
  fits_within a b =
      ap (λ (t : Bool). ends a (take i f) && t)
      (starts_append r.target b (drop i f) ∙ ap (λ (w : Str). starts r.target (drop i f) && starts b w) (drop-drop (length r.target) i f))

  -- a rule fits by membership exactly where one of its literal rules fits
  pub fits_literals : (k : Classes) → any (λ a. fits a f i) (literals k r) ≡ fits_by k r f i
  fits_literals k =
      any_grid (within r) (λ a. fits a f i) (λ a. ends a (take i f)) follows fits_within (choices k r.left) (choices k r.right)
      ∙ ap₂ ◌&&◌ (any_ends k r.left (take i f))
      (any_and (starts r.target (drop i f)) (λ b. starts b (drop (i + length r.target) f)) (choices k r.right)
      ∙ ap (λ (b : Bool). starts r.target (drop i f) && b) (any_starts k r.right (drop (i + length r.target) f)))

-- ---- no more than one, since the letters of a class differ

none_below : (y b : ℕ) (l : List ℕ) → ascending b l ≡ true → y < b → count (λ a. eqb a y) l ≡ 0
none_below y b [] e h = refl
none_below y b (x ∷ l) e h =
    let u : b ≤ x = leb-true b x (and_l (leb b x) _ e) in
    let z = none_below y (suc x) l (and_r (leb x max_letter) _ (and_r (leb b x) _ e)) (omega arith) in
    rw (ne_eqb x y (λ q. omega arith)) (omega arith)

once : (y b : ℕ) (l : List ℕ) → ascending b l ≡ true → count (λ a. eqb a y) l ≤ 1
once y b [] e = omega arith
once y b (x ∷ l) e =
    let g : ascending (suc x) l ≡ true = and_r (leb x max_letter) _ (and_r (leb b x) _ e) in
    by_bool (eqb x y)
    (λ q. let z = none_below y (suc x) l g (same_low x y q) in rw q (omega arith))
    (λ q. let z = once y (suc x) l g in rw q (omega arith))
  where
    same_low : (x y : ℕ) → eqb x y ≡ true → y < suc x
    same_low x y q = let z = eqb-true x y q in omega arith

module _ (k : Classes) (proper : Proper k) where
  -- a letter is stood for once
  letters_once : (c y : ℕ) → count (λ a. eqb a y) (letters k c) ≤ 1
  letters_once c y =
      by_bool (ltb c first_class)
      (λ e. rw e (by_bool (eqb c y) (λ q. rw q (omega arith)) (λ q. rw q (omega arith))))
      (λ e. rw e (once y 1 (k c) (proper c)))

  -- and so is a string
  same_once : (s w : Str) → count (λ a. same a w) (choices k s) ≤ 1
  same_once [] [] = omega arith
  same_once [] (y ∷ w) = omega arith
  same_once (x ∷ s) [] =
      let e = count_grid (λ (a : ℕ) (w : Str). a ∷ w) (λ a. same a []) (λ a. false) (λ a. true) (λ a b. refl) (letters k x) (choices k s) in
      let z : count (λ (a : ℕ). false) (letters k x) * count (λ (a : Str). true) (choices k s) ≡ 0 =
      ap (λ (n : ℕ). n * count (λ (a : Str). true) (choices k s)) (count_none (letters k x)) ∙ omega arith in
      omega arith
  same_once (x ∷ s) (y ∷ w) =
      let e = count_grid (λ (a : ℕ) (w : Str). a ∷ w) (λ a. same a (y ∷ w)) (λ a. eqb a y) (λ a. same a w) (λ a b. refl) (letters k x) (choices k s) in
      let m = mul_few (count (λ a. eqb a y) (letters k x)) (count (λ a. same a w) (choices k s)) (letters_once x y) (same_once s w) in
      omega arith

  -- the choices are as long as the string, so that tests which agree on strings of this length count the same
  count_prefixed : (l : List ℕ) (cs : List Str) (t u : Str → Bool) → ((a : ℕ) → count (λ w. t (a ∷ w)) cs ≡ count (λ w. u (a ∷ w)) cs)
      → count t (grid (λ (a : ℕ) (w : Str). a ∷ w) l cs) ≡ count u (grid (λ (a : ℕ) (w : Str). a ∷ w) l cs)
  count_prefixed [] cs t u h = refl
  count_prefixed (a ∷ l) cs t u h =
      count_append t (map (λ (w : Str). a ∷ w) cs) (grid (λ (a : ℕ) (w : Str). a ∷ w) l cs)
      ∙ (ap₂ ◌+◌ (count_map t (λ (w : Str). a ∷ w) cs ∙ (h a ∙ sym (count_map u (λ (w : Str). a ∷ w) cs))) (count_prefixed l cs t u h)
      ∙ sym (count_append u (map (λ (w : Str). a ∷ w) cs) (grid (λ (a : ℕ) (w : Str). a ∷ w) l cs)))

  count_choices : (s : Str) (t u : Str → Bool) → ((a : Str) → length a ≡ length s → t a ≡ u a) → count t (choices k s) ≡ count u (choices k s)
  count_choices [] t u h = ap (λ (b : Bool). cond b 1 0 + 0) (h [] refl)
  count_choices (x ∷ s) t u h =
      count_prefixed (letters k x) (choices k s) t u (λ a. count_choices s (λ w. t (a ∷ w)) (λ w. u (a ∷ w)) (λ w e. h (a ∷ w) (ap suc e)))

  ends_once : (s w : Str) → count (λ a. ends a w) (choices k s) ≤ 1
  ends_once s w =
      by_bool (leb (length s) (length w))
      (λ q.
      let l = leb-true (length s) (length w) q in
      let e = count_choices s (λ a. ends a w) (λ a. same a (drop (length w - length s) w)) (λ a g. ends_same a w (omega arith) ∙ ap (λ (n : ℕ). same a (drop (length w - n) w)) g) in
      omega (arith, same_once s (drop (length w - length s) w)))
      (λ q.
      let l = leb-false (length s) (length w) q in
      let e = count_choices s (λ a. ends a w) (λ a. false) (λ a g. ends_long a w (omega arith)) in
      omega (arith, count_none (choices k s)))

  starts_once : (s w : Str) → count (λ a. starts a w) (choices k s) ≤ 1
  starts_once s w =
      by_bool (leb (length s) (length w))
      (λ q.
      let l = leb-true (length s) (length w) q in
      let e = count_choices s (λ a. starts a w) (λ a. same a (take (length s) w)) (λ a g. starts_same a w (omega arith) ∙ ap (λ (n : ℕ). same a (take n w)) g) in
      omega (arith, same_once s (take (length s) w)))
      (λ q.
      let l = leb-false (length s) (length w) q in
      let e = count_choices s (λ a. starts a w) (λ a. false) (λ a g. starts_long a w (omega arith)) in
      omega (arith, count_none (choices k s)))

  guarded_once : (b : Bool) (s w : Str) → count (λ a. b && starts a w) (choices k s) ≤ 1
  guarded_once true s w = starts_once s w
  guarded_once false s w = omega (arith, count_none (choices k s))

  module _ (f : Str) (i : ℕ) where
    literal-count : (r : Production) → count (λ a. fits a f i) (literals k r) ≡ cond (fits_by k r f i) 1 0
    literal-count r =
        let e = count_grid (within r) (λ a. fits a f i) (λ a. ends a (take i f)) (follows r f i) (fits_within r f i) (choices k r.left) (choices k r.right) in
        let m = mul_few (count (λ a. ends a (take i f)) (choices k r.left)) (count (follows r f i) (choices k r.right)) (ends_once r.left (take i f)) (guarded_once (starts r.target (drop i f)) r.right (drop (i + length r.target) f)) in
        one_pos (count (λ a. fits a f i) (literals k r)) (omega arith)
        ∙ ap (λ (b : Bool). cond b 1 0) (sym (any_count (λ a. fits a f i) (literals k r)) ∙ fits_literals r f i k)

    abbrev by_letters : Entry → Bool
    by_letters e = fits e.rule f i

    abbrev by_classes : Entry → Bool
    by_classes e = fits_by k e.rule f i

    passing_count : (l : List Entry) → passing by_letters l ≡ count by_letters l
    passing_count [] = refl
    passing_count (e ∷ l) = ap (λ (n : ℕ). cond (by_letters e) 1 0 + n) (passing_count l)

    -- of the literal rules of one rule, one fits where the rule fits, and else none
    pub one_literal : (e : Entry) → passing (λ x. fits x.rule f i) (literal_entries k e) ≡ cond (fits_by k e.rule f i) 1 0
    one_literal e = passing_count (literal_entries k e) ∙ (count_map by_letters (under e.number) (literals k e.rule) ∙ literal-count e.rule)

    -- ---- a list

    -- as many literal rules of a list fit as rules
    pub passing_literals : (l : List Entry) → passing (λ e. fits e.rule f i) (expand k l) ≡ passing (λ e. fits_by k e.rule f i) l
    passing_literals [] = refl
    passing_literals (e ∷ l) =
        passing_count (literal_entries k e ++ expand k l)
        ∙ (count_append by_letters (literal_entries k e) (expand k l)
        ∙ ap₂ ◌+◌ (sym (passing_count (literal_entries k e)) ∙ one_literal e) (sym (passing_count (expand k l)) ∙ passing_literals l))

-- each entry of a list gives the same where it is applied
abbrev Alike : ℕ → Application → List Entry → Type 0
Alike n a [] = Unit {0}
Alike n a (e ∷ l) = (apply n e ≡ a) × Alike n a l

alike_append : (n : ℕ) (a : Application) (l m : List Entry) → Alike n a l → Alike n a m → Alike n a (l ++ m)
alike_append n a [] m h g = g
alike_append n a (e ∷ l) m h g = (h.0, alike_append n a l m h.1 g)

map-append : {A B : Type 0} (f : A → B) (l m : List A) → map f (l ++ m) ≡ map f l ++ map f m
map-append f [] m = refl
map-append f (x ∷ l) m = ap (λ (r : List _). f x ∷ r) (map-append f l m)

-- literal rules differ in their contexts only
alike_row : (n c : ℕ) (r : Production) (a : Str) (ys : List Str) → Alike n (apply n (under c r)) (map (under c) (map (within r a) ys))
alike_row n c r a [] = tt
alike_row n c r a (b ∷ ys) = (refl, alike_row n c r a ys)

alike_grid : (n c : ℕ) (r : Production) (xs ys : List Str) → Alike n (apply n (under c r)) (map (under c) (grid (within r) xs ys))
alike_grid n c r [] ys = tt
alike_grid n c r (a ∷ xs) ys =
    rw (map-append (under c) (map (within r a) ys) (grid (within r) xs ys))
    (alike_append n (apply n (under c r)) (map (under c) (map (within r a) ys)) (map (under c) (grid (within r) xs ys)) (alike_row n c r a ys) (alike_grid n c r xs ys))

first_block : (t : Entry → Bool) (n : ℕ) (a : Application) (l m : List Entry) → Alike n a l → first_rule t n (l ++ m) ≡ cond (any t l) (chosen a) (first_rule t n m)
first_block t n a [] m h = refl
first_block t n a (e ∷ l) m h = by_bool (t e) (λ q. rw q (ap chosen h.0)) (λ q. rw q (first_block t n a l m h.1))

-- the first rule of a list that fits and the first of its literal rules give the same
first_rule_literals : (k : Classes) (f : Str) (i n : ℕ) (l : List Entry)
    → first_rule (λ e. fits e.rule f i) n (expand k l) ≡ first_rule (λ e. fits_by k e.rule f i) n l
first_rule_literals k f i n [] = refl
first_rule_literals k f i n (e ∷ l) =
    first_block (λ x. fits x.rule f i) n (apply n e) (literal_entries k e) (expand k l) (alike_grid n e.number e.rule (choices k e.rule.left) (choices k e.rule.right))
    ∙ ap₂ (λ (q : Bool) (c : Choice). cond q (chosen (apply n e)) c)
    (any_map (λ x. fits x.rule f i) (under e.number) (literals k e.rule) ∙ fits_literals e.rule f i k) (first_rule_literals k f i n l)

module _ (k : Classes) (proper : Proper k) (l : List Entry) where
  pub first_literals : (f : Str) (i : ℕ) → first_literal (expand k l) f i ≡ first_fit k l f i
  first_literals f i =
      ap (λ (n : ℕ). first_rule (λ e. fits e.rule f i) n (expand k l)) (passing_literals k proper f i l) ∙ first_rule_literals k f i (passing (λ e. fits_by k e.rule f i) l) l

  -- the plain reading over literal rules is the plain reading
  pub plain_literals : (w : Str) → plain_literal (expand k l) w ≡ plain k l w
  unfolding plain_literal plain
  plain_literals w = ap (λ (c : ℕ → Choice). read_from c (length w) (length w) 1) (fun_ext (λ i. first_literals (frame w) i))

  pub words_literals : (name : Str) (m : Str → Str) → literal_words (expand k l) name m ≡ plain_words k l name m
  words_literals name m = ap (λ (r : Str → Reading). read_words m r (words_in name)) (fun_ext plain_literals)

-- ---- the literal rules of an image

module _ (d : List ℕ) (ok : valid d ≡ true) where
  pub literals_targets : Targets (literals_of d)
  literals_targets p h = (literals_shaped d ok p h).target-least

  pub image_literals : (name : Str) (m : Str → Str) → literal_words (literals_of d) name m ≡ plain_words (classes_of d) (entries_of d) name m
  unfolding literals_of
  image_literals = words_literals (classes_of d) (classes_proper d ok) (entries_of d)
