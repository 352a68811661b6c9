-- No name gives more than 2,048 phones, and none more than 256 where no list is lent: a letter gives no more than 4 by rules, a listed word no more than
-- 64, and a name of 64 bytes has room for 32 words that are not empty.
-- Assumes nothing.
use Prim.Native.Nat.{ℕ, zero, suc, ◌+◌, ◌*◌, ◌/◌, ◌≤◌, ◌<◌}
use mathlib.Core.Path.{◌≡◌, refl, sym, ap, ◌∙◌, subst}
use mathlib.Core.Bool.{true, true≢false, ◌&&◌}
use mathlib.Core.List.{List, [], ◌∷◌, ◌++◌}
use mathlib.Core.Option.{none, some}
use native.Mathlib.Omega.{arith}
use borrow.Author.Tests.{leb-false}
use lib.Dec.{leb, ltb}
use lib.ListN.{length, get_or, length-append}
use Rattle.rules.specs.Limits.{max_phones, max_listed_phones}
use Rattle.rules.specs.Names.{SoundName}
use Rattle.rules.specs.Shape.{Entry}
use Rattle.rules.proofs.Cases.{by_bool}
use Rattle.exceptions.specs.Layout.{words_of}
use Rattle.exceptions.specs.Judging.{Listing, is_list, listing_of, no_list}
use Rattle.exceptions.proofs.Looking.{says_list, says_empty, phones-most}
use Rattle.classes.specs.Classes.{Classes}
use Rattle.image.specs.State.{no_entry}
use Rattle.image.specs.Image.{valid, entries_of, classes_of}
use Rattle.image.proofs.Entries.{entry_shaped, entries_length}
use Rattle.fitting.specs.Fitting.{Str, frame, fits_by}
use Rattle.fitting.specs.Reading.{Application, Choice, chosen, nothing, unusable, Piece, applied, Reading, finished, uncovered, bad_tables, cons, past, onward, read_from, passing, first_fit, plain}
use Rattle.fitting.proofs.Search.{first_found}
use Rattle.speech.specs.Words.{Word, words_in, in_name, phones_or, read_word, followed, read_words, steps_for, words_from, end_at}
use Rattle.speech.specs.Speech.{Outcome, speaks, declines, answered, Following, judged_call, said_of, ListedAs, phones_in, phones_of, spoken, refused, delivered, plain_words, plain_outcome, plain_said, numbers_of, contested_of}
use Rattle.speech.proofs.Call.{listing_some, listing_none, CallCase, refuses, lists, follows, call_case}
use Rattle.reading.specs.Longest.{most_phones, most_by_rules, PhonesWithin}
use Rattle.reading.proofs.NameWords.{words_begin, words_step, words_steps}

-- ---- readings: no more than b phones

abbrev pub Gives : ℕ → Reading → Type 0
Gives b (finished xs) = length (phones_of xs) ≤ b
Gives b (uncovered i) = Unit {0}
Gives b bad_tables = Unit {0}

gives_more : (a b : ℕ) → a ≤ b → (r : Reading) → Gives a r → Gives b r
gives_more a b h (finished xs) g = omega arith
gives_more a b h (uncovered i) g = tt
gives_more a b h bad_tables g = tt

phones_append : (xs ys : List Piece) → length (phones_of (xs ++ ys)) ≡ length (phones_of xs) + length (phones_of ys)
phones_append [] ys = omega arith
phones_append (x ∷ xs) ys =
    omega (arith, length-append (phones_in x) (phones_of (xs ++ ys)), length-append (phones_in x) (phones_of xs), phones_append xs ys)

followed_gives : (a b : ℕ) (r s : Reading) → Gives a r → Gives b s → Gives (a + b) (followed r s)
followed_gives a b (finished xs) (finished ys) g h = omega (arith, phones_append xs ys)
followed_gives a b (finished xs) (uncovered i) g h = tt
followed_gives a b (finished xs) bad_tables g h = tt
followed_gives a b (uncovered i) s g h = tt
followed_gives a b bad_tables s g h = tt

-- a rule applied, and then a reading
cons_gives : (b : ℕ) (a : Application) (r : Reading) → length a.phones ≤ max_phones → Gives b r → Gives (max_phones + b) (cons (applied a) r)
cons_gives b a (finished xs) h g = omega (arith, length-append a.phones (phones_of xs))
cons_gives b a (uncovered i) h g = tt
cons_gives b a bad_tables h g = tt

-- a choice of rules that give no more than 4 phones each
abbrev pub FewPhones : (ℕ → Choice) → Type 0
FewPhones choose = (i : ℕ) (a : Application) → choose i ≡ chosen a → length a.phones ≤ max_phones

module _ (choose : ℕ → Choice) (few : FewPhones choose) where
  step_gives : (i b : ℕ) (go : ℕ → Reading) → ((j : ℕ) → Gives b (go j)) → (c : Choice) → choose i ≡ c → Gives (max_phones + b) (onward c i go)
  step_gives i b go h (chosen a) e = cons_gives b a (go (past i a)) (few i a e) (h (past i a))
  step_gives i b go h nothing e = tt
  step_gives i b go h unusable e = tt

  -- k rules at most are applied
  pub read_gives : (n k i : ℕ) → Gives (max_phones * k) (read_from choose n k i)
  read_gives n zero i = omega arith
  read_gives n (suc k) i =
      by_bool (ltb n i) (λ e. rw e (omega arith))
      (λ e.
      let m : max_phones + max_phones * k ≤ max_phones * suc k = omega arith in
      rw e (gives_more (max_phones + max_phones * k) (max_phones * suc k) m (onward (choose i) i (read_from choose n k)) (step_gives i (max_phones * k) (read_from choose n k) (read_gives n k) (choose i) refl)))

-- each rule of the list has no more than 4 phones
abbrev pub FewInEach : List Entry → Type 0
FewInEach l = (p : ℕ) → p < length l → length (get_or l p no_entry).rule.phones ≤ max_phones

plain_gives : (k : Classes) (rules : List Entry) → FewInEach rules → (w : Str) → Gives (max_phones * length w) (plain k rules w)
unfolding plain
plain_gives k rules few w =
    read_gives (first_fit k rules (frame w))
    (λ i a e.
    let f = first_found (λ r. fits_by k r.rule (frame w) i) (passing (λ r. fits_by k r.rule (frame w) i) rules) rules a e in
    subst (λ (x : Application). length x.phones ≤ max_phones) f.here (few f.place f.inside))
    (length w) (length w) 1

-- ---- words

-- the sum over words
abbrev total : (Str → ℕ) → List Word → ℕ
total f [] = 0
total f (w ∷ ws) = f w.letters + total f ws

words_give : (m : Str → Str) (read : Str → Reading) (f : Str → ℕ) → ((w : Word) → Gives (f w.letters) (read_word m read w)) → (ws : List Word) → Gives (total f ws) (read_words m read ws)
words_give m read f h [] = omega arith
words_give m read f h (w ∷ ws) = followed_gives (f w.letters) (total f ws) (read_word m read w) (read_words m read ws) (h w) (words_give m read f h ws)

in-name : (b n : ℕ) (r : Reading) → Gives b r → Gives b (in_name n r)
in-name b n (finished xs) g = g
in-name b n (uncovered i) g = tt
in-name b n bad_tables g = tt

-- a list that gives no more than 64 phones, and none for the empty word
pub record Modest (m : Str → Str) : Type 0 where
  pub few : (w : Str) → length (m w) ≤ max_listed_phones
  pub empty : m [] ≡ []

pub list_modest : (list : List ℕ) → Modest (said_of (listing_of list))
list_modest list =
    by_bool (is_list list)
    (λ e. rw (listing_some list e) (record { few = phones-most (words_of list); empty = sym (says_list list e []) ∙ says_empty list (λ h. e) }))
    (λ e. rw (listing_none list e) (record { few = λ w. omega arith; empty = refl }))

pub none_modest : Modest (said_of no_list)
none_modest = record { few = λ w. omega arith; empty = refl }

-- half of a word's letters and its separator
abbrev half : Str → ℕ
half w = (length w + 1) / 2

-- what a word of a list can give
abbrev most_of : Str → ℕ
most_of w = max_listed_phones * half w

most_total : (ws : List Word) → total most_of ws ≡ max_listed_phones * total half ws
most_total [] = omega arith
most_total (w ∷ ws) = omega (arith, most_total ws)

half_steps : (ws : List Word) → 4 * total half ws ≤ steps_for ws
half_steps [] = omega arith
half_steps (w ∷ ws) = omega (arith, half_steps ws)

-- with no list
abbrev by_rules : Str → ℕ
by_rules w = max_phones * length w

rules_total : (ws : List Word) → total by_rules ws + max_phones * length ws ≡ 2 * steps_for ws
rules_total [] = omega arith
rules_total (w ∷ ws) = omega (arith, rules_total ws)

words_some : (name : Str) → 1 ≤ length (words_in name)
words_some name =
    let e : length (words_in name) ≡ suc (length (words_from name (end_at name 0))) = ap length (sym (words_begin name) ∙ words_step name 0 (omega arith)) in
    omega arith

module _ (read : Str → Reading) (r : (w : Str) → Gives (max_phones * length w) (read w)) (name : Str) (s : SoundName name) where
  module _ (m : Str → Str) (l : Modest m) where
    word_gives : (w p : Str) → m w ≡ p → (b : ℕ) → Gives (most_of w) (phones_or p (in_name b (read w)))
    word_gives w [] e b = in-name (most_of w) b (read w) (gives_more (max_phones * length w) (most_of w) (omega arith) (read w) (r w))
    word_gives [] (x ∷ p) e b = absurd (omega (arith, ap length (sym e ∙ l.empty)))
    word_gives (c ∷ w) (x ∷ p) e b = omega (arith, length-append (x ∷ p) [], ap length e, l.few (c ∷ w))

    -- the words of a name, with a list
    pub name_gives : Gives most_phones (read_words m read (words_in name))
    name_gives =
        gives_more (total most_of (words_in name)) most_phones
        (omega (arith, most_total (words_in name), half_steps (words_in name), words_steps name, s.short))
        (read_words m read (words_in name)) (words_give m read most_of (λ w. word_gives w.letters (m w.letters) refl w.before) (words_in name))

  -- and with none
  pub rules_give : Gives most_by_rules (read_words (λ w. []) read (words_in name))
  rules_give =
      gives_more (total by_rules (words_in name)) most_by_rules
      (omega (arith, rules_total (words_in name), words_some name, words_steps name, s.short))
      (read_words (λ w. []) read (words_in name)) (words_give (λ w. []) read by_rules (λ w. in-name (by_rules w.letters) w.before (read w.letters) (r w.letters)) (words_in name))

-- ---- calls

-- what a name comes to needs no more than b phones, and is not refused for want of them
abbrev pub Needs : ℕ → Outcome → Type 0
Needs b (speaks xs steps) = length (phones_of xs) ≤ b
Needs b (declines n p steps) = n ≡ 4 → ⊥

pub needs_answered : (b : ℕ) (r : Reading) (steps : ℕ) → Gives b r → Needs b (answered r steps)
needs_answered b (finished xs) steps g = g
needs_answered b (uncovered i) steps g = λ e. omega arith
needs_answered b bad_tables steps g = λ e. omega arith

listed_said : (l : Listing) (name p : Str) → ListedAs l name p → said_of l name ≡ p
listed_said none name p u = absurd u
listed_said (some m) name p u = u.0

module _ (b : ℕ) (h : max_listed_phones ≤ b) (image : List ℕ) (l : Listing) (name : Str) (d : Modest (said_of l)) (o : Following) where
  pub needs_call : (valid image ≡ true → SoundName name → Needs b (o (said_of l))) → Needs b (judged_call image l name o)
  needs_call f = by (call_case image l name)
    where
      by : CallCase image l name → Needs b (judged_call image l name o)
      by (refuses n p q r) = rw (r o) (λ e. true≢false (sym (ap (λ (k : ℕ). leb 3 k && leb k 5) e) ∙ q))
      by (lists p u r) = rw (r o) (omega (arith, length-append p [], ap length (listed_said l name p u), d.few name))
      by (follows v s u r) = rw (r o) (f v s)

-- what is told, by cases
told_given : (b room p n c : ℕ) → p ≤ b → PhonesWithin b room (spoken p n c)
told_given b room p n c h = record {
  given = λ q m e u. let z : p ≡ q = cc in omega arith;
  needed = λ q u. let z : ◌≡◌ {A = ℕ} 0 1 = cc in absurd (omega arith);
  enough = λ k q u. let z : ◌≡◌ {A = ℕ} 0 1 = cc in absurd (omega arith);
}

told_short : (b room p : ℕ) → p ≤ b → room < p → PhonesWithin b room (refused 4 p)
told_short b room p h k = record {
  given = λ q m e u. let z : ◌≡◌ {A = ℕ} 0 1 = cc in absurd (omega arith);
  needed = λ q u. let z : p ≡ q = cc in omega arith;
  enough = λ i q u. omega arith;
}

told_other : (b room n p : ℕ) → (n ≡ 4 → ⊥) → PhonesWithin b room (refused n p)
told_other b room n p h = record {
  given = λ q m e u. let z : ◌≡◌ {A = ℕ} 0 1 = cc in absurd (omega arith);
  needed = λ q u. let z : n ≡ 4 = cc in absurd (h z);
  enough = λ k q u. let z : n ≡ 4 = cc in h z;
}

pub needs_within : (b : ℕ) (o : Outcome) → Needs b o → (phones numbers : List ℕ) → PhonesWithin b (length phones) (delivered o phones numbers).told
needs_within b (declines n p steps) h phones numbers = told_other b (length phones) n p h
needs_within b (speaks xs steps) h phones numbers =
    by_bool (leb (length (phones_of xs)) (length phones))
    (λ e. by_bool (leb (length (numbers_of xs)) (length numbers))
    (λ f. rw (e, f) (told_given b (length phones) (length (phones_of xs)) (length (numbers_of xs)) (contested_of xs) h))
    (λ f. rw (e, f) (told_other b (length phones) 5 (length (numbers_of xs)) (λ z. omega arith))))
    (λ e. rw e (told_short b (length phones) (length (phones_of xs)) h (leb-false (length (phones_of xs)) (length phones) e)))

-- ---- the plain reading

few_entries : (image : List ℕ) → valid image ≡ true → FewInEach (entries_of image)
few_entries image ok p h = (entry_shaped image ok p (omega (arith, entries_length image))).phones-most

module _ (image : List ℕ) (name : Str) (phones numbers : List ℕ) where
  -- with any list
  pub plain_within : (list : List ℕ) → PhonesWithin most_phones (length phones) (plain_said image (listing_of list) name phones numbers).told
  unfolding plain_said
  plain_within list =
      needs_within most_phones (plain_outcome image (listing_of list) name)
      (needs_call most_phones (omega arith) image (listing_of list) name (list_modest list) (λ m. answered (plain_words (classes_of image) (entries_of image) name m) 0)
      (λ v s.
      needs_answered most_phones (plain_words (classes_of image) (entries_of image) name (said_of (listing_of list))) 0
      (name_gives (plain (classes_of image) (entries_of image)) (plain_gives (classes_of image) (entries_of image) (few_entries image v)) name s (said_of (listing_of list)) (list_modest list))))
      phones numbers

  -- and with none
  pub plain_by_rules : PhonesWithin most_by_rules (length phones) (plain_said image no_list name phones numbers).told
  unfolding plain_said
  plain_by_rules =
      needs_within most_by_rules (plain_outcome image no_list name)
      (needs_call most_by_rules (omega arith) image no_list name none_modest (λ m. answered (plain_words (classes_of image) (entries_of image) name m) 0)
      (λ v s.
      needs_answered most_by_rules (plain_words (classes_of image) (entries_of image) name (λ w. [])) 0
      (rules_give (plain (classes_of image) (entries_of image)) (plain_gives (classes_of image) (entries_of image) (few_entries image v)) name s)))
      phones numbers

-- their values
pub most_are : (most_phones ≡ 2048) × (most_by_rules ≡ 256)
most_are = (refl, refl)
