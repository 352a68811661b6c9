-- No name gives more than 2,048 phones through tables, whatever their words hold, and none more than 256 where no list is lent.
-- Assumes nothing.
use Prim.Native.Nat.{ℕ, zero, suc, ◌*◌, ◌≤◌}
use mathlib.Core.Path.{◌≡◌}
use mathlib.Core.Bool.{Bool, true}
use mathlib.Core.List.{List, [], ◌∷◌}
use mathlib.Core.Option.{Option, none, some}
use native.Mathlib.Omega.{arith}
use lib.Dec.{eqb}
use lib.ListN.{length}
use Rattle.rules.specs.Limits.{max_phones}
use Rattle.rules.specs.Shape.{Entry}
use Rattle.rules.proofs.Cases.{by_bool}
use Rattle.exceptions.specs.Judging.{listing_of, no_list}
use Rattle.image.specs.Image.{valid, edits_of, literals_of}
use Rattle.image.proofs.Literals.{literals_shaped}
use Rattle.fitting.specs.Fitting.{Str, frame, fits}
use Rattle.fitting.specs.Reading.{Application, apply, chosen}
use Rattle.speech.specs.Words.{Word, words_in, read_words, unlisted}
use Rattle.speech.specs.Speech.{Outcome, answered, judged_by, judged_call, said_of}
use Rattle.reading.specs.Longest.{most_phones, most_by_rules, PhonesWithin}
use Rattle.reading.proofs.Longest.{Gives, read_gives, FewInEach, list_modest, none_modest, name_gives, rules_give, Needs, needs_answered, needs_call, needs_within}
use Rattle.tables.specs.Words.{edits_in, Compiled, left_of, right_of}
use Rattle.tables.specs.Walk.{lowest, how_many, lookup, places, shared, walk_choice, walk, walk_word, lengths_fit, judged_tables, all_usable, steps_over, judged_passes, walk_through, walk_for}

-- the rule at a place found is one of the list
lookup_few : (t : Entry → Bool) (n : ℕ) (rs : List Entry) → FewInEach rs → (o : Option ℕ) (a : Application) → lookup t n rs o ≡ chosen a → length a.phones ≤ max_phones
lookup_few t n rs few none a e = let z : ◌≡◌ {A = ℕ} 0 1 = cc in absurd (omega arith)
lookup_few t n [] few (some p) a e = let z : ◌≡◌ {A = ℕ} 0 1 = cc in absurd (omega arith)
lookup_few t n (r ∷ rs) few (some zero) a e =
    by_bool (t r) (λ q. let h : chosen (apply n r) ≡ chosen a = rw q at e in let g : r.rule.phones ≡ a.phones = cc in rw (← g) (few 0 (omega arith)))
    (λ q. let h = rw q at e in let z : ◌≡◌ {A = ℕ} 0 1 = cc in absurd (omega arith))
lookup_few t n (r ∷ rs) few (some (suc p)) a e = lookup_few t n rs (λ k h. few (suc k) (omega arith)) (some p) a e

module _ (c : Compiled) (rules : List Entry) (few : FewInEach rules) where
  word_gives : (w : Str) → Gives (max_phones * length w) (walk_word c rules w)
  unfolding walk_word walk
  word_gives w =
      read_gives (walk_choice (left_of c) (right_of c) (frame w) (length w) rules)
      (λ i a e.
      lookup_few (λ r. fits r.rule (frame w) i) (how_many (shared (left_of c) (right_of c) (frame w) (length w) i) places) rules few
      (lowest (shared (left_of c) (right_of c) (frame w) (length w) i) places) a e)
      (length w) (length w) 1

  -- the refusals of tables are none for want of phones
  needs_judged : (b edits : ℕ) (ws : List Word) (o : Outcome) → Needs b o → Needs b (judged_by (judged_passes c edits ws) o)
  unfolding judged_tables
  needs_judged b edits [] o h = h
  needs_judged b edits (w ∷ ws) o h =
      by_bool (lengths_fit c)
      (λ f. by_bool (eqb (edits_in c.words) edits)
      (λ e. by_bool (all_usable c (w ∷ ws)) (λ u. rw (f, e, u) h) (λ u. rw (f, e, u) (λ z. omega arith)))
      (λ e. rw (f, e) (λ z. omega arith)))
      (λ f. rw f (λ z. omega arith))

  needs_through : (b edits : ℕ) (name : Str) (m : Str → Str) → Gives b (read_words m (walk_word c rules) (words_in name)) → Needs b (walk_through c edits rules name m)
  unfolding walk_through
  needs_through b edits name m g =
      needs_judged b edits (unlisted m (words_in name)) (answered (read_words m (walk_word c rules) (words_in name)) (steps_over c (unlisted m (words_in name))))
      (needs_answered b (read_words m (walk_word c rules) (words_in name)) (steps_over c (unlisted m (words_in name))) g)

few_literals : (image : List ℕ) → valid image ≡ true → FewInEach (literals_of image)
few_literals image ok p h = (literals_shaped image ok p h).phones-most

module _ (c : Compiled) (image : List ℕ) (name : Str) (phones numbers : List ℕ) where
  abbrev through : (Str → Str) → Outcome
  through = walk_through c (edits_of image) (literals_of image) name

  -- with any list
  pub walk_within : (list : List ℕ) → PhonesWithin most_phones (length phones) (walk_for c image (listing_of list) name phones numbers).said.told
  unfolding walk_for
  walk_within list =
      needs_within most_phones (judged_call image (listing_of list) name through)
      (needs_call most_phones (omega arith) image (listing_of list) name (list_modest list) through
      (λ v s.
      needs_through c (literals_of image) (few_literals image v) most_phones (edits_of image) name (said_of (listing_of list))
      (name_gives (walk_word c (literals_of image)) (word_gives c (literals_of image) (few_literals image v)) name s (said_of (listing_of list)) (list_modest list))))
      phones numbers

  -- and with none
  pub walk_by_rules : PhonesWithin most_by_rules (length phones) (walk_for c image no_list name phones numbers).said.told
  unfolding walk_for
  walk_by_rules =
      needs_within most_by_rules (judged_call image no_list name through)
      (needs_call most_by_rules (omega arith) image no_list name none_modest through
      (λ v s.
      needs_through c (literals_of image) (few_literals image v) most_by_rules (edits_of image) name (λ w. [])
      (rules_give (walk_word c (literals_of image)) (word_gives c (literals_of image) (few_literals image v)) name s)))
      phones numbers
