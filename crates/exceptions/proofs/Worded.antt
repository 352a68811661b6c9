-- A lent list passes 17 exactly where it is as document 02, request 1, words it: both ways.
-- Assumes nothing.
use mathlib.Core.Path.{◌≡◌, sym, ap, ◌∙◌}
use Prim.Native.Nat.{ℕ, ◌≤◌, ◌<◌}
use native.Mathlib.Omega.{arith}
use mathlib.Core.Bool.{true}
use mathlib.Core.List.{List, [], ◌∷◌}
use lib.ListN.{length}
use Rattle.rules.specs.Limits.{max_name}
use Rattle.automaton.specs.Automaton.{Str, Rows, rows_of, phones_at, end_state, look, Letters, Sound, Needed}
use Rattle.automaton.proofs.Tests.{by_same, by_nat}
use Rattle.automaton.proofs.Change.{look_alike}
use Rattle.automaton.proofs.NameLengths.{blank_says}
use Rattle.packing.specs.Packing.{unpack}
use Rattle.measures.specs.Measures.{Short}
use Rattle.minimality.specs.Judging.{Apart}
use Rattle.minimality.proofs.Good.{laid_of, blank_of, sound_of}
use Rattle.exceptions.specs.Layout.{words_of, start_of, phones_for}
use Rattle.exceptions.specs.Judging.{IsList, is_list}
use Rattle.exceptions.specs.Worded.{Minimal, AsWorded}
use Rattle.exceptions.proofs.Decided.{nothing_decides, offsets_of, rows-of, list_long, list_facts, facts_list}
use Rattle.exceptions.proofs.Deciding.{stable}
use Rattle.exceptions.proofs.States.{unpack_none, nothing_said, states_differ, states_reached, states_lead}

-- ---- a list is as worded

module _ (ws : List ℕ) (l : IsList ws) where
  minimal_of : Minimal ws
  minimal_of = record { differ = λ i j a h b g. states_differ ws l i j h g; reached = states_reached ws l; leads = states_lead ws l }

  -- the empty name has no phones, and no longer one than of 64 letters has
  letters_of : (w : Str) → Letters w → (phones_for ws w ≡ [] → ⊥) → (0 < length w) × (length w ≤ max_name)
  unfolding phones_for
  letters_of [] t ne = absurd (ne (ap unpack l.lettered ∙ unpack_none))
  letters_of (c ∷ w) t ne = (omega arith, l.letters (c ∷ w) t (λ e. ne (ap unpack e ∙ unpack_none)))

pub list_worded : (list : List ℕ) → is_list list ≡ true → AsWorded list
list_worded list e =
    let l = list_facts list e in
    record {
      memory = list_long list e;
      offsets = offsets_of (words_of list) l;
      cells = rows-of (words_of list) l;
      names = l.names;
      letters = letters_of (words_of list) l;
      states = l.states;
      phones = l.phones;
      minimal = minimal_of (words_of list) l;
    }

-- ---- what is as worded is a list

-- a state other than that in which a name begins, and in which it ends, is a successor
successor : (f : Rows) (n : ℕ) → Sound f n → (p q : ℕ) (w : Str) → p ≤ n → Letters w → end_state f p w ≡ q → (q ≡ p → ⊥) → (j : ℕ) × (c : ℕ) × (j ≤ n) × (c < 64) × (f j c ≡ q)
successor f n s p q [] h t e ne = absurd (ne (sym e))
successor f n s p q (c ∷ w) h t e ne =
    by_same q (f p c)
    (λ z. (p, c, h, t.1, sym z))
    (λ z. let x = s.earlier p c h t.1 in successor f n s (f p c) q w (omega arith) t.2 e z)

module _ (list : List ℕ) (a : AsWorded list) where
  few : start_of (words_of list) < 4180
  few = let h = a.states in omega arith

  -- a state that is like the blank one leads to no name
  not_blank : (i j : ℕ) → i ≡ 0 → 0 < j → j ≤ start_of (words_of list) → ((w : Str) → Letters w → look (rows_of (words_of list)) i w ≡ look (rows_of (words_of list)) j w) → ⊥
  not_blank i j z p h e =
      let f = rows_of (words_of list) in
      let r = a.minimal.leads j p h in
      let b = blank_says f (λ k o. blank_of (words_of list) (start_of (words_of list)) few a.offsets k) r.0 r.1 in
      r.2 (ap unpack (sym (e r.0 r.1) ∙ (ap (λ (x : ℕ). look f x r.0) z ∙ b)) ∙ unpack_none)

  apart : Apart (rows_of (words_of list)) (start_of (words_of list))
  apart i j h g k =
      let e : (w : Str) → Letters w → look (rows_of (words_of list)) i w ≡ look (rows_of (words_of list)) j w = look_alike (rows_of (words_of list)) i j k in
      by_nat i
      (λ z. by_nat j (λ y. z ∙ sym y) (λ x y. absurd (not_blank i j z (omega arith) g e)))
      (λ x z. by_nat j
      (λ y. absurd (not_blank j i y (omega arith) h (λ w t. sym (e w t))))
      (λ v y. a.minimal.differ i j (omega arith) h (omega arith) g (λ w t. ap unpack (e w t))))

  sound : Sound (rows_of (words_of list)) (start_of (words_of list))
  sound = sound_of (words_of list) (start_of (words_of list)) few a.offsets a.cells apart

  needed : Needed (rows_of (words_of list)) (start_of (words_of list))
  needed q p h =
      let r = a.minimal.reached q p (omega arith) in
      successor (rows_of (words_of list)) (start_of (words_of list)) sound (start_of (words_of list)) q r.0 (omega arith) r.1 r.2 (λ e. omega arith)

  unsaid : (w : Str) → Letters w → phones_for (words_of list) w ≡ [] → look (rows_of (words_of list)) (start_of (words_of list)) w ≡ []
  unfolding phones_for
  unsaid w t e = nothing_said (words_of list) (start_of (words_of list)) sound a.phones (start_of (words_of list)) (omega arith) w t e

  short : Short (rows_of (words_of list)) (start_of (words_of list))
  short w t ne = (a.letters w t (λ e. ne (unsaid w t e))).1

  lettered : phones_at (rows_of (words_of list)) (start_of (words_of list)) ≡ []
  lettered =
      let p = phones_for (words_of list) [] in
      unsaid [] tt (stable (p ≡ []) _ (nothing_decides p) (λ ne. let h = (a.letters [] tt ne).0 in omega arith))

  pub worded_list : is_list list ≡ true
  worded_list =
      facts_list list a.memory
      (record {
        states = a.states;
        laid = laid_of (words_of list) (start_of (words_of list)) few a.offsets a.cells;
        sound = sound;
        needed = needed;
        phones = a.phones;
        names = a.names;
        letters = short;
        lettered = lettered;
      })
