-- The part that the list gives for a word: none, or 512 more than the state in which the word ends.
-- Assumes nothing.
use Prim.Native.Nat.{ℕ, ◌+◌, ◌-◌, ◌≤◌}
use mathlib.Core.Path.{◌≡◌, sym, ap, subst, ◌∙◌}
use mathlib.Core.List.{List, []}
use native.Mathlib.Omega.{arith}
use lib.ListN.{length, take, drop}
use Rattle.rules.specs.Limits.{max_rules, max_states}
use Rattle.rules.specs.Names.{SoundName}
use Rattle.exceptions.specs.Layout.{words_of, phones_ending}
use Rattle.exceptions.specs.Judging.{KnownList, says_of, StateOf}
use Rattle.exceptions.specs.Calls.{EndsInList}
use Rattle.std.specs.Prelude.{Option, Some, None}
use Rattle.exceptions.proofs.Decided.{list_facts}
use Rattle.fitting.specs.Fitting.{Str}
use Rattle.speech.specs.Words.{word_at, end_at}
use Rattle.speech.specs.Places.{Unsaid, FoundFor}
use Rattle.reading.proofs.NameWords.{word_cut, word_whole, word_sound}

pub state_most : (list : List ℕ) (q : ℕ) → StateOf list q → q ≤ max_states
state_most list q s = omega (arith, s.inside, (list_facts list s.lent).states)

found_none : (list : List ℕ) (w : Str) → says_of list w ≡ [] → FoundFor list w 0
found_none list w e = record { none = λ z. e; state = λ h. absurd (omega arith); says = λ h. absurd (omega arith); some = λ h. absurd (omega arith) }

module _ (list : List ℕ) (name : Str) (b e : ℕ) (asked : Unsaid list name × (b ≤ length name) × (e ≡ end_at name b)) where
  -- the only word of a name is the name, which the list does not say
  pub found_whole : e - 1 - b ≡ length name → FoundFor list (word_at name b) 0
  found_whole h = found_none list (word_at name b) (ap (says_of list) (word_whole name b asked.1 (omega (arith, asked.2))) ∙ asked.0.absent)

  pub word_asks : KnownList list × SoundName (take (e - 1 - b) (drop b name))
  word_asks = (asked.0.known, subst SoundName (sym (word_cut name b e asked.2)) (word_sound name b asked.0.sound))

  module _ (r : Option ℕ) (found : EndsInList list (take (e - 1 - b) (drop b name)) r) where
    ended : EndsInList list (word_at name b) r
    ended = subst (λ (w : Str). EndsInList list w r) (word_cut name b e asked.2) found

    pub found_absent : r ≡ None → FoundFor list (word_at name b) 0
    found_absent h = found_none list (word_at name b) (subst (EndsInList list (word_at name b)) h ended)

    module _ (q : ℕ) (h : r ≡ Some q) where
      ends : EndsInList list (word_at name b) (Some q)
      ends = subst (EndsInList list (word_at name b)) h ended

      pub found_most : q ≤ max_states
      found_most = state_most list q ends.0

      pub found_state : FoundFor list (word_at name b) (max_rules + q)
      found_state =
          let k : max_rules + q - max_rules ≡ q = omega arith in
          record {
            none = λ z. absurd (omega arith);
            state = λ z. (omega arith, subst (StateOf list) (sym k) ends.0);
            says = λ z. ap (phones_ending (words_of list)) k ∙ ends.1;
            some = λ z. ends.2;
          }
