-- Each command's own outcome is the monitor's, where the first byte is the command's.
-- Assumes nothing.
use Prim.Native.Nat.{ℕ, ◌≤◌}
use mathlib.Core.Path.{◌≡◌, refl, sym, ap, ◌∙◌, subst}
use mathlib.Core.List.{List}
use native.Mathlib.Omega.{arith}
use borrow.Author.Tests.{ne_eqb}
use lib.ListN.{length, get_or, get_or-eq_default}
use Rattle.rules.specs.Memory.{over}
use Rattle.command_parts.specs.Answers.{Effect, Effects, SpeechEffect, Answered, BothAnswered, SpeechAnswered, malformed_line}
use Rattle.sheet_command.specs.SheetCommand.{sheet_by}
use Rattle.commands.specs.Editing.{added, dropped, moved, class_set}
use Rattle.command_parts.specs.Memory.{forced_by, recounted_by, cleared_by, stored_word, stored_set, shown_words, shown_sets, shown_phones, shown_numbers, shown_contested, shown_edits}
use Rattle.commands.specs.Lent.{built_by, walked_by, plain_by}
use Rattle.commands.specs.Filing.{loaded_by, write_line}
use Rattle.commands.specs.Monitor.{State, holding, Response, on_image, on_words, on_sets, on_tables, on_speech, shows, by_kind, answer_to, Replied}
use Rattle.command_parts.proofs.Replies.{Gives, within, length_malformed}

-- an answer that was given had room
abbrev pub Given : Response → State → ℕ → List ℕ → List ℕ → Type 0
Given o s len out out' = Replied o s len out out' × (len ≤ length out')

given : (o : Response) (s : State) (len : ℕ) (out out' : List ℕ) → s ≡ o.state → len ≡ length o.line → out' ≡ over o.line out
    → Given o s len out out'
given o s len out out' k l h = (record { kept = k; many = l; bytes = h }, within o.line len out out' l h)

-- no kind of command
abbrev Other : ℕ → Type 0
Other k =
    (((((((((((((((((((((Unit {0} × (k ≡ 16 → ⊥)) × (k ≡ 17 → ⊥)) × (k ≡ 18 → ⊥)) × (k ≡ 19 → ⊥)) × (k ≡ 20 → ⊥)) × (k ≡ 21 → ⊥)) × (k ≡ 22 → ⊥)) × (k ≡ 23 → ⊥)) × (k ≡ 24 → ⊥)) × (k ≡ 25 → ⊥)) × (k ≡ 26 → ⊥)) × (k ≡ 27 → ⊥)) × (k ≡ 28 → ⊥)) × (k ≡ 29 → ⊥)) × (k ≡ 30 → ⊥)) × (k ≡ 31 → ⊥)) × (k ≡ 39 → ⊥)) × (k ≡ 40 → ⊥)) × (k ≡ 41 → ⊥)) × (k ≡ 42 → ⊥)) × (k ≡ 43 → ⊥))

module _ (f file list image words sets phones numbers : List ℕ) (contested len : ℕ) (out out' : List ℕ) where
  abbrev before : State
  before = holding image words sets phones numbers contested

  -- the command's kind decides
  at : (k : ℕ) (s : State) → get_or f 0 0 ≡ k → Given (by_kind k f file list before) s len out out' → Given (answer_to f file list before) s len out out'
  unfolding answer_to
  at k s e g = subst (λ (i : ℕ). Given (by_kind i f file list before) s len out out') (sym e) g

  same_after : (line : List ℕ) → Gives line len out out' → Given (shows before line) before len out out'
  same_after line g = given (shows before line) before len out out' refl g.0 g.1

  image_after : (e : Effect) (xs : List ℕ) → Answered e xs len out out' → Given (on_image before e) (holding xs words sets phones numbers contested) len out out'
  image_after e xs w = given (on_image before e) _ len out out' (ap (λ (x : List ℕ). holding x words sets phones numbers contested) w.left) w.many w.bytes

  words_after : (e : Effect) (xs : List ℕ) → Answered e xs len out out' → Given (on_words before e) (holding image xs sets phones numbers contested) len out out'
  words_after e xs w = given (on_words before e) _ len out out' (ap (λ (x : List ℕ). holding image x sets phones numbers contested) w.left) w.many w.bytes

  sets_after : (e : Effect) (xs : List ℕ) → Answered e xs len out out' → Given (on_sets before e) (holding image words xs phones numbers contested) len out out'
  sets_after e xs w = given (on_sets before e) _ len out out' (ap (λ (x : List ℕ). holding image words x phones numbers contested) w.left) w.many w.bytes

  tables_after : (e : Effects) (xs ys : List ℕ) → BothAnswered e xs ys len out out' → Given (on_tables before e) (holding image xs ys phones numbers contested) len out out'
  tables_after e xs ys w = given (on_tables before e) _ len out out' (cc (w.left, w.right)) w.many w.bytes

  speech_after : (e : SpeechEffect) (xs ys : List ℕ) (k : ℕ) → SpeechAnswered e xs ys k len out out' → Given (on_speech before e) (holding image words sets xs ys k) len out out'
  speech_after e xs ys k w = given (on_speech before e) _ len out out' (cc (w.said, w.numbered, w.counted)) w.many w.bytes

  pub by_add : (xs : List ℕ) → get_or f 0 0 ≡ 16 → Answered (added f image) xs len out out' → Given (answer_to f file list before) (holding xs words sets phones numbers contested) len out out'
  unfolding by_kind
  by_add xs e w = at 16 _ e (image_after (added f image) xs w)

  pub by_drop : (xs : List ℕ) → get_or f 0 0 ≡ 17 → Answered (dropped f image) xs len out out' → Given (answer_to f file list before) (holding xs words sets phones numbers contested) len out out'
  unfolding by_kind
  by_drop xs e w = at 17 _ e (image_after (dropped f image) xs w)

  pub by_move : (xs : List ℕ) → get_or f 0 0 ≡ 18 → Answered (moved f image) xs len out out' → Given (answer_to f file list before) (holding xs words sets phones numbers contested) len out out'
  unfolding by_kind
  by_move xs e w = at 18 _ e (image_after (moved f image) xs w)

  pub by_read : (xs : List ℕ) → get_or f 0 0 ≡ 19 → Answered (loaded_by f file image) xs len out out' → Given (answer_to f file list before) (holding xs words sets phones numbers contested) len out out'
  unfolding by_kind
  by_read xs e w = at 19 _ e (image_after (loaded_by f file image) xs w)

  pub by_write : get_or f 0 0 ≡ 20 → Gives (write_line f image) len out out' → Given (answer_to f file list before) before len out out'
  unfolding by_kind
  by_write e g = at 20 _ e (same_after (write_line f image) g)

  pub by_build : (xs ys : List ℕ) → get_or f 0 0 ≡ 21 → BothAnswered (built_by f image words sets) xs ys len out out' → Given (answer_to f file list before) (holding image xs ys phones numbers contested) len out out'
  unfolding by_kind
  by_build xs ys e w = at 21 _ e (tables_after (built_by f image words sets) xs ys w)

  pub by_walk : (xs ys : List ℕ) (k : ℕ) → get_or f 0 0 ≡ 22 → SpeechAnswered (walked_by f image list words sets phones numbers contested) xs ys k len out out' → Given (answer_to f file list before) (holding image words sets xs ys k) len out out'
  unfolding by_kind
  by_walk xs ys k e w = at 22 _ e (speech_after (walked_by f image list words sets phones numbers contested) xs ys k w)

  pub by_plain : (xs ys : List ℕ) (k : ℕ) → get_or f 0 0 ≡ 23 → SpeechAnswered (plain_by f image list phones numbers contested) xs ys k len out out' → Given (answer_to f file list before) (holding image words sets xs ys k) len out out'
  unfolding by_kind
  by_plain xs ys k e w = at 23 _ e (speech_after (plain_by f image list phones numbers contested) xs ys k w)

  pub by_store_word : (xs : List ℕ) → get_or f 0 0 ≡ 24 → Answered (stored_word f words) xs len out out' → Given (answer_to f file list before) (holding image xs sets phones numbers contested) len out out'
  unfolding by_kind
  by_store_word xs e w = at 24 _ e (words_after (stored_word f words) xs w)

  pub by_store_set : (xs : List ℕ) → get_or f 0 0 ≡ 25 → Answered (stored_set f sets) xs len out out' → Given (answer_to f file list before) (holding image words xs phones numbers contested) len out out'
  unfolding by_kind
  by_store_set xs e w = at 25 _ e (sets_after (stored_set f sets) xs w)

  pub by_show_words : get_or f 0 0 ≡ 26 → Gives (shown_words f words) len out out' → Given (answer_to f file list before) before len out out'
  unfolding by_kind
  by_show_words e g = at 26 _ e (same_after (shown_words f words) g)

  pub by_show_sets : get_or f 0 0 ≡ 27 → Gives (shown_sets f sets) len out out' → Given (answer_to f file list before) before len out out'
  unfolding by_kind
  by_show_sets e g = at 27 _ e (same_after (shown_sets f sets) g)

  pub by_show_phones : get_or f 0 0 ≡ 28 → Gives (shown_phones f phones) len out out' → Given (answer_to f file list before) before len out out'
  unfolding by_kind
  by_show_phones e g = at 28 _ e (same_after (shown_phones f phones) g)

  pub by_show_numbers : get_or f 0 0 ≡ 29 → Gives (shown_numbers f numbers) len out out' → Given (answer_to f file list before) before len out out'
  unfolding by_kind
  by_show_numbers e g = at 29 _ e (same_after (shown_numbers f numbers) g)

  pub by_force : (xs : List ℕ) → get_or f 0 0 ≡ 30 → Answered (forced_by f image) xs len out out' → Given (answer_to f file list before) (holding xs words sets phones numbers contested) len out out'
  unfolding by_kind
  by_force xs e w = at 30 _ e (image_after (forced_by f image) xs w)

  pub by_clear : (xs : List ℕ) → get_or f 0 0 ≡ 31 → Answered (cleared_by f image) xs len out out' → Given (answer_to f file list before) (holding xs words sets phones numbers contested) len out out'
  unfolding by_kind
  by_clear xs e w = at 31 _ e (image_after (cleared_by f image) xs w)

  pub by_show_contested : get_or f 0 0 ≡ 39 → Gives (shown_contested f contested) len out out' → Given (answer_to f file list before) before len out out'
  unfolding by_kind
  by_show_contested e g = at 39 _ e (same_after (shown_contested f contested) g)

  pub by_class : (xs : List ℕ) → get_or f 0 0 ≡ 40 → Answered (class_set f image) xs len out out' → Given (answer_to f file list before) (holding xs words sets phones numbers contested) len out out'
  unfolding by_kind
  by_class xs e w = at 40 _ e (image_after (class_set f image) xs w)

  pub by_show_edits : get_or f 0 0 ≡ 41 → Gives (shown_edits f image) len out out' → Given (answer_to f file list before) before len out out'
  unfolding by_kind
  by_show_edits e g = at 41 _ e (same_after (shown_edits f image) g)

  pub by_recount : (xs : List ℕ) → get_or f 0 0 ≡ 42 → Answered (recounted_by f image) xs len out out' → Given (answer_to f file list before) (holding xs words sets phones numbers contested) len out out'
  unfolding by_kind
  by_recount xs e w = at 42 _ e (image_after (recounted_by f image) xs w)

  pub by_sheet : (xs ys : List ℕ) (k : ℕ) → get_or f 0 0 ≡ 43 → SpeechAnswered (sheet_by f image list words sets phones numbers contested) xs ys k len out out' → Given (answer_to f file list before) (holding image words sets xs ys k) len out out'
  unfolding by_kind
  by_sheet xs ys k e w = at 43 _ e (speech_after (sheet_by f image list words sets phones numbers contested) xs ys k w)

  module _ (l : len ≡ 15) (h : out' ≡ over malformed_line out) where
    none : Given (shows before malformed_line) before len out out'
    none = same_after malformed_line (l ∙ sym length_malformed, h)

    -- a frame of no bytes
    pub by_none : length f ≡ 0 → Given (answer_to f file list before) before len out out'
    unfolding by_kind
    by_none e = at 0 _ (get_or-eq_default f 0 (omega arith)) none

    other : (k : ℕ) → Other k → by_kind k f file list before ≡ shows before malformed_line
    unfolding by_kind
    other k n = rw (ne_eqb k 16 n.0.0.0.0.0.0.0.0.0.0.0.0.0.0.0.0.0.0.0.0.1, ne_eqb k 17 n.0.0.0.0.0.0.0.0.0.0.0.0.0.0.0.0.0.0.0.1, ne_eqb k 18 n.0.0.0.0.0.0.0.0.0.0.0.0.0.0.0.0.0.0.1, ne_eqb k 19 n.0.0.0.0.0.0.0.0.0.0.0.0.0.0.0.0.0.1, ne_eqb k 20 n.0.0.0.0.0.0.0.0.0.0.0.0.0.0.0.0.1, ne_eqb k 21 n.0.0.0.0.0.0.0.0.0.0.0.0.0.0.0.1, ne_eqb k 22 n.0.0.0.0.0.0.0.0.0.0.0.0.0.0.1, ne_eqb k 23 n.0.0.0.0.0.0.0.0.0.0.0.0.0.1, ne_eqb k 24 n.0.0.0.0.0.0.0.0.0.0.0.0.1, ne_eqb k 25 n.0.0.0.0.0.0.0.0.0.0.0.1, ne_eqb k 26 n.0.0.0.0.0.0.0.0.0.0.1, ne_eqb k 27 n.0.0.0.0.0.0.0.0.0.1, ne_eqb k 28 n.0.0.0.0.0.0.0.0.1, ne_eqb k 29 n.0.0.0.0.0.0.0.1, ne_eqb k 30 n.0.0.0.0.0.0.1, ne_eqb k 31 n.0.0.0.0.0.1, ne_eqb k 39 n.0.0.0.0.1, ne_eqb k 40 n.0.0.0.1, ne_eqb k 41 n.0.0.1, ne_eqb k 42 n.0.1, ne_eqb k 43 n.1)

    pub by_other : Other (get_or f 0 0) → Given (answer_to f file list before) before len out out'
    by_other n = at (get_or f 0 0) _ refl (subst (λ (o : Response). Given o before len out out') (sym (other (get_or f 0 0) n)) none)
