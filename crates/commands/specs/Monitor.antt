-- The command in a line, and its answer: what the monitor holds, and all that a command comes to by its first byte (docs/MONITOR.md).
-- Assumes nothing.
use Rattle.std.specs.Prelude.{ℕ, ◌-◌, ◌≡◌, List, [], Bool, cond, ◌&&◌, leb, eqb, length, get_or, take}
use Rattle.rules.specs.Memory.{over}
use Rattle.frames.specs.Lines.{Parsed}
use Rattle.frames.specs.Lines.Parsed.{Bad, Good}
use Rattle.command_parts.specs.Answers.{Effect, Effects, SpeechEffect, malformed_line}
use Rattle.sheet_command.specs.SheetCommand.{sheet_by}
use Rattle.commands.specs.Editing.{added, dropped, moved, class_set}
use Rattle.command_parts.specs.Memory.{forced_by, recounted_by, cleared_by, stored_word, stored_set, shown_words, shown_sets, shown_phones, shown_numbers, shown_contested, shown_edits}
use Rattle.commands.specs.Lent.{built_by, walked_by, plain_by}
use Rattle.commands.specs.Filing.{loaded_by, write_line}

-- the bytes of a sound line without their checksum, where all of them have room; of any other line none
abbrev pub command_in : ℕ → Parsed → List ℕ
command_in room Bad = []
command_in room (Good f rest) = cond (leb (length f) room) (take (length f - 1) f) []

-- whether a command reads rules.hex
unfoldable pub reads_file : List ℕ → Bool
reads_file f = eqb (length f) 1 && eqb (get_or f 0 0) 19

-- what the monitor holds; `contested` is the number of contested letters of the last name spoken
pub record State : Type 0 where
  pub image : List ℕ
  pub words : List ℕ
  pub sets : List ℕ
  pub phones : List ℕ
  pub numbers : List ℕ
  pub contested : ℕ

abbrev pub holding : List ℕ → List ℕ → List ℕ → List ℕ → List ℕ → ℕ → State
holding image words sets phones numbers contested =
    record { image = image; words = words; sets = sets; phones = phones; numbers = numbers; contested = contested }

-- the line of an answer, and what is held after it
pub record Response : Type 0 where
  pub line : List ℕ
  pub state : State

-- ---- what is not lent to a command to change stays as it is

abbrev pub on_image : State → Effect → Response
on_image s e = record { line = e.line; state = holding e.after s.words s.sets s.phones s.numbers s.contested }

abbrev pub on_words : State → Effect → Response
on_words s e = record { line = e.line; state = holding s.image e.after s.sets s.phones s.numbers s.contested }

abbrev pub on_sets : State → Effect → Response
on_sets s e = record { line = e.line; state = holding s.image s.words e.after s.phones s.numbers s.contested }

abbrev pub on_tables : State → Effects → Response
on_tables s e = record { line = e.line; state = holding s.image e.first e.second s.phones s.numbers s.contested }

abbrev pub on_speech : State → SpeechEffect → Response
on_speech s e = record { line = e.line; state = holding s.image s.words s.sets e.phones e.numbers e.contested }

abbrev pub shows : State → List ℕ → Response
shows s line = record { line = line; state = s }

-- 10 to 1F and 27 to 2B; `file` is what rules.hex holds, and `list` the lent list, which none of them changes
unfoldable pub by_kind : ℕ → List ℕ → List ℕ → List ℕ → State → Response
by_kind kind f file list s =
    cond (eqb kind 16) (on_image s (added f s.image))
    (cond (eqb kind 17) (on_image s (dropped f s.image))
    (cond (eqb kind 18) (on_image s (moved f s.image))
    (cond (eqb kind 19) (on_image s (loaded_by f file s.image))
    (cond (eqb kind 20) (shows s (write_line f s.image))
    (cond (eqb kind 21) (on_tables s (built_by f s.image s.words s.sets))
    (cond (eqb kind 22) (on_speech s (walked_by f s.image list s.words s.sets s.phones s.numbers s.contested))
    (cond (eqb kind 23) (on_speech s (plain_by f s.image list s.phones s.numbers s.contested))
    (cond (eqb kind 24) (on_words s (stored_word f s.words))
    (cond (eqb kind 25) (on_sets s (stored_set f s.sets))
    (cond (eqb kind 26) (shows s (shown_words f s.words))
    (cond (eqb kind 27) (shows s (shown_sets f s.sets))
    (cond (eqb kind 28) (shows s (shown_phones f s.phones))
    (cond (eqb kind 29) (shows s (shown_numbers f s.numbers))
    (cond (eqb kind 30) (on_image s (forced_by f s.image))
    (cond (eqb kind 31) (on_image s (cleared_by f s.image))
    (cond (eqb kind 39) (shows s (shown_contested f s.contested))
    (cond (eqb kind 40) (on_image s (class_set f s.image))
    (cond (eqb kind 41) (shows s (shown_edits f s.image))
    (cond (eqb kind 42) (on_image s (recounted_by f s.image))
    (cond (eqb kind 43) (on_speech s (sheet_by f s.image list s.words s.sets s.phones s.numbers s.contested))
    (shows s malformed_line)))))))))))))))))))))

-- the answer to a command; a frame of no bytes is none
unfoldable pub answer_to : List ℕ → List ℕ → List ℕ → State → Response
answer_to f file list s = by_kind (get_or f 0 0) f file list s

-- an answer that was given: what is held after it, and its line at the front of the lent bytes
pub record Replied (o : Response) (held : State) (len : ℕ) (out out' : List ℕ) : Type 0 where
  pub kept : held ≡ o.state
  pub many : len ≡ length o.line
  pub bytes : out' ≡ over o.line out
