-- The monitor's command 2B: a walk sheet, over the first so many of what the monitor holds.
-- Assumes nothing.
use Rattle.std.specs.Prelude.{ℕ, ◌+◌, ◌*◌, ◌≤◌, ◌≡◌, List, ◌++◌, leb, length, take, drop, replicate}
use Rattle.numbers.specs.Numbers.{two}
use Rattle.rules.specs.Limits.{max_name, max_names}
use Rattle.rules.specs.Memory.{over}
use Rattle.rules.specs.Refusals.{Reply, accepted, declined}
use Rattle.exceptions.specs.Judging.{listing_of}
use Rattle.speech.specs.Places.{frame_size}
use Rattle.prefix_tree.specs.Tree.{node_size}
use Rattle.many_names.specs.Many.{reply_size}
use Rattle.sheet.specs.Sheet.{SheetSaid, spoken_sheet}
use Rattle.command_parts.specs.Fields.{four, lent_of, back}
use Rattle.command_parts.specs.Answers.{SpeechEffect, leaving_speech, speech_sized, walk_refusal}
use Rattle.sheet_lines.specs.SheetLines.{sheet_line, name_lines, contested_by, AllPrintable}
use Rattle.sheet_lines.specs.declared.NamesPrinted.{NamesPrinted}

-- ---- the call

abbrev pub sheet_back : ℕ → ℕ → List ℕ → List ℕ → SheetSaid → SheetSaid
sheet_back n m phones numbers s =
    record {
      reply = s.reply;
      steps = s.steps;
      names = s.names;
      replies = s.replies;
      phones = back n s.phones phones;
      numbers = back m s.numbers numbers;
    }

-- a sheet with a lent list and memory to work in, and the first n phones and the first m numbers lent
unfoldable pub sheet_in : ℕ → ℕ → List ℕ → List ℕ → List ℕ → List ℕ → List ℕ → List ℕ → List ℕ → List ℕ → List ℕ → List ℕ → SheetSaid
sheet_in n m image list words sets sheet tree kept replies phones numbers =
    sheet_back n m phones numbers (spoken_sheet image (listing_of list) words sets sheet tree kept replies (take n phones) (take m numbers))

-- the same by the command's fields: lent words (4), lent set words (4), lent phones (2), lent numbers (2), the sheet
unfoldable pub sheet_for : List ℕ → List ℕ → List ℕ → List ℕ → List ℕ → List ℕ → List ℕ → List ℕ → List ℕ → List ℕ → SheetSaid
sheet_for f image list words sets tree kept replies phones numbers =
    sheet_in (lent_of (two 9 f) (length phones)) (lent_of (two 11 f) (length numbers)) image list
    (take (lent_of (four 1 f) (length words)) words) (take (lent_of (four 5 f) (length sets)) sets) (drop 13 f) tree kept replies phones numbers

-- ---- its answer

-- 06, steps, names and a line for each name; or 08, with no steps
abbrev pub sheet_text : Reply → SheetSaid → List ℕ
sheet_text accepted s = sheet_line s.steps s.names ++ name_lines s.names s.replies s.phones s.numbers
sheet_text (declined n p) s = walk_refusal 0 n p

-- the contested letters of the last name spoken, which a refused sheet leaves
abbrev pub contested_on : Reply → SheetSaid → ℕ → ℕ
contested_on accepted s before = contested_by s.names s.replies before
contested_on (declined n p) s before = before

abbrev pub sheet_effect : SheetSaid → ℕ → SpeechEffect
sheet_effect s contested = leaving_speech (sheet_text s.reply s) s.phones s.numbers (contested_on s.reply s contested)

-- Memory to work in, zero and enough for each sheet, so that 11, 12 and 15 do not occur (room-enough, sheet/proofs/Enough.antt).
unfoldable pub tree_words : List ℕ
tree_words = replicate (node_size * (max_names * (max_name + 1) + 1)) 0

unfoldable pub kept_words : List ℕ
kept_words = replicate (max_names * (max_name + 1) + frame_size) 0

unfoldable pub reply_numbers : List ℕ
reply_numbers = replicate (reply_size * max_names) 0

-- 2B, lent words (4), lent set words (4), lent phones (2), lent numbers (2), the sheet
unfoldable pub sheet_by : List ℕ → List ℕ → List ℕ → List ℕ → List ℕ → List ℕ → List ℕ → ℕ → SpeechEffect
sheet_by f image list words sets phones numbers contested =
    speech_sized (leb 13 (length f)) (sheet_effect (sheet_for f image list words sets tree_words kept_words reply_numbers phones numbers) contested) phones numbers contested

-- ---- what the functions rest on

-- the answer can be printed from so many phones and numbers: no more names than a sheet has, and a reply to each
pub record Presentable (s : SheetSaid) (phones numbers : ℕ) : Type 0 where
  pub few : s.names ≤ max_names
  pub printable : AllPrintable s.names s.replies phones numbers

-- it was printed
pub record SheetPut (s : SheetSaid) (before : ℕ) (r : NamesPrinted) (out out' : List ℕ) : Type 0 where
  pub many : r.len ≡ length (sheet_text s.reply s)
  pub bytes : out' ≡ over (sheet_text s.reply s) out
  pub counted : r.contested ≡ contested_on s.reply s before
