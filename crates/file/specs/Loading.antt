-- What reading a file into lent memory, and writing a ruleset to lent bytes, give: the answer with document 01's number and place, and
-- the memory after it.
-- Assumes nothing.
use Rattle.std.specs.Prelude.{ℕ, suc, ◌+◌, ◌-◌, ◌/◌, ◌%◌, ◌≡◌, List, [], ◌∷◌, ◌++◌, map, Bool, cond, ◌&&◌, Option, Some, None, Result, Ok, Err, length, drop, leb, eqb}
use Rattle.rules.specs.Limits.{max_rules}
use Rattle.rules.specs.Memory.{over}
use Rattle.rules.specs.Shape.{Production, shape}
use Rattle.rules.specs.Refusals.{refusal_number, refusal_place, Reply, accepted, declined, Report, wrote, refused}
use Rattle.rules.specs.declared.Refusal.{Refusal}
use Rattle.rules.specs.declared.Refusal.TheVariants.{BadLine, BadText}
use Rattle.rules.specs.declared.Numbered.{Numbered}
use Rattle.classes.specs.Classes.{Classes, no_classes, defined}
use Rattle.classes.specs.Expansion.{literal_count}
use Rattle.classes.specs.Masks.{mask_of}
use Rattle.image.specs.State.{Ruleset, Ledger, ruleset_of, entry}
use Rattle.image.specs.Image.{image_size, ledger_of, whole, with_rule, valid, Edited, outcome}
use Rattle.frames.specs.Lines.{Parsed}
use Rattle.frames.specs.Lines.Parsed.{Bad, Good}
use Rattle.file.specs.declared.heading.Head.{Head}
use Rattle.file.specs.declared.defining.ClassLine.{ClassLine}
use Rattle.file.specs.declared.parsing.RuleLine.{RuleLine}
use Rattle.file_format.specs.Layout.{frame_type, head_count, head_last, class_type, class_symbol, letters_of, rule_type, entry_in, numbered_of}
use Rattle.file_format.specs.File.{encode, Read, is_head, class_fits, Defined, is_rule, read_rules, readFile}
use Rattle.file_format.specs.File.Read.{Accepted, Malformed, Broken}

-- ---- reading

-- the state that a file describes
abbrev pub ledger_for : Ruleset → Ledger
ledger_for b = record { list = map numbered_of b.rules; last = b.last; classes = b.classes; edits = 0 }

abbrev pub verdict : Read → Reply
verdict (Accepted b) = accepted
verdict (Malformed p) = declined 13 p
verdict (Broken p) = declined 14 p

-- what an accepted file describes
abbrev pub described : Read → Ruleset
described (Accepted b) = b
described (Malformed p) = record { rules = []; last = 0; classes = no_classes }
described (Broken p) = record { rules = []; last = 0; classes = no_classes }

-- the image after the reading: a refusal keeps it
abbrev pub stored : Read → List ℕ → List ℕ
stored (Accepted b) image = whole (ledger_for b) image
stored (Malformed p) image = image
stored (Broken p) image = image

-- a file read into an image, whatever that held; memory too short for a ruleset is refused first
unfoldable pub loaded : List ℕ → List ℕ → Edited
loaded file image =
    cond (leb image_size (length image)) (outcome (verdict (readFile file)) (stored (readFile file) image)) (outcome (declined 0 0) image)

-- ---- writing

-- the ruleset that an image holds
abbrev pub ruleset_in : List ℕ → Ruleset
ruleset_in image = ruleset_of (ledger_of image)

-- the report, and the lent bytes after it
pub record Filed : Type 0 where
  pub report : Report
  pub bytes : List ℕ

abbrev pub filing : Report → List ℕ → Filed
filing r out = record { report = r; bytes = out }

unfoldable pub filed : List ℕ → List ℕ → Filed
filed image out =
    cond (valid image)
    (cond (leb (length (encode (ruleset_in image))) (length out))
    (filing (wrote (length (encode (ruleset_in image)))) (over (encode (ruleset_in image)) out))
    (filing (refused 15 (length (encode (ruleset_in image)))) out))
    (filing (refused 0 0) out)

-- ---- what the functions give on the way

-- what a head's frame says, where its line ends at `next`
abbrev pub head_from : ℕ → List ℕ → Head
head_from next f = record { next = next; count = head_count f; last = head_last f }

-- the head of a frame
abbrev pub head_in : ℕ → List ℕ → Option Head
head_in next f = cond (is_head f) (Some (head_from next f)) None

-- the head of a line, in a file of len bytes
abbrev pub head_at : ℕ → Parsed → Result Head Refusal
head_at len Bad = Err (BadLine 0)
head_at len (Good f rest) = cond (is_head f) (Ok (head_from (len - length rest) f)) (Err (BadText 0))

-- the mask of the class that a frame defines with a symbol from `low` on
abbrev pub class_mask : ℕ → List ℕ → Option ℕ
class_mask low f = cond (class_fits low f) (Some (mask_of (letters_of f))) None

-- the class that a line at a place defines, in a file of len bytes; none where it is of another type
abbrev pub class_at : ℕ → ℕ → ℕ → Parsed → Result (Option ClassLine) Refusal
class_at at low len Bad = Ok None
class_at at low len (Good f rest) =
    cond (eqb (frame_type f) class_type)
    (cond (class_fits low f) (Ok (Some (record { next = len - length rest; symbol = class_symbol f; mask = mask_of (letters_of f) }))) (Err (BadText at)))
    (Ok None)

-- where class lines end, in a file of len bytes: at another line, or refused at one of their type that defines no class
abbrev pub classes_end : ℕ → Defined → Result ℕ Refusal
classes_end len d = cond d.ok (Ok (len - length d.rest)) (Err (BadText (len - length d.rest)))

-- `before` literal rules with those of a rule more; none where a class that it uses is undefined, or where they are more than 512
abbrev pub total_with : ℕ → Classes → Production → Option ℕ
total_with before k r = cond (defined k r && leb (before + literal_count k r) max_rules) (Some (before + literal_count k r)) None

-- the rule of a frame: of the shape, with a number from 1 to last
abbrev pub ruled_in : ℕ → List ℕ → Option Numbered
ruled_in last f = cond (is_rule f && entry last (entry_in f)) (Some (numbered_of (entry_in f))) None

-- the rule of a line at a place, in a file of len bytes
abbrev pub rule_at : ℕ → ℕ → ℕ → Parsed → Result RuleLine Refusal
rule_at at last len Bad = Err (BadLine at)
rule_at at last len (Good f rest) =
    cond (is_rule f && entry last (entry_in f)) (Ok (record { next = len - length rest; entry = numbered_of (entry_in f) })) (Err (BadText at))

-- a frame is that of a rule of the shape
abbrev pub rule_frame : List ℕ → Bool
rule_frame f = is_rule f && shape (entry_in f).rule

-- the rule lines of an accepted file start at `from`
abbrev pub RulesFrom : List ℕ → ℕ → ℕ → ℕ → Type 0
RulesFrom file last count from =
    read_rules (length file) last (described (readFile file)).classes count [] (drop from file) ≡ readFile file

-- rules put into the slots from a place on
abbrev pub with_rules : ℕ → List Numbered → List ℕ → List ℕ
with_rules place [] image = image
with_rules place (x ∷ l) image = with_rules (suc place) l (with_rule place x image)

-- a rule's frame without its checksum, part by part
abbrev pub number_bytes : ℕ → List ℕ
number_bytes n = rule_type ∷ n / 256 ∷ n % 256 ∷ []

abbrev pub length_bytes : List ℕ → List ℕ → List ℕ → List ℕ → List ℕ
length_bytes l t r p = length l % 256 ∷ length t % 256 ∷ length r % 256 ∷ length p % 256 ∷ []

abbrev pub field_bytes : List ℕ → List ℕ → List ℕ → List ℕ → List ℕ
field_bytes l t r p = l ++ (t ++ (r ++ p))

abbrev pub body_bytes : ℕ → List ℕ → List ℕ → List ℕ → List ℕ → List ℕ
body_bytes n l t r p = (number_bytes n ++ length_bytes l t r p) ++ field_bytes l t r p
