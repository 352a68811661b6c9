-- The rule file of document 01, with the letter classes of document 02's request 5: its writing, and its reading with the refusals 13 and 14.
-- Assumes nothing.
use Rattle.std.specs.Prelude.{ℕ, zero, suc, ◌+◌, ◌-◌, ◌/◌, ◌%◌, ◌≡◌, List, [], ◌∷◌, ◌++◌, Bool, true, false, cond, not, ◌&&◌, length, leb, eqb}
use Rattle.rules.specs.Limits.{max_rules, max_number, first_class, class_count}
use Rattle.rules.specs.Shape.{Entry}
use Rattle.classes.specs.Classes.{Classes, no_classes, is_class, class_shape, defined, OnlyClasses}
use Rattle.classes.specs.Expansion.{literal_count, literal_total}
use Rattle.classes.specs.Setting.{with_class}
use Rattle.image.specs.State.{Ruleset, entry, member, is_ruleset}
use Rattle.frames.specs.Lines.{line_of, framed, Parsed, sound_line}
use Rattle.frames.specs.Lines.Parsed.{Bad, Good}
use Rattle.file_format.specs.Layout.{frame_type, head_type, edition, head_edition, head_count, head_last, head_frame_size, class_type, class_symbol, letter_count, class_front_size, letters_of, rule_type, body_size, entry_in}

-- a ruleset that a file can hold: two bytes can hold its last number
unfoldable pub well_formed : Ruleset → Bool
well_formed b = leb b.last max_number && is_ruleset b

-- ---- the writing

-- head: 01, edition 01, rule count (2), last (2)
abbrev pub head_body : ℕ → ℕ → List ℕ
head_body n last = head_type ∷ edition ∷ n / 256 ∷ n % 256 ∷ last / 256 ∷ last % 256 ∷ []

-- class: 07, symbol, letter count, letters
abbrev pub class_body : ℕ → List ℕ → List ℕ
class_body c l = class_type ∷ c ∷ length l ∷ l

-- rule: 02, number (2), four lengths
abbrev pub rule_front : ℕ → ℕ → ℕ → ℕ → ℕ → List ℕ
rule_front n l t r p = rule_type ∷ n / 256 ∷ n % 256 ∷ l ∷ t ∷ r ∷ p ∷ []

-- and then their bytes
abbrev pub rule_body : Entry → List ℕ
rule_body e =
    rule_front e.number (length e.rule.left) (length e.rule.target) (length e.rule.right) (length e.rule.phones)
    ++ (e.rule.left ++ (e.rule.target ++ (e.rule.right ++ e.rule.phones)))

abbrev pub head_line : ℕ → ℕ → List ℕ
head_line n last = line_of (framed (head_body n last))

-- the line of a class; an undefined one has none
abbrev pub class_line : ℕ → List ℕ → List ℕ
class_line c [] = []
class_line c (x ∷ l) = line_of (framed (class_body c (x ∷ l)))

-- the lines of n classes from symbol c on
abbrev pub class_lines_from : Classes → ℕ → ℕ → List ℕ
class_lines_from k c zero = []
class_lines_from k c (suc n) = class_line c (k c) ++ class_lines_from k (suc c) n

-- the lines of the classes, ascending by symbol
unfoldable pub class_lines : Classes → List ℕ
class_lines k = class_lines_from k first_class class_count

abbrev pub rule_line : Entry → List ℕ
rule_line e = line_of (framed (rule_body e))

abbrev pub rule_lines : List Entry → List ℕ
rule_lines [] = []
rule_lines (e ∷ es) = rule_line e ++ rule_lines es

-- the file of a ruleset
unfoldable pub encode : Ruleset → List ℕ
encode b = head_line (length b.rules) b.last ++ (class_lines b.classes ++ rule_lines b.rules)

-- ---- the reading

pub data Read : Type 0 where
  Accepted : Ruleset → Read
  -- refusal 13, with its place
  Malformed : ℕ → Read
  -- refusal 14, with its place
  Broken : ℕ → Read

-- a sound frame is a head
abbrev pub is_head : List ℕ → Bool
is_head f =
    eqb (length f) head_frame_size && (eqb (frame_type f) head_type && (eqb (head_edition f) edition && leb (head_count f) max_rules))

-- a sound frame of a class's type defines a class: its length, its symbol and its letters are right
abbrev pub class_frame : List ℕ → Bool
class_frame f = eqb (length f) (class_front_size + letter_count f + 1) && (is_class (class_symbol f) && class_shape (letters_of f))

-- and its symbol is not below `low`, the one after that of the class before
abbrev pub class_fits : ℕ → List ℕ → Bool
class_fits low f = class_frame f && leb low (class_symbol f)

-- a sound frame has a rule's type and length
abbrev pub is_rule : List ℕ → Bool
is_rule f = eqb (frame_type f) rule_type && eqb (length f) (body_size f + 1)

-- a rule after those of `done`: of the shape, with a number from 1 to last that none of them has; the classes that it uses are defined; and with
-- it there are at most 512 literal rules
abbrev pub fine : ℕ → Classes → List Entry → Entry → Bool
fine last k done e =
    entry last e && (not (member e.number done)
    && (defined k e.rule && leb (literal_total k done + literal_count k e.rule) max_rules))

-- a frame that is a rule after those of `done`
abbrev pub rule_fits : ℕ → Classes → List Entry → List ℕ → Bool
rule_fits last k done f = is_rule f && fine last k done (entry_in f)

abbrev pub on_line : Parsed → Read → (List ℕ → List ℕ → Read) → Read
on_line Bad r k = r
on_line (Good f rest) r k = k f rest

-- after the last rule there is nothing
abbrev pub ended : ℕ → Ruleset → List ℕ → Read
ended len b [] = Accepted b
ended len b (x ∷ s) = Broken (len - length (x ∷ s))

-- n rule lines, after the rules of `done`. The place of a line is the file's length less what is left from its start.
abbrev pub read_rules : ℕ → ℕ → Classes → ℕ → List Entry → List ℕ → Read
read_rules len last k zero done s = ended len (record { rules = done; last = last; classes = k }) s
read_rules len last k (suc n) done s =
    on_line (sound_line s) (Malformed (len - length s))
    (λ f rest. cond (rule_fits last k done f) (read_rules len last k n (done ++ (entry_in f ∷ [])) rest) (Broken (len - length s)))

-- the classes that lines define, what is left from the first line on that defines none, and whether that one is not of a class's type
pub record Defined : Type 0 where
  pub classes : Classes
  pub rest : List ℕ
  pub ok : Bool

abbrev pub defined_by : Classes → List ℕ → Bool → Defined
defined_by k s b = record { classes = k; rest = s; ok = b }

-- a sound line of a class's type, or another
abbrev pub on_class : Parsed → Defined → (List ℕ → List ℕ → Defined) → Defined
on_class Bad r k = r
on_class (Good f rest) r k = cond (eqb (frame_type f) class_type) (k f rest) r

-- up to n class lines, after those that define k, with symbols that ascend from `low`. After 32 no symbol is left; one line more is that of no rule, and
-- so refused where it stands.
unfoldable pub read_classes : ℕ → ℕ → Classes → List ℕ → Defined
read_classes zero low k s = defined_by k s true
read_classes (suc n) low k s =
    on_class (sound_line s) (defined_by k s true)
    (λ f rest. cond (class_fits low f) (read_classes n (suc (class_symbol f)) (with_class k (class_symbol f) (letters_of f)) rest) (defined_by k s false))

-- the class lines that follow the head
abbrev pub read_defined : List ℕ → Defined
read_defined s = read_classes class_count first_class no_classes s

-- the rules that follow the classes
abbrev pub after_classes : ℕ → ℕ → ℕ → Defined → Read
after_classes len last n d = cond d.ok (read_rules len last d.classes n [] d.rest) (Broken (len - length d.rest))

unfoldable pub readFile : List ℕ → Read
readFile s =
    on_line (sound_line s) (Malformed 0)
    (λ f rest. cond (is_head f) (after_classes (length s) (head_last f) (head_count f) (read_defined rest)) (Broken 0))

-- the file is the writing of a ruleset that a file can hold: those that are accepted (`accepts`, `accepted`)
pub record Written (s : List ℕ) (b : Ruleset) : Type 0 where
  pub was : s ≡ encode b
  pub formed : well_formed b ≡ true
  pub only : OnlyClasses b.classes
