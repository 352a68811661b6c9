-- The three frames of the rule file, and where their parts lie. Two-byte fields are high byte first.
-- Head: type 01, edition 01, rule count (2), last (2), checksum.
-- Class (document 02, request 5): type 07, symbol, letter count, letters ascending, checksum.
-- Rule: type 02, number (2), four lengths (1 each: left, target, right, phones), their bytes in that order, checksum.
-- Assumes nothing.
use Rattle.std.specs.Prelude.{ℕ, ◌+◌, ◌*◌, List, get_or, take, drop}
use Rattle.numbers.specs.Numbers.{two}
use Rattle.rules.specs.Limits.{max_rules, fields_size, class_count, max_class}
use Rattle.rules.specs.Shape.{Production, Entry}
use Rattle.rules.specs.declared.Numbered.{Numbered}
use Rattle.rule_bytes.specs.RuleBytes.{rule_struct}

abbrev pub frame_type : List ℕ → ℕ
frame_type f = get_or f 0 0

-- bytes of the line of a frame of n bytes: two digits each, and 0A
abbrev pub line_size : ℕ → ℕ
line_size n = 2 * n + 1

-- ---- a head

abbrev pub head_type : ℕ
head_type = 1

abbrev pub edition : ℕ
edition = 1

abbrev pub head_edition : List ℕ → ℕ
head_edition f = get_or f 1 0

abbrev pub head_count : List ℕ → ℕ
head_count f = two 2 f

abbrev pub head_last : List ℕ → ℕ
head_last f = two 4 f

abbrev pub head_frame_size : ℕ
head_frame_size = 7

abbrev pub head_line_size : ℕ
head_line_size = line_size head_frame_size

-- ---- a class

abbrev pub class_type : ℕ
class_type = 7

abbrev pub class_symbol : List ℕ → ℕ
class_symbol f = get_or f 1 0

abbrev pub letter_count : List ℕ → ℕ
letter_count f = get_or f 2 0

-- bytes before the letters
abbrev pub class_front_size : ℕ
class_front_size = 3

abbrev pub letters_of : List ℕ → List ℕ
letters_of f = take (letter_count f) (drop class_front_size f)

-- bytes of the longest frame of a class
abbrev pub longest_class_frame : ℕ
longest_class_frame = class_front_size + max_class + 1

-- ---- a rule

abbrev pub rule_type : ℕ
rule_type = 2

abbrev pub frame_number : List ℕ → ℕ
frame_number f = two 1 f

abbrev pub left_length : List ℕ → ℕ
left_length f = get_or f 3 0

abbrev pub target_length : List ℕ → ℕ
target_length f = get_or f 4 0

abbrev pub right_length : List ℕ → ℕ
right_length f = get_or f 5 0

abbrev pub phones_length : List ℕ → ℕ
phones_length f = get_or f 6 0

-- bytes before the fields
abbrev pub front_size : ℕ
front_size = 7

-- bytes of the frame without its checksum, by its lengths
abbrev pub body_size : List ℕ → ℕ
body_size f = front_size + (left_length f + (target_length f + (right_length f + phones_length f)))

-- bytes of the longest frame of a rule: each field full
abbrev pub longest_frame : ℕ
longest_frame = front_size + fields_size + 1

-- the rule: its four fields
abbrev pub rule_in : List ℕ → Production
rule_in f = record {
  left = take (left_length f) (drop front_size f);
  target = take (target_length f) (drop (left_length f) (drop front_size f));
  right = take (right_length f) (drop (target_length f) (drop (left_length f) (drop front_size f)));
  phones = take (phones_length f) (drop (right_length f) (drop (target_length f) (drop (left_length f) (drop front_size f))));
}

-- the same with its number
abbrev pub entry_in : List ℕ → Entry
entry_in f = record { number = frame_number f; rule = rule_in f }

-- ---- the longest file: a head, all classes and 512 rules, each line as long as it can be

abbrev pub longest_file : ℕ
longest_file = head_line_size + line_size longest_class_frame * class_count + line_size longest_frame * max_rules

-- the programs read no more bytes of a file, or of their input
abbrev pub max_input : ℕ
max_input = 32768

-- ---- a rule in a struct

abbrev pub numbered_of : Entry → Numbered
numbered_of e = record { number = e.number; rule = rule_struct e.rule }
