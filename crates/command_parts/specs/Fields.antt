-- What the bytes of a monitor command mean, where they decide an argument of a call. A frame here is a command's bytes without its checksum;
-- fields are high byte first.
-- Assumes nothing.
use Rattle.std.specs.Prelude.{ℕ, ◌+◌, ◌*◌, ◌≤◌, min, ◌≡◌, List, ◌++◌, Bool, ◌&&◌, length, drop, leb, eqb}
use Rattle.numbers.specs.Numbers.{two}
use Rattle.rules.specs.declared.Rule.{Rule}
use Rattle.rule_bytes.specs.RuleBytes.{rule_struct}
use Rattle.file_format.specs.Layout.{front_size, body_size, rule_in}

-- four bytes
abbrev pub four : ℕ → List ℕ → ℕ
four at s = 65536 * two at s + two (at + 2) s

-- eight bytes
abbrev pub eight : ℕ → List ℕ → ℕ
eight at s = 4294967296 * four at s + four (at + 4) s

-- 10, p (2), four lengths (1 each), their bytes: laid as the frame of a rule in the rule file, the place where that has the number. Such a
-- frame has as many bytes as its lengths say
abbrev pub add_sized : List ℕ → Bool
add_sized f = leb front_size (length f) && eqb (length f) (body_size f)

abbrev pub AddSized : List ℕ → Type 0
AddSized f = (front_size ≤ length f) × (length f ≡ body_size f)

-- the rule of such a frame; a length above what a rule can hold is kept as the length
unfoldable pub added_rule : List ℕ → Rule
added_rule f = rule_struct (rule_in f)

-- ---- lent memory

-- so many as are asked for; more than there are counts as all
abbrev pub lent_of : ℕ → ℕ → ℕ
lent_of asked there = min asked there

-- a call that was lent the first n of xs left ys there
abbrev pub back : ℕ → List ℕ → List ℕ → List ℕ
back n ys xs = ys ++ drop n xs
