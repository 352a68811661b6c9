-- What a host gets of a ruleset in numbers, and the rule that it gives.
-- Assumes nothing.
use Rattle.std.specs.Prelude.{cond, ℕ, List, leb, eqb, length}
use Rattle.rules.specs.Refusals.{Reply, accepted, declined}
use Rattle.rules.specs.declared.Rule.{Rule}
use Rattle.rule_bytes.specs.RuleBytes.{rule_size, rule_of, blank_rule}
use Rattle.image.specs.Image.{image_size, valid, count_of, last_of, edits_of}

-- ---- the ruleset

-- whether memory is a ruleset
abbrev pub checked : List ℕ → Reply
checked image = cond (valid image) accepted (declined 0 0)

-- a number that memory holds, ruleset or not; 0 where it is too short for a ruleset
abbrev pub held_in : (List ℕ → ℕ) → List ℕ → ℕ
held_in field image = cond (leb image_size (length image)) (field image) 0

-- the rule count, `last` and the edit count
abbrev pub count_in : List ℕ → ℕ
count_in = held_in count_of

abbrev pub last_in : List ℕ → ℕ
last_in = held_in last_of

abbrev pub edits_in : List ℕ → ℕ
edits_in = held_in edits_of

-- ---- a rule from the host: a slot without its number

-- bytes of another length are no rule
unfoldable pub rule_given : List ℕ → Rule
rule_given s = cond (eqb (length s) rule_size) (rule_of s) blank_rule
