-- A rule as bytes and as a struct. As bytes: four lengths (1 each: left context, target, right context, phones), then the four fields with all their
-- places. What lies past a field's length is kept and not judged.
-- Assumes nothing.
use Rattle.std.specs.Prelude.{ℕ, ◌+◌, ◌-◌, ◌≡◌, List, [], ◌∷◌, ◌++◌, length, get_or, take, drop}
use Rattle.rules.specs.Limits.{max_context, max_target, max_phones, fields_size}
use Rattle.rules.specs.Shape.{first, Production}
use Rattle.rules.specs.declared.Rule.{Rule}

-- ---- as bytes

-- where the fields start
abbrev pub left_start : ℕ
left_start = 4

abbrev pub target_start : ℕ
target_start = left_start + max_context

abbrev pub right_start : ℕ
right_start = target_start + max_target

abbrev pub phones_start : ℕ
phones_start = right_start + max_context

abbrev pub rule_size : ℕ
rule_size = left_start + fields_size

-- the rule that s starts with
abbrev pub rule_of : List ℕ → Rule
rule_of s = record {
  left_len = get_or s 0 0;
  target_len = get_or s 1 0;
  right_len = get_or s 2 0;
  phone_len = get_or s 3 0;
  left = take max_context (drop left_start s);
  target = take max_target (drop target_start s);
  right = take max_context (drop right_start s);
  phones = take max_phones (drop phones_start s);
}

-- the lengths, and the bytes of a rule
abbrev pub length_bytes : Rule → List ℕ
length_bytes r = r.left_len ∷ r.target_len ∷ r.right_len ∷ r.phone_len ∷ []

unfoldable pub ruleBytes : Rule → List ℕ
ruleBytes r = length_bytes r ++ (r.left ++ (r.target ++ (r.right ++ r.phones)))

-- ---- as a struct

-- the arrays of a struct are full, whatever its lengths say
abbrev pub Filled : Rule → Type 0
Filled r =
    (length r.left ≡ max_context)
    × ((length r.target ≡ max_target) × ((length r.right ≡ max_context) × (length r.phones ≡ max_phones)))

-- the struct with these lengths: of each field as many symbols as its array has places, 0 past them
abbrev pub rule_with : ℕ → ℕ → ℕ → ℕ → List ℕ → List ℕ → List ℕ → List ℕ → Rule
rule_with leftLen targetLen rightLen phoneLen left target right phones = record {
  left_len = leftLen;
  target_len = targetLen;
  right_len = rightLen;
  phone_len = phoneLen;
  left = first max_context left 0;
  target = first max_target target 0;
  right = first max_context right 0;
  phones = first max_phones phones 0;
}

-- the struct of bytes in which the lengths stand from `lens` on, and the fields one after the other, each up to where the next starts
abbrev pub rule_from : List ℕ → ℕ → ℕ → ℕ → ℕ → ℕ → ℕ → Rule
rule_from s lens left target right phones end =
    rule_with (get_or s lens 0) (get_or s (lens + 1) 0) (get_or s (lens + 2) 0) (get_or s (lens + 3) 0) (take (target - left) (drop left s))
    (take (right - target) (drop target s)) (take (phones - right) (drop right s)) (take (end - phones) (drop phones s))

-- the struct of a rule
abbrev pub rule_struct : Production → Rule
rule_struct r =
    rule_with (length r.left) (length r.target) (length r.right) (length r.phones) r.left r.target r.right r.phones

-- the struct of a rule with no target, which breaks the shape
abbrev pub blank_rule : Rule
blank_rule = rule_with 0 0 0 0 [] [] [] []
