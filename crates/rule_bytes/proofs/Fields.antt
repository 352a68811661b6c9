-- A rule in its bytes: read and written again it is the same, it depends on its own bytes alone, and its arrays are full.
-- Assumes nothing.
use Prim.Native.Nat.{ℕ, ◌+◌, ◌≤◌, ◌<◌}
use mathlib.Core.Path.{◌≡◌, sym, ap, ◌∙◌}
use mathlib.Core.List.{List, [], ◌∷◌, ◌++◌, append_assoc}
use native.Mathlib.Omega.{arith}
use lib.ListN.{length, get_or, take, drop, length-append, length-drop}
use lib.Seq.{take_at, take-length, drop_at, drop-drop, length-take-le}
use Rattle.rules.specs.Limits.{max_context, max_target, max_phones, fields_size}
use Rattle.rules.specs.Shape.{first}
use Rattle.rules.specs.declared.Rule.{Rule}
use Rattle.rules.proofs.Laws.{first_take}
use Rattle.rule_bytes.specs.RuleBytes.{left_start, target_start, right_start, phones_start, rule_size, rule_of, ruleBytes, Filled, rule_from}
use Rattle.rule_bytes.proofs.Parts.{part_same, byte_same, in_four}

-- ---- read

pub rule_filled : (s : List ℕ) → rule_size ≤ length s → Filled (rule_of s)
rule_filled s h = (
  length-take-le max_context (drop left_start s) (simp length-drop (omega arith)),
  (
    length-take-le max_target (drop target_start s) (simp length-drop (omega arith)),
    (
      length-take-le max_context (drop right_start s) (simp length-drop (omega arith)),
      length-take-le max_phones (drop phones_start s) (simp length-drop (omega arith)),
    ),
  ),
)

whole : (m : ℕ) (l : List ℕ) → length l ≡ m → first m l 0 ≡ l
whole m l h = first_take m l 0 (omega arith) ∙ (ap (λ (n : ℕ). take n l) (sym h) ∙ take-length l)

-- the struct of the fields' bytes
pub rule_is : (s : List ℕ) → rule_size ≤ length s
    → rule_from s 0 left_start target_start right_start phones_start rule_size ≡ rule_of s
rule_is s h =
    let f = rule_filled s h in
    rw (whole max_context _ f.0, whole max_target _ f.1.0, whole max_context _ f.1.1.0, whole max_phones _ f.1.1.1)

-- the same bytes, the same rule
pub rule_same : (s t : List ℕ) → take rule_size s ≡ take rule_size t → rule_of s ≡ rule_of t
rule_same s t e =
    let p : (n m : ℕ) → n + m ≤ rule_size → take m (drop n s) ≡ take m (drop n t) = part_same rule_size s t e in
    let b : (k : ℕ) → k < rule_size → get_or s k 0 ≡ get_or t k 0 = byte_same rule_size s t e in
    rw (
      b 0 (omega arith),
      b 1 (omega arith),
      b 2 (omega arith),
      b 3 (omega arith),
      p left_start max_context (omega arith),
      p target_start max_target (omega arith),
      p right_start max_context (omega arith),
      p phones_start max_phones (omega arith),
    )

-- read and written again
pub bytes_rule : (s : List ℕ) → rule_size ≤ length s → ruleBytes (rule_of s) ≡ take rule_size s
unfolding ruleBytes
bytes_rule [] h = absurd (omega arith)
bytes_rule (a ∷ []) h = absurd (omega arith)
bytes_rule (a ∷ b ∷ []) h = absurd (omega arith)
bytes_rule (a ∷ b ∷ c ∷ []) h = absurd (omega arith)
bytes_rule (a ∷ b ∷ c ∷ d ∷ t) h = rw (in_four max_context max_target max_context max_phones t)

-- ---- written

module _ (r : Rule) (rest : List ℕ) (f : Filled r) where
  abbrev fields : List ℕ
  fields = r.left ++ (r.target ++ (r.right ++ (r.phones ++ rest)))

  fields_are : (r.left ++ (r.target ++ (r.right ++ r.phones))) ++ rest ≡ fields
  fields_are = simp append_assoc

  past_left : drop max_context fields ≡ r.target ++ (r.right ++ (r.phones ++ rest))
  past_left = drop_at r.left _ max_context f.0

  past_target : drop (max_context + max_target) fields ≡ r.right ++ (r.phones ++ rest)
  past_target = sym (drop-drop max_target max_context fields) ∙ (ap (drop max_target) past_left ∙ drop_at r.target _ max_target f.1.0)

  past_right : drop (max_context + max_target + max_context) fields ≡ r.phones ++ rest
  past_right =
      sym (drop-drop max_context (max_context + max_target) fields) ∙ (ap (drop max_context) past_target ∙ drop_at r.right _ max_context f.1.1.0)

  past_fields : drop fields_size fields ≡ rest
  past_fields =
      sym (drop-drop max_phones (max_context + max_target + max_context) fields) ∙ (ap (drop max_phones) past_right ∙ drop_at r.phones rest max_phones f.1.1.1)

  -- written and read again, and what follows it follows
  pub rule_bytes : rule_of (ruleBytes r ++ rest) ≡ r
  unfolding ruleBytes
  rule_bytes =
      let a : take max_context fields ≡ r.left = take_at r.left _ max_context f.0 in
      let b : take max_target (drop max_context fields) ≡ r.target = ap (take max_target) past_left ∙ take_at r.target _ max_target f.1.0 in
      let c : take max_context (drop (max_context + max_target) fields) ≡ r.right =
      ap (take max_context) past_target ∙ take_at r.right _ max_context f.1.1.0 in
      let d : take max_phones (drop (max_context + max_target + max_context) fields) ≡ r.phones =
      ap (take max_phones) past_right ∙ take_at r.phones rest max_phones f.1.1.1 in
      rw (fields_are, a, b, c, d)

  pub past_rule : drop rule_size (ruleBytes r ++ rest) ≡ rest
  unfolding ruleBytes
  past_rule = ap (drop fields_size) fields_are ∙ past_fields

pub rule_length : (r : Rule) → Filled r → length (ruleBytes r) ≡ rule_size
unfolding ruleBytes
rule_length r f =
    omega (
      arith,
      f.0,
      f.1.0,
      f.1.1.0,
      f.1.1.1,
      length-append r.left (r.target ++ (r.right ++ r.phones)),
      length-append r.target (r.right ++ r.phones),
      length-append r.right r.phones,
    )
