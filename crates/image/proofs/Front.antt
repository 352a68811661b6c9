-- What an image holds depends on its front alone: the rules on the bytes before the classes, the state on those before the table.
-- Assumes nothing.
use Prim.Native.Nat.{ℕ, zero, suc, ◌+◌, ◌*◌, ◌≤◌, ◌<◌}
use mathlib.Core.Path.{◌≡◌, refl, ap, ap₂, ◌∙◌}
use mathlib.Core.List.{List, ◌∷◌}
use native.Mathlib.Omega.{arith}
use lib.ListN.{take, drop}
use Rattle.numbers.specs.Numbers.{two, four}
use Rattle.rules.specs.Limits.{max_rules}
use Rattle.rule_bytes.specs.RuleBytes.{rule_size}
use Rattle.rule_bytes.proofs.Parts.{front_same, part_same, byte_same}
use Rattle.rule_bytes.proofs.Fields.{rule_same}
use Rattle.classes.specs.Masks.{masks_size, classes_in}
use Rattle.image.specs.Image.{head_size, number_size, slot_size, class_start, total_start, slot_of, listed, rules_in, count_of, last_of, edits_of, classes_of, ledger_of}

-- lists with the same first N elements have the same numbers within them
module _ (N : ℕ) (z d : List ℕ) (e : take N z ≡ take N d) where
  pub two_same : (k : ℕ) → k + 1 < N → two k z ≡ two k d
  two_same k h = ap₂ (λ (a b : ℕ). 256 * a + b) (byte_same N z d e k (omega arith)) (byte_same N z d e (k + 1) h)

  pub four_same : (k : ℕ) → k + 3 < N → four k z ≡ four k d
  four_same k h =
      rw (byte_same N z d e k (omega arith), byte_same N z d e (k + 1) (omega arith), byte_same N z d e (k + 2) (omega arith), byte_same N z d e (k + 3) h)

slot_same : (s t : List ℕ) → take slot_size s ≡ take slot_size t → slot_of s ≡ slot_of t
unfolding slot_of
slot_same s t e =
    rw (
      byte_same slot_size s t e 0 (omega arith),
      byte_same slot_size s t e 1 (omega arith),
      rule_same (drop number_size s) (drop number_size t) (part_same slot_size s t e number_size rule_size (omega arith)),
    )

listed_same : (n : ℕ) (s t : List ℕ) → take (slot_size * n) s ≡ take (slot_size * n) t → listed n s ≡ listed n t
listed_same zero s t e = refl
listed_same (suc n) s t e =
    ap₂ ◌∷◌ (slot_same s t (front_same (slot_size * suc n) s t e slot_size (omega arith)))
    (listed_same n (drop slot_size s) (drop slot_size t) (part_same (slot_size * suc n) s t e slot_size (slot_size * n) (omega arith)))

module _ (z d : List ℕ) (few : count_of d ≤ max_rules) where
  -- the same bytes before the classes: the same rules, last number and edit count
  module _ (e : take class_start z ≡ take class_start d) where
    pub count_same : count_of z ≡ count_of d
    count_same = two_same class_start z d e 0 (omega arith)

    pub last_same : last_of z ≡ last_of d
    last_same = two_same class_start z d e 2 (omega arith)

    pub edits_same : edits_of z ≡ edits_of d
    edits_same = four_same class_start z d e 4 (omega arith)

    pub rules_same : rules_in (count_of z) z ≡ rules_in (count_of d) d
    rules_same =
        ap (λ (n : ℕ). rules_in n z) count_same
        ∙ listed_same (count_of d) (drop head_size z) (drop head_size d) (part_same class_start z d e head_size (slot_size * count_of d) (omega arith))

    pub ledger_by : classes_of z ≡ classes_of d → ledger_of z ≡ ledger_of d
    ledger_by k = rw (rules_same, last_same, k, edits_same)

  -- the same bytes before the table: the same state
  pub ledger_same : take total_start z ≡ take total_start d → ledger_of z ≡ ledger_of d
  unfolding classes_of
  ledger_same e =
      ledger_by (front_same total_start z d e class_start (omega arith)) (ap classes_in (part_same total_start z d e class_start masks_size (omega arith)))
