-- The literal rules of a rule in a struct, with those before it: how many they are, as far as they are counted.
-- Assumes nothing.
use Prim.Native.Nat.{ℕ, suc, ◌+◌, ◌*◌, ◌≤◌, ◌<◌}
use mathlib.Core.Path.{◌≡◌, sym, ap, ap₂, ◌∙◌}
use mathlib.Core.List.{List}
use mathlib.Core.Bool.{true, false, and-false}
use native.Mathlib.Omega.{arith}
use borrow.Author.Tests.{leb-true, leb-false, le-leb, lt-leb}
use lib.Dec.{leb}
use Rattle.std.specs.Prelude.{Some, None, IfSome}
use lib.ListN.{length, take}
use Rattle.rules.specs.Limits.{max_rules, max_context}
use Rattle.rules.specs.Shape.{view, shape}
use Rattle.rules.specs.declared.Rule.{Rule}
use Rattle.rules.proofs.Cases.{by_bool}
use Rattle.rules.proofs.Laws.{length_first, first_take}
use Rattle.classes.specs.Classes.{Classes, defined}
use Rattle.classes.specs.Counting.{capped}
use Rattle.classes.specs.Expansion.{size, literal_count}
use Rattle.classes.proofs.Counts.{defined_count}
use Rattle.image.proofs.Entries.{shaped}
use Rattle.file.specs.Loading.{total_with}

module _ (rule : Rule) (s : shape (view rule) ≡ true) where
  pub left_few : rule.left_len ≤ max_context
  left_few = omega (arith, length_first rule.left_len rule.left 0, (shaped (view rule) s).left-most)

  pub right_few : rule.right_len ≤ max_context
  right_few = omega (arith, length_first rule.right_len rule.right 0, (shaped (view rule) s).right-most)

  module _ (before : ℕ) (k : Classes) (l r count : ℕ) (el : l ≡ rule.left_len) (er : r ≡ rule.right_len) (nl : length rule.left ≡ max_context)
      (nr : length rule.right ≡ max_context) (e : count ≡ capped (size k (take l rule.left) * size k (take r rule.right))) where
    abbrev n : ℕ
    n = literal_count k (view rule)

    counted : count ≡ capped n
    counted =
        e ∙ ap₂ (λ (a b : List ℕ). capped (size k a * size k b))
        (ap (λ (m : ℕ). take m rule.left) el ∙ sym (first_take rule.left_len rule.left 0 (omega (arith, left_few))))
        (ap (λ (m : ℕ). take m rule.right) er ∙ sym (first_take rule.right_len rule.right 0 (omega (arith, right_few))))

    -- up to 512 they are counted exactly
    exact : n ≤ max_rules → count ≡ n
    exact h = counted ∙ rw (le-leb n max_rules h)

    more : max_rules < n → count ≡ suc max_rules
    more h = counted ∙ rw (lt-leb n max_rules h)

    exact_by : count ≤ max_rules → count ≡ n
    exact_by h = by_bool (leb n max_rules) (λ t. exact (leb-true n max_rules t)) (λ t. let u = more (leb-false n max_rules t) in absurd (omega arith))

    pub total_none : count < 1 → (None ≡ total_with before k (view rule)) × IfSome {T = ℕ} None (λ n. n ≤ max_rules)
    total_none h =
        let z = exact_by (omega arith) in
        let d : defined k (view rule) ≡ false = defined_count k (view rule) ∙ lt-leb 1 n (omega arith) in
        (rw d, tt)

    pub total_over : max_rules < before + count → (None ≡ total_with before k (view rule)) × IfSome {T = ℕ} None (λ n. n ≤ max_rules)
    total_over h =
        let u : max_rules < before + n = by_bool (leb n max_rules) (λ t. let z = exact (leb-true n max_rules t) in omega arith) (λ t. let z = leb-false n max_rules t in omega arith) in
        let d : leb (before + n) max_rules ≡ false = lt-leb (before + n) max_rules u in
        (rw (d, and-false (defined k (view rule))), tt)

    pub total_more : 1 ≤ count → before + count ≤ max_rules → (Some (before + count) ≡ total_with before k (view rule)) × (before + count ≤ max_rules)
    total_more h g =
        let z = exact_by (omega arith) in
        let d : defined k (view rule) ≡ true = defined_count k (view rule) ∙ le-leb 1 n (omega arith) in
        let u : leb (before + n) max_rules ≡ true = le-leb (before + n) max_rules (omega arith) in
        (ap (λ (m : ℕ). Some (before + m)) z ∙ sym (rw (d, u)), g)
