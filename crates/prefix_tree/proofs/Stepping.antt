-- A step down the tree, in its three cases: the child is there; its state would be out of range; it is made.
-- Assumes nothing.
use mathlib.Core.Path.{◌≡◌, refl, sym, ap, ◌∙◌}
use Prim.Native.Nat.{ℕ, ◌+◌, ◌≤◌, ◌<◌}
use native.Mathlib.Omega.{arith}
use mathlib.Core.List.{List}
use Rattle.std.specs.Prelude.{Some, None}
use Rattle.prefix_tree.specs.Tree.{child_of, Added}
use Rattle.prefix_tree.specs.Sharing.{entry_of, standing, Descended}
use Rattle.prefix_tree.specs.declared.SharedStep.{SharedStep}

module _ (words : List ℕ) (rows count : ℕ) (t : List ℕ) (p : SharedStep) (c x : ℕ) (e : x ≡ child_of t p.node c) where
  pub there : (x ≡ 0 → ⊥) → Descended words rows count t p c (Some (standing x p.nodes p.steps)) t
  there d =
      record {
        found = λ _. (ap (λ (q : ℕ). Some (standing q p.nodes p.steps)) e, refl);
        bad = λ z _. absurd (d (e ∙ z));
        made = λ z _. absurd (d (e ∙ z));
      }

  pub out : x ≡ 0 → count ≤ entry_of words rows t p.node c → Descended words rows count t p c None t
  out z h =
      record {
        found = λ d. absurd (d (sym e ∙ z));
        bad = λ _ _. (refl, refl);
        made = λ _ l. absurd (omega arith);
      }

  pub new : x ≡ 0 → entry_of words rows t p.node c < count → (s : ℕ) → s ≡ p.steps + 1 → (t' : List ℕ) → Added t p.node p.nodes c (entry_of words rows t p.node c) t'
      → Descended words rows count t p c (Some (standing p.nodes (p.nodes + 1) s)) t'
  new z h s k t' a =
      record {
        found = λ d. absurd (d (sym e ∙ z));
        bad = λ _ l. absurd (omega arith);
        made = λ _ _. (ap (λ (m : ℕ). Some (standing p.nodes (p.nodes + 1) m)) k, a);
      }
