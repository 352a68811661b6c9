-- The literal rule at a place, by what the table has for it: it is literal rule j of the numbered rule at q, so that its contexts are choices of that
-- rule's, and as applied it is that rule.
-- Assumes nothing.
use Prim.Native.Nat.{ℕ, ◌+◌, ◌/◌, ◌≤◌, ◌<◌}
use mathlib.Core.Path.{◌≡◌, sym, ap, ap₂, ◌∙◌, subst}
use mathlib.Core.List.{List, ◌++◌}
use mathlib.Core.Bool.{Bool, true, cond, ◌&&◌}
use native.Mathlib.Omega.{arith}
use lib.ListN.{length, get_or, take, drop, length-drop}
use lib.Seq.{length-take-le}
use Rattle.rules.specs.Shape.{Entry}
use Rattle.classes.specs.Classes.{Classes}
use Rattle.classes.specs.Expansion.{size, literal_count, under}
use Rattle.classes.specs.Masks.{masks_size, classes_in}
use Rattle.classes.specs.Ordinal.{choice_at, literal_at, Origin, origin}
use Rattle.classes.proofs.Counts.{product_pos}
use Rattle.classes.proofs.Ordinal.{choice_long}
use Rattle.image.specs.Image.{valid, count_of, total_of, class_start, masks_in, classes_of, entry_at, origins_of}
use Rattle.image.proofs.Tests.{valid_long}
use Rattle.image.specs.Literals.{LiteralAt}
use Rattle.image.proofs.Literals.{literal_is}
use Rattle.fitting.specs.Fitting.{Str, starts, ends, fits}
use Rattle.fitting.specs.Reading.{apply}
use Rattle.literals.specs.Matching.{rule_with, end_of}
use Rattle.literals.specs.Places.{literal_entry}

module _ (d : List ℕ) (ok : valid d ≡ true) (p : ℕ) (h : p < total_of d) where
  -- where the literal rule comes from
  abbrev from : Origin
  from = get_or (origins_of d) p (origin 0 0)

  literal : LiteralAt d p from
  literal = literal_is d ok p h

  -- q and j are what the table has for it
  module _ (q : ℕ) (eq : q ≡ from.place) where
    pub owner_inside : q < count_of d
    owner_inside = omega (arith, literal.inside)

    -- as applied it is its numbered rule
    pub literal_applied : (n : ℕ) → apply n (literal_entry d p) ≡ apply n (entry_at d q)
    literal_applied n = ap (apply n) literal.literal ∙ ap (λ (x : ℕ). apply n (entry_at d x)) (sym eq)

    some : 1 ≤ literal_count (classes_of d) (entry_at d q).rule
    some = subst (λ (x : ℕ). 1 ≤ literal_count (classes_of d) (entry_at d x).rule) (sym eq) (let b = literal.below in omega arith)

    sides : (1 ≤ size (classes_of d) (entry_at d q).rule.left) × (1 ≤ size (classes_of d) (entry_at d q).rule.right)
    sides = product_pos (size (classes_of d) (entry_at d q).rule.left) (size (classes_of d) (entry_at d q).rule.right) some

    module _ (j : ℕ) (ej : j ≡ from.ordinal) where
      is : literal_entry d p ≡ under (entry_at d q).number (literal_at (classes_of d) (entry_at d q).rule j)
      is = literal.literal ∙ ap₂ (λ (x y : ℕ). under (entry_at d x).number (literal_at (classes_of d) (entry_at d x).rule y)) (sym eq) (sym ej)

      -- its fields are as long as those of its numbered rule
      pub left-long : length (literal_entry d p).rule.left ≡ length (entry_at d q).rule.left
      left-long = ap (λ (x : Entry). length x.rule.left) is ∙ choice_long (classes_of d) (entry_at d q).rule.left (j / size (classes_of d) (entry_at d q).rule.right) sides.0

      pub target-long : length (literal_entry d p).rule.target ≡ length (entry_at d q).rule.target
      target-long = ap (λ (x : Entry). length x.rule.target) is

      pub right-long : length (literal_entry d p).rule.right ≡ length (entry_at d q).rule.right
      right-long = ap (λ (x : Entry). length x.rule.right) is ∙ choice_long (classes_of d) (entry_at d q).rule.right j sides.1

      -- m holds the classes, and l, t and r are the fields of the numbered rule
      module _ (m : List ℕ) (em : m ≡ masks_in d) where
        pub masks-room : masks_size ≤ length m
        masks-room = omega (arith, ap length em, length-take-le masks_size (drop class_start d) (omega (arith, length-drop class_start d, valid_long d ok)))

        classes_are : classes_in m ≡ classes_of d
        unfolding classes_of
        classes_are = ap classes_in em

        module _ (l t r : Str) (el : l ≡ (entry_at d q).rule.left) (et : t ≡ (entry_at d q).rule.target) (er : r ≡ (entry_at d q).rule.right) where
          pub left-some : 1 ≤ size (classes_in m) l
          left-some = subst (λ (x : ℕ). 1 ≤ x) (sym (ap₂ size classes_are el)) sides.0

          pub right-some : 1 ≤ size (classes_in m) r
          right-some = subst (λ (x : ℕ). 1 ≤ x) (sym (ap₂ size classes_are er)) sides.1

          pub literal-left : choice_at (classes_in m) l (j / size (classes_in m) r) ≡ (literal_entry d p).rule.left
          literal-left =
              ap₂ (λ (x : Str) (n : ℕ). choice_at (classes_in m) x (j / n)) el (ap₂ size classes_are er)
              ∙ (ap (λ (k : Classes). choice_at k (entry_at d q).rule.left (j / size (classes_of d) (entry_at d q).rule.right)) classes_are
              ∙ sym (ap (λ (x : Entry). x.rule.left) is))

          pub literal-target : t ≡ (literal_entry d p).rule.target
          literal-target = et ∙ sym (ap (λ (x : Entry). x.rule.target) is)

          pub literal-right : choice_at (classes_in m) r j ≡ (literal_entry d p).rule.right
          literal-right = ap₂ (λ (k : Classes) (x : Str). choice_at k x j) classes_are er ∙ sym (ap (λ (x : Entry). x.rule.right) is)

          -- so it fits where they do
          pub literal_fits : (f : Str) (i : ℕ) → fits (literal_at (classes_in m) (rule_with l t r) j) f i ≡ fits (literal_entry d p).rule f i
          literal_fits f i =
              ap₂ ◌&&◌ (ap (λ (x : Str). ends x (take i f)) literal-left) (ap₂ (λ (x y : Str). starts (x ++ y) (drop i f)) literal-target literal-right)

          pub literal-end : (f : Str) (i : ℕ) → end_of (literal_at (classes_in m) (rule_with l t r) j) f i ≡ end_of (literal_entry d p).rule f i
          literal-end f i = ap₂ (λ (b : Bool) (n : ℕ). cond b (i + n) 0) (literal_fits f i) (ap length literal-target)
