-- Where literal rule j of a rule fits, part by part: its target, then its right context, then its left context with what is left of j.
-- Assumes nothing.
use Prim.Native.Nat.{ℕ, ◌+◌, ◌-◌, ◌/◌, ◌≤◌}
use mathlib.Core.Path.{◌≡◌, sym, ap, ap₂, ◌∙◌}
use mathlib.Core.List.{[], ◌∷◌}
use mathlib.Core.Bool.{Bool, true, false, ◌&&◌}
use native.Mathlib.Omega.{arith}
use lib.ListN.{length, take, drop, length-drop, drop_of_length-le}
use lib.Seq.{drop-drop}
use Rattle.std.specs.Prelude.{Some, None}
use Rattle.rules.specs.Shape.{Production}
use Rattle.classes.specs.Classes.{Classes}
use Rattle.classes.specs.Expansion.{size}
use Rattle.classes.specs.Ordinal.{choice_at, literal_at}
use Rattle.classes.proofs.Ordinal.{choice_none}
use Rattle.fitting.specs.Fitting.{Str, same, starts, ends, fits}
use Rattle.fitting.proofs.Strings.{and_turn, starts_append, starts_most, ends_same}
use Rattle.literals.specs.Matching.{started, rule_with}
use Rattle.literals.proofs.Matching.{started_no, started_yes, started_rest}

-- a context without symbols is met everywhere
module _ (k : Classes) (j : ℕ) (w : Str) where
  starts_without : (s : Str) → length s ≡ 0 → starts (choice_at k s j) w ≡ true
  starts_without [] e = ap (λ (x : Str). starts x w) (choice_none k j)
  starts_without (x ∷ s) e = absurd (omega arith)

  ends_without : (s : Str) → length s ≡ 0 → ends (choice_at k s j) w ≡ true
  ends_without [] e = ap (λ (x : Str). ends x w) (choice_none k j) ∙ (ends_same [] w (omega arith) ∙ ap (same []) (drop_of_length-le w {i = length w - 0} (omega arith)))
  ends_without (x ∷ s) e = absurd (omega arith)

module _ (k : Classes) (left target right : Str) (j : ℕ) (f : Str) (i : ℕ) where
  abbrev rule : Production
  rule = literal_at k (rule_with left target right) j

  -- the frame after the target
  abbrev rest : Str
  rest = drop (i + length target) f

  parts : fits rule f i ≡ (starts target (drop i f) && (starts (choice_at k right j) rest && ends (choice_at k left (j / size k right)) (take i f)))
  parts =
      ap (λ (b : Bool). ends rule.left (take i f) && b)
      (starts_append target rule.right (drop i f) ∙ ap (λ (w : Str). starts target (drop i f) && starts rule.right w) (drop-drop (length target) i f))
      ∙ and_turn (ends rule.left (take i f)) (starts target (drop i f)) (starts rule.right rest)

  pub no_target : starts target (drop i f) ≡ false → false ≡ fits rule f i
  no_target e = sym (parts ∙ ap (λ (b : Bool). b && (starts rule.right rest && ends rule.left (take i f))) e)

  module _ (yes : starts target (drop i f) ≡ true) where
    -- a target that starts at i ends inside the frame
    pub past_target : i ≤ length f → i + length target ≤ length f
    past_target h = omega (arith, starts_most target (drop i f) yes, length-drop i f)

    pub no_right : started k right rest j ≡ None → false ≡ fits rule f i
    no_right e = sym (parts ∙ ap₂ (λ (a b : Bool). a && (b && ends rule.left (take i f))) yes (started_no k right rest j e))

    pub by_left : (q : ℕ) → started k right rest j ≡ Some q → (b : Bool) → b ≡ ends (choice_at k left q) (take i f) → b ≡ fits rule f i
    by_left q e b g =
        g ∙ (ap (λ (n : ℕ). ends (choice_at k left n) (take i f)) (sym (started_rest k right rest j q e))
        ∙ sym (parts ∙ ap₂ (λ (x y : Bool). x && (y && ends rule.left (take i f))) yes (started_yes k right rest j q e)))

    -- a rule without contexts fits where its target does
    pub no_contexts : length left + length right ≡ 0 → true ≡ fits rule f i
    no_contexts e =
        let l : length left ≡ 0 = omega arith in
        let r : length right ≡ 0 = omega arith in
        sym (parts ∙ (ap (λ (b : Bool). b && (starts rule.right rest && ends rule.left (take i f))) yes
        ∙ ap₂ ◌&&◌ (starts_without k j rest right r) (ends_without k (j / size k right) (take i f) left l)))
