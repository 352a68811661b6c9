-- Where a rule fits, part by part: its target, then its right context, then its left context.
-- Assumes nothing.
use Prim.Native.Nat.{ℕ, ◌+◌, ◌≤◌}
use mathlib.Core.Path.{◌≡◌, sym, ap, ap₂, ◌∙◌}
use mathlib.Core.Bool.{Bool, true, false, ◌&&◌}
use native.Mathlib.Omega.{arith}
use lib.ListN.{length, take, drop, length-drop}
use Rattle.rules.specs.Shape.{Production}
use Rattle.classes.specs.Classes.{Classes}
use Rattle.fitting.specs.Fitting.{Str, starts, starts_by, ends_by, fits_by}
use Rattle.fitting.proofs.Strings.{and_turn, starts_most}

-- the parts are tested with the classes q, which are those of k
module _ (k q : Classes) (c : q ≡ k) (r : Production) (f : Str) (i : ℕ) (target right left : Str) (t : target ≡ r.target) (g : right ≡ r.right) (l : left ≡ r.left) where
  fits_parts : fits_by k r f i ≡ (starts target (drop i f) && (starts_by q right (drop (i + length target) f) && ends_by q left (take i f)))
  fits_parts =
      ap (λ (x : Classes). fits_by x r f i) (sym c)
      ∙ (ap₂ (λ (a b : Str). ends_by q r.left (take i f) && (starts a (drop i f) && starts_by q b (drop (i + length a) f))) (sym t) (sym g)
      ∙ (ap (λ (a : Str). ends_by q a (take i f) && (starts target (drop i f) && starts_by q right (drop (i + length target) f))) (sym l)
      ∙ and_turn (ends_by q left (take i f)) (starts target (drop i f)) (starts_by q right (drop (i + length target) f))))

  pub no_target : starts target (drop i f) ≡ false → false ≡ fits_by k r f i
  no_target e = sym (fits_parts ∙ ap (λ (b : Bool). b && (starts_by q right (drop (i + length target) f) && ends_by q left (take i f))) e)

  module _ (yes : starts target (drop i f) ≡ true) where
    pub no_right : starts_by q right (drop (i + length target) f) ≡ false → false ≡ fits_by k r f i
    no_right e = sym (fits_parts ∙ ap₂ (λ (a b : Bool). a && (b && ends_by q left (take i f))) yes e)

    pub by_left : starts_by q right (drop (i + length target) f) ≡ true → (b : Bool) → b ≡ ends_by q left (take i f) → b ≡ fits_by k r f i
    by_left e b x = x ∙ sym (fits_parts ∙ ap₂ (λ (u v : Bool). u && (v && ends_by q left (take i f))) yes e)

-- a target that starts at i ends inside the frame
pub past_target : (s f : Str) (i : ℕ) → starts s (drop i f) ≡ true → i ≤ length f → i + length s ≤ length f
past_target s f i e h = omega (arith, starts_most s (drop i f) e, length-drop i f)
