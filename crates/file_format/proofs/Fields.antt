-- The rule of a frame, whose fields lie one after the other.
-- Assumes nothing.
use Prim.Native.Nat.{ℕ, ◌+◌, ◌-◌, ◌≤◌}
use mathlib.Core.Path.{◌≡◌, sym, ap, ◌∙◌}
use mathlib.Core.List.{List}
use native.Mathlib.Omega.{arith}
use lib.ListN.{length, take, drop, length-drop}
use lib.Seq.{length-take-le, drop-drop}
use Rattle.rule_bytes.specs.RuleBytes.{rule_from, rule_struct}
use Rattle.file_format.specs.Layout.{front_size, left_length, target_length, right_length, phones_length, body_size, rule_in}

module _ (w : List ℕ) (room : body_size w ≤ length w) where
  pub rule_held : (t r p e : ℕ) → t ≡ front_size + left_length w → r ≡ t + target_length w → p ≡ r + right_length w → e ≡ p + phones_length w
      → rule_from w 3 front_size t r p e ≡ rule_struct (rule_in w)
  rule_held t r p e et er ep ee =
      let d₁ : drop (left_length w) (drop front_size w) ≡ drop t w = drop-drop (left_length w) front_size w ∙ ap (λ (k : ℕ). drop k w) (sym et) in
      let d₂ : drop (target_length w) (drop t w) ≡ drop r w = drop-drop (target_length w) t w ∙ ap (λ (k : ℕ). drop k w) (sym er) in
      let d₃ : drop (right_length w) (drop r w) ≡ drop p w = drop-drop (right_length w) r w ∙ ap (λ (k : ℕ). drop k w) (sym ep) in
      let k₁ : t - front_size ≡ left_length w = omega arith in
      let k₂ : r - t ≡ target_length w = omega arith in
      let k₃ : p - r ≡ right_length w = omega arith in
      let k₄ : e - p ≡ phones_length w = omega arith in
      let n₁ : length (take (left_length w) (drop front_size w)) ≡ left_length w = length-take-le _ _ (omega (arith, length-drop front_size w)) in
      let n₂ : length (take (target_length w) (drop t w)) ≡ target_length w = length-take-le _ _ (omega (arith, length-drop t w)) in
      let n₃ : length (take (right_length w) (drop r w)) ≡ right_length w = length-take-le _ _ (omega (arith, length-drop r w)) in
      let n₄ : length (take (phones_length w) (drop p w)) ≡ phones_length w = length-take-le _ _ (omega (arith, length-drop p w)) in
      rw (k₁, k₂, k₃, k₄, d₁, d₂, d₃, n₁, n₂, n₃, n₄)
