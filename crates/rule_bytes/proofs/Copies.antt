-- Bytes that were stored in lent memory from a place on: all of it, as much of it as there was room for, or one field of a rule after the other.
-- Assumes nothing.
use Prim.Native.Nat.{ℕ, zero, suc, ◌+◌, ◌-◌, ◌≤◌, ◌<◌}
use mathlib.Core.Path.{◌≡◌, refl, sym, ap, ◌∙◌}
use mathlib.Core.List.{List, [], ◌∷◌, ◌++◌, append_assoc}
use native.Mathlib.Omega.{arith}
use native.Mathlib.Numerals.{add-one}
use lib.ListN.{length, get_or, take, drop, set, replicate, length-append}
use lib.Seq.{paste, paste-suc, length_paste_head, get_or-drop, get_or-append-add}
use Rattle.rules.specs.Memory.{over, over_at}
use Rattle.rules.specs.Shape.{first}
use Rattle.rules.specs.declared.Rule.{Rule}
use Rattle.rules.proofs.Memory.{over_pasted, over_both}
use Rattle.rule_bytes.specs.RuleBytes.{left_start, length_bytes, ruleBytes}

-- past what is copied the list is as it was
pub paste_past : (d : List ℕ) (at : ℕ) (t : List ℕ) (n k : ℕ) → at ≤ length d → n ≤ length t → at + n ≤ k → get_or (paste d at t n) k 0 ≡ get_or d k 0
paste_past d at t n k hd ht h =
    let l : length (take at d ++ take n t) ≡ at + n = length_paste_head d at t n hd ht in
    let e : length (take at d ++ take n t) + (k - (at + n)) ≡ k = omega arith in
    let f : at + n + (k - (at + n)) ≡ k = omega arith in
    ap (λ (i : ℕ). get_or (paste d at t n) i 0) (sym e)
    ∙ (get_or-append-add (take at d ++ take n t) (drop (at + n) d) (k - (at + n)) 0
    ∙ (get_or-drop (at + n) d (k - (at + n)) 0 ∙ ap (λ (i : ℕ). get_or d i 0) f))

-- a byte more of t is stored
pub put_step : (d s : List ℕ) (at : ℕ) (t : List ℕ) (i : ℕ) → at + i < length d → i < length t → s ≡ paste d at t i
    → set s (at + i) (get_or t i 0) ≡ paste d at t (i + 1)
put_step d s at t i h u e =
    ap (λ (q : List ℕ). set q (at + i) (get_or t i 0)) e ∙ (paste-suc d at t i 0 h u ∙ ap (paste d at t) (sym (add-one i)))

zeros : (m : ℕ) → replicate {A = ℕ} m 0 ≡ first m [] 0
zeros zero = refl
zeros (suc m) = ap (λ (l : List ℕ). 0 ∷ l) (zeros m)

-- as many bytes of w as there is room for, in m places that held zeros
pub first_over : (m : ℕ) (w : List ℕ) → over (take m w) (replicate m 0) ≡ first m w 0
first_over zero w = refl
first_over (suc m) [] = zeros (suc m)
first_over (suc m) (x ∷ w) = ap (λ (l : List ℕ). x ∷ l) (first_over m w)

module _ (s : List ℕ) (at : ℕ) (h : at ≤ length s) where
  -- two runs, the second stored where the first ends
  stored_after : (a b e f : List ℕ) (k : ℕ) → k ≡ at + length a → e ≡ over_at at a s → f ≡ over_at k b e → f ≡ over_at at (a ++ b) s
  stored_after a b e f k n u v = v ∙ (ap (over_at k b) u ∙ over_both at k a b s n h)

  -- four runs
  pub four_stored : (a b c d e₁ e₂ e₃ e₄ : List ℕ)
      → e₁ ≡ paste s at a (length a)
      → e₂ ≡ paste e₁ (at + length a) b (length b)
      → e₃ ≡ paste e₂ (at + length a + length b) c (length c)
      → e₄ ≡ paste e₃ (at + length a + length b + length c) d (length d)
      → e₄ ≡ over_at at (a ++ (b ++ (c ++ d))) s
  four_stored a b c d e₁ e₂ e₃ e₄ h₁ h₂ h₃ h₄ =
      let u₁ : e₁ ≡ over_at at a s = h₁ ∙ over_pasted at a s in
      let u₂ : e₂ ≡ over_at at (a ++ b) s = stored_after a b e₁ e₂ (at + length a) refl u₁ (h₂ ∙ over_pasted (at + length a) b e₁) in
      let k₂ : at + length a + length b ≡ at + length (a ++ b) = omega (arith, length-append a b) in
      let u₃ : e₃ ≡ over_at at ((a ++ b) ++ c) s =
      stored_after (a ++ b) c e₂ e₃ (at + length a + length b) k₂ u₂ (h₃ ∙ over_pasted (at + length a + length b) c e₂) in
      let k₃ : at + length a + length b + length c ≡ at + length ((a ++ b) ++ c) = omega (arith, length-append (a ++ b) c) in
      let u₄ : e₄ ≡ over_at at (((a ++ b) ++ c) ++ d) s =
      stored_after ((a ++ b) ++ c) d e₃ e₄ (at + length a + length b + length c) k₃ u₃ (h₄ ∙ over_pasted (at + length a + length b + length c) d e₃) in
      let q : ((a ++ b) ++ c) ++ d ≡ a ++ (b ++ (c ++ d)) = simp append_assoc in
      u₄ ∙ ap (λ (w : List ℕ). over_at at w s) q

  -- the lengths of a rule, and then its fields
  pub rule_stored : (r : Rule) (e f : List ℕ)
      → e ≡ paste s at (length_bytes r) (length (length_bytes r))
      → f ≡ over_at (at + left_start) (r.left ++ (r.target ++ (r.right ++ r.phones))) e
      → f ≡ over_at at (ruleBytes r) s
  unfolding ruleBytes
  rule_stored r e f u v =
      stored_after (length_bytes r) (r.left ++ (r.target ++ (r.right ++ r.phones))) e f (at + left_start) refl (u ∙ over_pasted at (length_bytes r) s) v
