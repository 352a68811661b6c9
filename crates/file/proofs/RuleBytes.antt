-- The frame and the line of the rule at a place of an image, as the writer sends its parts.
-- Assumes nothing.
use Prim.Native.Nat.{ℕ, ◌+◌, ◌*◌, ◌%◌, ◌≤◌, ◌<◌}
use mathlib.Core.Path.{◌≡◌, sym, ap, ◌∙◌}
use mathlib.Core.List.{List, [], ◌∷◌, ◌++◌, append_assoc}
use mathlib.Core.Bool.{true}
use native.Mathlib.Omega.{arith}
use lib.ListN.{length, length-append}
use Rattle.rules.specs.Limits.{max_context, max_target, max_phones}
use Rattle.rules.specs.Shape.{Entry}
use Rattle.image.specs.Image.{valid, count_of, entry_at, numbered_at}
use Rattle.image.proofs.Entries.{entry_shaped, number_is_at}
use Rattle.frames.specs.Lines.{framed, sum_byte}
use Rattle.frames.proofs.Lines.{length_line}
use Rattle.file_format.specs.Layout.{line_size, front_size, longest_frame}
use Rattle.file_format.specs.File.{rule_body, rule_line}
use Rattle.file.specs.Loading.{field_bytes, body_bytes}
use Rattle.file_format.proofs.Lengths.{length_rule}

-- four fields sent one after the other
pub fields_are : (l t r p : List ℕ) → ((l ++ t) ++ r) ++ p ≡ field_bytes l t r p
fields_are l t r p = append_assoc (l ++ t) r p ∙ append_assoc l t (r ++ p)

pub fields_length : (l t r p : List ℕ) → length (field_bytes l t r p) ≡ length l + length t + length r + length p
fields_length l t r p = omega (arith, length-append l (t ++ (r ++ p)), length-append t (r ++ p), length-append r p)

-- the fields of a rule
pub record Fields (e : Entry) (l t r p : List ℕ) : Type 0 where
  pub left : l ≡ e.rule.left
  pub target : t ≡ e.rule.target
  pub right : r ≡ e.rule.right
  pub phones : p ≡ e.rule.phones

pub line_length : (e : Entry) → length (rule_line e) ≡ 2 * length (rule_body e) + 3
line_length e = omega (arith, length_line (framed (rule_body e)), length-append (rule_body e) (sum_byte (rule_body e) ∷ []))

module _ (image : List ℕ) (ok : valid image ≡ true) (place : ℕ) (h : place < count_of image) (l t r p : List ℕ) (f : Fields (entry_at image place) l t r p) where
  abbrev e : Entry
  e = entry_at image place

  -- no field has more bytes than its limit
  short : (length l ≤ max_context) × ((length t ≤ max_target) × ((length r ≤ max_context) × (length p ≤ max_phones)))
  short =
      let s = entry_shaped image ok place h in
      (rw f.left s.left-most, (rw f.target s.target-most, (rw f.right s.right-most, rw f.phones s.phones-most)))

  pub all_short : length l + length t + length r + length p + front_size + 1 ≤ longest_frame
  all_short = omega (arith, short.0, short.1.0, short.1.1.0, short.1.1.1)

  pub body_is : (n : ℕ) → n ≡ (numbered_at image place).number → body_bytes n l t r p ≡ rule_body e
  body_is n q =
      let a : length l % 256 ≡ length l = omega (arith, all_short) in
      let b : length t % 256 ≡ length t = omega (arith, all_short) in
      let c : length r % 256 ≡ length r = omega (arith, all_short) in
      let d : length p % 256 ≡ length p = omega (arith, all_short) in
      rw (q ∙ sym (number_is_at image ok place h), a, b, c, d, f.left, f.target, f.right, f.phones)

  -- the bytes of its line, by its lengths
  pub size_is : (m : ℕ) → m ≡ line_size (front_size + (length l + (length t + (length r + length p))) + 1) → (m ≡ length (rule_line e)) × (m ≤ line_size longest_frame)
  size_is m q =
      (omega (arith, length_rule e, ap length f.left, ap length f.target, ap length f.right, ap length f.phones), omega (arith, all_short))
