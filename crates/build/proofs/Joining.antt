-- The words and the set words after each step of `fill`: they start with what is filled so far and go on as they did.
-- Assumes nothing.
use Prim.Native.Nat.{ℕ, ◌-◌, ◌*◌, ◌≤◌}
use mathlib.Core.Path.{◌≡◌, refl, sym, ap, ◌∙◌}
use mathlib.Core.Bool.{true, false}
use mathlib.Core.List.{List, [], ◌∷◌, ◌++◌}
use native.Mathlib.Omega.{arith}
use lib.ListN.{length, get_or, set, length-append}
use lib.Seq.{drop-cons}
use borrow.Rule.Slice.PartMut.{mid_of, put_mid, mid_len}
use Rattle.rules.specs.Memory.{over}
use Rattle.rules.proofs.Memory.{over_length, over_rest}
use Rattle.image.specs.Image.{edits_of, literals_of}
use Rattle.tables.specs.Words.{words_head, rows_of, sets_of, built_words, built_sets, words_for, sets_for, head_words, row_size, set_size, right_rows, right_sets}
use Rattle.patterns.specs.Sides.{side_table}
use Rattle.build.proofs.Whole.{rows_length, sets_length, words_are, sets_built}

-- the four words before the rows
pub head_set : (s : List ℕ) (a b c d : ℕ) → 4 ≤ length s → set (set (set (set s 0 a) 1 b) 2 c) 3 d ≡ over (a ∷ b ∷ c ∷ d ∷ []) s
head_set [] a b c d h = absurd (omega arith)
head_set (_ ∷ []) a b c d h = absurd (omega arith)
head_set (_ ∷ _ ∷ []) a b c d h = absurd (omega arith)
head_set (_ ∷ _ ∷ _ ∷ []) a b c d h = absurd (omega arith)
head_set (_ ∷ _ ∷ _ ∷ _ ∷ s) a b c d h = refl

module _ (d : List ℕ) where
  abbrev us : List ℕ
  us = rows_of (side_table d false)

  abbrev vs : List ℕ
  vs = rows_of (side_table d true)

  -- the words xs, of which the head is stored last
  module _ (xs : List ℕ) (h : words_for (literals_of d) ≤ length xs) where
    abbrev head : List ℕ
    head = get_or xs 0 0 ∷ get_or xs 1 0 ∷ get_or xs 2 0 ∷ get_or xs 3 0 ∷ []

    is₀ : xs ≡ over head xs
    is₀ =
        drop-cons xs 0 0 (omega arith)
        ∙ ap (λ (t : List ℕ). get_or xs 0 0 ∷ t)
        (drop-cons xs 1 0 (omega arith)
        ∙ ap (λ (t : List ℕ). get_or xs 1 0 ∷ t)
        (drop-cons xs 2 0 (omega arith) ∙ ap (λ (t : List ℕ). get_or xs 2 0 ∷ t) (drop-cons xs 3 0 (omega arith))))

    pub asks₁ : row_size * (side_table d false).count ≤ length (mid_of head_words (length xs - head_words) xs)
    asks₁ = omega (arith, mid_len head_words (length xs) xs (omega arith))

    module _ (z : List ℕ) (e : z ≡ over us (mid_of head_words (length xs - head_words) xs)) (l : ℕ) (el : l ≡ (side_table d false).count) where
      -- the left table is filled
      abbrev pub w₁ : List ℕ
      w₁ = put_mid head_words (length xs - head_words) xs z

      is₁ : w₁ ≡ over (head ++ us) xs
      is₁ = over_rest head xs us xs z head_words is₀ refl e

      left_length : length (head ++ us) ≡ right_rows l
      left_length = omega (arith, rows_length (side_table d false), el)

      pub length₁ : length w₁ ≡ length xs
      length₁ = ap length is₁ ∙ over_length (head ++ us) xs (omega (arith, left_length, el))

      pub asks₂ : row_size * (side_table d true).count ≤ length (mid_of (right_rows l) (length w₁ - (right_rows l)) w₁)
      asks₂ = omega (arith, el, mid_len (right_rows l) (length w₁) w₁ (omega (arith, length₁, el)), length₁)

      module _ (z' : List ℕ) (e' : z' ≡ over vs (mid_of (right_rows l) (length w₁ - (right_rows l)) w₁)) (r : ℕ) (er : r ≡ (side_table d true).count) where
        -- the right table is filled
        abbrev pub w₂ : List ℕ
        w₂ = put_mid (right_rows l) (length w₁ - (right_rows l)) w₁ z'

        is₂ : w₂ ≡ over (head ++ (us ++ vs)) xs
        is₂ = over_rest (head ++ us) xs vs w₁ z' (right_rows l) is₁ left_length e'

        pub length₂ : length w₂ ≡ length xs
        length₂ = ap length is₂ ∙ over_length (head ++ (us ++ vs)) xs (omega (arith, length-append us vs, rows_length (side_table d false), rows_length (side_table d true)))

        -- the head is stored
        pub words : (edits : ℕ) → edits ≡ edits_of d → (w₃ : List ℕ) → w₃ ≡ over (words_head edits l r) w₂ → w₃ ≡ over (built_words (edits_of d) (literals_of d)) xs
        words edits m w₃ f =
            f ∙ (ap (over (words_head edits l r)) is₂ ∙ ap (λ (w : List ℕ). over w xs) (words_are d l r el er edits m))

        pub headed-length : (edits : ℕ) (w₃ : List ℕ) → w₃ ≡ over (words_head edits l r) w₂ → length w₃ ≡ length xs
        headed-length edits w₃ f = ap length f ∙ (over_length (words_head edits l r) w₂ (omega (arith, length₂)) ∙ length₂)

  -- the set words, after the left sets s and the right sets
  module _ (xs : List ℕ) (h : sets_for (literals_of d) ≤ length xs) (s : List ℕ) (e : s ≡ over (sets_of (side_table d false)) xs) (l : ℕ) (el : l ≡ (side_table d false).count) where
    left_sets : length (sets_of (side_table d false)) ≡ right_sets l
    left_sets = sets_length (side_table d false) ∙ ap (λ (k : ℕ). set_size * k) (sym el)

    pub set-length : length s ≡ length xs
    set-length = ap length e ∙ over_length (sets_of (side_table d false)) xs (omega (arith, left_sets, el))

    pub set-asks : set_size * (side_table d true).count ≤ length (mid_of (right_sets l) (length s - right_sets l) s)
    set-asks = omega (arith, el, mid_len (right_sets l) (length s) s (omega (arith, set-length, el)), set-length)

    module _ (z : List ℕ) (f : z ≡ over (sets_of (side_table d true)) (mid_of (right_sets l) (length s - right_sets l) s)) where
      both_sets : put_mid (right_sets l) (length s - right_sets l) s z ≡ over (sets_of (side_table d false) ++ sets_of (side_table d true)) xs
      both_sets = over_rest (sets_of (side_table d false)) xs (sets_of (side_table d true)) s z (right_sets l) e left_sets f

      pub sets : put_mid (right_sets l) (length s - right_sets l) s z ≡ over (built_sets (literals_of d)) xs
      sets = both_sets ∙ ap (λ (x : List ℕ). over x xs) (sets_built d)

      pub sets-kept : length (put_mid (right_sets l) (length s - right_sets l) s z) ≡ length xs
      sets-kept =
          ap length both_sets
          ∙ over_length (sets_of (side_table d false) ++ sets_of (side_table d true)) xs
          (omega (arith, length-append (sets_of (side_table d false)) (sets_of (side_table d true)), sets_length (side_table d false), sets_length (side_table d true)))
