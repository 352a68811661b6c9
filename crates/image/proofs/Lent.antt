-- The bytes of the classes as part of an image: lent to a function, and come back.
-- Assumes nothing.
use Prim.Native.Nat.{ℕ, ◌+◌, ◌*◌, ◌≤◌}
use mathlib.Core.Path.{◌≡◌, refl, sym, ap, ap₂, ◌∙◌}
use mathlib.Core.List.{List, ◌++◌}
use native.Mathlib.Omega.{arith}
use lib.ListN.{length, take, drop, length-append, length-drop}
use lib.Seq.{length-take-le}
use borrow.Rule.Slice.PartMut.{put_mid}
use Rattle.numbers.specs.Numbers.{bytes8}
use Rattle.rules.specs.Limits.{first_class, max_symbol}
use Rattle.rules.specs.Memory.{over_at}
use Rattle.classes.specs.Counting.{capped}
use Rattle.classes.specs.Expansion.{size, literal_count}
use Rattle.classes.specs.Masks.{masks_size, mask_size, mask_start, classes_in}
use Rattle.image.specs.Image.{image_size, class_start, masks_in, classes_of, entry_at}

-- the classes of an image are those that its masks hold
pub classes_lent : (d m : List ℕ) → m ≡ masks_in d → classes_in m ≡ classes_of d
unfolding classes_of
classes_lent d m e = ap classes_in e

pub masks-size : (d : List ℕ) → image_size ≤ length d → (m : List ℕ) → m ≡ masks_in d → length m ≡ masks_size
masks-size d h m e = ap length e ∙ length-take-le masks_size (drop class_start d) (simp length-drop (omega arith))

pub masks_long : (d : List ℕ) → image_size ≤ length d → (m : List ℕ) → m ≡ masks_in d → masks_size ≤ length m
masks_long d h m e = omega (arith, masks-size d h m e)

-- how many literal rules a rule has, from its runs
pub count_by : (d : List ℕ) (p r : ℕ) (m left right : List ℕ) → m ≡ masks_in d → left ≡ (entry_at d p).rule.left → right ≡ (entry_at d p).rule.right
    → (r ≡ capped (size (classes_in m) left * size (classes_in m) right)) × (r ≤ 513)
    → (r ≡ capped (literal_count (classes_of d) (entry_at d p).rule)) × (r ≤ 513)
unfolding classes_of
count_by d p r m left right e f g h = (
  h.0 ∙ ap capped
      (ap (λ (x : List ℕ). size (classes_in x) left * size (classes_in x) right) e ∙ ap₂ (λ (x y : List ℕ). size (classes_in (masks_in d)) x * size (classes_in (masks_in d)) y) f g),
  h.1,
)

module _ (d : List ℕ) (h : image_size ≤ length d) where
  pub part_long : length (masks_in d) ≡ masks_size
  part_long = masks-size d h (masks_in d) refl

  -- one class stored among them
  pub part_back : (c : ℕ) → first_class ≤ c → c ≤ max_symbol → (m : ℕ) (z : List ℕ) → z ≡ take (mask_start c) (masks_in d) ++ (bytes8 m ++ drop (mask_start c + mask_size) (masks_in d))
      → put_mid class_start masks_size d z ≡ over_at class_start (take (mask_start c) (masks_in d) ++ (bytes8 m ++ drop (mask_start c + mask_size) (masks_in d))) d
  part_back c lo hi m z e =
      let l : length z ≡ masks_size =
      ap length e
      ∙ omega (
        arith,
        part_long,
        length-append (take (mask_start c) (masks_in d)) (bytes8 m ++ drop (mask_start c + mask_size) (masks_in d)),
        length-take-le (mask_start c) (masks_in d) (omega (arith, part_long)),
        length-drop (mask_start c + mask_size) (masks_in d),
      ) in
      ap (λ (n : ℕ). take class_start d ++ (z ++ drop n (drop class_start d))) (sym l) ∙ ap (λ (y : List ℕ). over_at class_start y d) e
