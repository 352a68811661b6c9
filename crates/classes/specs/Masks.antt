-- The classes of a ruleset as bytes: for each of the symbols 40 to 5F eight, high byte first, whose binary digit c is set where letter c is in
-- the class; 0 is an undefined class.
-- Assumes nothing.
use Rattle.std.specs.Prelude.{ℕ, zero, suc, ◌+◌, ◌-◌, ◌*◌, ◌/◌, ◌%◌, ◌^◌, List, [], ◌∷◌, ◌++◌, Bool, true, cond, ◌&&◌, take, drop, Option, Some, None}
use Rattle.std.specs.Int.Bits.{bit_or}
use Rattle.numbers.specs.Numbers.{eight, bytes8}
use Rattle.numbers.specs.Bits.{pos}
use Rattle.rules.specs.Limits.{first_class, class_count}
use Rattle.classes.specs.Classes.{Classes, is_class, letter_set, class_shape}

-- bytes of a class, and of all
abbrev pub mask_size : ℕ
mask_size = 8

abbrev pub masks_size : ℕ
masks_size = mask_size * class_count

-- where the bytes of a class start
abbrev pub mask_start : ℕ → ℕ
mask_start c = mask_size * (c - first_class)

-- the set digits among the first n of x, where the lowest counts as b: ascending
unfoldable pub digits_from : ℕ → ℕ → ℕ → List ℕ
digits_from zero b x = []
digits_from (suc n) b x = cond (pos (x % 2)) (b ∷ digits_from n (suc b) (x / 2)) (digits_from n (suc b) (x / 2))

-- the letters of a mask
unfoldable pub letters_in : ℕ → List ℕ
letters_in x = digits_from 64 0 x

-- the mask m with the digits of letters set
unfoldable pub mask_with : ℕ → List ℕ → ℕ
mask_with m [] = m
mask_with m (c ∷ l) = mask_with (bit_or m (2 ^ c)) l

-- the mask of letters
abbrev pub mask_of : List ℕ → ℕ
mask_of l = mask_with 0 l

-- the mask of letters that are those of a class
abbrev pub class_mask : List ℕ → Option ℕ
class_mask l = cond (class_shape l) (Some (mask_of l)) None

-- the classes that such bytes hold
unfoldable pub classes_in : List ℕ → Classes
classes_in masks c = cond (is_class c) (letters_in (eight (mask_start c) masks)) []

-- n classes from symbol c on are letters of a class, or none
abbrev pub classes_shaped_from : Classes → ℕ → ℕ → Bool
classes_shaped_from k c zero = true
classes_shaped_from k c (suc n) = letter_set (k c) && classes_shaped_from k (suc c) n

-- each class is defined by letters of a class, or undefined
unfoldable pub classes_shaped : Classes → Bool
classes_shaped k = classes_shaped_from k first_class class_count

-- the bytes of n classes from symbol c on
abbrev pub masks_from : Classes → ℕ → ℕ → List ℕ
masks_from k c zero = []
masks_from k c (suc n) = bytes8 (mask_of (k c)) ++ masks_from k (suc c) n

-- the bytes of all classes
unfoldable pub masks_of : Classes → List ℕ
masks_of k = masks_from k first_class class_count

-- the bytes with one class set
unfoldable pub with_mask : ℕ → List ℕ → List ℕ → List ℕ
with_mask c l masks = take (mask_start c) masks ++ (bytes8 (mask_of l) ++ drop (mask_start c + mask_size) masks)
