-- Letter classes (document 02, request 5): a symbol 40 to 5F hexadecimal stands for each of 1 to 32 letters 01 to 3E.
-- Assumes nothing.
use Rattle.std.specs.Prelude.{ℕ, suc, ◌+◌, ◌≡◌, Bool, true, false, cond, ◌&&◌, ◌||◌, List, [], ◌∷◌, eqb, leb, ltb, length}
use Rattle.rules.specs.Limits.{max_letter, first_class, class_count, max_class}
use Rattle.rules.specs.Shape.{Production}

-- the letters of each class symbol, ascending; none where the class is undefined
abbrev pub Classes : Type 0
Classes = ℕ → List ℕ

-- the empty ruleset has no class
abbrev pub no_classes : Classes
no_classes c = []

abbrev pub is_class : ℕ → Bool
is_class c = leb first_class c && ltb c (first_class + class_count)

-- no other symbol is defined
abbrev pub OnlyClasses : Classes → Type 0
OnlyClasses k = (c : ℕ) → is_class c ≡ false → k c ≡ []

-- some element passes the test
abbrev pub any {ℓ} : {A : Type ℓ} → (A → Bool) → List A → Bool
any t [] = false
any t (x ∷ l) = t x || any t l

-- y is in the list
abbrev pub is_in : ℕ → List ℕ → Bool
is_in y l = any (λ x. eqb x y) l

-- strictly ascending letters, none below b or above 3E
abbrev pub ascending : ℕ → List ℕ → Bool
ascending b [] = true
ascending b (x ∷ l) = leb b x && (leb x max_letter && ascending (suc x) l)

-- at most 32 letters 01 to 3E, strictly ascending
abbrev pub letter_set : List ℕ → Bool
letter_set l = leb (length l) max_class && ascending 1 l

-- the letters of a class: such ones, and at least one
unfoldable pub class_shape : List ℕ → Bool
class_shape l = leb 1 (length l) && letter_set l

-- the letters that a symbol of a context stands for: a letter or # for itself, a class for each of its letters
abbrev pub letters : Classes → ℕ → List ℕ
letters k c = cond (ltb c first_class) (c ∷ []) (k c)

-- a symbol stands for y
abbrev pub stands : Classes → ℕ → ℕ → Bool
stands k c y = is_in y (letters k c)

-- each class of a string of symbols is defined
abbrev pub all_defined : Classes → List ℕ → Bool
all_defined k [] = true
all_defined k (c ∷ s) = leb 1 (length (letters k c)) && all_defined k s

-- each class that a rule uses is
unfoldable pub defined : Classes → Production → Bool
defined k r = all_defined k r.left && all_defined k r.right

-- the letters of each class are strictly ascending
abbrev pub Proper : Classes → Type 0
Proper k = (c : ℕ) → ascending 1 (k c) ≡ true
