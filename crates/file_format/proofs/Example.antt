-- Document 01's six rules and their file; a file with a letter class, and what its faults are.
-- Assumes nothing.
use Prim.Native.Nat.{ℕ}
use mathlib.Core.Path.{◌≡◌, refl, ap, ◌∙◌, sym}
use mathlib.Core.List.{List, [], ◌∷◌, ◌++◌}
use mathlib.Core.Bool.{true}
use Rattle.rules.specs.Shape.{Entry, shape}
use Rattle.frames.specs.Lines.{digit, value, sum_byte, sound_line}
use Rattle.classes.specs.Classes.{no_classes, class_shape, defined, OnlyClasses}
use Rattle.classes.specs.Masks.{classes_shaped}
use Rattle.classes.specs.Setting.{with_class}
use Rattle.image.specs.State.{Ruleset, expandable, is_ruleset}
use Rattle.file_format.specs.File.{well_formed, class_lines, encode, read_classes, readFile}
use Rattle.file_format.specs.File.Read.{Accepted, Malformed, Broken}
use Rattle.file_format.proofs.Accepts.{accepts}

abbrev rule : ℕ → List ℕ → List ℕ → List ℕ → List ℕ → Entry
rule n l t r p = record { number = n; rule = record { left = l; target = t; right = r; phones = p } }

pub six : Ruleset
six = record {
  rules =
      rule 1 (0 ∷ []) (11 ∷ []) (14 ∷ []) ([])
      ∷ rule 2 ([]) (11 ∷ []) ([]) (107 ∷ [])
      ∷ rule 3 ([]) (5 ∷ []) (0 ∷ []) ([])
      ∷ rule 4 ([]) (5 ∷ 5 ∷ []) ([]) (105 ∷ [])
      ∷ rule 5 ([]) (5 ∷ []) ([]) (101 ∷ [])
      ∷ rule 6 ([]) (14 ∷ []) ([]) (110 ∷ [])
      ∷ [];
  last = 6;
  classes = no_classes;
}

pub six_file : List ℕ
six_file =
    48 ∷ 49 ∷ 48 ∷ 49 ∷ 48 ∷ 48 ∷ 48 ∷ 54 ∷ 48 ∷ 48 ∷ 48 ∷ 54 ∷ 70 ∷ 50 ∷ 10 ∷
    48 ∷ 50 ∷ 48 ∷ 48 ∷ 48 ∷ 49 ∷ 48 ∷ 49 ∷ 48 ∷ 49 ∷ 48 ∷ 49 ∷ 48 ∷ 48 ∷ 48 ∷ 48 ∷ 48 ∷ 66 ∷ 48 ∷ 69 ∷ 69 ∷ 49 ∷ 10 ∷
    48 ∷ 50 ∷ 48 ∷ 48 ∷ 48 ∷ 50 ∷ 48 ∷ 48 ∷ 48 ∷ 49 ∷ 48 ∷ 48 ∷ 48 ∷ 49 ∷ 48 ∷ 66 ∷ 54 ∷ 66 ∷ 56 ∷ 52 ∷ 10 ∷
    48 ∷ 50 ∷ 48 ∷ 48 ∷ 48 ∷ 51 ∷ 48 ∷ 48 ∷ 48 ∷ 49 ∷ 48 ∷ 49 ∷ 48 ∷ 48 ∷ 48 ∷ 53 ∷ 48 ∷ 48 ∷ 70 ∷ 52 ∷ 10 ∷
    48 ∷ 50 ∷ 48 ∷ 48 ∷ 48 ∷ 52 ∷ 48 ∷ 48 ∷ 48 ∷ 50 ∷ 48 ∷ 48 ∷ 48 ∷ 49 ∷ 48 ∷ 53 ∷ 48 ∷ 53 ∷ 54 ∷ 57 ∷ 56 ∷ 52 ∷ 10 ∷
    48 ∷ 50 ∷ 48 ∷ 48 ∷ 48 ∷ 53 ∷ 48 ∷ 48 ∷ 48 ∷ 49 ∷ 48 ∷ 48 ∷ 48 ∷ 49 ∷ 48 ∷ 53 ∷ 54 ∷ 53 ∷ 56 ∷ 68 ∷ 10 ∷
    48 ∷ 50 ∷ 48 ∷ 48 ∷ 48 ∷ 54 ∷ 48 ∷ 48 ∷ 48 ∷ 49 ∷ 48 ∷ 48 ∷ 48 ∷ 49 ∷ 48 ∷ 69 ∷ 54 ∷ 69 ∷ 55 ∷ 65 ∷ 10 ∷ []

pub six-file : encode six ≡ six_file
unfolding six six_file encode class_lines digit sum_byte
six-file = refl

six_formed : well_formed six ≡ true
unfolding six well_formed is_ruleset shape classes_shaped expandable defined
six_formed = refl

six_only : OnlyClasses six.classes
unfolding six
six_only c h = refl

pub six_read : readFile six_file ≡ Accepted six
six_read = ap readFile (sym six-file) ∙ accepts six six_formed six_only

-- ---- a letter class: 40 stands for 01 and 05, and a rule has it as its right context

pub with_vowels : Ruleset
with_vowels = record { rules = rule 1 ([]) (11 ∷ []) (64 ∷ []) (107 ∷ []) ∷ []; last = 1; classes = with_class no_classes 64 (1 ∷ 5 ∷ []) }

abbrev head : List ℕ
head = 48 ∷ 49 ∷ 48 ∷ 49 ∷ 48 ∷ 48 ∷ 48 ∷ 49 ∷ 48 ∷ 48 ∷ 48 ∷ 49 ∷ 70 ∷ 67 ∷ 10 ∷ []

abbrev vowels : List ℕ
vowels = 48 ∷ 55 ∷ 52 ∷ 48 ∷ 48 ∷ 50 ∷ 48 ∷ 49 ∷ 48 ∷ 53 ∷ 66 ∷ 49 ∷ 10 ∷ []

abbrev vowel_rule : List ℕ
vowel_rule = 48 ∷ 50 ∷ 48 ∷ 48 ∷ 48 ∷ 49 ∷ 48 ∷ 48 ∷ 48 ∷ 49 ∷ 48 ∷ 49 ∷ 48 ∷ 49 ∷ 48 ∷ 66 ∷ 52 ∷ 48 ∷ 54 ∷ 66 ∷ 52 ∷ 52 ∷ 10 ∷ []

pub vowels_file : encode with_vowels ≡ head ++ (vowels ++ vowel_rule)
unfolding with_vowels encode class_lines digit sum_byte
vowels_file = refl

pub vowels_read : readFile (head ++ (vowels ++ vowel_rule)) ≡ Accepted with_vowels
unfolding with_vowels readFile read_classes sound_line value class_shape shape defined
vowels_read = refl

-- a class defined twice is refused at its later line
pub vowels_twice : readFile (head ++ (vowels ++ (vowels ++ vowel_rule))) ≡ Broken 28
unfolding readFile read_classes sound_line value class_shape
vowels_twice = refl

-- a rule with a class that is not defined, at its line
pub vowels_none : readFile (head ++ vowel_rule) ≡ Broken 15
unfolding readFile read_classes sound_line value shape defined
vowels_none = refl

-- where a rule is to come, a line that is not sound is 13; after the last rule it is 14
pub vowels_unsound : readFile (head ++ (vowels ++ (48 ∷ 10 ∷ []))) ≡ Malformed 28
unfolding readFile read_classes sound_line value class_shape
vowels_unsound = refl

pub vowels_over : readFile (head ++ (vowels ++ (vowel_rule ++ (48 ∷ 10 ∷ [])))) ≡ Broken 51
unfolding readFile read_classes sound_line value class_shape shape defined
vowels_over = refl
