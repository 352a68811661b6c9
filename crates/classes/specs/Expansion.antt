-- The literal rules of a rule with classes: the leftmost symbol varies slowest, letters ascending (document 02, request 5).
-- Assumes nothing.
use Rattle.std.specs.Prelude.{ℕ, ◌+◌, ◌*◌, List, [], ◌∷◌, ◌++◌, map, length}
use Rattle.rules.specs.Shape.{Production, Entry}
use Rattle.classes.specs.Classes.{Classes, letters}

-- f of each x with each y: the first list varies slowest
abbrev pub grid {ℓ} : {A B C : Type ℓ} → (A → B → C) → List A → List B → List C
grid f [] ys = []
grid f (x ∷ xs) ys = map (f x) ys ++ grid f xs ys

-- the strings of letters that a string of symbols stands for, in order
abbrev pub choices : Classes → List ℕ → List (List ℕ)
choices k [] = [] ∷ []
choices k (x ∷ s) = grid (λ (a : ℕ) (w : List ℕ). a ∷ w) (letters k x) (choices k s)

-- how many they are: the product of how many letters each symbol stands for
abbrev pub size : Classes → List ℕ → ℕ
size k [] = 1
size k (x ∷ s) = length (letters k x) * size k s

-- the rule with other contexts
abbrev pub within : Production → List ℕ → List ℕ → Production
within r a b = record { left = a; target = r.target; right = b; phones = r.phones }

-- the literal rules of a rule, in order: the left context before the right one
abbrev pub literals : Classes → Production → List Production
literals k r = grid (within r) (choices k r.left) (choices k r.right)

-- how many they are
abbrev pub literal_count : Classes → Production → ℕ
literal_count k r = size k r.left * size k r.right

abbrev pub under : ℕ → Production → Entry
under n r = record { number = n; rule = r }

-- the literal rules of a numbered rule, each under its number
abbrev pub literal_entries : Classes → Entry → List Entry
literal_entries k e = map (under e.number) (literals k e.rule)

-- the literal rules of a list, in the order of the numbered ones: the rules of the tables, the sets and the walk
abbrev pub expand : Classes → List Entry → List Entry
expand k [] = []
expand k (e ∷ l) = literal_entries k e ++ expand k l

-- how many literal rules a list has: the limit of 512 counts them
abbrev pub literal_total : Classes → List Entry → ℕ
literal_total k [] = 0
literal_total k (e ∷ l) = literal_count k e.rule + literal_total k l
