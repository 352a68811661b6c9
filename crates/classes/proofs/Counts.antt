-- How many literal rules a rule and a list have.
--     literals-long, literal-total     as many as the definitions count
--     defined-count                    a rule has a literal rule exactly where each class that it uses is defined
--     few-rules                        a list of such rules has no more rules than literal rules
-- Assumes nothing.
use Prim.Native.Nat.{ℕ, zero, suc, ◌+◌, ◌*◌, ◌≤◌, ◌<◌}
use mathlib.Core.Path.{◌≡◌, refl, sym, ap, ap₂, ◌∙◌}
use mathlib.Core.List.{List, [], ◌∷◌, ◌++◌, append_assoc}
use mathlib.Core.Bool.{Bool, true, ◌&&◌}
use native.Mathlib.Omega.{arith}
use borrow.Author.Tests.{leb-true, le-leb}
use lib.Dec.{leb}
use lib.ListN.{length, get_or, length-append, length-map}
use Rattle.rules.specs.Shape.{Production, Entry}
use Rattle.classes.specs.Classes.{Classes, letters, all_defined, defined}
use Rattle.classes.specs.Expansion.{choices, size, within, literals, literal_count, under, literal_entries, expand, literal_total}
use Rattle.classes.proofs.Grid.{length_grid}

pub length_choices : (k : Classes) (s : List ℕ) → length (choices k s) ≡ size k s
length_choices k [] = refl
length_choices k (x ∷ s) =
    length_grid (λ (a : ℕ) (w : List ℕ). a ∷ w) (letters k x) (choices k s) ∙ ap (λ (n : ℕ). length (letters k x) * n) (length_choices k s)

-- as many as the product of the sizes of its classes
pub literals_long : (k : Classes) (r : Production) → length (literals k r) ≡ literal_count k r
literals_long k r =
    length_grid (within r) (choices k r.left) (choices k r.right) ∙ ap₂ ◌*◌ (length_choices k r.left) (length_choices k r.right)

pub entries_long : (k : Classes) (e : Entry) → length (literal_entries k e) ≡ literal_count k e.rule
entries_long k e = length-map (literals k e.rule) (under e.number) ∙ literals_long k e.rule

pub literal-total : (k : Classes) (l : List Entry) → length (expand k l) ≡ literal_total k l
literal-total k [] = refl
literal-total k (e ∷ l) = length-append (literal_entries k e) (expand k l) ∙ ap₂ ◌+◌ (entries_long k e) (literal-total k l)

-- ---- lists, one after the other

pub total_append : (k : Classes) (l m : List Entry) → literal_total k (l ++ m) ≡ literal_total k l + literal_total k m
total_append k [] m = omega arith
total_append k (x ∷ l) m = let h = total_append k l m in omega arith

pub expand_append : (k : Classes) (l m : List Entry) → expand k (l ++ m) ≡ expand k l ++ expand k m
expand_append k [] m = refl
expand_append k (x ∷ l) m =
    ap (λ (w : List Entry). literal_entries k x ++ w) (expand_append k l m) ∙ sym (append_assoc (literal_entries k x) (expand k l) (expand k m))

-- a rule of a list has no more literal rules than the list
pub count_total : (k : Classes) (l : List Entry) (p : ℕ) (none : Entry) → p < length l → literal_count k (get_or l p none).rule ≤ literal_total k l
count_total k [] p none h = absurd (omega arith)
count_total k (x ∷ l) zero none h = omega arith
count_total k (x ∷ l) (suc p) none h = let i = count_total k l p none (omega arith) in omega arith

-- ---- classes that are defined

pub product_pos : (a b : ℕ) → 0 < a * b → (0 < a) × (0 < b)
product_pos zero b h = absurd (omega arith)
product_pos (suc a) zero h = absurd (omega arith)
product_pos (suc a) (suc b) h = (omega arith, omega arith)

leb_one_mul : (a b : ℕ) → leb 1 (a * b) ≡ (leb 1 a && leb 1 b)
leb_one_mul zero b = let e : zero * b ≡ 0 = omega arith in rw e
leb_one_mul (suc a) zero = let e : suc a * zero ≡ 0 = omega arith in rw (e, le-leb 1 (suc a) (omega arith))
leb_one_mul (suc a) (suc b) = rw (le-leb 1 (suc a) (omega arith), le-leb 1 (suc b) (omega arith)) (le-leb 1 (suc a * suc b) (omega arith))

-- a string stands for a string of letters exactly where its classes are defined
pub defined_size : (k : Classes) (s : List ℕ) → all_defined k s ≡ leb 1 (size k s)
defined_size k [] = refl
defined_size k (x ∷ s) = ap (λ (b : Bool). leb 1 (length (letters k x)) && b) (defined_size k s) ∙ sym (leb_one_mul (length (letters k x)) (size k s))

pub defined_count : (k : Classes) (r : Production) → defined k r ≡ leb 1 (literal_count k r)
unfolding defined
defined_count k r = ap₂ ◌&&◌ (defined_size k r.left) (defined_size k r.right) ∙ sym (leb_one_mul (size k r.left) (size k r.right))

pub count_pos : (k : Classes) (r : Production) → defined k r ≡ true → 1 ≤ literal_count k r
count_pos k r e = leb-true 1 (literal_count k r) (sym (defined_count k r) ∙ e)

pub size_pos : (k : Classes) (s : List ℕ) → all_defined k s ≡ true → 1 ≤ size k s
size_pos k s e = leb-true 1 (size k s) (sym (defined_size k s) ∙ e)

-- both contexts of a rule that has a literal rule stand for strings of letters
pub sides_pos : (k : Classes) (r : Production) → 1 ≤ literal_count k r → (1 ≤ size k r.left) × (1 ≤ size k r.right)
sides_pos k r h = product_pos (size k r.left) (size k r.right) h

-- each class that a rule of a list uses is defined
abbrev pub AllDefined : Classes → List Entry → Type 0
AllDefined k [] = Unit {0}
AllDefined k (e ∷ l) = (defined k e.rule ≡ true) × AllDefined k l

pub all_defined_at : (k : Classes) (l : List Entry) → AllDefined k l → (p : ℕ) (none : Entry) → p < length l → defined k (get_or l p none).rule ≡ true
all_defined_at k [] h p none g = absurd (omega arith)
all_defined_at k (e ∷ l) h zero none g = h.0
all_defined_at k (e ∷ l) h (suc p) none g = all_defined_at k l h.1 p none (omega arith)

-- a list of such rules has no more rules than literal rules
pub few_rules : (k : Classes) (l : List Entry) → AllDefined k l → length l ≤ literal_total k l
few_rules k [] h = omega arith
few_rules k (e ∷ l) h = omega (arith, count_pos k e.rule h.0, few_rules k l h.1)
