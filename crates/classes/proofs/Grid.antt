-- Laws of `grid`: its length, its elements, and which and how many of them pass a test.
-- Assumes nothing.
use Prim.Native.Nat.{ℕ, zero, suc, ◌+◌, ◌*◌, ◌/◌, ◌%◌, ◌≤◌, ◌<◌}
use mathlib.Core.Path.{◌≡◌, refl, sym, ap, ap₂, ◌∙◌}
use mathlib.Core.List.{List, [], ◌∷◌, ◌++◌, map}
use mathlib.Core.Bool.{Bool, true, false, cond, ◌&&◌, ◌||◌}
use native.Mathlib.Nat.{div-add-mod', div-lt_iff_lt-mul, mod-lt}
use native.Mathlib.Omega.{arith}
use lib.ListN.{length, get_or, length-append, length-map, get_or-append}
use lib.Seq.{get_or-append-add}
use Rattle.numbers.specs.Bits.{pos}
use Rattle.rules.proofs.Cases.{by_bool}
use Rattle.classes.specs.Classes.{any}
use Rattle.classes.specs.Expansion.{grid}

-- ---- some element passes

pub any_append : {A : Type 0} (t : A → Bool) (l m : List A) → any t (l ++ m) ≡ (any t l || any t m)
any_append t [] m = refl
any_append t (x ∷ l) m = by_bool (t x) (λ e. rw e) (λ e. rw e (any_append t l m))

pub any_map : {A B : Type 0} (t : B → Bool) (f : A → B) (l : List A) → any t (map f l) ≡ any (λ x. t (f x)) l
any_map t f [] = refl
any_map t f (x ∷ l) = ap (λ (b : Bool). t (f x) || b) (any_map t f l)

pub any_ext : {A : Type 0} (t u : A → Bool) (l : List A) → ((x : A) → t x ≡ u x) → any t l ≡ any u l
any_ext t u [] h = refl
any_ext t u (x ∷ l) h = ap₂ (λ (a b : Bool). a || b) (h x) (any_ext t u l h)

pub any_none : {A : Type 0} (l : List A) → any (λ (x : A). false) l ≡ false
any_none [] = refl
any_none (x ∷ l) = any_none l

pub any_and : {A : Type 0} (b : Bool) (q : A → Bool) (l : List A) → any (λ x. b && q x) l ≡ (b && any q l)
any_and true q l = refl
any_and false q l = any_none l

or_swap : (a b c d : Bool) → ((a || b) || (c || d)) ≡ ((a || c) || (b || d))
or_swap true b c d = refl
or_swap false true true d = refl
or_swap false true false d = refl
or_swap false false c d = refl

pub any_or : {A : Type 0} (p q : A → Bool) (l : List A) → any (λ x. p x || q x) l ≡ (any p l || any q l)
any_or p q [] = refl
any_or p q (x ∷ l) = ap (λ (b : Bool). (p x || q x) || b) (any_or p q l) ∙ or_swap (p x) (q x) (any p l) (any q l)

-- ---- how many pass

abbrev pub count : {A : Type 0} → (A → Bool) → List A → ℕ
count t [] = 0
count t (x ∷ l) = cond (t x) 1 0 + count t l

pub count_append : {A : Type 0} (t : A → Bool) (l m : List A) → count t (l ++ m) ≡ count t l + count t m
count_append t [] m = omega arith
count_append t (x ∷ l) m = let h = count_append t l m in omega arith

pub count_map : {A B : Type 0} (t : B → Bool) (f : A → B) (l : List A) → count t (map f l) ≡ count (λ x. t (f x)) l
count_map t f [] = refl
count_map t f (x ∷ l) = ap (λ (n : ℕ). cond (t (f x)) 1 0 + n) (count_map t f l)

pub count_ext : {A : Type 0} (t u : A → Bool) (l : List A) → ((x : A) → t x ≡ u x) → count t l ≡ count u l
count_ext t u [] h = refl
count_ext t u (x ∷ l) h = ap₂ (λ (b : Bool) (n : ℕ). cond b 1 0 + n) (h x) (count_ext t u l h)

pub count_none : {A : Type 0} (l : List A) → count (λ (x : A). false) l ≡ 0
count_none [] = refl
count_none (x ∷ l) = let h = count_none l in omega arith

count_both : {A : Type 0} (b : Bool) (q : A → Bool) (l : List A) → count (λ x. b && q x) l ≡ cond b 1 0 * count q l
count_both true q l = omega arith
count_both false q l = count_none l ∙ omega arith

pub any_count : {A : Type 0} (t : A → Bool) (l : List A) → any t l ≡ pos (count t l)
any_count t [] = refl
any_count t (x ∷ l) =
    by_bool (t x)
    (λ e. let s : 1 + count t l ≡ suc (count t l) = omega arith in rw (e, s))
    (λ e. let s : 0 + count t l ≡ count t l = omega arith in rw (e, s) (any_count t l))

pub pos_mul : (a b : ℕ) → pos (a * b) ≡ (pos a && pos b)
pos_mul zero b = let e : zero * b ≡ 0 = omega arith in rw e
pos_mul (suc a) zero = let e : suc a * zero ≡ 0 = omega arith in rw e
pos_mul (suc a) (suc b) = let e : suc a * suc b ≡ suc (a * suc b + b) = omega arith in rw e

-- a number that is at most one
pub one_pos : (n : ℕ) → n ≤ 1 → n ≡ cond (pos n) 1 0
one_pos zero h = refl
one_pos (suc zero) h = refl
one_pos (suc (suc n)) h = absurd (omega arith)

pub mul_few : (a b : ℕ) → a ≤ 1 → b ≤ 1 → a * b ≤ 1
mul_few zero b h g = omega arith
mul_few (suc zero) b h g = omega arith
mul_few (suc (suc a)) b h g = absurd (omega arith)

-- ---- the elements of a grid

pub length_grid : {A B C : Type 0} (f : A → B → C) (xs : List A) (ys : List B) → length (grid f xs ys) ≡ length xs * length ys
length_grid f [] ys = omega arith
length_grid f (x ∷ xs) ys =
    omega (arith, length-append (map (f x) ys) (grid f xs ys), length-map ys (f x), length_grid f xs ys)

pub get_map : {A B : Type 0} (f : A → B) (l : List A) (i : ℕ) (x : A) (y : B) → i < length l → get_or (map f l) i y ≡ f (get_or l i x)
get_map f [] i x y h = absurd (omega arith)
get_map f (a ∷ l) zero x y h = refl
get_map f (a ∷ l) (suc i) x y h = get_map f l i x y (omega arith)

pub get_grid : {A B C : Type 0} (f : A → B → C) (a : A) (b : B) (d : C) (xs : List A) (ys : List B) (q r : ℕ) → q < length xs → r < length ys
    → get_or (grid f xs ys) (q * length ys + r) d ≡ f (get_or xs q a) (get_or ys r b)
get_grid f a b d [] ys q r h g = absurd (omega arith)
get_grid f a b d (x ∷ xs) ys zero r h g =
    let e : zero * length ys + r ≡ r = omega arith in
    let l : r < length (map (f x) ys) = omega (arith, length-map ys (f x)) in
    ap (λ (n : ℕ). get_or (map (f x) ys ++ grid f xs ys) n d) e
    ∙ (get_or-append (map (f x) ys) (grid f xs ys) d r l ∙ get_map (f x) ys r b d g)
get_grid f a b d (x ∷ xs) ys (suc q) r h g =
    let e : suc q * length ys + r ≡ length (map (f x) ys) + (q * length ys + r) = omega (arith, length-map ys (f x)) in
    ap (λ (n : ℕ). get_or (map (f x) ys ++ grid f xs ys) n d) e
    ∙ (get_or-append-add (map (f x) ys) (grid f xs ys) (q * length ys + r) d ∙ get_grid f a b d xs ys q r (omega arith) g)

-- element j: its row is j / n and its column j % n, where n is the length of the second list
module _ {A B C : Type 0} (f : A → B → C) (a : A) (b : B) (d : C) (xs : List A) (ys : List B) (j : ℕ) (h : j < length xs * length ys) where
  some_column : (n : ℕ) → n ≡ length ys → 0 < n
  some_column zero e = let z : length xs * length ys ≡ 0 = ap (λ (m : ℕ). length xs * m) (sym e) ∙ omega arith in absurd (omega arith)
  some_column (suc n) e = omega arith

  pub columns : 0 < length ys
  columns = some_column (length ys) refl

  pub row_in : j / length ys < length xs
  row_in = (div-lt_iff_lt-mul {k = length ys} columns).1 h

  pub column_in : j % length ys < length ys
  column_in = mod-lt j columns

  pub grid_at : get_or (grid f xs ys) j d ≡ f (get_or xs (j / length ys) a) (get_or ys (j % length ys) b)
  grid_at =
      ap (λ (n : ℕ). get_or (grid f xs ys) n d) (sym (div-add-mod' j (length ys)))
      ∙ get_grid f a b d xs ys (j / length ys) (j % length ys) row_in column_in

-- how many elements of a grid pass a test that is one of rows and one of columns, and whether one does
pub count_grid : {A B C : Type 0} (f : A → B → C) (t : C → Bool) (p : A → Bool) (q : B → Bool) → ((x : A) (y : B) → t (f x y) ≡ (p x && q y))
    → (xs : List A) (ys : List B) → count t (grid f xs ys) ≡ count p xs * count q ys
count_grid f t p q h [] ys = omega arith
count_grid f t p q h (x ∷ xs) ys =
    let e : count t (map (f x) ys) ≡ cond (p x) 1 0 * count q ys = count_map t (f x) ys ∙ (count_ext (λ y. t (f x y)) (λ y. p x && q y) ys (h x) ∙ count_both (p x) q ys) in
    count_append t (map (f x) ys) (grid f xs ys)
    ∙ (ap₂ ◌+◌ e (count_grid f t p q h xs ys) ∙ tally (p x) (count p xs) (count q ys))
  where
    tally : (b : Bool) (m n : ℕ) → cond b 1 0 * n + m * n ≡ (cond b 1 0 + m) * n
    tally true m n = omega arith
    tally false m n = omega arith

pub any_grid : {A B C : Type 0} (f : A → B → C) (t : C → Bool) (p : A → Bool) (q : B → Bool) → ((x : A) (y : B) → t (f x y) ≡ (p x && q y))
    → (xs : List A) (ys : List B) → any t (grid f xs ys) ≡ (any p xs && any q ys)
any_grid f t p q h xs ys =
    any_count t (grid f xs ys)
    ∙ (ap pos (count_grid f t p q h xs ys)
    ∙ (pos_mul (count p xs) (count q ys) ∙ ap₂ ◌&&◌ (sym (any_count p xs)) (sym (any_count q ys))))
