-- The letters that a symbol stands for, by the masks of the classes.
-- Assumes nothing.
use Prim.Native.Nat.{ℕ, ◌/◌, ◌%◌, ◌^◌, ◌≤◌, ◌<◌}
use mathlib.Core.Path.{◌≡◌, sym, ap, ap₂, ◌∙◌}
use mathlib.Core.List.{List, [], ◌∷◌}
use mathlib.Core.Bool.{Bool, true, false, cond, or-false}
use native.Mathlib.Omega.{arith}
use native.Mathlib.Nat.{mod-lt}
use borrow.Author.Tests.{eq-eqb, ne_eqb, lt-ltb, le-ltb, le-leb}
use lib.Bits.{bit_or, or_zero_l}
use lib.Dec.{eqb}
use lib.ListN.{length, get_or}
use Rattle.std.specs.Prelude.{Some, None}
use Rattle.numbers.specs.Numbers.{eight}
use Rattle.numbers.specs.Bits.{bit}
use Rattle.rules.proofs.Cases.{by_bool}
use Rattle.classes.specs.Classes.{is_in, is_class, letters, stands}
use Rattle.classes.specs.Masks.{mask_start, letters_in, classes_in}
use Rattle.classes.specs.Steps.{stepped}
use Rattle.classes.proofs.Letters.{in_high, in_letters, letters_none, letters_one}

-- a symbol from 40 to 5F is a class
pub class_range : (c : ℕ) → 64 ≤ c → c ≤ 95 → is_class c ≡ true
class_range c h g = rw (le-leb 64 c h, lt-ltb c 96 (omega arith))

-- a symbol outside 40 to 5F is no class
pub outside_none : (d : List ℕ) (c : ℕ) → is_class c ≡ false → classes_in d c ≡ []
unfolding classes_in
outside_none d c e = rw e

pub class_letters : (d : List ℕ) (c : ℕ) → 64 ≤ c → c ≤ 95 → classes_in d c ≡ letters_in (eight (mask_start c) d)
unfolding classes_in
class_letters d c h g = rw (class_range c h g)

module _ (d : List ℕ) (c : ℕ) where
  pub letter_alone : c < 64 → letters (classes_in d) c ≡ c ∷ []
  letter_alone h = rw (lt-ltb c 64 h)

  pub mask_letter : (x : ℕ) → c < 64 → x ≡ bit_or 0 (2 ^ c) → letters_in x ≡ letters (classes_in d) c
  mask_letter x h e = ap letters_in (e ∙ or_zero_l (2 ^ c)) ∙ (letters_one c h ∙ sym (letter_alone h))

  pub mask_class : (x : ℕ) → 64 ≤ c → c ≤ 95 → x ≡ eight (mask_start c) d → letters_in x ≡ letters (classes_in d) c
  mask_class x h g e = rw (le-ltb c 64 h) (ap letters_in e ∙ sym (class_letters d c h g))

  pub mask_none : 95 < c → letters_in 0 ≡ letters (classes_in d) c
  mask_none h =
      let o : is_class c ≡ false = rw (le-leb 64 c (omega arith), le-ltb c 96 (omega arith)) in
      rw (le-ltb c 64 (omega arith)) (letters_none ∙ sym (outside_none d c o))

  module _ (y : ℕ) where
    pub stands_alone : c < 64 → eqb c y ≡ stands (classes_in d) c y
    stands_alone h = sym (ap (is_in y) (letter_alone h) ∙ or-false (eqb c y))

    module _ (x : ℕ) (e : letters_in x ≡ letters (classes_in d) c) where
      pub stands_bit : y < 64 → bit x y ≡ stands (classes_in d) c y
      stands_bit h = sym (in_letters x y h) ∙ ap (is_in y) e

    -- a class stands for no byte above 63
    pub stands_high : 64 ≤ c → 63 < y → false ≡ stands (classes_in d) c y
    unfolding classes_in
    stands_high h g =
        let o : is_in y (classes_in d c) ≡ false = by_bool (is_class c) (λ t. rw t (in_high (eight (mask_start c) d) y g)) (λ t. rw t) in
        sym (ap (λ (b : Bool). is_in y (cond b (c ∷ []) (classes_in d c))) (le-ltb c 64 h) ∙ o)

-- ---- a symbol that is a letter

module _ (d : List ℕ) (c : ℕ) (h : c < 64) where
  pub alone_long : 1 ≡ length (letters (classes_in d) c)
  alone_long = sym (ap length (letter_alone d c h))

  alone_first : (i : ℕ) → i < length (letters (classes_in d) c) → i ≡ 0
  alone_first i g = omega (arith, alone_long)

  pub alone_get : (i : ℕ) → i < length (letters (classes_in d) c) → get_or (letters (classes_in d) c) i 0 ≡ c
  alone_get i g = ap₂ (λ (l : List ℕ) (n : ℕ). get_or l n 0) (letter_alone d c h) (alone_first i g)

  -- counted round
  pub alone_round : (q : ℕ) → c ≡ get_or (letters (classes_in d) c) (q % length (letters (classes_in d) c)) 0
  alone_round q = sym (alone_get (q % length (letters (classes_in d) c)) (mod-lt q (omega (arith, alone_long))))

  pub alone_rest : (q : ℕ) → q ≡ q / length (letters (classes_in d) c)
  alone_rest q = let e : q ≡ q / 1 = omega arith in e ∙ ap (λ (n : ℕ). q / n) alone_long

-- a step over a symbol that is a letter, and over a class
module _ (d : List ℕ) (c y q : ℕ) where
  step_one : c < 64 → stepped (classes_in d) c y q ≡ cond (eqb c y) (Some q) None
  step_one h =
      let e : q % 1 ≡ 0 = omega arith in
      let g : q / 1 ≡ q = omega arith in
      ap (λ (l : List ℕ). cond (eqb (get_or l (q % length l) 0) y) (Some (q / length l)) None) (letter_alone d c h)
      ∙ ap₂ (λ (u v : ℕ). cond (eqb (get_or (c ∷ []) u 0) y) (Some v) None) e g

  pub step_same : c < 64 → c ≡ y → Some q ≡ stepped (classes_in d) c y q
  step_same h e = sym (step_one h ∙ ap (λ (b : Bool). cond b (Some q) None) (eq-eqb c y e))

  pub step_other : c < 64 → (c ≡ y → ⊥) → None ≡ stepped (classes_in d) c y q
  step_other h e = sym (step_one h ∙ ap (λ (b : Bool). cond b (Some q) None) (ne_eqb c y e))

  module _ (x n : ℕ) (e : letters_in x ≡ letters (classes_in d) c) (en : n ≡ length (letters_in x)) (b : Bool) (eb : b ≡ eqb (get_or (letters_in x) (q % n) 0) y) where
    step_is : stepped (classes_in d) c y q ≡ cond b (Some (q / n)) None
    step_is =
        sym (ap (λ (t : Bool). cond t (Some (q / n)) None) eb
        ∙ (ap (λ (m : ℕ). cond (eqb (get_or (letters_in x) (q % m) 0) y) (Some (q / m)) None) en
        ∙ ap (λ (l : List ℕ). cond (eqb (get_or l (q % length l) 0) y) (Some (q / length l)) None) e))

    pub step_yes : b ≡ true → Some (q / n) ≡ stepped (classes_in d) c y q
    step_yes t = sym (step_is ∙ ap (λ (u : Bool). cond u (Some (q / n)) None) t)

    pub step_no : b ≡ false → None ≡ stepped (classes_in d) c y q
    step_no t = sym (step_is ∙ ap (λ (u : Bool). cond u (Some (q / n)) None) t)
