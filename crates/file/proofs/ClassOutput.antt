-- What stands in the lent bytes while the classes of a ruleset are written, line after line, and the bytes that their lines need.
-- Assumes nothing.
use Prim.Native.Nat.{ℕ, zero, suc, ◌+◌, ◌-◌, ◌*◌, ◌≤◌, ◌<◌}
use mathlib.Core.Path.{◌≡◌, refl, sym, ap, ◌∙◌}
use mathlib.Core.List.{List, [], ◌∷◌, ◌++◌, append_assoc, append-nil}
use native.Mathlib.Omega.{arith}
use lib.ListN.{length, drop, length-append, take-append-drop}
use Rattle.rules.specs.Limits.{first_class, class_count, max_symbol}
use Rattle.rules.specs.Memory.{over_at}
use Rattle.rules.proofs.Memory.{over_at_length}
use Rattle.numbers.specs.Numbers.{eight}
use Rattle.classes.specs.Classes.{Classes}
use Rattle.classes.specs.Masks.{mask_start, letters_in, classes_in}
use Rattle.classes.proofs.Letters.{letters_none}
use Rattle.classes.proofs.Standing.{class_letters}
use Rattle.frames.specs.Lines.{line_of, framed, sum_byte}
use Rattle.frames.specs.Output.{Output, Sent, sent}
use Rattle.frames.proofs.Lines.{length_line}
use Rattle.frames.proofs.Output.{sent_then, sent_as, sent_next, sent_length, over_more}
use Rattle.file_format.specs.Layout.{head_line_size}
use Rattle.file_format.specs.File.{class_body, class_line, class_lines_from, class_lines}
use Rattle.file_format.proofs.ClassFrames.{line_some}

-- ---- the letters of a mask

-- those of `front` have gone out, those of x are left
pub record Lettering (mask : ℕ) (start here : Output) (x : ℕ) : Type 0 where
  pub front : List ℕ
  pub all : letters_in mask ≡ front ++ letters_in x
  pub gone : Sent front start here

pub lettering_start : (mask : ℕ) (start : Output) → Lettering mask start start mask
unfolding sent
lettering_start mask start = record { front = []; all = refl; gone = record { equal = refl } }

module _ (mask : ℕ) (start here : Output) (x : ℕ) (p : Lettering mask start here x) where
  whole_length : length (letters_in mask) ≡ length p.front + length (letters_in x)
  whole_length = ap length p.all ∙ length-append p.front (letters_in x)

  next-is : here.next ≡ start.next + 2 * length p.front
  next-is = ap (λ (o : Output). o.next) p.gone.equal ∙ sent_next p.front start

  module _ (room : start.next + 2 * length (letters_in mask) ≤ length start.text) where
    pub lettering_length : length here.text ≡ length start.text
    lettering_length = ap (λ (o : Output). length o.text) p.gone.equal ∙ sent_length p.front start (omega (arith, whole_length))

    module _ (a : ℕ) (h : letters_in x ≡ a ∷ drop 1 (letters_in x)) where
      pub lettering_room : here.next + 2 ≤ length here.text
      lettering_room = omega (arith, room, lettering_length, next-is, whole_length, ap length h)

      pub lettering_next : (y : ℕ) → letters_in y ≡ drop 1 (letters_in x) → (there : Output) → Sent (a ∷ []) here there → Lettering mask start there y
      lettering_next y e there q = record {
        front = p.front ++ (a ∷ []);
        all =
            p.all ∙ (ap (λ (l : List ℕ). p.front ++ l) (h ∙ ap (λ (l : List ℕ). a ∷ l) (sym e)) ∙ sym (append_assoc p.front (a ∷ []) (letters_in y)));
        gone = sent_then p.gone q;
      }

  -- none are left
  pub lettering_end : x ≡ 0 → Sent (letters_in mask) start here
  lettering_end z =
      sent_as (sym (p.all ∙ (ap (λ (l : List ℕ). p.front ++ l) (ap letters_in z ∙ letters_none) ∙ append-nil p.front))) p.gone

-- ---- the line of a class

-- a mask of 0 has none
module _ (c mask : ℕ) (z : mask ≡ 0) where
  none : class_line c (letters_in mask) ≡ []
  none = ap (class_line c) (ap letters_in z ∙ letters_none)

  pub no_line : length (class_line c (letters_in mask)) ≡ 0
  no_line = ap length none

  pub no_bytes : (at : ℕ) (out : List ℕ) → (at ≡ at + length (class_line c (letters_in mask))) × (out ≡ over_at at (class_line c (letters_in mask)) out)
  no_bytes at out = (omega (arith, no_line), sym (ap (λ (l : List ℕ). over_at at l out) none ∙ take-append-drop at out))

pub class-line : (c : ℕ) (l : List ℕ) → 1 ≤ length l → (class_line c l ≡ line_of (framed (class_body c l))) × (length (class_line c l) ≡ 2 * length (class_body c l) + 3)
class-line c l h =
    let e = line_some c l h in
    (e, omega (arith, ap length e, length_line (framed (class_body c l)), length-append l (sum_byte (class_body c l) ∷ [])))

-- ---- the lines of the first classes

lines_snoc : (k : Classes) (n c : ℕ) → class_lines_from k c (n + 1) ≡ class_lines_from k c n ++ class_line (c + n) (k (c + n))
lines_snoc k zero c = let e : c ≡ c + 0 = omega arith in append-nil (class_line c (k c)) ∙ ap (λ (i : ℕ). class_line i (k i)) e
lines_snoc k (suc n) c =
    let e : suc c + n ≡ c + suc n = omega arith in
    let m : suc n + 1 ≡ suc (n + 1) = omega arith in
    ap (class_lines_from k c) m
    ∙ (ap (λ (l : List ℕ). class_line c (k c) ++ l) (lines_snoc k n (suc c) ∙ ap (λ (i : ℕ). class_lines_from k (suc c) n ++ class_line i (k i)) e)
    ∙ sym (append_assoc (class_line c (k c)) (class_lines_from k (suc c) n) (class_line (c + suc n) (k (c + suc n)))))

lines_part : (k : Classes) (n m c : ℕ) → length (class_lines_from k c n) ≤ length (class_lines_from k c (n + m))
lines_part k zero m c = omega arith
lines_part k (suc n) m c =
    let e : suc n + m ≡ suc (n + m) = omega arith in
    omega (
      arith,
      ap (λ (i : ℕ). length (class_lines_from k c i)) e,
      length-append (class_line c (k c)) (class_lines_from k (suc c) n),
      length-append (class_line c (k c)) (class_lines_from k (suc c) (n + m)),
      lines_part k n m (suc c),
    )

module _ (masks : List ℕ) where
  abbrev k : Classes
  k = classes_in masks

  -- the lines of the classes below a symbol
  abbrev lines : ℕ → List ℕ
  lines symbol = class_lines_from k first_class (symbol - first_class)

  all : (symbol : ℕ) → symbol ≤ max_symbol + 1 → max_symbol < symbol → lines symbol ≡ class_lines k
  unfolding class_lines
  all symbol h g = let e : symbol - first_class ≡ class_count = omega arith in ap (class_lines_from k first_class) e

  pub record Sized (n symbol : ℕ) : Type 0 where
    pub low : first_class ≤ symbol
    pub high : symbol ≤ max_symbol + 1
    pub sum : n ≡ length (lines symbol)
    pub small : n + 137 * first_class ≤ 137 * symbol

  pub record Lined (xs out : List ℕ) (at symbol : ℕ) : Type 0 where
    pub low : first_class ≤ symbol
    pub high : symbol ≤ max_symbol + 1
    pub place : at ≡ head_line_size + length (lines symbol)
    pub written : out ≡ over_at head_line_size (lines symbol) xs

  -- the next class
  module _ (symbol : ℕ) (low : first_class ≤ symbol) (high : symbol ≤ max_symbol) (mask : ℕ) (em : mask ≡ eight (mask_start symbol) masks) where
    letters_are : letters_in mask ≡ k symbol
    letters_are = ap letters_in em ∙ sym (class_letters masks symbol low high)

    next : lines (symbol + 1) ≡ lines symbol ++ class_line symbol (letters_in mask)
    next =
        let n : symbol + 1 - first_class ≡ symbol - first_class + 1 = omega arith in
        let e : first_class + (symbol - first_class) ≡ symbol = omega arith in
        ap (class_lines_from k first_class) n
        ∙ (lines_snoc k (symbol - first_class) first_class
        ∙ ap (λ (l : List ℕ). lines symbol ++ l) (ap (λ (i : ℕ). class_line i (k i)) e ∙ ap (class_line symbol) (sym letters_are)))

    next_length : length (lines (symbol + 1)) ≡ length (lines symbol) + length (class_line symbol (letters_in mask))
    next_length = ap length next ∙ length-append (lines symbol) (class_line symbol (letters_in mask))

    pub sized_next : (n m : ℕ) → Sized n symbol → m ≡ length (class_line symbol (letters_in mask)) → m ≤ 137 → Sized (n + m) (symbol + 1)
    sized_next n m s f b = record { low = omega arith; high = omega arith; sum = omega (arith, s.sum, next_length); small = omega (arith, s.small) }

  pub sized_start : Sized 0 first_class
  sized_start = record { low = omega arith; high = omega arith; sum = refl; small = omega arith }

  pub sized_end : (n symbol : ℕ) → Sized n symbol → max_symbol < symbol → (n ≡ length (class_lines (classes_in masks))) × (n ≤ 4384)
  sized_end n symbol s h = (s.sum ∙ ap length (all symbol s.high h), omega (arith, s.small, s.high))

  module _ (xs : List ℕ) (room : head_line_size + length (class_lines (classes_in masks)) ≤ length xs) where
    pub lined_start : Lined xs xs head_line_size first_class
    lined_start = record { low = omega arith; high = omega arith; place = omega arith; written = sym (take-append-drop head_line_size xs) }

    part : (symbol : ℕ) → symbol ≤ max_symbol + 1 → length (lines symbol) ≤ length (class_lines k)
    unfolding class_lines
    part symbol h =
        let e : symbol - first_class + (class_count - (symbol - first_class)) ≡ class_count = omega arith in
        omega (arith, lines_part k (symbol - first_class) (class_count - (symbol - first_class)) first_class, ap (λ (i : ℕ). length (class_lines_from k first_class i)) e)

    module _ (out : List ℕ) (at symbol : ℕ) (p : Lined xs out at symbol) where
      pub lined_length : length out ≡ length xs
      lined_length = ap length p.written ∙ over_at_length (lines symbol) xs head_line_size (omega (arith, part symbol p.high))

      pub lined_end : max_symbol < symbol
          → (at ≡ head_line_size + length (class_lines (classes_in masks))) × (out ≡ over_at head_line_size (class_lines (classes_in masks)) xs)
      lined_end h =
          let e = all symbol p.high h in
          (p.place ∙ ap (λ (l : List ℕ). head_line_size + length l) e, p.written ∙ ap (λ (l : List ℕ). over_at head_line_size l xs) e)

      module _ (high : symbol ≤ max_symbol) (mask : ℕ) (em : mask ≡ eight (mask_start symbol) masks) where
        pub lined_room : at + length (class_line symbol (letters_in mask)) ≤ length out
        lined_room = omega (arith, p.place, lined_length, part (symbol + 1) (omega arith), next_length symbol p.low high mask em)

        pub lined_next : (z : List ℕ) (m : ℕ) → z ≡ over_at at (class_line symbol (letters_in mask)) out → m ≡ at + length (class_line symbol (letters_in mask))
            → Lined xs z m (symbol + 1)
        lined_next z m f g = record {
          low = omega (arith, p.low);
          high = omega arith;
          place = omega (arith, p.place, next_length symbol p.low high mask em);
          written =
              f ∙ (over_more xs head_line_size (omega arith) (lines symbol) (class_line symbol (letters_in mask)) out at p.written p.place
              ∙ ap (λ (l : List ℕ). over_at head_line_size l xs) (sym (next symbol p.low high mask em)));
        }
