-- A class's frame, there and back.
--     class_back, class-is    the frame of a class is a class's frame and is read as that class
--     class-was               a sound frame that defines a class is the frame of that class
-- Assumes nothing.
use Prim.Native.Nat.{ℕ, suc, ◌+◌, ◌%◌, ◌≤◌, ◌<◌}
use mathlib.Core.Path.{◌≡◌, refl, sym, ap, ap₂, ◌∙◌, subst}
use mathlib.Core.List.{List, [], ◌∷◌, ◌++◌}
use mathlib.Core.Bool.{true}
use native.Mathlib.Omega.{arith}
use borrow.Author.Tests.{leb-true, ltb-true, eqb-true, eq-eqb, le-leb, lt-ltb}
use lib.Dec.{leb, eqb}
use lib.ListN.{length, get_or, take, drop, length-append, length-drop, take-append-drop}
use lib.Seq.{take-append_seam, length-take-le}
use Rattle.rules.proofs.Cases.{and_i}
use Rattle.rules.specs.Limits.{max_letter, first_class, class_count, max_class}
use Rattle.classes.specs.Classes.{is_class, ascending, letter_set, class_shape}
use Rattle.frames.specs.Lines.{line_of, total, sum_byte, framed}
use Rattle.frames.proofs.Lines.{Bytes, is_framed}
use Rattle.file_format.specs.Layout.{frame_type, class_type, class_symbol, letter_count, class_front_size, letters_of}
use Rattle.file_format.specs.File.{class_body, class_line, class_frame}
use Rattle.file_format.proofs.Bodies.{both, one}

-- ---- what a class's symbol and letters bound

pub class_range : (c : ℕ) → is_class c ≡ true → (first_class ≤ c) × (c < first_class + class_count)
class_range c e = let a = both (leb first_class c) _ e in (leb-true first_class c a.0, ltb-true c (first_class + class_count) a.1)

pub range_class : (c : ℕ) → first_class ≤ c → c < first_class + class_count → is_class c ≡ true
range_class c h g = and_i (le-leb first_class c h) (lt-ltb c (first_class + class_count) g)

ascending_bytes : (b : ℕ) (l : List ℕ) → ascending b l ≡ true → Bytes l
ascending_bytes b [] e = tt
ascending_bytes b (x ∷ l) e =
    let a = both (leb b x) _ e in
    let h = both (leb x max_letter) _ a.1 in
    let u = leb-true x max_letter h.0 in
    (omega arith, ascending_bytes (suc x) l h.1)

pub record Lettered (l : List ℕ) : Type 0 where
  pub least : 1 ≤ length l
  pub most : length l ≤ max_class
  pub set : letter_set l ≡ true
  pub bytes : Bytes l

pub lettered : (l : List ℕ) → class_shape l ≡ true → Lettered l
unfolding class_shape
lettered l e =
    let a = both (leb 1 (length l)) _ e in
    let h = both (leb (length l) max_class) _ a.1 in
    record { least = leb-true 1 (length l) a.0; most = leb-true (length l) max_class h.0; set = a.1; bytes = ascending_bytes 1 l h.1 }

-- letters of a class, where there are any
pub letters_shape : (x : ℕ) (l : List ℕ) → letter_set (x ∷ l) ≡ true → class_shape (x ∷ l) ≡ true
unfolding class_shape
letters_shape x l e = and_i (le-leb 1 (length (x ∷ l)) (omega arith)) e

-- ---- a class's frame

pub class_bytes : (c : ℕ) (l : List ℕ) → is_class c ≡ true → class_shape l ≡ true → Bytes (class_body c l)
class_bytes c l h g =
    let r = class_range c h in
    let s = lettered l g in
    (omega arith, (omega (arith, r.1), (omega (arith, s.most), s.bytes)))

pub class_back : (c : ℕ) (l : List ℕ) → letters_of (framed (class_body c l)) ≡ l
class_back c l = take-append_seam l (sum_byte (class_body c l) ∷ [])

pub class_is : (c : ℕ) (l : List ℕ) → is_class c ≡ true → class_shape l ≡ true → class_frame (framed (class_body c l)) ≡ true
class_is c l h g =
    and_i
    (eq-eqb (length (framed (class_body c l))) (class_front_size + length l + 1) (omega (arith, length-append l (sum_byte (class_body c l) ∷ []))))
    (and_i h (ap class_shape (class_back c l) ∙ g))

pub record Classed (f : List ℕ) : Type 0 where
  pub size : length f ≡ class_front_size + letter_count f + 1
  pub symbol : is_class (class_symbol f) ≡ true
  pub shape : class_shape (letters_of f) ≡ true

pub classed : (f : List ℕ) → class_frame f ≡ true → Classed f
classed f e =
    let a = both (eqb (length f) (class_front_size + letter_count f + 1)) _ e in
    let b = both (is_class (class_symbol f)) _ a.1 in
    record { size = eqb-true _ _ a.0; symbol = b.0; shape = b.1 }

-- the letters and the checksum
class_parts : (n : ℕ) (g : List ℕ) → length g ≡ n + 1 → (g ≡ take n g ++ (get_or (drop n g) 0 0 ∷ [])) × (length (take n g) ≡ n)
class_parts n g h =
    let k : length (drop n g) ≡ 1 = omega (arith, length-drop n g) in
    (sym (ap (λ (m : List ℕ). take n g ++ m) (sym (one (drop n g) k)) ∙ take-append-drop n g), length-take-le n g (omega arith))

framed_class : (c n : ℕ) (g : List ℕ) → length g ≡ n + 1 → Bytes (class_type ∷ c ∷ n ∷ g) → total (class_type ∷ c ∷ n ∷ g) % 256 ≡ 0
    → class_type ∷ c ∷ n ∷ g ≡ framed (class_body c (take n g))
framed_class c n g h k z =
    let q = class_parts n g h in
    let s = get_or (drop n g) 0 0 in
    let body = class_body c (take n g) in
    let e : class_type ∷ c ∷ n ∷ g ≡ body ++ (s ∷ []) =
    ap₂ (λ (m : ℕ) (w : List ℕ). class_type ∷ c ∷ m ∷ w) (sym q.1) q.0 in
    e ∙ is_framed body s (subst Bytes e k) (subst (λ (m : List ℕ). total m % 256 ≡ 0) e z)

class_by : (f : List ℕ) → frame_type f ≡ class_type → length f ≡ class_front_size + letter_count f + 1 → Bytes f → total f % 256 ≡ 0
    → f ≡ framed (class_body (class_symbol f) (letters_of f))
class_by [] t h k z = absurd (omega arith)
class_by (a ∷ []) t h k z = absurd (omega arith)
class_by (a ∷ b ∷ []) t h k z = absurd (omega arith)
class_by (a ∷ b ∷ n ∷ g) t h k z = rw t (framed_class b n g (omega arith) (rw t at k) (rw t at z))

-- a sound frame that defines a class is the frame of that class
pub class_was : (f : List ℕ) → frame_type f ≡ class_type → class_frame f ≡ true → Bytes f → total f % 256 ≡ 0
    → f ≡ framed (class_body (class_symbol f) (letters_of f))
class_was f t e k z = class_by f t (classed f e).size k z

-- the line of a class that is defined
pub line_some : (c : ℕ) (l : List ℕ) → 1 ≤ length l → class_line c l ≡ line_of (framed (class_body c l))
line_some c [] h = absurd (omega arith)
line_some c (x ∷ l) h = refl
