-- The lines of classes are read as those classes.
--     class-other, class-broken, class-on    what a line at which a class may stand leads to
--     read-classes                           the lines of classes, and what follows them
-- Assumes nothing.
use Prim.Native.Nat.{ℕ, zero, suc, ◌+◌, ◌≤◌, ◌<◌}
use mathlib.Core.Path.{◌≡◌, refl, sym, ap, ◌∙◌, fun_ext}
use mathlib.Core.List.{List, [], ◌∷◌, ◌++◌, append_assoc}
use mathlib.Core.Bool.{true, false}
use native.Mathlib.Omega.{arith}
use borrow.Author.Tests.{ltb-true, ltb-false, eqb-true, eqb-false, eq-eqb, ne_eqb, le-leb, lt-leb, le-ltb}
use lib.Dec.{ltb, eqb}
use Rattle.rules.proofs.Cases.{by_bool, and_i}
use Rattle.rules.specs.Limits.{first_class, class_count}
use Rattle.classes.specs.Classes.{Classes, no_classes, is_class, letter_set, class_shape, OnlyClasses}
use Rattle.classes.specs.Masks.{classes_shaped_from, classes_shaped}
use Rattle.classes.specs.Setting.{with_class}
use Rattle.frames.specs.Lines.{line_of, framed, sound_line}
use Rattle.frames.specs.Lines.Parsed.{Bad, Good}
use Rattle.frames.proofs.Lines.{read_framed}
use Rattle.file_format.specs.Layout.{frame_type, class_type, class_symbol, letters_of}
use Rattle.file_format.specs.File.{class_body, class_line, class_lines_from, class_lines, class_fits, Defined, defined_by, on_class, read_classes, read_defined}
use Rattle.file_format.proofs.Bodies.{no, both}
use Rattle.file_format.proofs.ClassFrames.{range_class, letters_shape, class_bytes, class_back, class_is}

-- ---- a line of the reading

-- no sound line of a class's type starts s
abbrev pub Other : List ℕ → Type 0
Other s = (d : Defined) (h : List ℕ → List ℕ → Defined) → on_class (sound_line s) d h ≡ d

pub other_bad : (s : List ℕ) → sound_line s ≡ Bad → Other s
other_bad s p d h = rw p

pub other_type : (s f rest : List ℕ) → sound_line s ≡ Good f rest → eqb (frame_type f) class_type ≡ false → Other s
other_type s f rest p t d h = rw (p, t)

module _ (n low : ℕ) (k : Classes) (s : List ℕ) where
  pub class_other : Other s → read_classes n low k s ≡ defined_by k s true
  unfolding read_classes
  class_other o = by n
    where
      by : (m : ℕ) → read_classes m low k s ≡ defined_by k s true
      by zero = refl
      by (suc m) = o (defined_by k s true) _

  module _ (f rest : List ℕ) (p : sound_line s ≡ Good f rest) (t : eqb (frame_type f) class_type ≡ true) where
    pub class_broken : class_fits low f ≡ false → read_classes (suc n) low k s ≡ defined_by k s false
    unfolding read_classes
    class_broken e = rw (p, t, e)

    pub class_on : class_fits low f ≡ true → read_classes (suc n) low k s ≡ read_classes n (suc (class_symbol f)) (with_class k (class_symbol f) (letters_of f)) rest
    unfolding read_classes
    class_on e = rw (p, t, e)

-- ---- the lines of classes

-- j with the classes of k from symbol c on, n of them, where k defines them
abbrev put : Classes → ℕ → List ℕ → Classes
put j c [] = j
put j c (x ∷ l) = with_class j c (x ∷ l)

abbrev filled : Classes → Classes → ℕ → ℕ → Classes
filled j k c zero = j
filled j k c (suc n) = filled (put j c (k c)) k (suc c) n

module _ (k : Classes) (t : List ℕ) (o : Other t) where
  -- the line of a class, then those of the others
  read_one : (m low c n x : ℕ) (l : List ℕ) (j : Classes) → low ≤ c → is_class c ≡ true → class_shape (x ∷ l) ≡ true
      → read_classes (suc m) low j ((class_line c (x ∷ l) ++ class_lines_from k (suc c) n) ++ t)
      ≡ read_classes m (suc c) (with_class j c (x ∷ l)) (class_lines_from k (suc c) n ++ t)
  read_one m low c n x l j h g s =
      let body = class_body c (x ∷ l) in
      let rest = class_lines_from k (suc c) n ++ t in
      let a : (class_line c (x ∷ l) ++ class_lines_from k (suc c) n) ++ t ≡ line_of (framed body) ++ rest = append_assoc (line_of (framed body)) (class_lines_from k (suc c) n) t in
      let p = read_framed body rest (omega arith) (class_bytes c (x ∷ l) g s) in
      ap (read_classes (suc m) low j) a
      ∙ (class_on m low j (line_of (framed body) ++ rest) (framed body) rest p refl (and_i (class_is c (x ∷ l) g s) (le-leb low c h))
      ∙ ap (λ (w : List ℕ). read_classes m (suc c) (with_class j c w) rest) (class_back c (x ∷ l)))

  read_from : (n m low c : ℕ) (j : Classes) → low ≤ c → first_class ≤ c → c + n ≡ first_class + class_count → n ≤ m → classes_shaped_from k c n ≡ true
      → read_classes m low j (class_lines_from k c n ++ t) ≡ defined_by (filled j k c n) t true
  read_from zero m low c j h f e u s = class_other m low j t o
  read_from (suc n) m low c j h f e u s =
      let a = both (letter_set (k c)) _ s in
      by m (k c) a.0 u (λ i b q v w. read_from n i b (suc c) q v (omega arith) (omega arith) w a.1)
    where
      by : (i : ℕ) (l : List ℕ) → letter_set l ≡ true → suc n ≤ i
          → ((i b : ℕ) (q : Classes) → b ≤ suc c → n ≤ i → read_classes i b q (class_lines_from k (suc c) n ++ t) ≡ defined_by (filled q k (suc c) n) t true)
          → read_classes i low j ((class_line c l ++ class_lines_from k (suc c) n) ++ t) ≡ defined_by (filled (put j c l) k (suc c) n) t true
      by i [] b v again = again i low j (omega arith) (omega arith)
      by zero (x ∷ l) b v again = absurd (omega arith)
      by (suc i) (x ∷ l) b v again =
          read_one i low c n x l j h (range_class c f (omega arith)) (letters_shape x l b) ∙ again i (suc c) (with_class j c (x ∷ l)) (omega arith) (omega arith)

-- what j had not, it has then
module _ (k : Classes) where
  put_here : (j : Classes) (c : ℕ) (l : List ℕ) → j c ≡ [] → put j c l c ≡ l
  put_here j c [] e = e
  put_here j c (x ∷ l) e = rw (eq-eqb c c refl)

  put_other : (j : Classes) (c x : ℕ) (l : List ℕ) → (x ≡ c → ⊥) → put j c l x ≡ j x
  put_other j c x [] h = refl
  put_other j c x (y ∷ l) h = rw (ne_eqb x c h)

  filled_is : (n c : ℕ) (j : Classes) → ((x : ℕ) → x < c → j x ≡ k x) → ((x : ℕ) → c ≤ x → x < c + n → j x ≡ []) → ((x : ℕ) → c + n ≤ x → j x ≡ k x)
      → (x : ℕ) → filled j k c n x ≡ k x
  filled_is zero c j f g h x = by_bool (ltb x c) (λ t. f x (ltb-true x c t)) (λ t. let u = ltb-false x c t in h x (omega arith))
  filled_is (suc n) c j f g h x =
      filled_is n (suc c) (put j c (k c))
      (λ y u. by_bool (eqb y c)
      (λ t. let e = eqb-true y c t in ap (put j c (k c)) e ∙ (put_here j c (k c) (g c (omega arith) (omega arith)) ∙ ap k (sym e)))
      (λ t. let e = eqb-false y c t in put_other j c y (k c) e ∙ f y (omega arith)))
      (λ y u v. put_other j c y (k c) (λ q. omega arith) ∙ g y (omega arith) (omega arith))
      (λ y u. put_other j c y (k c) (λ q. omega arith) ∙ h y (omega arith))
      x

pub class_low : (c : ℕ) → c < first_class → is_class c ≡ false
class_low c h = rw (lt-leb first_class c h)

pub class_high : (c : ℕ) → first_class + class_count ≤ c → is_class c ≡ false
class_high c h = rw (le-leb first_class c (omega arith)) (le-ltb c (first_class + class_count) h)

-- the lines of classes, and what follows them, are read as those classes
pub read-classes : (k : Classes) (t : List ℕ) → Other t → classes_shaped k ≡ true → OnlyClasses k → read_defined (class_lines k ++ t) ≡ defined_by k t true
unfolding class_lines classes_shaped
read-classes k t o s only =
    read_from k t o class_count class_count first_class first_class no_classes (omega arith) (omega arith) refl (omega arith) s
    ∙ ap (λ (j : Classes). defined_by j t true)
    (fun_ext (filled_is k class_count first_class no_classes (λ x u. sym (only x (class_low x u))) (λ x u v. refl) (λ x u. sym (only x (class_high x u)))))
