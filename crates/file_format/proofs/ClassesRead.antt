-- Class lines that were read without a fault are those of the classes that they define.
-- Assumes nothing.
use Prim.Native.Nat.{ℕ, zero, suc, ◌+◌, ◌-◌, ◌≤◌, ◌<◌}
use mathlib.Core.Path.{◌≡◌, refl, sym, ap, ap₂, ◌∙◌}
use mathlib.Core.List.{List, [], ◌++◌, append_assoc}
use mathlib.Core.Bool.{true}
use native.Mathlib.Omega.{arith}
use borrow.Author.Tests.{leb-true, leb-false, ltb-true, ltb-false, eqb-true, eqb-false, eq-eqb, ne_eqb}
use lib.Dec.{leb, ltb, eqb}
use Rattle.rules.proofs.Cases.{by_bool, and_i}
use Rattle.rules.specs.Limits.{first_class, class_count}
use Rattle.classes.specs.Classes.{Classes, no_classes, letter_set, OnlyClasses}
use Rattle.classes.specs.Masks.{classes_shaped_from, classes_shaped}
use Rattle.classes.specs.Setting.{with_class}
use Rattle.frames.specs.Lines.{line_of, framed, Parsed, sound_line}
use Rattle.frames.specs.Lines.Parsed.{Bad, Good}
use Rattle.frames.proofs.Lines.{sound_was}
use Rattle.file_format.specs.Layout.{frame_type, class_type, class_symbol, letters_of}
use Rattle.file_format.specs.File.{class_body, class_line, class_lines_from, class_lines, class_frame, class_fits, Defined, defined_by, read_classes, read_defined}
use Rattle.file_format.proofs.Bodies.{no, clash, both}
use Rattle.file_format.proofs.ClassFrames.{line_some, class_range, range_class, lettered, classed, class_was}
use Rattle.file_format.proofs.ClassLines.{other_bad, other_type, class_other, class_broken, class_on}

-- ---- class lines that were read

-- s is the lines of n classes from `low` on, and what is left; the other classes are those of j
pub record Were (low n : ℕ) (j : Classes) (s : List ℕ) (d : Defined) : Type 0 where
  pub was : s ≡ class_lines_from d.classes low n ++ d.rest
  pub below : (x : ℕ) → x < low → d.classes x ≡ j x
  pub above : (x : ℕ) → low + n ≤ x → d.classes x ≡ j x
  pub shaped : (x : ℕ) → low ≤ x → x < low + n → letter_set (d.classes x) ≡ true

none_lines : (k : Classes) (n c : ℕ) → ((x : ℕ) → c ≤ x → k x ≡ []) → class_lines_from k c n ≡ []
none_lines k zero c h = refl
none_lines k (suc n) c h =
    ap (λ (l : List ℕ). class_line c l ++ class_lines_from k (suc c) n) (h c (omega arith)) ∙ none_lines k n (suc c) (λ x u. h x (omega arith))

skip_lines : (k : Classes) (d m n c e : ℕ) → m ≡ d + n → e ≡ c + d → ((x : ℕ) → c ≤ x → x < e → k x ≡ []) → class_lines_from k c m ≡ class_lines_from k e n
skip_lines k zero m n c e p q h = let u : m ≡ n = omega arith in let v : c ≡ e = omega arith in ap₂ (λ (a b : ℕ). class_lines_from k a b) v u
skip_lines k (suc d) zero n c e p q h = absurd (omega arith)
skip_lines k (suc d) (suc m) n c e p q h =
    ap (λ (l : List ℕ). class_line c l ++ class_lines_from k (suc c) m) (h c (omega arith) (omega arith))
    ∙ skip_lines k d m n (suc c) e (omega arith) (omega arith) (λ x u v. h x (omega arith) v)

module _ (low n : ℕ) (j : Classes) (s : List ℕ) (empty : (x : ℕ) → low ≤ x → j x ≡ []) where
  were_end : Were low n j s (defined_by j s true)
  were_end = record {
    was = sym (ap (λ (l : List ℕ). l ++ s) (none_lines j n low empty));
    below = λ x u. refl;
    above = λ x u. refl;
    shaped = λ x u v. ap letter_set (empty x u);
  }

  module _ (f rest : List ℕ) (p : sound_line s ≡ Good f rest) (t : eqb (frame_type f) class_type ≡ true) (e : class_fits low f ≡ true) where
    abbrev here : ℕ
    here = class_symbol f

    fits : (class_frame f ≡ true) × (low ≤ here)
    fits = let a = both (class_frame f) _ e in (a.0, leb-true low here a.1)

    -- with it, no class from the next symbol on
    pub empty_on : (x : ℕ) → suc here ≤ x → with_class j here (letters_of f) x ≡ []
    empty_on x u = rw (ne_eqb x here (λ q. omega arith)) (empty x (omega (arith, fits.1)))

    were_on : (m : ℕ) (d : Defined) → low + n ≡ suc here + m → Were (suc here) m (with_class j here (letters_of f)) rest d → Were low n j s d
    were_on m d h w =
        let k = d.classes in
        let a = sound_was s f rest p in
        let y = classed f fits.0 in
        let l = lettered (letters_of f) y.shape in
        let z : k here ≡ letters_of f = w.below here (omega arith) ∙ rw (eq-eqb here here refl) in
        let g : f ≡ framed (class_body here (letters_of f)) = class_was f (eqb-true _ _ t) fits.0 a.bytes a.zero in
        let line : line_of f ≡ class_line here (k here) = ap line_of g ∙ (sym (line_some here (letters_of f) l.least) ∙ ap (class_line here) (sym z)) in
        let before : (x : ℕ) → low ≤ x → x < here → k x ≡ [] = λ x u v. w.below x (omega arith) ∙ (rw (ne_eqb x here (λ q. omega arith)) (empty x u)) in
        record {
          was =
              a.was ∙ (ap₂ (λ (u v : List ℕ). u ++ v) line w.was
              ∙ (sym (append_assoc (class_line here (k here)) (class_lines_from k (suc here) m) d.rest)
              ∙ ap (λ (u : List ℕ). u ++ d.rest) (sym (skip_lines k (here - low) n (suc m) low here (omega (arith, fits.1)) (omega (arith, fits.1)) before))));
          below = λ x u. w.below x (omega (arith, fits.1)) ∙ rw (ne_eqb x here (λ q. omega (arith, fits.1)));
          above = λ x u. w.above x (omega arith) ∙ rw (ne_eqb x here (λ q. omega arith));
          shaped = λ x u v.
              by_bool (ltb x here)
              (λ b. ap letter_set (before x u (ltb-true x here b)))
              (λ b.
              let b' = ltb-false x here b in
              by_bool (eqb x here)
              (λ q. ap (λ (i : ℕ). letter_set (k i)) (eqb-true x here q) ∙ (ap letter_set z ∙ l.set))
              (λ q. let q' = eqb-false x here q in w.shaped x (rising x here b' q') (omega arith)));
        }
      where
        rising : (x y : ℕ) → y ≤ x → (x ≡ y → ⊥) → suc y ≤ x
        rising x y u v = by_bool (leb (suc y) x) (λ b. leb-true (suc y) x b) (λ b. let w = leb-false (suc y) x b in absurd (v (omega arith)))

-- one line more, by what it is
classes_on : (m low n : ℕ) (j : Classes) (s : List ℕ) (d : Defined) → low + n ≡ first_class + class_count → ((x : ℕ) → low ≤ x → j x ≡ [])
    → read_classes (suc m) low j s ≡ d → d.ok ≡ true
    → ((b i : ℕ) (q : Classes) (r : List ℕ) → b + i ≡ first_class + class_count → ((x : ℕ) → b ≤ x → q x ≡ []) → read_classes m b q r ≡ d → Were b i q r d)
    → (l : Parsed) → sound_line s ≡ l → Were low n j s d
classes_on m low n j s d h empty e o again Bad p =
    rw (sym e ∙ class_other (suc m) low j s (other_bad s p)) (were_end low n j s empty)
classes_on m low n j s d h empty e o again (Good f rest) p =
    by_bool (eqb (frame_type f) class_type)
    (λ t.
    by_bool (class_fits low f)
    (λ q.
    let c = class_symbol f in
    let u = (class_range c (classed f (both (class_frame f) _ q).0).symbol).1 in
    let i = first_class + class_count - suc c in
    were_on low n j s empty f rest p t q i d (omega arith)
    (again (suc c) i (with_class j c (letters_of f)) rest (omega arith) (empty_on low n j s empty f rest p t q) (sym (class_on m low j s f rest p t q) ∙ e)))
    (λ q. clash o (ap (λ (z : Defined). z.ok) (sym e ∙ class_broken m low j s f rest p t q))))
    (λ t. rw (sym e ∙ class_other (suc m) low j s (other_type s f rest p t)) (were_end low n j s empty))

classes_by : (m low n : ℕ) (j : Classes) (s : List ℕ) (d : Defined) → low + n ≡ first_class + class_count → ((x : ℕ) → low ≤ x → j x ≡ [])
    → read_classes m low j s ≡ d → d.ok ≡ true → Were low n j s d
unfolding read_classes
classes_by zero low n j s d h empty e o = rw (← e) (were_end low n j s empty)
classes_by (suc m) low n j s d h empty e o =
    classes_on m low n j s d h empty e o (λ b i q r u v w. classes_by m b i q r d u v w o) (sound_line s) refl

-- classes of letters are shaped
shaped_from : (k : Classes) (n c : ℕ) → ((x : ℕ) → c ≤ x → x < c + n → letter_set (k x) ≡ true) → classes_shaped_from k c n ≡ true
shaped_from k zero c h = refl
shaped_from k (suc n) c h = and_i (h c (omega arith) (omega arith)) (shaped_from k n (suc c) (λ x u v. h x (omega arith) (omega arith)))

-- class lines without a fault are those of the classes that they define
pub record Lined (s : List ℕ) (d : Defined) : Type 0 where
  pub was : s ≡ class_lines d.classes ++ d.rest
  pub shaped : classes_shaped d.classes ≡ true
  pub only : OnlyClasses d.classes

pub classes_were : (s : List ℕ) (d : Defined) → read_defined s ≡ d → d.ok ≡ true → Lined s d
unfolding class_lines classes_shaped
classes_were s d e o =
    let w = classes_by class_count first_class class_count no_classes s d refl (λ x u. refl) e o in
    record {
      was = w.was;
      shaped = shaped_from d.classes class_count first_class w.shaped;
      only = λ c t.
          by_bool (ltb c first_class)
          (λ u. w.below c (ltb-true c first_class u))
          (λ u.
          by_bool (ltb c (first_class + class_count))
          (λ v. clash (range_class c (ltb-false c first_class u) (ltb-true c (first_class + class_count) v)) t)
          (λ v. w.above c (ltb-false c (first_class + class_count) v)));
    }
