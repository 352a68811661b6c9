-- `fits_by` is exactly document 01's sentence, with classes that stand for letters, as an equation of strings: fits-exact and exact-fits.
-- Assumes nothing.
use Prim.Native.Nat.{ℕ, ◌+◌, ◌≤◌}
use mathlib.Core.Path.{◌≡◌, refl, sym, ap, ap₂, ◌∙◌}
use mathlib.Core.List.{[], ◌∷◌, ◌++◌, append_assoc}
use mathlib.Core.Bool.{true, false, ◌&&◌}
use borrow.Author.Tests.{eqb-true, eq-eqb}
use lib.Dec.{eqb}
use lib.ListN.{length, take, drop, take-append-drop}
use lib.Seq.{drop-drop, length-take-le, take_at, drop_at}
use Rattle.rules.proofs.Cases.{by_bool, and_l, and_r, and_i}
use Rattle.rules.specs.Shape.{Production}
use Rattle.classes.specs.Classes.{Classes, stands}
use Rattle.fitting.specs.Fitting.{Str, starts, same_by, starts_by, ends_by, fits_by, FitsAt}
use Rattle.fitting.proofs.Strings.{clash}

-- a string that starts another is followed by the rest
record Split (s w : Str) : Type 0 where
  rest : Str
  is : w ≡ s ++ rest

starts_split : (s w : Str) → starts s w ≡ true → Split s w
starts_split [] w e = record { rest = w; is = refl }
starts_split (x ∷ s) [] e = clash e refl
starts_split (x ∷ s) (y ∷ w) e =
    let t = starts_split s w (and_r (eqb x y) _ e) in
    record { rest = t.rest; is = ap₂ ◌∷◌ (sym (eqb-true x y (and_l (eqb x y) _ e))) t.is }

split_starts : (s r : Str) → starts s (s ++ r) ≡ true
split_starts [] r = refl
split_starts (x ∷ s) r = and_i (eq-eqb x x refl) (split_starts s r)

module _ (k : Classes) where
  -- letters that a string stands for start another, and the rest follows
  record Started (s w : Str) : Type 0 where
    part : Str
    rest : Str
    stood : same_by k s part ≡ true
    is : w ≡ part ++ rest

  starts_part : (s w : Str) → starts_by k s w ≡ true → Started s w
  starts_part [] w e = record { part = []; rest = w; stood = refl; is = refl }
  starts_part (x ∷ s) [] e = clash e refl
  starts_part (x ∷ s) (y ∷ w) e =
      let t = starts_part s w (and_r (stands k x y) _ e) in
      record { part = y ∷ t.part; rest = t.rest; stood = and_i (and_l (stands k x y) _ e) t.stood; is = ap (λ (l : Str). y ∷ l) t.is }

  part_starts : (s p r : Str) → same_by k s p ≡ true → starts_by k s (p ++ r) ≡ true
  part_starts [] p r e = refl
  part_starts (x ∷ s) [] r e = clash e refl
  part_starts (x ∷ s) (y ∷ p) r e = and_i (and_l (stands k x y) _ e) (part_starts s p r (and_r (stands k x y) _ e))

  -- they end another, and the rest is before them
  record Ended (s w : Str) : Type 0 where
    rest : Str
    part : Str
    stood : same_by k s part ≡ true
    is : w ≡ rest ++ part

  ends_part : (s w : Str) → ends_by k s w ≡ true → Ended s w
  ends_part s [] e = record { rest = []; part = []; stood = e; is = refl }
  ends_part s (y ∷ w) e =
      by_bool (same_by k s (y ∷ w)) (λ q. record { rest = []; part = y ∷ w; stood = q; is = refl }) (λ q. longer (ends_part s w (rw q at e)))
    where
      longer : Ended s w → Ended s (y ∷ w)
      longer p = record { rest = y ∷ p.rest; part = p.part; stood = p.stood; is = ap (λ (l : Str). y ∷ l) p.is }

  part_ends : (r s p : Str) → same_by k s p ≡ true → ends_by k s (r ++ p) ≡ true
  part_ends [] s [] e = e
  part_ends [] s (y ∷ p) e = rw e
  part_ends (y ∷ r) s p e = by_bool (same_by k s (y ∷ (r ++ p))) (λ q. rw q) (λ q. rw q (part_ends r s p e))

  module _ (r : Production) (f : Str) (i : ℕ) where
    pub fits_exact : i ≤ length f → fits_by k r f i ≡ true → FitsAt k r f i
    fits_exact inside e =
        let b : (starts r.target (drop i f) && starts_by k r.right (drop (i + length r.target) f)) ≡ true = and_r (ends_by k r.left (take i f)) _ e in
        let p = ends_part r.left (take i f) (and_l (ends_by k r.left (take i f)) _ e) in
        let q = starts_split r.target (drop i f) (and_l (starts r.target (drop i f)) _ b) in
        let u = starts_part r.right (drop (i + length r.target) f) (and_r (starts r.target (drop i f)) _ b) in
        let v : q.rest ≡ u.part ++ u.rest =
        sym (drop_at r.target q.rest (length r.target) refl) ∙ (ap (drop (length r.target)) (sym q.is) ∙ (drop-drop (length r.target) i f ∙ u.is)) in
        record {
          before = p.rest;
          left = p.part;
          right = u.part;
          after = u.rest;
          lefts = p.stood;
          rights = u.stood;
          joined = sym (take-append-drop i f)
              ∙ (ap₂ ◌++◌ p.is (q.is ∙ ap (λ (l : Str). r.target ++ l) v)
              ∙ append_assoc p.rest p.part (r.target ++ (u.part ++ u.rest)));
          starts = ap length (sym p.is) ∙ length-take-le i f inside;
        }

    pub exact_fits : FitsAt k r f i → fits_by k r f i ≡ true
    exact_fits x =
        let g : f ≡ (x.before ++ x.left) ++ (r.target ++ (x.right ++ x.after)) =
        x.joined ∙ sym (append_assoc x.before x.left (r.target ++ (x.right ++ x.after))) in
        let a : take i f ≡ x.before ++ x.left = ap (take i) g ∙ take_at (x.before ++ x.left) (r.target ++ (x.right ++ x.after)) i x.starts in
        let b : drop i f ≡ r.target ++ (x.right ++ x.after) = ap (drop i) g ∙ drop_at (x.before ++ x.left) (r.target ++ (x.right ++ x.after)) i x.starts in
        let c : drop (i + length r.target) f ≡ x.right ++ x.after =
        sym (drop-drop (length r.target) i f) ∙ (ap (drop (length r.target)) b ∙ drop_at r.target (x.right ++ x.after) (length r.target) refl) in
        and_i (ap (ends_by k r.left) a ∙ part_ends x.before r.left x.left x.lefts)
        (and_i (ap (starts r.target) b ∙ split_starts r.target (x.right ++ x.after))
        (ap (starts_by k r.right) c ∙ part_starts r.right x.right x.after x.rights))

    -- where the test fails the rule does not fit, and the other way round
    pub not_fits : fits_by k r f i ≡ false → FitsAt k r f i → ⊥
    not_fits e x = clash (exact_fits x) e

    pub fits_not : i ≤ length f → (FitsAt k r f i → ⊥) → fits_by k r f i ≡ false
    fits_not inside h = by_bool (fits_by k r f i) (λ e. absurd (h (fits_exact inside e))) (λ e. e)
