-- Contested letters (document 02, request 4): more than one rule fits at a position exactly where two rules, at different places, do, and those
-- that are counted of what a reading applies are just these.
-- Assumes nothing.
use Prim.Native.Nat.{ℕ, zero, suc, ◌+◌, ◌<◌}
use mathlib.Core.Path.{◌≡◌, refl, sym, ap, ◌∙◌, subst}
use mathlib.Core.List.{List, [], ◌∷◌, ◌++◌, map-append}
use native.Mathlib.Omega.{arith}
use borrow.Author.Tests.{ltb-true, ltb-false}
use lib.Dec.{ltb}
use lib.ListN.{length, get_or}
use Rattle.rules.proofs.Cases.{by_bool}
use Rattle.rules.specs.Shape.{Entry}
use Rattle.classes.specs.Classes.{Classes}
use Rattle.image.specs.State.{no_entry}
use Rattle.fitting.specs.Fitting.{Str, frame, FitsAt}
use Rattle.fitting.specs.Reading.{Application, Piece, applied, past}
use Rattle.speech.specs.Speech.{contested_in, contested_of}
use Rattle.reading.specs.Meaning.{Fitting, none, one, other, Contested, Arrives, begins, goes, Contests, nowhere, there, elsewhere, pieces_of}

module _ (k : Classes) (w : Str) (i : ℕ) where
  -- the rule at some place fits
  record Found (rules : List Entry) : Type 0 where
    place : ℕ
    inside : place < length rules
    fits : FitsAt k (get_or rules place no_entry).rule (frame w) i

  some_fits : (rules : List Entry) (n : ℕ) → Fitting k (frame w) i rules n → 0 < n → Found rules
  some_fits [] n none h = absurd (omega arith)
  some_fits (r ∷ rs) j (one {n} y c) h = record { place = 0; inside = omega arith; fits = y }
  some_fits (r ∷ rs) j (other {n} y c) h = let f = some_fits rs n c h in record { place = suc f.place; inside = omega (arith, f.inside); fits = f.fits }

  fits_some : (rules : List Entry) (n : ℕ) → Fitting k (frame w) i rules n → (p : ℕ) → p < length rules → FitsAt k (get_or rules p no_entry).rule (frame w) i → 0 < n
  fits_some [] n none p h f = absurd (omega arith)
  fits_some (r ∷ rs) j (one {n} y c) p h f = omega arith
  fits_some (r ∷ rs) j (other {n} y c) zero h f = absurd (y f)
  fits_some (r ∷ rs) j (other {n} y c) (suc p) h f = fits_some rs n c p (omega arith) f

  pub several_contested : (rules : List Entry) (n : ℕ) → Fitting k (frame w) i rules n → 1 < n → Contested k rules w i
  several_contested [] n none h = absurd (omega arith)
  several_contested (r ∷ rs) j (one {n} y c) h =
      let f = some_fits rs n c (omega arith) in
      record { first = 0; second = suc f.place; ordered = omega arith; inside = omega (arith, f.inside); first_fits = y; second_fits = f.fits }
  several_contested (r ∷ rs) j (other {n} y c) h =
      let d = several_contested rs n c h in
      record {
        first = suc d.first;
        second = suc d.second;
        ordered = omega (arith, d.ordered);
        inside = omega (arith, d.inside);
        first_fits = d.first_fits;
        second_fits = d.second_fits;
      }

  two_fit : (rules : List Entry) (n : ℕ) → Fitting k (frame w) i rules n → (p q : ℕ) → p < q → q < length rules
      → FitsAt k (get_or rules p no_entry).rule (frame w) i → FitsAt k (get_or rules q no_entry).rule (frame w) i → 1 < n
  two_fit [] n none p q o h f g = absurd (omega arith)
  two_fit (r ∷ rs) j (one {n} y c) p zero o h f g = absurd (omega arith)
  two_fit (r ∷ rs) j (one {n} y c) p (suc q) o h f g = omega (arith, fits_some rs n c q (omega arith) g)
  two_fit (r ∷ rs) j (other {n} y c) zero q o h f g = absurd (y f)
  two_fit (r ∷ rs) j (other {n} y c) (suc p) zero o h f g = absurd (omega arith)
  two_fit (r ∷ rs) j (other {n} y c) (suc p) (suc q) o h f g = two_fit rs n c p q (omega arith) (omega arith) f g

  pub contested_several : (rules : List Entry) (n : ℕ) → Fitting k (frame w) i rules n → Contested k rules w i → 1 < n
  contested_several rules n c d = two_fit rules n c d.first d.second d.ordered d.inside d.first_fits d.second_fits

-- ---- what is counted

pub contested_append : (xs ys : List Piece) → contested_of (xs ++ ys) ≡ contested_of xs + contested_of ys
contested_append [] ys = omega arith
contested_append (x ∷ xs) ys = omega (arith, contested_append xs ys)

module _ (k : Classes) (rules : List Entry) (w : Str) where
  pub contests : {i : ℕ} {rs : List Application} (b : Arrives k rules w i rs) → Contests k rules w i rs b (contested_of (pieces_of rs))
  contests begins = nowhere
  contests (goes {i} {rs} a b h p) =
      by_bool (ltb 1 a.fitting)
      (λ q.
      subst (Contests k rules w (past i a) (rs ++ (a ∷ [])) (goes a b h p)) (sym (all 1 (rw q refl)))
      (there a h p (several_contested k w i rules a.fitting p.many (ltb-true 1 a.fitting q)) (contests b)))
      (λ q.
      subst (Contests k rules w (past i a) (rs ++ (a ∷ [])) (goes a b h p)) (sym (all 0 (rw q refl) ∙ omega arith))
      (elsewhere a h p (λ d. let u = contested_several k w i rules a.fitting p.many d in let v = ltb-false 1 a.fitting q in omega arith) (contests b)))
    where
      all : (n : ℕ) → contested_in (applied a) ≡ n → contested_of (pieces_of (rs ++ (a ∷ []))) ≡ contested_of (pieces_of rs) + n
      all n e = ap contested_of (map-append applied rs (a ∷ [])) ∙ omega (arith, contested_append (pieces_of rs) (applied a ∷ []))
