-- Rules that are fine one after the other are those whose numbers differ and lie from 1 to last, whose classes are defined and that have at most 512
-- literal rules.
-- Assumes nothing.
use Prim.Native.Nat.{ℕ, ◌+◌, ◌≤◌}
use mathlib.Core.Path.{◌≡◌, refl, sym, ap, ◌∙◌}
use mathlib.Core.List.{List, [], ◌∷◌, ◌++◌}
use mathlib.Core.Bool.{Bool, true, false, not, ◌&&◌, ◌||◌, or_assoc}
use native.Mathlib.Omega.{arith}
use borrow.Author.Tests.{eqb-true, eq-eqb, not-true, leb-true, le-leb}
use lib.Dec.{eqb}
use Rattle.rules.specs.Limits.{max_rules}
use Rattle.rules.proofs.Cases.{by_bool, and_i, or_r, new_l, new_r, new_i}
use Rattle.rules.specs.Shape.{Entry}
use Rattle.classes.specs.Classes.{Classes, defined}
use Rattle.classes.specs.Expansion.{literal_count, literal_total}
use Rattle.classes.proofs.Counts.{total_append}
use Rattle.image.specs.State.{entry, entries, member, distinct, all_defined}
use Rattle.file_format.specs.File.{fine}
use Rattle.file_format.proofs.Bodies.{clash, both}

pub member_append : (k : ℕ) (a b : List Entry) → member k (a ++ b) ≡ (member k a || member k b)
member_append k [] b = refl
member_append k (x ∷ a) b = ap (λ (t : Bool). eqb x.number k || t) (member_append k a b) ∙ sym (or_assoc (eqb x.number k) (member k a) (member k b))

pub total_more : (k : Classes) (l : List Entry) (x : Entry) → literal_total k (l ++ (x ∷ [])) ≡ literal_total k l + literal_count k x.rule
total_more k l x = omega (arith, total_append k l (x ∷ []))

-- each of the rules is fine after those of `done` and those before it
abbrev pub fine_all : ℕ → Classes → List Entry → List Entry → Bool
fine_all last k done [] = true
fine_all last k done (e ∷ es) = fine last k done e && fine_all last k (done ++ (e ∷ [])) es

-- what is fine of one rule
pub record Fine (last : ℕ) (k : Classes) (done : List Entry) (e : Entry) : Type 0 where
  pub shaped : entry last e ≡ true
  pub new : member e.number done ≡ false
  pub uses : defined k e.rule ≡ true
  pub few : literal_total k done + literal_count k e.rule ≤ max_rules

pub fine_is : (last : ℕ) (k : Classes) (done : List Entry) (e : Entry) → fine last k done e ≡ true → Fine last k done e
fine_is last k done e h =
    let a = both (entry last e) _ h in
    let b = both (not (member e.number done)) _ a.1 in
    let c = both (defined k e.rule) _ b.1 in
    record { shaped = a.0; new = not-true (member e.number done) b.0; uses = c.0; few = leb-true (literal_total k done + literal_count k e.rule) max_rules c.1 }

pub is_fine : (last : ℕ) (k : Classes) (done : List Entry) (e : Entry) → Fine last k done e → fine last k done e ≡ true
is_fine last k done e f = and_i f.shaped (new_i f.new (and_i f.uses (le-leb _ _ f.few)))

pub record Apart (last : ℕ) (k : Classes) (done es : List Entry) : Type 0 where
  pub all : entries last es ≡ true
  pub differ : distinct es ≡ true
  pub apart : (n : ℕ) → member n done ≡ true → member n es ≡ false
  pub uses : all_defined k es ≡ true
  pub few : literal_total k done + literal_total k es ≤ max_rules

self : (e : Entry) (es : List Entry) → member e.number (e ∷ es) ≡ true
self e es = rw (eq-eqb e.number e.number refl)

pub fine_apart : (last : ℕ) (k : Classes) (es done : List Entry) → literal_total k done ≤ max_rules → fine_all last k done es ≡ true → Apart last k done es
fine_apart last k [] done u h = record { all = refl; differ = refl; apart = λ n m. refl; uses = refl; few = omega arith }
fine_apart last k (e ∷ es) done u h =
    let a = both (fine last k done e) _ h in
    let b = fine_is last k done e a.0 in
    let m = b.new in
    let i = fine_apart last k es (done ++ (e ∷ [])) (omega (arith, total_more k done e, b.few)) a.1 in
    record {
      all = and_i b.shaped i.all;
      differ = new_i (i.apart e.number (member_append e.number done (e ∷ []) ∙ rw (m, eq-eqb e.number e.number refl))) i.differ;
      apart = λ n t.
          by_bool (eqb e.number n)
          (λ q. clash t (ap (λ (j : ℕ). member j done) (sym (eqb-true e.number n q)) ∙ m))
          (λ q. rw q (i.apart n (member_append n done (e ∷ []) ∙ rw t)));
      uses = and_i b.uses i.uses;
      few = omega (arith, total_more k done e, i.few);
    }

pub apart_fine : (last : ℕ) (k : Classes) (es done : List Entry) → Apart last k done es → fine_all last k done es ≡ true
apart_fine last k [] done h = refl
apart_fine last k (e ∷ es) done h =
    let a = both (entry last e) _ h.all in
    let n = new_l (member e.number es) _ h.differ in
    let c = both (defined k e.rule) _ h.uses in
    let m : member e.number done ≡ false = by_bool (member e.number done) (λ t. clash (self e es) (h.apart e.number t)) (λ t. t) in
    and_i (is_fine last k done e (record { shaped = a.0; new = m; uses = c.0; few = omega (arith, h.few) }))
    (apart_fine last k es (done ++ (e ∷ [])) (record {
      all = a.1;
      differ = new_r (member e.number es) _ h.differ;
      apart = λ j t.
          by_bool (member j done)
          (λ q. or_r (eqb e.number j) _ (h.apart j q))
          (λ q.
          let t' : (eqb e.number j || false) ≡ true = rw q at (sym (member_append j done (e ∷ [])) ∙ t) in
          by_bool (eqb e.number j) (λ u. ap (λ (i : ℕ). member i es) (sym (eqb-true e.number j u)) ∙ n) (λ u. clash (rw u at t') refl));
      uses = c.1;
      few = omega (arith, total_more k done e, h.few);
    }))
