-- How many names are listed after a change, and whether they are too many.
-- Assumes nothing.
use mathlib.Core.Path.{◌≡◌, refl, ap, ap₂}
use Prim.Native.Nat.{ℕ, zero, suc, ◌+◌, ◌≤◌, min}
use native.Mathlib.Omega.{arith}
use mathlib.Core.Bool.{true}
use mathlib.Core.List.{List, [], ◌∷◌, ◌++◌, map}
use lib.Dec.{ltb}
use lib.ListN.{length}
use borrow.Author.Tests.{ltb-true, ltb-false}
use Rattle.rules.specs.Limits.{max_name, max_listed}
use Rattle.automaton.specs.Automaton.{Str, Rows, rows_of, look, Letters, Sound}
use Rattle.automaton.specs.Listing.{own, names}
use Rattle.automaton.specs.Totals.{total}
use Rattle.automaton.proofs.Tests.{clash}
use Rattle.automaton.proofs.NameLengths.{each_same}
use Rattle.automaton.proofs.Listing.{count_changed}
use Rattle.automaton.proofs.Totals.{total_64}
use Rattle.minimality.specs.Judging.{Decides}
use Rattle.measures.specs.Measures.{Short}
use Rattle.exceptions.specs.Layout.{start_of, names_in}
use Rattle.exceptions.specs.Judging.{IsList}
use Rattle.change.specs.Steps.{names_after}

pub never_cons {ℓ} : {A : Type ℓ} (x : ℕ) (p : Str) → x ∷ p ≡ [] → A
never_cons x p e = let z : ◌≡◌ {A = ℕ} 0 1 = cc in absurd (omega arith)

-- which names there are depends on which have phones alone
pub names_alike : (h : ℕ) (m k : Str → Str) → ((w : Str) → Letters w → own (m w) ≡ own (k w)) → names h m ≡ names h k
unfolding names
names_alike zero m k a = a [] tt
names_alike (suc h) m k a =
    ap₂ (λ (x y : List Str). x ++ y) (a [] tt)
    (each_same (λ c. map (λ (w : Str). c ∷ w) (names h (λ w. m (c ∷ w)))) (λ c. map (λ (w : Str). c ∷ w) (names h (λ w. k (c ∷ w)))) 1 63
    (λ d x y. ap (map (λ (w : Str). d ∷ w)) (names_alike h (λ w. m (d ∷ w)) (λ w. k (d ∷ w)) (λ w t. a (d ∷ w) (omega arith, omega arith, t)))))

pub names_same : (h : ℕ) (m k : Str → Str) → ((w : Str) → Letters w → m w ≡ k w) → names h m ≡ names h k
names_same h m k a = names_alike h m k (λ w t. ap own (a w t))

pub own_alike : (p q : Str) → (p ≡ [] → q ≡ []) → (q ≡ [] → p ≡ []) → own p ≡ own q
own_alike [] [] a b = refl
own_alike [] (y ∷ q) a b = never_cons y q (a refl)
own_alike (x ∷ p) [] a b = never_cons x p (b refl)
own_alike (x ∷ p) (y ∷ q) a b = refl

-- what is not something is nothing
pub nothing_else : (p : Str) → ((p ≡ [] → ⊥) → ⊥) → p ≡ []
nothing_else [] h = refl
nothing_else (x ∷ p) h = absurd (h (λ e. never_cons x p e))

-- no name of over 64 letters is listed, so that those of at most 64 are all
pub names_all : (f : Rows) (n : ℕ) → Sound f n → Short f n → length (names 64 (look f n)) ≡ total f n
names_all f n s a = total_64 f n s (λ w t l. nothing_else (look f n w) (λ ne. let o = a w t ne in omega arith))

own_none : (p : Str) → p ≡ [] → length (own p) ≡ 0
own_none p e = ap (λ (t : Str). length (own t)) e

own_some : (p : Str) → (p ≡ [] → ⊥) → length (own p) ≡ 1
own_some [] ne = absurd (ne refl)
own_some (x ∷ p) ne = refl

own_most : (p : Str) → length (own p) ≤ 1
own_most [] = omega arith
own_most (x ∷ p) = omega arith

module _ (ws : List ℕ) (name g : Str) (l : IsList ws) (t : Letters name) (few : length name ≤ max_name) where
  counted : names_after ws name g + length (own (look (rows_of ws) (start_of ws) name)) ≡ names_in ws + length (own g)
  unfolding names_after names_in
  counted =
      let a = count_changed 64 name g (look (rows_of ws) (start_of ws)) t few in
      let b = names_all (rows_of ws) (start_of ws) l.sound l.letters in
      omega arith

  -- a name that is removed, or was listed before, makes them no more
  pub removed_fits : g ≡ [] → Decides (names_after ws name g ≤ max_listed) true
  removed_fits e = let c = counted in let o = own_none g e in let n = l.names in record { yes = λ z. omega arith; no = λ z. clash refl z }

  pub listed_fits : (look (rows_of ws) (start_of ws) name ≡ [] → ⊥) → Decides (names_after ws name g ≤ max_listed) true
  listed_fits ne =
      let c = counted in
      let o = own_some (look (rows_of ws) (start_of ws) name) ne in
      let m = own_most g in
      let n = l.names in
      record { yes = λ z. omega arith; no = λ z. clash refl z }

  -- any other name makes them one more
  pub more_fits : look (rows_of ws) (start_of ws) name ≡ [] → (g ≡ [] → ⊥) → (v : ℕ) → v ≡ min 1001 (total (rows_of ws) (start_of ws)) → Decides (names_after ws name g ≤ max_listed) (ltb v max_listed)
  unfolding names_in
  more_fits e ne v q =
      let c = counted in
      let o = own_none (look (rows_of ws) (start_of ws) name) e in
      let m = own_some g ne in
      let n = l.names in
      record {
        yes = λ z. let y = ltb-true v max_listed z in omega arith;
        no = λ z h. let y = ltb-false v max_listed z in omega arith;
      }
