-- Claims about every number below a bound, decided one after another.
-- Assumes nothing.
use mathlib.Core.Path.{◌≡◌, refl, sym, subst}
use Prim.Native.Nat.{ℕ, zero, suc, ◌+◌, ◌-◌, ◌≤◌, ◌<◌}
use native.Mathlib.Nat.{not-suc-le-zero}
use native.Mathlib.Omega.{arith}
use mathlib.Core.Bool.{Bool, true, false, not}
use mathlib.Core.List.{List}
use lib.ListN.{length, get_or, take}
use lib.Dec.{eqb}
use borrow.Author.Tests.{eqb-true, eqb-false}
use Rattle.std.specs.List.{IsAnyAnswer}
use Rattle.std.proofs.Common.{length-take}
use Rattle.std.proofs.lemmas.List.{get_or-take}
use Rattle.automaton.specs.Automaton.{rows_of, Sound, Needed}
use Rattle.automaton.proofs.Tests.{by_less, by_same, clash}
use Rattle.compaction.specs.Compaction.{Spread}
use Rattle.minimality.specs.Judging.{Decides, Apart}
use Rattle.minimality.specs.Chains.{Fresh}

abbrev pub AllTo : (ℕ → Type 0) → ℕ → Type 0
AllTo P k = (j : ℕ) → j < k → P j

pub all_next : (P : ℕ → Type 0) (k : ℕ) → AllTo P k → P k → AllTo P (k + 1)
all_next P k a p j l = by_same j k (λ e. subst P (sym e) p) (λ ne. a j (omega arith))

pub decided : (P Q : Type 0) (r : Bool) → (P → Q) → (Q → P) → Decides P r → Decides Q r
decided P Q r f g d = record { yes = λ e. f (d.yes e); no = λ e q. d.no e (g q) }

pub refuted : (P : Type 0) → (P → ⊥) → Decides P false
refuted P n = record { yes = λ e. clash e refl; no = λ e. n }

-- the answer was not true
pub fails : (P : Type 0) (r : Bool) → Decides P r → not r ≡ true → P → ⊥
fails P true d e = clash refl (sym e)
fails P false d e = d.no refl

pub holds : (P : Type 0) (r : Bool) → Decides P r → not r ≡ false → P
holds P true d e = d.yes refl
holds P false d e = clash refl e

-- ---- claims up to n, and n too

pub up_to : (P : ℕ → Type 0) (n : ℕ) (r : Bool) → Decides (AllTo P (n + 1)) r → Decides ((q : ℕ) → q ≤ n → P q) r
up_to P n r d = decided (AllTo P (n + 1)) ((q : ℕ) → q ≤ n → P q) r (λ a q l. a q (omega arith)) (λ a q l. a q (omega arith)) d

-- what `contains` answers when 0 is looked for in the first n + 1 numbers
pub none_zero : (m : List ℕ) (n : ℕ) (r : Bool) → n + 1 ≤ length m → IsAnyAnswer (λ y b. eqb y 0 ≡ b) (take (n + 1) m) r
    → Decides ((x : ℕ) → x ≤ n → 0 < get_or m x 0) (not r)
none_zero m n true h a =
    let t = length-take (n + 1) m in
    let l = a.1 in
    let x = get_or-take (n + 1) m a.0 0 (omega arith) in
    let z = eqb-true _ _ (a.2 0) in
    record { yes = λ e. clash e refl; no = λ e p. let u = p a.0 (omega arith) in absurd (omega arith) }
none_zero m n false h a =
    let t = length-take (n + 1) m in
    record {
      yes = λ e x l.
          let y = get_or-take (n + 1) m x 0 (omega arith) in
          let z = eqb-false _ _ (a x 0 (omega arith) (omega arith)) in
          omega arith;
      no = λ e. clash refl e;
    }

pub apart_yes : (ws : List ℕ) (n k : ℕ) → AllTo (Fresh ws) k → n < k → Decides (Apart (rows_of ws) n) true
apart_yes ws n k a h =
    record {
      yes = λ e i j p q x.
          by_less i j
          (λ l. absurd (a j (omega arith) i l x))
          (λ l. by_less j i (λ m. absurd (a i (omega arith) j m (λ c d. sym (x c d)))) (λ m. omega arith));
      no = λ e p. clash refl e;
    }

-- ---- every state needed

module _ (ws m : List ℕ) (n : ℕ) (q : Sound (rows_of ws) n) (sp : Spread ws n 0 m) where
  needed_of : ((x : ℕ) → x ≤ n → 0 < get_or m x 0) → Needed (rows_of ws) n
  needed_of a x z l =
      let y = sp.why x z l (a x (omega arith)) in
      let u = y.3 in
      (y.0, u.0, y.1, u.1, u.2)

  marked_within : Needed (rows_of ws) n → (b x : ℕ) → n - x < b → x ≤ n → 0 < get_or m x 0
  marked_within nd zero x h l = absurd (not-suc-le-zero h)
  marked_within nd (suc b) x h l =
      by_same x 0 (λ e. subst (λ (v : ℕ). 0 < get_or m v 0) (sym e) sp.zeroth)
      (λ nz. by_same x n (λ e. subst (λ (v : ℕ). 0 < get_or m v 0) (sym e) sp.root)
      (λ nn.
      let r = nd x (omega arith) (omega arith) in
      let j = r.0 in
      let c = r.1 in
      let e : rows_of ws j c ≡ x = r.4 in
      let o = q.earlier j c r.2 r.3 in
      let i = marked_within nd b j (omega arith) r.2 in
      subst (λ (v : ℕ). 0 < get_or m v 0) e (sp.closed j c (omega arith) r.2 i r.3)))

  pub needed_decided : (r : Bool) → Decides ((x : ℕ) → x ≤ n → 0 < get_or m x 0) r → Decides (Needed (rows_of ws) n) r
  needed_decided r d =
      decided ((x : ℕ) → x ≤ n → 0 < get_or m x 0) (Needed (rows_of ws) n) r needed_of (λ nd x l. marked_within nd (suc (n - x)) x (omega arith) l) d
