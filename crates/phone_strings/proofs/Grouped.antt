-- The cells that hold the phones of a state decide whether these are packed.
-- Assumes nothing.
use mathlib.Core.Path.{◌≡◌, refl, sym, ap, ap₂, ◌∙◌, subst}
use Prim.Native.Nat.{ℕ, suc, ◌+◌, ◌-◌, ◌*◌, ◌/◌, ◌%◌, ◌≤◌, ◌<◌}
use native.Mathlib.Omega.{arith}
use mathlib.Core.Bool.{Bool, true, false}
use mathlib.Core.List.{List}
use lib.Dec.{eqb}
use borrow.Author.Tests.{eqb-true, eqb-false}
use Rattle.automaton.specs.Automaton.{rows_of, Padded}
use Rattle.automaton.proofs.Tests.{by_less, by_same, by_nat, clash}
use Rattle.minimality.specs.Judging.{Decides}
use Rattle.minimality.proofs.Scan.{decided, refuted}
use Rattle.packing.specs.Packing.{digit, byte_at}
use Rattle.phone_strings.specs.Packed.{Packed}
use Rattle.phone_strings.specs.Groups.{PhoneCells, GroupGood, GroupsGood}

-- ---- one group

pub good_first : (n k v : ℕ) → v % 256 ≡ 0 → Decides (GroupGood n k v) false
good_first n k v z = refuted (GroupGood n k v) (λ g. let h = g.first in omega arith)

pub good_one : (n k v : ℕ) → (v % 256 ≡ 0 → ⊥) → v < 256 → Decides (GroupGood n k v) (eqb (k + 1) n)
good_one n k v ne h =
    record {
      yes = λ t. let e = eqb-true (k + 1) n t in record { first = omega arith; second = λ l. absurd (omega arith); last = λ l. omega arith; short = λ l. h };
      no = λ t g. let e = g.last (omega arith) in eqb-false (k + 1) n t (omega arith);
    }

pub good_second : (n k v : ℕ) → 256 ≤ v → v / 256 % 256 ≡ 0 → Decides (GroupGood n k v) false
good_second n k v h z = refuted (GroupGood n k v) (λ g. let s = g.second h in omega arith)

pub good_long : (n k v : ℕ) → 256 ≤ v → k ≡ 21 → Decides (GroupGood n k v) false
good_long n k v h e = refuted (GroupGood n k v) (λ g. let s = g.short e in omega arith)

pub good_two : (n k v : ℕ) → (v % 256 ≡ 0 → ⊥) → (v / 256 % 256 ≡ 0 → ⊥) → (k ≡ 21 → ⊥) → v < 65536 → Decides (GroupGood n k v) (eqb (k + 1) n)
good_two n k v a b d h =
    record {
      yes = λ t. let e = eqb-true (k + 1) n t in record { first = omega arith; second = λ l. omega arith; last = λ l. omega arith; short = λ l. absurd (d l) };
      no = λ t g. let e = g.last h in eqb-false (k + 1) n t (omega arith);
    }

pub good_three : (n k v : ℕ) → (v % 256 ≡ 0 → ⊥) → (v / 256 % 256 ≡ 0 → ⊥) → (k ≡ 21 → ⊥) → 65536 ≤ v → Decides (GroupGood n k v) true
good_three n k v a b d h =
    record {
      yes = λ t. record { first = omega arith; second = λ l. omega arith; last = λ l. absurd (omega arith); short = λ l. absurd (d l) };
      no = λ t g. clash refl t;
    }

-- ---- the bytes of groups

-- the bytes of the groups g 0 to g 21: none but 0 after a 0, at most 64
pub record Grouped (g : ℕ → ℕ) : Type 0 where
  pub first : (k : ℕ) → k < 22 → 0 < g k → 0 < g k % 256
  pub second : (k : ℕ) → k < 22 → 256 ≤ g k → 0 < g k / 256 % 256
  pub last : (k : ℕ) → k < 21 → g k < 65536 → g (suc k) ≡ 0
  pub short : g 21 < 256

abbrev pub byte : (ℕ → ℕ) → ℕ → ℕ
byte g j = digit (j % 3) (g (j / 3))

pub byte_is : (g : ℕ → ℕ) (j k d : ℕ) → j / 3 ≡ k → j % 3 ≡ d → byte g j ≡ digit d (g k)
byte_is g j k d a b = ap₂ (λ (u v : ℕ). digit u (g v)) b a

-- byte d of group k of a state
pub byte_in : (ws : List ℕ) (q k d : ℕ) → d < 3 → byte_at (rows_of ws) q (3 * k + d) ≡ digit d (rows_of ws q (64 + k))
unfolding byte_at
byte_in ws q k d h = byte_is (λ k. rows_of ws q (64 + k)) (3 * k + d) k d (omega arith) (omega arith)

-- byte j is 0, then byte j + 1 is
grouped_padded : (g : ℕ → ℕ) → Grouped g → Padded 66 (byte g)
grouped_padded g s j h z =
    by_same (j % 3) 0
    (λ d.
    let x : digit 0 (g (j / 3)) ≡ 0 = sym (byte_is g j (j / 3) 0 refl d) ∙ z in
    let none : g (j / 3) ≡ 0 = by_nat (g (j / 3)) (λ e. e) (λ y e. let f = s.first (j / 3) (omega arith) (omega arith) in absurd (omega arith)) in
    byte_is g (suc j) (j / 3) 1 (omega arith) (omega arith) ∙ ap (digit 1) none)
    (λ a. by_same (j % 3) 1
    (λ d.
    let x : digit 1 (g (j / 3)) ≡ 0 = sym (byte_is g j (j / 3) 1 refl d) ∙ z in
    let small : g (j / 3) < 256 = by_less (g (j / 3)) 256 (λ l. l) (λ l. let f = s.second (j / 3) (omega arith) l in absurd (omega arith)) in
    byte_is g (suc j) (j / 3) 2 (omega arith) (omega arith) ∙ (let y : digit 2 (g (j / 3)) ≡ 0 = omega arith in y))
    (λ b.
    let d : j % 3 ≡ 2 = omega arith in
    let x : digit 2 (g (j / 3)) ≡ 0 = sym (byte_is g j (j / 3) 2 refl d) ∙ z in
    let none : g (suc (j / 3)) ≡ 0 = s.last (j / 3) (omega arith) (omega arith) in
    byte_is g (suc j) (suc (j / 3)) 0 (omega arith) (omega arith) ∙ ap (digit 0) none))

-- bytes with none after a 0
module _ (g : ℕ → ℕ) (p : Padded 66 (byte g)) where
  next : (k d : ℕ) → k < 22 → d < 2 → digit d (g k) ≡ 0 → digit (suc d) (g k) ≡ 0
  next k d h l z =
      sym (byte_is g (suc (3 * k + d)) k (suc d) (omega arith) (omega arith))
      ∙ p (3 * k + d) (omega arith) (byte_is g (3 * k + d) k d (omega arith) (omega arith) ∙ z)

  none : (k : ℕ) → k < 22 → digit 0 (g k) ≡ 0 → g k ≡ 0
  none k h z =
      let y = next k 0 h (omega arith) z in
      let x = next k 1 h (omega arith) y in
      omega arith

  grouped_of : byte g 64 ≡ 0 → Grouped g
  grouped_of z =
      record {
        first = λ k h l. by_nat (g k % 256) (λ e. let y = none k h e in absurd (omega arith)) (λ y e. omega arith);
        second = λ k h l. by_nat (g k / 256 % 256) (λ e. let y = next k 1 h (omega arith) e in absurd (omega arith)) (λ y e. omega arith);
        last = λ k h l.
            let y : digit 2 (g k) ≡ 0 = omega arith in
            none (suc k) (omega arith)
            (sym (byte_is g (suc (3 * k + 2)) (suc k) 0 (omega arith) (omega arith))
            ∙ p (3 * k + 2) (omega arith) (byte_is g (3 * k + 2) k 2 (omega arith) (omega arith) ∙ y));
        short = let y = next 21 1 (omega arith) (omega arith) z in omega arith;
      }

-- good groups, where there are m and then none
module _ (m : ℕ) (g : ℕ → ℕ) (some : (k : ℕ) → k < m → 0 < g k) (none : (k : ℕ) → m ≤ k → g k ≡ 0) where
  grouped_to : ((k : ℕ) → k < m → GroupGood m k (g k)) → Grouped g
  grouped_to a =
      record {
        first = λ k h l. by_less k m (λ o. (a k o).first) (λ o. let z = none k o in absurd (omega arith));
        second = λ k h l. by_less k m (λ o. (a k o).second l) (λ o. let z = none k o in absurd (omega arith));
        last = λ k h l. by_less k m (λ o. let z = (a k o).last l in none (suc k) (omega arith)) (λ o. none (suc k) (omega arith));
        short = by_less 21 m (λ o. (a 21 o).short refl) (λ o. let z = none 21 o in omega arith);
      }

  grouped_from : m ≤ 22 → Grouped g → (k : ℕ) → k < m → GroupGood m k (g k)
  grouped_from few s k h =
      record {
        first = s.first k (omega arith) (some k h);
        second = s.second k (omega arith);
        last = λ l. by_same (suc k) m (λ e. e) (λ ne. let z = s.last k (omega arith) l in let y = some (suc k) (omega arith) in absurd (omega arith));
        short = λ e. subst (λ (t : ℕ). g t < 256) (sym e) s.short;
      }

-- ---- the cells decide

-- what is decided of the cells is decided of the phones
pub packed_decided : (ws : List ℕ) (q i e : ℕ) (r : Bool) → PhoneCells ws q i e → Decides (GroupsGood ws i (e - i)) r → Decides (Packed (rows_of ws) q) r
unfolding byte_at
packed_decided ws q i e r s d =
    let m = e - i in
    let g : ℕ → ℕ = λ k. rows_of ws q (64 + k) in
    let some : (k : ℕ) → k < m → 0 < g k = λ k h. subst (λ (v : ℕ). 0 < v) (sym (s.same k h)) (s.some k h) in
    decided (GroupsGood ws i m) (Packed (rows_of ws) q) r
    (λ a.
    let x = grouped_to m g some s.none (λ k h. subst (GroupGood m k) (sym (s.same k h)) (a k h)) in
    record {
      padded = grouped_padded g x;
      short = let b = x.short in let y : digit 1 (g 21) ≡ 0 = omega arith in byte_is g 64 21 1 refl refl ∙ y;
    })
    (λ p k h. subst (GroupGood m k) (s.same k h) (grouped_from m g some s.none s.few (grouped_of g p.padded p.short) k h))
    d
