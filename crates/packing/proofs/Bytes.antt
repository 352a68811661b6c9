-- Packed phones come back.
-- Assumes nothing.
use mathlib.Core.Path.{◌≡◌, refl, sym, ap, ap₂, ◌∙◌, subst}
use Prim.Native.Nat.{ℕ, zero, suc, ◌+◌, ◌-◌, ◌*◌, ◌/◌, ◌%◌, ◌≤◌, ◌<◌}
use native.Mathlib.Omega.{arith}
use native.Mathlib.Nat.{not-suc-le-zero}
use mathlib.Core.List.{List, [], ◌∷◌, ◌++◌}
use Rattle.std.proofs.Common.{length-take, length-drop, length-append}
use Rattle.std.proofs.lemmas.List.{get_or-append_right, get_or-drop}
use lib.ListN.{length, get_or, set, take, drop, get_or-append, get_or-eq_default}
use Rattle.automaton.specs.Automaton.{Str, unless_zero, up_to}
use Rattle.automaton.specs.Changes.{Phones}
use Rattle.automaton.proofs.Tests.{by_less, by_same, by_nat}
use Rattle.automaton.proofs.Change.{up_to_ext}
use Rattle.states.specs.States.{Written}
use Rattle.states.proofs.Rows.{written_next}
use Rattle.packing.specs.Packing.{Bytes, group_at, count, table, groups_of, digit, byte_of, unpack}

table_get : (g : ℕ → ℕ) (n k : ℕ) → k < n → get_or (table g n) k 0 ≡ g k
table_get g zero k h = absurd (not-suc-le-zero h)
table_get g (suc n) zero h = refl
table_get g (suc n) (suc k) h = table_get (λ k. g (suc k)) n k (omega arith)

table_length : (g : ℕ → ℕ) (n : ℕ) → length (table g n) ≡ n
table_length g zero = refl
table_length g (suc n) = ap suc (table_length (λ k. g (suc k)) n)

pub up_to_list : (n : ℕ) (p : Str) → length p ≤ n → ((k : ℕ) → k < length p → 0 < get_or p k 0) → up_to n (λ k. get_or p k 0) ≡ p
up_to_list zero [] h a = refl
up_to_list zero (x ∷ p) h a = absurd (not-suc-le-zero h)
up_to_list (suc n) [] h a = refl
up_to_list (suc n) (x ∷ p) h a =
    by_nat x (λ e. let l = a 0 (omega arith) in absurd (omega arith))
    (λ y e. ap (λ (v : ℕ). unless_zero v (up_to n (λ k. get_or p k 0))) e
    ∙ ap₂ (λ (v : ℕ) (l : Str). v ∷ l) (sym e) (up_to_list n p (omega arith) (λ k l. a (suc k) (omega arith))))

digit_three : (i a b c : ℕ) → i < 3 → a < 256 → b < 256 → c < 256 → (i ≡ 0 → digit i (a + 256 * b + 65536 * c) ≡ a) × (i ≡ 1 → digit i (a + 256 * b + 65536 * c) ≡ b) × (i ≡ 2 → digit i (a + 256 * b + 65536 * c) ≡ c)
digit_three zero a b c h x y z = ((λ e. omega arith), (λ e. absurd (omega arith)), (λ e. absurd (omega arith)))
digit_three (suc zero) a b c h x y z = ((λ e. absurd (omega arith)), (λ e. omega arith), (λ e. absurd (omega arith)))
digit_three (suc (suc i)) a b c h x y z = ((λ e. absurd (omega arith)), (λ e. absurd (omega arith)), (λ e. omega arith))

pub digit_none : (i : ℕ) → digit i 0 ≡ 0
digit_none zero = omega arith
digit_none (suc zero) = omega arith
digit_none (suc (suc i)) = omega arith

module _ (p : Str) (t : Bytes p) where
  byte_small : (k : ℕ) → get_or p k 0 < 256
  byte_small k = by_less k (length p) (λ h. t.bytes k h) (λ h. let e : get_or p k 0 ≡ 0 = get_or-eq_default p 0 h in omega arith)

  -- each phone is where it was put
  pub byte_back : (j : ℕ) → byte_of (groups_of p) j ≡ get_or p j 0
  unfolding byte_of groups_of count group_at
  byte_back j =
      by_less (j / 3) ((length p + 2) / 3)
      (λ h.
      let e = table_get (group_at p) ((length p + 2) / 3) (j / 3) h in
      let d = digit_three (j % 3) (get_or p (3 * (j / 3)) 0) (get_or p (3 * (j / 3) + 1) 0) (get_or p (3 * (j / 3) + 2) 0) (omega arith) (byte_small (3 * (j / 3))) (byte_small (3 * (j / 3) + 1)) (byte_small (3 * (j / 3) + 2)) in
      ap (digit (j % 3)) e
      ∙ by_same (j % 3) 0
      (λ o. let z : 3 * (j / 3) ≡ j = omega arith in d.0 o ∙ ap (λ (v : ℕ). get_or p v 0) z)
      (λ o. by_same (j % 3) 1
      (λ u. let z : 3 * (j / 3) + 1 ≡ j = omega arith in d.1 u ∙ ap (λ (v : ℕ). get_or p v 0) z)
      (λ u. let z : 3 * (j / 3) + 2 ≡ j = omega arith in d.2 (omega arith) ∙ ap (λ (v : ℕ). get_or p v 0) z)))
      (λ h.
      let l = table_length (group_at p) ((length p + 2) / 3) in
      let e : get_or (table (group_at p) ((length p + 2) / 3)) (j / 3) 0 ≡ 0 = get_or-eq_default (table (group_at p) ((length p + 2) / 3)) 0 (omega arith) in
      let o : get_or p j 0 ≡ 0 = get_or-eq_default p 0 (omega arith) in
      ap (digit (j % 3)) e ∙ (digit_none (j % 3) ∙ sym o))

  -- packed phones come back
  pub unpack_pack : unpack (groups_of p) ≡ p
  unfolding unpack
  unpack_pack = up_to_ext 64 (byte_of (groups_of p)) (λ k. get_or p k 0) (λ k l. byte_back k) ∙ up_to_list 64 p t.few t.sounded

  pub groups-good : Phones (groups_of p)
  unfolding groups_of count group_at
  groups-good =
      let f = t.few in
      let l = table_length (group_at p) ((length p + 2) / 3) in
      record {
        few = omega arith;
        sounded = λ k h. let e = table_get (group_at p) ((length p + 2) / 3) k (omega arith) in let s = t.sounded (3 * k) (omega arith) in omega arith;
        bytes = λ k h.
            let e = table_get (group_at p) ((length p + 2) / 3) k (omega arith) in
            let a = byte_small (3 * k) in
            let b = byte_small (3 * k + 1) in
            let c = byte_small (3 * k + 2) in omega arith;
      }

-- ---- the groups as they are written

take_table : (v : ℕ → ℕ) (n : ℕ) (m : List ℕ) → n ≤ length m → ((j : ℕ) → j < n → get_or m j 0 ≡ v j) → take n m ≡ table v n
take_table v zero m h a = refl
take_table v (suc n) [] h a = absurd (not-suc-le-zero h)
take_table v (suc n) (x ∷ m) h a = ap₂ (λ (y : ℕ) (l : List ℕ). y ∷ l) (a 0 (omega arith)) (take_table (λ k. v (suc k)) n m (omega arith) (λ j l. a (suc j) (omega arith)))

pub packed_is : (p : Str) (k : ℕ) (m₀ m : List ℕ) → k ≡ count p → Written (group_at p) 0 k m₀ m → k ≤ length m → take k m ≡ groups_of p
unfolding groups_of
packed_is p k m₀ m e w h =
    take_table (group_at p) k m h (λ j l. let z : j ≡ 0 + j = omega arith in ap (λ (t : ℕ). get_or m t 0) z ∙ w.done j l) ∙ ap (table (group_at p)) e

pub count-few : (p : Str) → length p ≤ 64 → count p ≤ 22
unfolding count
count-few p h = omega arith

pub group_is : (p : Str) (k a b c : ℕ) → a ≡ get_or p (3 * k) 0 → b ≡ get_or p (3 * k + 1) 0 → c ≡ get_or p (3 * k + 2) 0 → a + 256 * b + 65536 * c ≡ group_at p k
unfolding group_at
group_is p k a b c x y z = omega arith

-- the first groups written, and the others kept
pub pack_end : (p : Str) (k n : ℕ) (m g : List ℕ) → n ≡ (length p + 2) / 3 → k ≡ n → n ≤ length m → Written (group_at p) 0 k (take n m) g
    → (n ≡ count p) × Written (group_at p) 0 n m (g ++ drop n m)
unfolding count
pack_end p k n m g e q h w =
    let l = w.long in
    let t = length-take n m in
    let o : length g ≡ n = omega arith in (
      e,
      record {
        done = λ j s. get_or-append g (drop n m) 0 (0 + j) (omega arith) ∙ w.done j (omega arith);
        before = λ x s. absurd (not-suc-le-zero s);
        after = λ x s.
            let z : n + (x - n) ≡ x = omega arith in
            get_or-append_right g (drop n m) n x 0 o (omega arith) ∙ (get_or-drop n m (x - n) 0 ∙ ap (λ (i : ℕ). get_or m i 0) z);
        long = length-append g (drop n m) ∙ (let d = length-drop n m in omega arith);
      },
    )

pub pack_within : (p : Str) (k : ℕ) (m₀ m : List ℕ) → length p ≤ 64 → 22 ≤ length m₀ → (k ≡ count p) × Written (group_at p) 0 k m₀ m → k ≤ length m
pack_within p k m₀ m h r w = let f = count-few p h in let l = w.1.long in let e = w.0 in omega arith

pub take-length : (k : ℕ) (m : List ℕ) → k ≤ length m → k ≡ length (take k m)
take-length zero m h = refl
take-length (suc k) [] h = absurd (not-suc-le-zero h)
take-length (suc k) (x ∷ m) h = ap suc (take-length k m (omega arith))
