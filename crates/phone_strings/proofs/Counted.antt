-- How many phones the cells of a state hold: three in each but the last, and the bytes of the last up to a 0.
-- Assumes nothing.
use mathlib.Core.Path.{◌≡◌, sym, ap, ◌∙◌, subst}
use Prim.Native.Nat.{ℕ, zero, suc, ◌+◌, ◌-◌, ◌*◌, ◌/◌, ◌%◌, ◌≤◌, ◌<◌}
use native.Mathlib.Omega.{arith}
use mathlib.Core.List.{List}
use lib.ListN.{get_or}
use Rattle.automaton.specs.Automaton.{val_of, rows_of, Padded}
use Rattle.automaton.proofs.Tests.{by_less, by_same, by_nat}
use Rattle.packing.specs.Packing.{digit, byte_at, StateAsks}
use Rattle.packing.proofs.Bytes.{digit_none}
use Rattle.packing.proofs.StatePhones.{said_length, phones_get}
use Rattle.phone_strings.specs.Packed.{Packed}
use Rattle.phone_strings.specs.Groups.{PhoneCells, LastBytes, byte_from, HoldsPhones}
use Rattle.phone_strings.proofs.Grouped.{byte_in}

-- what stands before a number above 0 is above 0
some_before : (n : ℕ) (g : ℕ → ℕ) → Padded n g → (k : ℕ) → k < n → 0 < g k → (j : ℕ) → j ≤ k → 0 < g j
some_before n g p zero h s j l = let z : j ≡ 0 = omega arith in subst (λ (x : ℕ). 0 < g x) (sym z) s
some_before n g p (suc k) h s j l =
    by_same j (suc k)
    (λ e. subst (λ (x : ℕ). 0 < g x) (sym e) s)
    (λ ne. some_before n g p k (omega arith) (by_nat (g k) (λ z. let y = p k h z in absurd (omega arith)) (λ y z. omega arith)) j (omega arith))

module _ (ws : List ℕ) (n q i e : ℕ) (t : StateAsks ws n q) (g : PhoneCells ws q i e) where
  past_cells : byte_at (rows_of ws) q (3 * (e - i) + 0) ≡ 0
  past_cells = byte_in ws q (e - i) 0 (omega arith) ∙ (ap (digit 0) (g.none (e - i) (omega arith)) ∙ digit_none 0)

  bytes_same : (j : ℕ) → j < 3 * (e - i) → byte_at (rows_of ws) q j ≡ byte_from ws i j
  unfolding byte_from byte_at
  bytes_same j h = ap (digit (j % 3)) (g.same (j / 3) (omega arith))

  -- no cells, no phones
  pub none_held : i ≡ e → HoldsPhones ws q i 0
  none_held z =
      let a = g.order in
      let b = g.inside in
      let y : 3 * (e - i) + 0 ≡ 0 = omega arith in
      record {
        count = said_length ws n q 0 t (omega arith) (λ j l. absurd (omega arith)) (λ l. ap (byte_at (rows_of ws) q) (sym y) ∙ past_cells);
        few = omega arith;
        inside = omega arith;
        same = λ j l. absurd (omega arith);
      }

  module _ (ne : i ≡ e → ⊥) (v : ℕ) (ve : v ≡ val_of (get_or ws (e - 1) 0)) where
    last_group : rows_of ws q (64 + (e - 1 - i)) ≡ v
    last_group =
        let h = g.order in
        let z : i + (e - 1 - i) ≡ e - 1 = omega arith in
        g.same (e - 1 - i) (omega arith) ∙ (ap (λ (x : ℕ). val_of (get_or ws x 0)) z ∙ sym ve)

    pub last_some : 0 < v
    last_some =
        let h = g.order in
        let s = g.some (e - 1 - i) (omega arith) in
        let z = g.same (e - 1 - i) (omega arith) in
        let l = last_group in
        omega arith

    module _ (pk : Packed (rows_of ws) q) (s : ℕ) (l : LastBytes v s) where
      last_byte : 0 < byte_at (rows_of ws) q (3 * (e - 1 - i) + s - 1)
      last_byte =
          let a = l.least in
          let b = l.most in
          let z : 3 * (e - 1 - i) + (s - 1) ≡ 3 * (e - 1 - i) + s - 1 = omega arith in
          let y : byte_at (rows_of ws) q (3 * (e - 1 - i) + s - 1) ≡ digit (s - 1) v =
          ap (byte_at (rows_of ws) q) (sym z) ∙ (byte_in ws q (e - 1 - i) (s - 1) (omega arith) ∙ ap (digit (s - 1)) last_group) in
          subst (λ (x : ℕ). 0 < x) (sym y) l.some

      next_byte : byte_at (rows_of ws) q (3 * (e - 1 - i) + s) ≡ 0
      next_byte =
          let o = g.order in
          let b = l.most in
          by_less s 3
          (λ h. byte_in ws q (e - 1 - i) s h ∙ (ap (digit s) last_group ∙ l.none h))
          (λ h. let z : 3 * (e - 1 - i) + s ≡ 3 * (e - i) + 0 = omega arith in ap (byte_at (rows_of ws) q) z ∙ past_cells)

      bytes_some : (j : ℕ) → j < 3 * (e - 1 - i) + s → 0 < byte_at (rows_of ws) q j
      bytes_some j h =
          let f = g.few in
          let b = l.most in
          some_before 66 (byte_at (rows_of ws) q) pk.padded (3 * (e - 1 - i) + s - 1) (omega arith) last_byte j (omega arith)

      count-few : 3 * (e - 1 - i) + s ≤ 64
      count-few =
          by_less 64 (3 * (e - 1 - i) + s)
          (λ h. let b = bytes_some 64 h in let z = pk.short in absurd (omega arith))
          (λ h. h)

      -- the bytes up to the last that is not 0 are the phones
      pub phones_held : HoldsPhones ws q i (3 * (e - 1 - i) + s)
      phones_held =
          let o = g.order in
          let w = g.inside in
          let b = l.most in
          let c = said_length ws n q (3 * (e - 1 - i) + s) t count-few bytes_some (λ h. next_byte) in
          record {
            count = c;
            few = count-few;
            inside = omega arith;
            same = λ j h. phones_get ws n q j t (omega arith) ∙ bytes_same j (omega arith);
          }
