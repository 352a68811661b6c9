-- `table_reading::shared_in` meets its contract: the ones of a word of 64 digits.
-- Assumes nothing.
use Prim.Native.Nat.{◌^◌, ◌<◌}
use native.Mathlib.Nat.{lt_of_le_of_lt}
use native.Mathlib.Omega.{arith}
use lib.Bits.{bit_and, and_le_r}
use lib.Count.{ones-le}
use lib.ListN.{get_or}
use Rattle.tables.proofs.SetWords.{ones_all}
use Rattle.table_reading.proofs.shared_in.Goals as goal

pub overflow_cast-result : goal.overflow_cast-result
overflow_cast-result c = let x = get_or c.args.sets.now c.args.a 0 in
    let y = get_or c.args.sets.now c.args.b 0 in
    let h : bit_and x y < 2 ^ 64 = lt_of_le_of_lt (and_le_r x y) (c.shared_slice_known-1.given c.args.b).fits in
    omega (arith, ones-le 64 (bit_and x y) h)

pub returns : goal.returns
returns c = let x = get_or c.args.sets.now c.args.a 0 in
    let y = get_or c.args.sets.now c.args.b 0 in
    let h : bit_and x y < 2 ^ 64 = lt_of_le_of_lt (and_le_r x y) (c.shared_slice_known-1.given c.args.b).fits in
    (ones_all 64 (bit_and x y) h, ones-le 64 (bit_and x y) h)
