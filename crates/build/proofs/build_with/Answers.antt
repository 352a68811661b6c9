-- `build::build_with` meets its contract: memory with room for as many states as there can be is filled at once, and else they are counted first.
-- Assumes nothing.
use Prim.Native.Nat.{◌*◌}
use native.Mathlib.Omega.{arith}
use lib.ListN.{length}
use borrow.Author.Tests.{leb-true}
use Rattle.tables.specs.Words.{set_size}
use Rattle.build.proofs.Whole.{enough}
use Rattle.build.proofs.build_with.Goals as goal

pub fill-requires : goal.fill-requires
fill-requires c = let m = c.most_states-most.ensures.0 in
    (c.literal_total-n.ensures, omega (arith, m, c.if-most-words.true), omega (arith, m, leb-true (set_size * c.most_states-most.result) (length c.args.sets.now) c.if-most-sets.true-raw), c.requires)

pub returns-then-most-sets : goal.returns-then-most-sets
returns-then-most-sets c = let m = c.most_states-most.ensures.0 in
    let f = c.fill.ensures in
    enough _ c.args.words.now c.args.sets.now (omega (arith, m, c.if-most-words.true)) (omega (arith, m, leb-true (set_size * c.most_states-most.result) (length c.args.sets.now) c.if-most-sets.true-raw)) _ _ f.words f.sets
