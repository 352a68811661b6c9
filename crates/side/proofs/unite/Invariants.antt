-- The loop over the words of a set.
-- Assumes nothing.
use Prim.Native.Nat.{◌*◌}
use Rattle.tables.specs.Words.{set_size}
use Rattle.side.specs.Wrote.{Wrote}
use Rattle.side.specs.Steps.{united}
use Rattle.side.proofs.unite.Given as goal

abbrev pub invariant-loop-j : goal.invariant-loop-j
invariant-loop-j l = Wrote l.initial.sets (set_size * l.q) l.j (united l.initial.sets l.q l.f) l.sets
