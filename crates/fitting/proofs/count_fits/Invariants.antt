-- `fitting::count_fits` meets its contract: those counted and those from p on are all.
-- Assumes nothing.
use Prim.Native.Nat.{◌+◌, ◌≤◌}
use mathlib.Core.Path.{◌≡◌}
use Rattle.fitting.proofs.Search.{fits_from}
use Rattle.fitting.proofs.count_fits.Given as goal

abbrev pub invariant-loop-p : goal.invariant-loop-p
invariant-loop-p l = (l.fitting ≤ l.p) × (l.fitting + fits_from l.rules.bytes.now l.frame l.i l.p ≡ fits_from l.rules.bytes.now l.frame l.i l.from)
