-- `fitting::same_run` meets its contract: the symbols from i on decide.
-- Assumes nothing.
use Prim.Native.Nat.{◌+◌, ◌-◌, ◌≤◌}
use mathlib.Core.Path.{◌≡◌, sym, ◌∙◌}
use native.Mathlib.Omega.{arith}
use borrow.Author.Rules.{rules}
use lib.ListN.{length, take, drop}
use Rattle.fitting.specs.Fitting.{same}
use Rattle.fitting.proofs.Strings.{run_begin, run_on, run_off, run_end}
use Rattle.fitting.proofs.same_run.Given as goal

abbrev pub invariant-loop-i : goal.invariant-loop-i
invariant-loop-i l = (l.i ≤ length l.a) × (same l.a (take (length l.a) (drop l.at l.b)) ≡ same (drop l.i l.a) (take (length l.a - l.i) (drop (l.at + l.i) l.b)))
