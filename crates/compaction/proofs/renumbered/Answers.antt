-- `compaction::renumbered` meets its contract.
-- Assumes nothing.
use Rattle.compaction.proofs.Moves.{new_low, new_high}
use Rattle.automaton.specs.Automaton.{key_of, cell_of}
use lib.ListN.{get_or}
use mathlib.Core.Path.{sym, ap, ap₂, ◌∙◌}
use Prim.Native.Nat.{ℕ, ◌<◌}
use native.Mathlib.Omega.{arith}
use Rattle.compaction.proofs.renumbered.Goals as goal

pub returns-then-k-ge-PHONES : goal.returns-then-k-ge-PHONES
returns-then-k-ge-PHONES c = let e = c.key-k.ensures in sym (new_high _ _ (omega arith))

pub returns : goal.returns
returns c = let e = c.key-k.ensures in let z : key_of c.args.x < 64 = omega arith in c.cell.ensures ∙ (ap₂ cell_of e (c.from.ensures ∙ ap (λ (t : ℕ). get_or c.args.marks.now t 0) c.val-v.ensures.0) ∙ sym (new_low _ _ z))
