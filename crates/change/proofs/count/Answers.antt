-- `change::count` meets its contract: a list is what counting asks for.
-- Assumes nothing.
use mathlib.Core.Path.{ap, ◌∙◌}
use Prim.Native.Nat.{ℕ, min}
use native.Mathlib.Omega.{arith}
use borrow.Author.Rules.{rules}
use Rattle.exceptions.proofs.Judged.{list_counts}
use Rattle.automaton.specs.Totals.{total}
use Rattle.automaton.specs.Automaton.{rows_of}
use Rattle.change.proofs.count.Goals as goal

pub count_names-requires : goal.count_names-requires
count_names-requires c = list_counts _ _ _ c.requires.0 c.start_of-n.ensures (omega arith)

pub returns : goal.returns
returns c = c.count_names.ensures ∙ ap (λ (x : ℕ). min 1001 (total (rows_of c.args.words.now) x)) c.start_of-n.ensures
