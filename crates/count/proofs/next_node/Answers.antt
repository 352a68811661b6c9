-- The node itself, or a child of it.
-- Assumes nothing.
use mathlib.Core.Path.{sym, ap₂, ◌∙◌}
use Prim.Native.Nat.{ℕ}
use lib.ListN.{length}
use Rattle.tables.specs.Siblings.{seek}
use Rattle.count.specs.Chains.{at}
use Rattle.count.proofs.Following as F
use Rattle.count.proofs.next_node.Goals as goal

pub returns-then-has_symbol : goal.returns-then-has_symbol
returns-then-has_symbol c = rw (sym c.has_symbol.ensures ∙ c.if-has_symbol.true)

pub find-requires : goal.find-requires
find-requires c = F.may-seek _ _ _ _ _ c.requires.3 c.from.ensures

pub returns : goal.returns
returns c = rw (sym c.has_symbol.ensures ∙ c.if-has_symbol.false)
    (c.find.ensures ∙ ap₂ (λ (s k : ℕ). seek (length c.args.next.now) (at c.args.next.now) (at c.args.key.now) s k) c.from.ensures c.key_of.ensures)
