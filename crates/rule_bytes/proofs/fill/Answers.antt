-- `rule_bytes::fill` meets its contract: as much is stored as there is room for.
-- Assumes nothing.
use Prim.Native.Nat.{ℕ}
use mathlib.Core.Path.{ap, ◌∙◌}
use mathlib.Core.List.{List}
use lib.ListN.{length, take}
use Rattle.std.proofs.lemmas.List.{take_min}
use Rattle.rules.specs.Memory.{over}
use Rattle.rules.proofs.Memory.{over_pasted}
use Rattle.rule_bytes.proofs.fill.Goals as goal

pub returns : goal.returns
returns c = c.put.ensures
    ∙ (over_pasted 0 _ c.args.room.now
    ∙ ap (λ (t : List ℕ). over t c.args.room.now) (ap (λ (n : ℕ). take n c.args.s.now) c.min-n.ensures ∙ take_min (length c.args.room.now) c.args.s.now))
