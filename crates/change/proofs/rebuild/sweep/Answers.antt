-- `change::rebuild::sweep` meets its contract: the marks are those of what is reached.
-- Assumes nothing.
use mathlib.Core.Path.{◌≡◌}
use lib.ListN.{length}
use borrow.Author.Rules.{rules}
use Rattle.change.proofs.Sweeping.{sweep_asks}
use Rattle.change.proofs.rebuild.sweep.Goals as goal

pub keep_marked-requires : goal.keep_marked-requires
keep_marked-requires c = let l : length c.mark.new.marks ≡ 4162 = search rules in (sweep_asks _ _ _ c.requires l, c.mark.ensures, c.requires.memory)
