-- `change::rebuild::apply_or_restore` meets its contract: what put wrote lies in the saved words.
-- Assumes nothing.
use mathlib.Core.Path.{refl}
use Rattle.change.proofs.Building.{end_inside, free_asks, free_kept, rebuilt, put_back}
use Rattle.change.proofs.rebuild.apply_or_restore.Goals as goal

pub bounds-words-n : goal.bounds-words-n
bounds-words-n c = end_inside _ _ _ _ c.requires.0 c.start_of-n.ensures

pub save-requires : goal.save-requires
save-requires c = free_asks _ _ _ _ c.requires.0 c.start_of-n.ensures _ _ refl c.requires.1

pub returns-then-apply : goal.returns-then-apply
returns-then-apply c = rebuilt _ _ _ _ _ _ _ c.apply.ensures c.if-apply.true

pub restore-requires : goal.restore-requires
restore-requires c = free_kept _ _ _ _ c.args.saved.now _ (free_asks _ _ _ _ c.requires.0 c.start_of-n.ensures _ _ refl c.requires.1) c.apply.auto.words c.save.auto.saved

pub returns : goal.returns
returns c = put_back _ _ _ _ _ _ _ _ _ refl c.save.ensures c.apply.ensures c.if-apply.false c.restore.ensures
