-- `patterns::put_right` meets its contract: the letters of the right context and then the target, each from its end on.
-- Assumes nothing.
use mathlib.Core.Path.{sym}
use Rattle.classes.specs.Masks.{classes_in}
use Rattle.classes.proofs.Ordinal.{choice_long}
use Rattle.patterns.proofs.Symbols.{put_both}
use Rattle.patterns.proofs.put_right.Goals as goal

pub returns : goal.returns
returns c = put_both c.args.target.now _ _ (sym (choice_long (classes_in c.args.masks.now) c.args.right.now c.args.j c.requires.1)) c.put_choice_reversed.ensures c.put_reversed.ensures
