-- `patterns::put_left` meets its contract: what the right context leaves of j is the left one's.
-- Assumes nothing.
use Rattle.classes.specs.Masks.{classes_in}
use Rattle.patterns.proofs.Symbols.{put-choice}
use Rattle.patterns.proofs.put_left.Goals as goal

pub returns : goal.returns
returns c = put-choice (classes_in c.args.masks.now) c.args.left.now c.requires.1 c.args.pats.now c.args.at c.requires.3 _ _ c.rest_of-q.ensures _ c.put_choice.ensures.1
