-- `classes::masks::without_first` meets its contract.
-- Assumes nothing.
use Rattle.classes.proofs.Letters.{letters_clear, clear_less}
use Rattle.classes.proofs.masks.without_first.Goals as goal

pub returns : goal.returns
returns c = (letters_clear c.args.mask, clear_less c.args.mask c.requires)
