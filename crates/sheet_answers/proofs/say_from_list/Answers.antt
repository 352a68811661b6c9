-- A name that is on the list.
-- Assumes nothing.
use Rattle.sheet_answers.proofs.OneAnswer as O
use Rattle.sheet_answers.proofs.say_from_list.Goals as goal

pub returns-in-Some : goal.returns-in-Some
returns-in-Some c = O.unsent-listed c.args.list.now c.args.name.now c.requires.0 c.requires.1 c.args.phones.now _ _ c.say_listed-found.ensures _ c.in-Some.is

pub returns-in-None : goal.returns-in-None
returns-in-None c = O.unsent-absent c.args.list.now c.args.name.now c.requires.0 c.requires.1 c.args.phones.now _ _ c.say_listed-found.ensures c.in-None.is c.requires.2 _
