-- `speech::say_listed` meets its contract: a case for each way in which a look_up ends.
-- Assumes nothing.
use Rattle.speech.proofs.Lookup.{found_none, found_given, found_short}
use borrow.Author.Rules.{rules}
use Rattle.speech.proofs.say_listed.Goals as goal

pub returns-in-Unlisted : goal.returns-in-Unlisted
returns-in-Unlisted c = found_none _ _ _ _ c.look_up-found.ensures c.in-Unlisted.is

pub returns-in-Given : goal.returns-in-Given
returns-in-Given c = found_given _ _ _ _ c.look_up-found.ensures _ c.in-Given.is

pub returns-in-NoRoom : goal.returns-in-NoRoom
returns-in-NoRoom c = found_short _ _ _ _ c.look_up-found.ensures _ c.in-NoRoom.is
