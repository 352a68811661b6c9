-- `commands::speaking::plain_lent` meets its contract: both counts are the smaller of what is asked for and what there is.
-- Assumes nothing.
use Rattle.rules.proofs.Memory.{tail_is}
use Rattle.commands.proofs.Lent.{plain_told}
use Rattle.speech.specs.Speech.{told_of}
use borrow.Author.Rules.{rules}
use Rattle.commands.proofs.speaking.plain_lent.Goals as goal

pub returns : goal.returns
returns c = let a = c.args in
    record {
      said = cc (c.plain_in.ensures, c.lent-n.ensures.0, c.two_at.ensures.0, c.lent-m.ensures.0, c.two_at-2.ensures.0, tail_is 5 a.f.now);
      within = plain_told (told_of c.plain_in.result) _ _ _ _ _ a.phones.now a.numbers.now _ _ c.plain_in.ensures;
    }
