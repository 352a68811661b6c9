-- `list_commands::units::lend_command` meets its contract: a command of 5 bytes lends, any other is malformed.
-- Assumes nothing.
use borrow.Author.Rules.{rules}
use Rattle.list_commands.proofs.Outcomes.{lent_not, lent_so}
use Rattle.list_commands.proofs.units.lend_command.Goals as goal

pub returns-then-f-ne5 : goal.returns-then-f-ne5
returns-then-f-ne5 c = let a = c.args in
    let told = lent_not a.f.now a.there a.lent _ a.out.now _ c.if-f-ne5.true c.requires.0 c.malformed-len.ensures.len c.malformed-len.ensures.bytes in
    record {
      lent = told.0;
      within = told.1.0;
      len = told.1.1.0;
      bytes = told.1.1.1;
    }

pub returns : goal.returns
returns c = let a = c.args in
    let told = lent_so a.f.now a.there a.lent _ a.out.now _ _ _ c.if-f-ne5.false c.lent-asked.ensures.0 c.four_at.ensures.0 c.lent-asked.ensures.1.1 c.done_line-len.ensures.len c.done_line-len.ensures.bytes in
    record {
      lent = told.0;
      within = told.1.0;
      len = told.1.1.0;
      bytes = told.1.1.1;
    }
