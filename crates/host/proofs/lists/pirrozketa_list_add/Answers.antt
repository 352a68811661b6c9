-- `host::lists::pirrozketa_list_add` meets its contract.
-- Assumes nothing.
use Rattle.rules.specs.Refusals.{reply_of}
use borrow.Author.Rules.{rules}
use Rattle.host.proofs.lists.pirrozketa_list_add.Goals as goal

pub returns : goal.returns
returns c = record {
  reply = reply_of c.add_name-answer.result;
  change = c.add_name-answer.ensures;
  code_is = c.answer_code.ensures;
  place_is = c.answer_place.ensures;
}
