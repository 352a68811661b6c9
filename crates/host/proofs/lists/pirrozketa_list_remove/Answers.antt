-- `host::lists::pirrozketa_list_remove` meets its contract.
-- Assumes nothing.
use Rattle.rules.specs.Refusals.{reply_of}
use borrow.Author.Rules.{rules}
use Rattle.host.proofs.lists.pirrozketa_list_remove.Goals as goal

pub returns : goal.returns
returns c = record {
  reply = reply_of c.remove_name-answer.result;
  change = c.remove_name-answer.ensures;
  code_is = c.answer_code.ensures;
  place_is = c.answer_place.ensures;
}
