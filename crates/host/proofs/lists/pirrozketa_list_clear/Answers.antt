-- `host::lists::pirrozketa_list_clear` meets its contract.
-- Assumes nothing.
use Rattle.host.proofs.ListNumbers.{emptied_code, emptied_list}
use borrow.Author.Rules.{rules}
use Rattle.host.proofs.lists.pirrozketa_list_clear.Goals as goal

pub returns : goal.returns
returns c = let h = c.clear-answer.ensures in
    record {
      code = emptied_code _ _ _ h _ c.answer_code.ensures;
      list = emptied_list _ _ _ h;
    }
