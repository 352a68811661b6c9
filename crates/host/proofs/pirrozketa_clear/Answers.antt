-- `host::pirrozketa_clear` meets its contract.
-- Assumes nothing.
use Rattle.host.proofs.Reports.{code_is, image_is}
use borrow.Author.Rules.{rules}
use Rattle.host.proofs.pirrozketa_clear.Goals as goal

pub returns : goal.returns
returns c = let h = c.clear-answer.ensures in
    record {
      code = code_is _ _ _ h _ c.answer_code.ensures;
      image = image_is _ _ _ h;
    }
