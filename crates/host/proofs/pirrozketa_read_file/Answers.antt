-- `host::pirrozketa_read_file` meets its contract.
-- Assumes nothing.
use borrow.Author.Rules.{rules}
use Rattle.host.proofs.Reports.{code_is, place_is, image_is}
use Rattle.host.proofs.pirrozketa_read_file.Goals as goal

pub returns : goal.returns
returns c = let h = c.read_file-answer.ensures in
    record {
      code = code_is _ _ _ h _ c.answer_code.ensures;
      place = place_is _ _ _ h _ c.answer_place.ensures;
      image = image_is _ _ _ h;
    }
