-- `host::pirrozketa_set_class` meets its contract.
-- Assumes nothing.
use Rattle.host.proofs.Reports.{code_is, place_is, image_is}
use borrow.Author.Rules.{rules}
use Rattle.host.proofs.pirrozketa_set_class.Goals as goal

pub returns : goal.returns
returns c = let h = c.set_class-answer.ensures in
    record {
      code = code_is _ _ _ h _ c.answer_code.ensures;
      place = place_is _ _ _ h _ c.answer_place.ensures;
      image = image_is _ _ _ h;
    }
