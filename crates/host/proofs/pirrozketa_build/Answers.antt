-- `host::pirrozketa_build` meets its contract.
-- Assumes nothing.
use borrow.Author.Rules.{rules}
use Rattle.host.proofs.Reports.{built_code, built_place, built_words, built_sets}
use Rattle.host.proofs.pirrozketa_build.Goals as goal

pub returns : goal.returns
returns c = let h = c.build-answer.ensures in
    record {
      code = built_code _ _ _ _ h _ c.answer_code.ensures;
      place = built_place _ _ _ _ h _ c.answer_place.ensures;
      words = built_words _ _ _ _ h;
      sets = built_sets _ _ _ _ h;
    }
