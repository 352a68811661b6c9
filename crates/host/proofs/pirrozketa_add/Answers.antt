-- `host::pirrozketa_add` meets its contract.
-- Assumes nothing.
use mathlib.Core.Path.{ap, ◌∙◌}
use Rattle.rules.specs.declared.Rule.{Rule}
use Rattle.edits.specs.Ledger.{Edit}
use Rattle.edits.specs.Edits.{edited}
use Rattle.host.proofs.Reports.{code_is, place_is, image_is}
use borrow.Author.Rules.{rules}
use Rattle.host.proofs.pirrozketa_add.Goals as goal

pub returns : goal.returns
returns c = let a = c.args in
    let h = c.add_rule-answer.ensures ∙ ap (λ (x : Rule). edited a.image.now (Edit.Add x a.p)) c.rule_in-added.ensures in
    record {
      code = code_is _ _ _ h _ c.answer_code.ensures;
      place = place_is _ _ _ h _ c.answer_place.ensures;
      image = image_is _ _ _ h;
    }
