-- `host::sheets::pirrozketa_speak_sheet` meets its contract.
-- Assumes nothing.
use mathlib.Core.Path.{ap, ◌∙◌}
use Rattle.rules.specs.Refusals.{reply_code, reply_place}
use Rattle.sheet.specs.Sheet.{SheetSaid}
use borrow.Author.Rules.{rules}
use Rattle.host.proofs.sheets.pirrozketa_speak_sheet.Goals as goal

pub returns : goal.returns
returns c = let told = c.speak_sheet-told.ensures in
    let h = told.answer in
    record {
      code = c.answer_code.ensures ∙ ap (λ (x : SheetSaid). reply_code x.reply) h;
      place = c.answer_place.ensures ∙ ap (λ (x : SheetSaid). reply_place x.reply) h;
      steps = ap (λ (x : SheetSaid). x.steps) h;
      names = ap (λ (x : SheetSaid). x.names) h;
      replies = ap (λ (x : SheetSaid). x.replies) h;
      phones = ap (λ (x : SheetSaid). x.phones) h;
      numbers = ap (λ (x : SheetSaid). x.numbers) h;
      tree = told.tree;
      kept = told.kept;
    }
