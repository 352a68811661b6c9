-- `sheet_command::speak_in` meets its contract: the parts that were lent come back in front of what lies past them.
-- Assumes nothing.
use mathlib.Core.Path.{sym}
use lib.Seq.{length-take-le}
use Rattle.sheet_command.proofs.Sheets.{sheet-back}
use Rattle.sheet_command.proofs.speak_in.Goals as goal

pub slice_bounds-speak_sheet-end-2 : goal.slice_bounds-speak_sheet-end-2
slice_bounds-speak_sheet-end-2 c = sym (length-take-le c.args.n c.args.phones.now c.requires.0)

pub slice_bounds-speak_sheet-end-4 : goal.slice_bounds-speak_sheet-end-4
slice_bounds-speak_sheet-end-4 c = sym (length-take-le c.args.m c.args.numbers.now c.requires.1)

pub returns : goal.returns
returns c = let r = c.speak_sheet in
    let a = c.args in
    sheet-back r.result _ a.n a.m a.image.now a.list.now a.words.now a.sets.now a.sheet.now a.tree.now a.kept.now a.replies.now a.phones.now a.numbers.now _ _ r.ensures.answer
