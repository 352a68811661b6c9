-- `sheet_command::speak_lent` meets its contract: all four counts are the smaller of what is asked for and what there is.
-- Assumes nothing.
use mathlib.Core.Path.{sym}
use lib.Seq.{length-take-le}
use Rattle.rules.proofs.Memory.{tail_is}
use Rattle.sheet_command.proofs.Sheets.{sheet-for, sheet_presentable}
use Rattle.sheet_command.proofs.speak_lent.Goals as goal

pub slice_bounds-speak_in-end : goal.slice_bounds-speak_in-end
slice_bounds-speak_in-end c = let r = c.lent-a in
    sym (length-take-le r.result c.args.words.now r.ensures.1.1)

pub slice_bounds-speak_in-end-2 : goal.slice_bounds-speak_in-end-2
slice_bounds-speak_in-end-2 c = let r = c.lent-b in
    sym (length-take-le r.result c.args.sets.now r.ensures.1.1)

pub returns : goal.returns
returns c = let r = c.speak_in in
    let a = c.args in
    record {
      said = sheet-for _ a.f.now a.image.now a.list.now a.words.now a.sets.now a.tree.now a.kept.now a.replies.now a.phones.now a.numbers.now _ _ _ _ _ _ _ _ _
          c.lent-a.ensures.0 c.four_at.ensures.0 c.lent-b.ensures.0 c.four_at-2.ensures.0
          c.lent-n.ensures.0 c.two_at.ensures.0 c.lent-m.ensures.0 c.two_at-2.ensures.0 (tail_is 13 a.f.now) r.ensures;
      presentable = sheet_presentable _ _ _ _ _ _ _ _ _ _ _ a.phones.now a.numbers.now r.ensures;
    }
