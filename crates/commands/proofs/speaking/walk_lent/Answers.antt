-- `commands::speaking::walk_lent` meets its contract: all four counts are the smaller of what is asked for and what there is.
-- Assumes nothing.
use Rattle.rules.proofs.Memory.{tail_is}
use Rattle.commands.proofs.Lent.{walk_by, walk_told}
use Rattle.speech.specs.Speech.{told_of}
use mathlib.Core.Path.{sym}
use lib.Seq.{length-take-le}
use borrow.Author.Rules.{rules}
use Rattle.commands.proofs.speaking.walk_lent.Goals as goal

pub slice_bounds-walk_in-end : goal.slice_bounds-walk_in-end
slice_bounds-walk_in-end c = sym (length-take-le c.lent-a.result c.args.words.now c.lent-a.ensures.1.1)

pub slice_bounds-walk_in-end-2 : goal.slice_bounds-walk_in-end-2
slice_bounds-walk_in-end-2 c = sym (length-take-le c.lent-b.result c.args.sets.now c.lent-b.ensures.1.1)

pub returns : goal.returns
returns c = let a = c.args in
    record {
      walked = walk_by _ a.f.now a.image.now a.list.now a.words.now a.sets.now a.phones.now a.numbers.now _ _ _ _ _ _ _ _ _ c.lent-a.ensures.0 c.four_at.ensures.0 c.lent-b.ensures.0 c.four_at-2.ensures.0 c.lent-n.ensures.0 c.two_at.ensures.0 c.lent-m.ensures.0 c.two_at-2.ensures.0 (tail_is 13 a.f.now) c.walk_in.ensures;
      within = walk_told (told_of c.walk_in.result.speech) _ _ _ _ _ _ _ _ a.phones.now a.numbers.now _ _ c.walk_in.ensures;
    }
