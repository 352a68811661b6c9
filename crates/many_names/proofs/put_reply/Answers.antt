-- `many_names::put_reply` meets its contract: five stores.
-- Assumes nothing.
use mathlib.Core.Path.{◌∙◌}
use native.Mathlib.Omega.{arith}
use lib.ListN.{length-set}
use Rattle.many_names.proofs.Runs.{put_five}
use Rattle.many_names.proofs.put_reply.Goals as goal

pub bounds-replies-at-2 : goal.bounds-replies-at-2
bounds-replies-at-2 c = simp length-set (omega (arith, c.requires))

pub bounds-replies-at-3 : goal.bounds-replies-at-3
bounds-replies-at-3 c = simp length-set (omega (arith, c.requires))

pub bounds-replies-at-4 : goal.bounds-replies-at-4
bounds-replies-at-4 c = simp length-set (omega (arith, c.requires))

pub bounds-replies-at-5 : goal.bounds-replies-at-5
bounds-replies-at-5 c = simp length-set (omega (arith, c.requires))

pub returns : goal.returns
returns c = put_five c.args.replies.now c.args.at _ _ _ _ _ _ _ _ _ c.requires (c.from.ensures ∙ c.spoken_code.ensures) c.phones_or_place.ensures c.numbers_given.ensures c.contested_given.ensures
