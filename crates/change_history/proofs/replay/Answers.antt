-- `change_history::replay` meets its contract: cleared memory is the empty list, and the changes follow.
-- Assumes nothing.
use Rattle.std.proofs.lemmas.Result.{err_from_is_err_and}
use Prim.Native.Nat.{◌/◌, min}
use mathlib.Core.Path.{ap, ◌∙◌}
use native.Mathlib.Omega.{arith}
use lib.ListN.{length}
use Rattle.rules.specs.Refusals.{reply_of}
use Rattle.change_history.specs.Code.{change_words}
use Rattle.change_history.proofs.Cleared.{short_kept, long_empty, long_enough}
use Rattle.change_history.proofs.replay.Goals as goal

pub returns-in_err-clear : goal.returns-in_err-clear
returns-in_err-clear c = let a = c.args in
    let p = err_from_is_err_and c.from_residual.result c.from_residual.ensures.1 in rw (p.1, p.2) (short_kept a.list.now a.code.now a.text.now a.answers.now a.places.now _ _ c.clear.ensures _ _ (ap reply_of c.in_err-clear.was))

pub replay_all-requires : goal.replay_all-requires
replay_all-requires c = let a = c.args in
    let n = c.min-n.ensures ∙ ap (min (length a.code.now / change_words)) c.min-room.ensures in
    let e = long_empty a.list.now a.code.now a.text.now a.answers.now a.places.now _ _ c.clear.ensures (ap reply_of c.in_ok-clear.was) in
    (omega (arith, n), e.0, e.1)

pub returns : goal.returns
returns c = let a = c.args in
    let n = c.min-n.ensures ∙ ap (min (length a.code.now / change_words)) c.min-room.ensures in
    long_enough a.list.now a.code.now a.text.now a.answers.now a.places.now _ _ c.clear.ensures (ap reply_of c.in_ok-clear.was)
    _ n _ _ _ c.replay_all.ensures
