-- `history::replay` meets its contract: cleared memory is the empty ruleset, and the edits follow.
-- Assumes nothing.
use Rattle.std.proofs.lemmas.Result.{err_from_is_err_and}
use Prim.Native.Nat.{◌/◌, min}
use mathlib.Core.Path.{ap, ◌∙◌}
use lib.ListN.{length}
use Rattle.rules.specs.Refusals.{reply_of}
use Rattle.history.specs.Code.{edit_words}
use Rattle.history.proofs.Runs.{short_kept, long_enough}
use Rattle.history.proofs.replay.Goals as goal

pub returns-in_err-clear : goal.returns-in_err-clear
returns-in_err-clear c = let a = c.args in
    let p = err_from_is_err_and c.from_residual.result c.from_residual.ensures.1 in rw (p.1, p.2) (short_kept a.image.now a.code.now a.letters.now a.answers.now a.places.now _ _ _ _ (ap reply_of c.in_err-clear.was) c.clear.ensures)

pub returns : goal.returns
returns c = let a = c.args in
    let n = c.min-n.ensures ∙ ap (min (length a.code.now / edit_words)) c.min-room.ensures in
    long_enough a.image.now a.code.now a.letters.now a.answers.now a.places.now _ _ (ap reply_of c.in_ok-clear.was) c.clear.ensures
    _ n _ _ _ c.replay_all.ensures
