-- A name that is refused with 2 or 1, or is on the list.
-- Assumes nothing.
use Rattle.std.proofs.lemmas.Result.{err_from_is_err_and}
use Rattle.std.specs.Prelude.{Err}
use mathlib.Core.Path.{refl}
use Rattle.speech.proofs.Call.{found_refused, found_sound}
use Rattle.sheet_answers.proofs.OneAnswer as O
use Rattle.sheet_answers.proofs.answer_unsent.Goals as goal

pub say_from_list-requires : goal.say_from_list-requires
say_from_list-requires c = (c.requires.0, found_sound c.args.name.now _ c.judge_name.ensures c.in_ok-judge_name.was, c.requires.1)

pub returns-in_err-judge_name : goal.returns-in_err-judge_name
returns-in_err-judge_name c = let p = err_from_is_err_and c.from_residual.result c.from_residual.ensures.1 in rw (p.1, p.2) (O.unsent-refused c.args.list.now c.args.name.now _ _ (found_refused c.args.name.now _ c.judge_name.ensures _ c.in_err-judge_name.was) (Err _) refl c.args.phones.now)
