-- `reading::read_known` meets its contract: the name's judgement, then its reading.
-- Assumes nothing.
use Rattle.std.proofs.lemmas.Result.{err_from_is_err_and}
use Rattle.speech.proofs.Call.{found_sound, listing_some}
use Rattle.reading.proofs.Plain.{said_refused, said_sound}
use Rattle.reading.proofs.read_known.Goals as goal

pub read_listed-requires : goal.read_listed-requires
read_listed-requires c = (c.requires, found_sound c.args.name.now _ c.judge_name.ensures c.in_ok-judge_name.was)

pub returns-in_err-judge_name : goal.returns-in_err-judge_name
returns-in_err-judge_name c = let p = err_from_is_err_and c.from_residual.result c.from_residual.ensures.1 in rw (p.1, p.2) (said_refused c.args.rules.bytes.now c.args.rules.sound _ _ (listing_some c.args.list.now c.requires) c.args.name.now c.args.phones.now c.args.numbers.now _ c.judge_name.ensures _ c.in_err-judge_name.was)

pub returns : goal.returns
returns c = said_sound c.args.rules.bytes.now c.args.rules.sound _ _ (listing_some c.args.list.now c.requires) c.args.name.now c.args.phones.now c.args.numbers.now _ c.judge_name.ensures c.in_ok-judge_name.was _ c.read_listed.ensures
