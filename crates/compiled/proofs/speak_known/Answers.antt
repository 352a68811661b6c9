-- `compiled::speak_known` meets its contract: the name's judgement, then its walk.
-- Assumes nothing.
use Rattle.speech.proofs.Call.{found_sound, listing_some}
use Rattle.compiled.proofs.Speaking.{walked_refused, walked_sound}
use Rattle.compiled.proofs.speak_known.Goals as goal

pub speak_listed-requires : goal.speak_listed-requires
speak_listed-requires c = (c.requires.0, (c.requires.1, found_sound c.args.name.now _ c.judge_name-judged.ensures c.in-Ok.is))

pub returns-in-Err : goal.returns-in-Err
returns-in-Err c = walked_refused _ c.args.image.now c.requires.0 _ _ (listing_some c.args.list.now c.requires.1) c.args.name.now c.args.phones.now c.args.numbers.now _ c.judge_name-judged.ensures _ c.in-Err.is _ c.at_once.ensures

pub returns-in-Ok : goal.returns-in-Ok
returns-in-Ok c = walked_sound _ c.args.image.now c.requires.0 _ _ (listing_some c.args.list.now c.requires.1) c.args.name.now c.args.phones.now c.args.numbers.now _ c.judge_name-judged.ensures c.in-Ok.is _ c.speak_listed.ensures
