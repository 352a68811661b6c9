-- `reading::read_valid` meets its contract: the name's judgement, then its reading with too few words for a list.
-- Assumes nothing.
use Rattle.std.proofs.lemmas.Result.{err_from_is_err_and}
use Rattle.speech.proofs.Lookup.{says_nothing, unsaid_none}
use Rattle.reading.proofs.Plain.{said_refused, said_sound}
use Rattle.speech.proofs.Call.{found_sound}
use Rattle.speech.specs.Speech.{answered, delivered, plain_words}
use Rattle.fitting.specs.Fitting.{Str}
use Rattle.image.specs.Image.{entries_of, classes_of}
use Rattle.exceptions.proofs.Sizes.{size_is}
use Rattle.exceptions.specs.Judging.{no_list}
use mathlib.Core.List.{◌∷◌, []}
use mathlib.Core.Path.{refl, ap, ◌∙◌}
use native.Mathlib.Omega.{arith}
use Rattle.reading.proofs.read_valid.Goals as goal

pub read_sound-requires : goal.read_sound-requires
read_sound-requires c = unsaid_none (0 ∷ []) c.args.name.now (omega (arith, size_is)) (found_sound c.args.name.now _ c.judge_name.ensures c.in_ok-judge_name.was)

pub returns-in_err-judge_name : goal.returns-in_err-judge_name
returns-in_err-judge_name c = let p = err_from_is_err_and c.from_residual.result c.from_residual.ensures.1 in rw (p.1, p.2) (said_refused c.args.image.now c.requires no_list _ refl c.args.name.now c.args.phones.now c.args.numbers.now _ c.judge_name.ensures _ c.in_err-judge_name.was)

pub returns : goal.returns
returns c = said_sound c.args.image.now c.requires no_list _ refl c.args.name.now c.args.phones.now c.args.numbers.now _ c.judge_name.ensures c.in_ok-judge_name.was _ (c.read_sound.ensures ∙ ap (λ (m : Str → Str). delivered (answered (plain_words (classes_of c.args.image.now) (entries_of c.args.image.now) c.args.name.now m) 0) c.args.phones.now c.args.numbers.now) (says_nothing (0 ∷ []) (omega (arith, size_is))))
