-- `compiled::speak_valid` meets its contract: the name's judgement, then its walk with too few words for a list.
-- Assumes nothing.
use Rattle.compiled.proofs.Speaking.{walked_refused, walked_sound}
use Rattle.speech.proofs.Lookup.{says_nothing, unsaid_none}
use Rattle.speech.proofs.Call.{found_sound}
use Rattle.exceptions.proofs.Sizes.{size_is}
use Rattle.exceptions.specs.Judging.{no_list}
use mathlib.Core.List.{◌∷◌, []}
use mathlib.Core.Path.{refl, ap, ◌∙◌}
use native.Mathlib.Omega.{arith}
use Rattle.tables.specs.Walk.{walk_through, walkedAs}
use Rattle.tables.specs.Words.{compiled_from}
use Rattle.fitting.specs.Fitting.{Str}
use Rattle.image.specs.Image.{edits_of, literals_of}
use Rattle.compiled.proofs.speak_valid.Goals as goal

pub speak_words-requires : goal.speak_words-requires
speak_words-requires c = (c.requires, unsaid_none (0 ∷ []) c.args.name.now (omega (arith, size_is)) (found_sound c.args.name.now _ c.judge_name-judged.ensures c.in-Ok.is))

pub returns-in-Err : goal.returns-in-Err
returns-in-Err c = walked_refused _ c.args.image.now c.requires no_list _ refl c.args.name.now c.args.phones.now c.args.numbers.now _ c.judge_name-judged.ensures _ c.in-Err.is _ c.at_once.ensures

pub returns-in-Ok : goal.returns-in-Ok
returns-in-Ok c = walked_sound _ c.args.image.now c.requires no_list _ refl c.args.name.now c.args.phones.now c.args.numbers.now _ c.judge_name-judged.ensures c.in-Ok.is _ (c.speak_words.ensures ∙ ap (λ (m : Str → Str). walkedAs (walk_through (compiled_from c.args.words.now c.args.sets.now) (edits_of c.args.image.now) (literals_of c.args.image.now) c.args.name.now m) c.args.phones.now c.args.numbers.now) (says_nothing (0 ∷ []) (omega (arith, size_is))))
