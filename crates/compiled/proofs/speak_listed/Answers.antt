-- `compiled::speak_listed` meets its contract: what the list says, or else the walk of its words.
-- Assumes nothing.
use Rattle.compiled.proofs.Speaking.{walked_listed}
use Rattle.speech.proofs.Lookup.{unlisted_answer, unlisted_none, says_all, unsaid_list}
use Rattle.speech.specs.Speech.{Outcome}
use Rattle.exceptions.specs.Layout.{words_of, phones_for}
use Prim.Native.Nat.{ℕ}
use mathlib.Core.List.{List}
use mathlib.Core.Path.{ap, ◌∙◌}
use Rattle.tables.specs.Walk.{walk_through, walkedAs}
use Rattle.tables.specs.Words.{compiled_from}
use Rattle.fitting.specs.Fitting.{Str}
use Rattle.image.specs.Image.{edits_of, literals_of}
use Rattle.compiled.proofs.speak_listed.Goals as goal

pub speak_words-requires : goal.speak_words-requires
speak_words-requires c = (c.requires.0, unsaid_list c.args.list.now c.args.name.now c.requires.1.0 c.requires.1.1 (unlisted_none (phones_for (words_of c.args.list.now) c.args.name.now) (walk_through (compiled_from c.args.words.now c.args.sets.now) (edits_of c.args.image.now) (literals_of c.args.image.now) c.args.name.now (phones_for (words_of c.args.list.now))) c.args.phones.now _ c.args.numbers.now _ c.say_listed-found.ensures c.in-None.is))

pub returns-in-Some : goal.returns-in-Some
returns-in-Some c = walked_listed _ _ c.args.phones.now _ c.args.numbers.now _ c.say_listed-found.ensures _ c.in-Some.is

pub returns-in-None : goal.returns-in-None
returns-in-None c = c.speak_words.ensures ∙ (ap (λ (m : Str → Str). walkedAs (walk_through (compiled_from c.args.words.now c.args.sets.now) (edits_of c.args.image.now) (literals_of c.args.image.now) c.args.name.now m) c.say_listed-found.new.phones c.args.numbers.now) (says_all c.args.list.now c.requires.1.0) ∙ unlisted_answer _ _ c.args.phones.now _ c.args.numbers.now _ c.say_listed-found.ensures (λ (o : Outcome) (l : List ℕ). walkedAs o l c.args.numbers.now) c.in-None.is)
