-- `reading::read_listed` meets its contract: what the list says, or else the reading of its words.
-- Assumes nothing.
use Rattle.speech.proofs.Lookup.{listed_answer, unlisted_answer, unlisted_none, says_all, unsaid_list}
use Rattle.speech.specs.Speech.{Outcome, answered, delivered, plain_words}
use Rattle.fitting.specs.Fitting.{Str}
use Rattle.image.specs.Image.{entries_of, classes_of}
use Rattle.exceptions.specs.Layout.{words_of, phones_for}
use Prim.Native.Nat.{ℕ}
use mathlib.Core.List.{List}
use mathlib.Core.Path.{ap, ◌∙◌}
use Rattle.reading.proofs.read_listed.Goals as goal

pub read_sound-requires : goal.read_sound-requires
read_sound-requires c = unsaid_list c.args.list.now c.args.name.now c.requires.0 c.requires.1 (unlisted_none (phones_for (words_of c.args.list.now) c.args.name.now) (answered (plain_words (classes_of c.args.rules.bytes.now) (entries_of c.args.rules.bytes.now) c.args.name.now (phones_for (words_of c.args.list.now))) 0) c.args.phones.now _ c.args.numbers.now _ c.say_listed-found.ensures c.in-None.is)

pub returns-in-Some : goal.returns-in-Some
returns-in-Some c = listed_answer _ _ c.args.phones.now _ c.args.numbers.now _ c.say_listed-found.ensures _ c.in-Some.is

pub returns-in-None : goal.returns-in-None
returns-in-None c = c.read_sound.ensures ∙ (ap (λ (m : Str → Str). delivered (answered (plain_words (classes_of c.args.rules.bytes.now) (entries_of c.args.rules.bytes.now) c.args.name.now m) 0) c.say_listed-found.new.phones c.args.numbers.now) (says_all c.args.list.now c.requires.0) ∙ unlisted_answer _ _ c.args.phones.now _ c.args.numbers.now _ c.say_listed-found.ensures (λ (o : Outcome) (l : List ℕ). delivered o l c.args.numbers.now) c.in-None.is)
