-- `walk::walk_frame` meets its contract: all passes, then reading by the remembered states, then the answer.
-- Assumes nothing.
use mathlib.Core.Path.{refl, sym, ap, ◌∙◌}
use Rattle.walk.specs.declared.WalkAnswer.{WalkAnswer}
use Rattle.walk.specs.Walked.{walked_of}
use Rattle.tables.specs.Walk.{walkedAs}
use Rattle.speech.specs.declared.Spoken.{Spoken}
use Rattle.rules.specs.declared.Refusal.{Refusal}
use Rattle.speech.specs.Speech.{Outcome}
use Rattle.std.specs.Prelude.{Some, None, Result}
use Rattle.walk.proofs.Walked.{through-stale, through-unusable, through_read, parts-read, states-held, walked_answer}
use borrow.Author.Rules.{rules}
use Rattle.walk.proofs.walk_frame.Goals as goal

pub run_words-requires : goal.run_words-requires
run_words-requires c = ((λ e. let f = c.requires.0.facts e in record { left = f.left; right = f.right; room = f.rows }), c.requires.2, c.requires.3, record { found = refl; left = refl; right = refl })

pub returns-then-stale : goal.returns-then-stale
returns-then-stale c = ap (λ (x : WalkAnswer). walked_of x c.args.phones.now c.args.numbers.now) c.at_once.ensures ∙ ap (λ (o : Outcome). walkedAs o c.args.phones.now c.args.numbers.now) (through-stale c.args.image.now c.args.compiled.now.words.now c.args.compiled.now.sets.now c.args.compiled.now.left_states c.args.compiled.now.right_states c.args.fit c.args.stale c.requires.0 c.args.list.now c.args.name.now c.requires.2.sound _ None c.in_default.ensures refl c.if-stale.true)

pub returns-in_default : goal.returns-in_default
returns-in_default c = ap (λ (x : WalkAnswer). walked_of x c.args.phones.now c.args.numbers.now) c.at_once-in_default.ensures ∙ ap (λ (o : Outcome). walkedAs o c.args.phones.now c.args.numbers.now) (through-unusable c.args.image.now c.args.compiled.now.words.now c.args.compiled.now.sets.now c.args.compiled.now.left_states c.args.compiled.now.right_states c.args.fit c.args.stale c.requires.0 c.args.list.now c.args.name.now c.requires.2.sound _ None c.in_default.ensures refl c.if-stale.false)

-- All words that need the tables have passed: what follows reads by the states that the passes left, gives what
-- was read, and tells how many entries were looked up. Where no word needs them, nothing is asked of the tables,
-- which may then be of other lengths or of another edit count: `through_read` takes what the passes gave, whether
-- the tables are fit or not.

pub right_base-requires : goal.right_base-requires
right_base-requires c = λ e. let f = (c.requires.0.facts e).sets-room in search rules

pub read_words-reached-requires : goal.read_words-reached-requires
read_words-reached-requires c = (c.requires.1, c.requires.2.sound, c.requires.3, c.run_words.ensures.sized.found, c.run_words.ensures.sized.left, c.run_words.ensures.sized.right, states-held c.args.image.now c.args.compiled.now.words.now c.args.compiled.now.sets.now c.args.compiled.now.left_states c.args.compiled.now.right_states c.args.fit c.args.stale c.requires.0 c.args.list.now c.args.name.now c.requires.2.sound _ (Some c.in-Some.looked_up) c.in-Some.ensures refl c.right_base.result c.right_base.ensures, refl)

pub answer-speech-requires : goal.answer-speech-requires
answer-speech-requires c = (c.requires.1, parts-read c.args.image.now c.args.compiled.now.words.now c.args.compiled.now.sets.now c.args.compiled.now.left_states c.args.compiled.now.right_states c.args.fit c.args.stale c.requires.0 c.args.list.now c.args.name.now c.requires.2.sound _ (Some c.in-Some.looked_up) c.in-Some.ensures refl c.right_base.result c.right_base.ensures _ _ c.read_words-reached.ensures.read)

pub returns-in-Ok : goal.returns-in-Ok
returns-in-Ok c = ap (λ (s : Result Spoken Refusal). walked_of (record { steps = c.steps_with-steps.result; speech = s }) c.answer-speech.new.phones c.answer-speech.new.numbers) (sym c.in-Ok.is) ∙ (walked_answer c.args.image.now c.args.list.now _ c.read_words-reached.result c.in-Some.looked_up c.args.phones.now c.args.numbers.now _ _ (record { steps = c.steps_with-steps.result; speech = c.answer-speech.result }) c.steps_with-steps.ensures c.answer-speech.ensures ∙ ap (λ (o : Outcome). walkedAs o c.args.phones.now c.args.numbers.now) (through_read c.args.image.now c.args.compiled.now.words.now c.args.compiled.now.sets.now c.args.compiled.now.left_states c.args.compiled.now.right_states c.args.fit c.args.stale c.requires.0 c.args.list.now c.args.name.now c.requires.2.sound _ (Some c.in-Some.looked_up) c.in-Some.ensures refl c.right_base.result c.right_base.ensures _ _ c.read_words-reached.ensures.read))

pub returns-in-Err : goal.returns-in-Err
returns-in-Err c = ap (λ (s : Result Spoken Refusal). walked_of (record { steps = c.steps_with-steps.result; speech = s }) c.answer-speech.new.phones c.answer-speech.new.numbers) (sym c.in-Err.is) ∙ (walked_answer c.args.image.now c.args.list.now _ c.read_words-reached.result c.in-Some.looked_up c.args.phones.now c.args.numbers.now _ _ (record { steps = c.steps_with-steps.result; speech = c.answer-speech.result }) c.steps_with-steps.ensures c.answer-speech.ensures ∙ ap (λ (o : Outcome). walkedAs o c.args.phones.now c.args.numbers.now) (through_read c.args.image.now c.args.compiled.now.words.now c.args.compiled.now.sets.now c.args.compiled.now.left_states c.args.compiled.now.right_states c.args.fit c.args.stale c.requires.0 c.args.list.now c.args.name.now c.requires.2.sound _ (Some c.in-Some.looked_up) c.in-Some.ensures refl c.right_base.result c.right_base.ensures _ _ c.read_words-reached.ensures.read))
