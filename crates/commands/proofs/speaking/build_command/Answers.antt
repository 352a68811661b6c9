-- `commands::speaking::build_command` meets its contract: a frame of 9 bytes is a build, any other is malformed.
-- Assumes nothing.
use lib.Dec.{eqb}
use lib.ListN.{length}
use borrow.Author.Tests.{eq-eqb, ne_eqb}
use Rattle.rules.specs.Refusals.{reply_of}
use borrow.Author.Rules.{rules}
use Rattle.command_parts.specs.Fields.{four, lent_of}
use Rattle.commands.specs.Lent.{built_in, build_effects, built_by}
use Rattle.commands.proofs.Spoken.{both_built, gives_states, gives_unbuilt}
use Rattle.command_parts.proofs.Replies.{both_not}
use Rattle.commands.proofs.speaking.build_command.Goals as goal

pub returns-then-f-ne9 : goal.returns-then-f-ne9
unfolding built_by
returns-then-f-ne9 c = let a = c.args in
    both_not (eqb (length a.f.now) 9) (build_effects (built_in (lent_of (four 1 a.f.now) (length a.words.now)) (lent_of (four 5 a.f.now) (length a.sets.now)) a.image.now a.words.now a.sets.now)) a.words.now a.sets.now a.out.now _ _
    (ne_eqb (length a.f.now) 9 c.if-f-ne9.true) c.malformed.ensures.len c.malformed.ensures.bytes

pub returns-in-Ok : goal.returns-in-Ok
unfolding built_by
returns-in-Ok c = let a = c.args in
    let b = c.build_lent-answer in
    both_built (eqb (length a.f.now) 9) a.words.now a.sets.now a.out.now _ _ (eq-eqb (length a.f.now) 9 c.if-f-ne9.false) _ _
    (built_in (lent_of (four 1 a.f.now) (length a.words.now)) (lent_of (four 5 a.f.now) (length a.sets.now)) a.image.now a.words.now a.sets.now) (reply_of b.result) b.ensures
    (gives_states b.result _ _ a.out.now _ c.in-Ok.is _ _ c.state_count-l.ensures c.state_count-r.ensures c.states_line.ensures.len c.states_line.ensures.bytes)

pub returns-in-Err : goal.returns-in-Err
unfolding built_by
returns-in-Err c = let a = c.args in
    let b = c.build_lent-answer in
    both_built (eqb (length a.f.now) 9) a.words.now a.sets.now a.out.now _ _ (eq-eqb (length a.f.now) 9 c.if-f-ne9.false) _ _
    (built_in (lent_of (four 1 a.f.now) (length a.words.now)) (lent_of (four 5 a.f.now) (length a.sets.now)) a.image.now a.words.now a.sets.now) (reply_of b.result) b.ensures
    (gives_unbuilt b.result _ _ a.out.now _ _ c.in-Err.is c.refusal_line.ensures.len c.refusal_line.ensures.bytes)
