-- `sheet_answers::answer_sheet` meets its contract, by the loop invariant `AnsweredTo`: whatever the names come to, what stands and what is to come make
-- the same lot.
-- Assumes nothing.
use Prim.Native.Nat.{◌-◌}
use Rattle.sheet_answers.proofs.NextAnswer as N
use Rattle.sheet_answers.proofs.answer_sheet.Given as goal

abbrev pub invariant-loop-phones : goal.invariant-loop-phones
invariant-loop-phones l = N.AnsweredTo l.image l.list l.sheet l.ends l.starts l.kept l.limit l.initial.phones l.initial.numbers l.initial.replies l.phones l.numbers l.replies l.p

abbrev pub decreases-loop-phones : goal.decreases-loop-phones
decreases-loop-phones l = l.limit - l.p.count
