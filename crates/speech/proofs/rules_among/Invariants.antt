-- `speech::rules_among` meets its contract: after k parts the rules among them are counted, the rest decides the whole.
-- Assumes nothing.
use Rattle.speech.proofs.Counted.{Tallied}
use Rattle.speech.proofs.rules_among.Given as goal

abbrev pub invariant-loop-part : goal.invariant-loop-part
invariant-loop-part l = Tallied l.parts l.part-index l.count
