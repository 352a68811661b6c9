-- `file::loading::store_rules` meets its contract. The loop's invariant: the rules so far stand in their slots, and the lines from here on are the others.
-- Assumes nothing.
use Rattle.file.proofs.Storing.{Stored}
use Rattle.file.proofs.loading.store_rules.Given as goal

abbrev pub invariant-loop-i : goal.invariant-loop-i
invariant-loop-i l = Stored l.file l.count l.last l.initial.image l.image l.at l.i
