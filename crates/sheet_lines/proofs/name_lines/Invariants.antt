-- `sheet_lines::name_lines` meets its contract. The loop's invariant: the lines so far and those to come are the lines of all names.
-- Assumes nothing.
use Rattle.sheet_lines.proofs.Printing.{Printing}
use Rattle.sheet_lines.proofs.name_lines.Given as goal

abbrev pub invariant-loop-k : goal.invariant-loop-k
invariant-loop-k l = Printing l.names l.replies l.phones l.numbers l.contested l.initial.out l.k l.said l.numbered l.last l.at l.out
