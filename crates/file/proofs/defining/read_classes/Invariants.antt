-- `file::defining::read_classes` meets its contract. The loop's invariant: the lines from here on decide the end, and the classes so far are stored.
-- Assumes nothing.
use Rattle.file.proofs.ClassReading.{Reading}
use Rattle.file.proofs.defining.read_classes.Given as goal

abbrev pub invariant-loop : goal.invariant-loop
invariant-loop l = Reading l.file l.from l.masks l.at l.low l.counter
