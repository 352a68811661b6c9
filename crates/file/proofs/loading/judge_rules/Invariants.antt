-- `file::loading::judge_rules` meets its contract. The loop's invariant: the lines from here on decide the whole, the set holds the numbers so far, and their literal rules are counted.
-- Assumes nothing.
use Rattle.classes.specs.Masks.{classes_in}
use Rattle.file.proofs.Judging.{Judged}
use Rattle.file.proofs.loading.judge_rules.Given as goal

abbrev pub invariant-loop : goal.invariant-loop
invariant-loop l = Judged l.file l.from l.count l.last (classes_in l.masks) l.seen l.at l.total l.counter
