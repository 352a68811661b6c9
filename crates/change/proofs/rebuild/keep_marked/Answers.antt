-- `change::rebuild::keep_marked` meets its contract: too many marks are refused before anything is written; else compact gives as many rows as there are marks.
-- Assumes nothing.
use native.Mathlib.Omega.{arith}
use borrow.Author.Rules.{rules}
use Rattle.change.proofs.Sweeping.{start_fits, many_found, few_found}
use Rattle.change.proofs.rebuild.keep_marked.Goals as goal

pub returns-then-count_marks : goal.returns-then-count_marks
returns-then-count_marks c = many_found _ _ _ _ c.count_marks.ensures (omega arith)

pub bounds-words-4199 : goal.bounds-words-4199
bounds-words-4199 c = start_fits c.args.words.now c.compact-start.new.words c.requires.2 c.compact-start.auto.words

pub returns : goal.returns
returns c = few_found _ _ _ _ _ _ c.count_marks.ensures (omega arith) c.compact-start.ensures c.compact-start.auto.words
