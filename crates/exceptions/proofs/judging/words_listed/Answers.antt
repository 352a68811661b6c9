-- `exceptions::judging::words_listed` meets its contract.
-- Assumes nothing.
use mathlib.Core.Path.{sym, ◌∙◌}
use mathlib.Core.Bool.{true}
use native.Mathlib.Omega.{arith}
use Rattle.exceptions.specs.Judging.{IsList}
use Rattle.exceptions.proofs.Deciding.{affirmed}
use Rattle.exceptions.proofs.Empty.{blank_found}
use Rattle.exceptions.proofs.Judged.{listed_found}
use borrow.Author.Rules.{rules}
use Rattle.exceptions.proofs.judging.words_listed.Goals as goal

pub returns-then-is_blank : goal.returns-then-is_blank
returns-then-is_blank c = let ws = c.args.words.now in
    listed_found ws true (affirmed (IsList ws) (blank_found ws (omega arith) (sym c.is_blank.ensures ∙ c.if-is_blank.true)))

pub returns : goal.returns
returns c = listed_found _ _ c.judge.ensures
