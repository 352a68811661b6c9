-- `host::lists::pirrozketa_list_check` meets its contract.
-- Assumes nothing.
use mathlib.Core.Path.{sym, ◌∙◌}
use mathlib.Core.Bool.{true, false}
use Rattle.host.proofs.ListNumbers.{judged_is}
use borrow.Author.Rules.{rules}
use Rattle.host.proofs.lists.pirrozketa_list_check.Goals as goal

pub returns-then-is_list : goal.returns-then-is_list
returns-then-is_list c = sym (judged_is _ true (sym c.is_list.ensures ∙ c.if-is_list.true))

pub returns : goal.returns
returns c = sym (judged_is _ false (sym c.is_list.ensures ∙ c.if-is_list.false))
