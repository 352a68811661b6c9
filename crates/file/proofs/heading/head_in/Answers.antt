-- `file::heading::head_in` meets its contract: the tests in turn.
-- Assumes nothing.
use mathlib.Core.Path.{◌∙◌}
use Rattle.file.proofs.Parts.{head_length, head_first, head-edition, head_many, head_ok}
use Rattle.file.proofs.heading.head_in.Goals as goal

pub returns-then-f-ne-HEAD : goal.returns-then-f-ne-HEAD
returns-then-f-ne-HEAD c = head_length c.args.next c.args.f.now c.if-f-ne-HEAD.true

pub returns-then-f-ne-HEAD_TYPE : goal.returns-then-f-ne-HEAD_TYPE
returns-then-f-ne-HEAD_TYPE c = head_first c.args.next c.args.f.now c.if-f-ne-HEAD.false c.if-f-ne-HEAD_TYPE.true

pub returns-then-f-ne-FIRST_EDITION : goal.returns-then-f-ne-FIRST_EDITION
returns-then-f-ne-FIRST_EDITION c = head-edition c.args.next c.args.f.now c.if-f-ne-HEAD.false c.if-f-ne-HEAD_TYPE.false c.if-f-ne-FIRST_EDITION.true

pub returns-then-count-gt-MAX_RULES : goal.returns-then-count-gt-MAX_RULES
returns-then-count-gt-MAX_RULES c = head_many c.args.next c.args.f.now c.if-f-ne-HEAD.false c.if-f-ne-HEAD_TYPE.false c.if-f-ne-FIRST_EDITION.false c.from-count.result (c.from-count.ensures ∙ c.two_at.ensures) c.if-count-gt-MAX_RULES.true

pub returns : goal.returns
returns c = head_ok c.args.next c.args.f.now c.if-f-ne-HEAD.false c.if-f-ne-HEAD_TYPE.false c.if-f-ne-FIRST_EDITION.false c.from-count.result (c.from-count.ensures ∙ c.two_at.ensures) c.if-count-gt-MAX_RULES.false _ c.two_at-last.ensures
