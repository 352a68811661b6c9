-- `image::table::without_classes` meets its contract.
-- Assumes nothing.
use mathlib.Core.Path.{sym, ◌∙◌}
use Rattle.image.proofs.table.without_classes.Goals as goal

pub returns-then-not-no_class_at : goal.returns-then-not-no_class_at
returns-then-not-no_class_at c = rw (sym c.no_class_at.ensures ∙ c.if-not-no_class_at.true)

pub returns : goal.returns
returns c = rw (sym c.no_class_at.ensures ∙ c.if-not-no_class_at.false) c.no_class_at-2.ensures
