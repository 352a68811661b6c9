-- `history::class_edit` meets its contract.
-- Assumes nothing.
use mathlib.Core.Path.{ap, ◌∙◌}
use Rattle.edits.specs.Edits.{edited}
use Rattle.history.proofs.Runs.{class_said}
use Rattle.history.proofs.class_edit.Goals as goal

pub returns : goal.returns
returns c = c.set_class.ensures ∙ ap (edited c.args.image.now) (class_said c.args.letters.now c.args.code.now _ _ _ _ c.byte_at-symbol.ensures c.word_at-at.ensures c.word_at-n.ensures c.letters_at.ensures)
