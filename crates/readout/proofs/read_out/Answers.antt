-- `readout::read_out` meets its contract: the refusals in turn, then the text.
-- Assumes nothing.
use Rattle.readout.proofs.Calls.{read_none, read_room, read_done}
use mathlib.Core.Path.{sym, ◌∙◌}
use Rattle.readout.proofs.read_out.Goals as goal

pub returns-then-not-is_list : goal.returns-then-not-is_list
returns-then-not-is_list c = read_none _ _ (sym c.is_list.ensures ∙ c.if-not-is_list.true)

pub text_length-needed-requires : goal.text_length-needed-requires
text_length-needed-requires c = sym c.is_list.ensures ∙ c.if-not-is_list.false

pub returns-then-out-needed : goal.returns-then-out-needed
returns-then-out-needed c = read_room _ _ (sym c.is_list.ensures ∙ c.if-not-is_list.false) _ c.text_length-needed.ensures c.if-out-needed.true

pub write_text-requires : goal.write_text-requires
write_text-requires c = sym c.is_list.ensures ∙ c.if-not-is_list.false

pub returns : goal.returns
returns c = read_done _ _ (sym c.is_list.ensures ∙ c.if-not-is_list.false) _ c.text_length-needed.ensures c.if-out-needed.false _ _ c.write_text.ensures
