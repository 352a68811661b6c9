-- `commands::speaking::contested_after` meets its contract: no more letters are contested than rules applied, of which a byte holds the number.
-- Assumes nothing.
use native.Mathlib.Omega.{arith}
use borrow.Author.Rules.{rules}
use Rattle.answer_lines.proofs.Told.{spoken_within}
use Rattle.commands.proofs.speaking.contested_after.Goals as goal

pub overflow_cast-result : goal.overflow_cast-result
overflow_cast-result c = let w = spoken_within c.args.speech _ c.in-Ok.is 256 64 c.requires in
    omega (arith, w.1, w.2)
