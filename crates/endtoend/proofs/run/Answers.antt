-- `endtoend::run` meets its contract: each call's own contract, joined by the theorem over the definitions.
-- Assumes nothing.
use Rattle.endtoend.proofs.Claim.{end_to_end}
use borrow.Author.Rules.{rules}
use Rattle.endtoend.proofs.run.Goals as goal

pub returns : goal.returns
returns c = end_to_end _ _ c.replay-replay.ensures c.build-build.ensures c.read_name-plain.ensures c.speak_compiled-walk.ensures
