-- `checklist::prepare` meets its contract: what a build accepts is a ruleset.
-- Assumes nothing.
use Rattle.std.proofs.Common.{ap, sym, ◌∙◌}
use Rattle.std.proofs.lemmas.Result.{IfOk-weaker}
use Rattle.tables.specs.Words.{Built}
use Rattle.tables.proofs.Theorem.{accepted_build}
use Rattle.checklist.proofs.prepare.Goals as goal

pub returns : goal.returns
returns c = IfOk-weaker _ _ _
    (λ _ e. (accepted_build c.read_file.new.image c.args.words.now c.args.sets.now (sym (ap (λ (b : Built). b.reply) c.build.ensures) ∙ e)).is-valid)
    c.accepted-2.ensures
