-- `say::load` meets its contract: what a build accepts is a ruleset.
-- Assumes nothing.
use Rattle.std.proofs.Common.{◌≡◌, true, refl, ap, sym, ◌∙◌}
use Rattle.std.specs.Prelude.{Result, Ok, Err, IfOk}
use Rattle.rules.specs.declared.Refusal.{Refusal}
use Rattle.rules.specs.Refusals.{reply_of}
use Rattle.image.specs.Image.{valid}
use Rattle.tables.specs.Words.{Built}
use Rattle.tables.proofs.Theorem.{accepted_build}
use Rattle.say.proofs.load.Goals as goal

pub returns : goal.returns
returns g c = built c.build.result refl
  where
    built : (r : Result (Unit {0}) Refusal) → c.build.result ≡ r → IfOk r (λ _. valid c.read_file.new.image ≡ true)
    built (Ok done) e = (accepted_build c.read_file.new.image c.args.words.now c.args.sets.now (sym (ap (λ (b : Built). b.reply) c.build.ensures) ∙ ap reply_of e)).is-valid
    built (Err x) e = tt
