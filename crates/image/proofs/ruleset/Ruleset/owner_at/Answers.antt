-- `image::ruleset::Ruleset::owner_at` meets its contract.
-- Assumes nothing.
use Prim.Native.Nat.{ℕ, ◌<◌}
use mathlib.Core.Path.{sym, subst, ◌∙◌}
use native.Mathlib.Omega.{arith}
use Rattle.image.specs.Image.{count_of}
use Rattle.image.proofs.Literals.{total_few, literal_is}
use Rattle.image.proofs.Tests.{valid_long}
use Rattle.image.proofs.ruleset.Ruleset.owner_at.Goals as goal

pub two_at-requires : goal.two_at-requires
two_at-requires c = omega (arith, total_few _ c.args.self.sound, valid_long _ c.args.self.sound)

pub returns : goal.returns
returns c = let f = literal_is c.args.self.bytes.now c.args.self.sound c.args.p c.requires in let e = c.from.ensures ∙ (c.two_at.ensures ∙ f.entry.place) in (e, subst (λ (n : ℕ). n < count_of c.args.self.bytes.now) (sym e) f.inside)
