-- `lines::refusal_line` meets its contract: the refusal's number and place are printed.
-- Assumes nothing.
use Prim.Native.Nat.{ℕ}
use mathlib.Core.Path.{ap₂, ◌∙◌}
use Rattle.rules.specs.Memory.{over}
use Rattle.lines.specs.Printed.{refused_body, printed}
use borrow.Author.Rules.{rules}
use Rattle.lines.proofs.refusal_line.Goals as goal

pub returns : goal.returns
returns c = let e = c.refused_line.ensures in
    let out = c.args.out.now in
    record {
      len = e.len;
      bytes = e.bytes ∙ ap₂ (λ (n p : ℕ). over (printed (refused_body n p)) out) c.refusal_number.ensures c.refusal_place.ensures;
    }
