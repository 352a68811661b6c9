-- `frames::writer::put_digits` meets its contract: two digits, and the byte joins the sum.
-- Assumes nothing.
use Rattle.std.proofs.Common.{ℕ, [], ◌∷◌, refl, ◌∙◌, ap₂, arith, length-set, rules}
use Rattle.rules.specs.Memory.{over_at}
use Rattle.frames.specs.Output.{sent}
use Rattle.frames.proofs.Output.{same_output, set_two, sum_more}
use Rattle.frames.proofs.writer.put_digits.Goals as goal

pub bounds-out-at-2 : goal.bounds-out-at-2
bounds-out-at-2 c = simp length-set (omega arith)

pub returns : goal.returns
unfolding sent
returns c = let a = c.args in
    let h = c.requires in
    let s = c.wrapping_add_u8.ensures.value in
    let t = set_two a.out.now a.w.at a.high a.low (omega arith)
    ∙ ap₂ (λ (x y : ℕ). over_at a.w.at (x ∷ y ∷ []) a.out.now) h.1.0 h.1.1 in
    record {
      next = refl;
      sum = λ bytes e. s ∙ sum_more bytes a.w.sum a.b e;
      sent = record { equal = same_output t refl s };
    }
