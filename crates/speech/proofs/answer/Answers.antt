-- `speech::answer` meets its contract: a case for each way in which reading ends.
-- Assumes nothing.
use Rattle.std.specs.Prelude.{ℕ, Result, Err}
use Prim.Native.Nat.{◌≤◌}
use mathlib.Core.Path.{sym, ap, ◌∙◌, subst}
use native.Mathlib.Omega.{arith}
use borrow.Author.Rules.{rules}
use lib.Seq.{length-take-le}
use Rattle.speech.specs.Places.{frame_size, parts_reading, EndsBy}
use Rattle.speech.specs.Speech.{answered, delivered}
use Rattle.speech.specs.declared.Unread.{Unread}
use Rattle.speech.proofs.answer.Goals as goal

pub slice_bounds-deliver-end : goal.slice_bounds-deliver-end
slice_bounds-deliver-end c = let f : c.in-Ok.k ≤ frame_size = subst (EndsBy frame_size) c.in-Ok.is c.requires.1.few in
    sym (length-take-le c.in-Ok.k c.args.parts.now (omega (arith, c.requires.1.sized)))

pub deliver-requires : goal.deliver-requires
deliver-requires c = let f : c.in-Ok.k ≤ frame_size = subst (EndsBy frame_size) c.in-Ok.is c.requires.1.few in
    let l = length-take-le c.in-Ok.k c.args.parts.now (omega (arith, c.requires.1.sized)) in
    (c.requires.0, (omega arith, c.requires.1.within _ c.in-Ok.is))

pub returns-in-Ok : goal.returns-in-Ok
returns-in-Ok c = c.deliver.ensures ∙ ap (λ (r : Result ℕ Unread). delivered (answered (parts_reading c.args.image.now c.args.list.now c.args.parts.now r) 0) c.args.phones.now c.args.numbers.now) (sym c.in-Ok.is)
