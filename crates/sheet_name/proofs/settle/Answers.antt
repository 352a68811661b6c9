-- How reading ended, settled for the sheet.
-- Assumes nothing.
use mathlib.Core.Path.{◌≡◌, subst}
use native.Mathlib.Omega.{arith}
use Rattle.std.specs.Prelude.{ℕ, Option, Some, IfSome, Result}
use Rattle.speech.specs.Places.{frame_size, EndsBy}
use Rattle.speech.specs.declared.Unread.{Unread}
use Rattle.sheet_name.specs.declared.Judged.{Judged}
use Rattle.sheet_name.proofs.settle.Goals as goal

ends : {x : Option Judged} {j : Judged} {r : Result ℕ Unread} → IfSome x (λ j. EndsBy frame_size j.reached) → x ≡ Some j → j.reached ≡ r → EndsBy frame_size r
ends h a b = subst (EndsBy frame_size) b (subst (λ (o : Option Judged). IfSome o (λ j. EndsBy frame_size j.reached)) a h)

pub overflow_add-end : goal.overflow_add-end
overflow_add-end c = let e = ends c.requires c.in-Some.is c.in-Ok.is in
    omega arith

pub overflow_cast-end : goal.overflow_cast-end
overflow_cast-end c = let e = ends c.requires c.in-Some.is c.in-Ok.is in
    omega arith
