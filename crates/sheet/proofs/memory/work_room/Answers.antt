-- The bytes of the sheet, or the most that are needed.
-- Assumes nothing.
use mathlib.Core.Path.{sym, ap}
use mathlib.Core.Bool.{Bool, cond}
use Prim.Native.Nat.{◌+◌, ◌*◌}
use native.Mathlib.Omega.{arith}
use lib.ListN.{length}
use borrow.Author.Tests.{le-leb, lt-leb}
use Rattle.rules.specs.Limits.{max_name, max_names}
use Rattle.sheet.proofs.memory.work_room.Goals as goal

pub returns-then-most-sheet : goal.returns-then-most-sheet
returns-then-most-sheet c = let n = length c.args.sheet.now in
    sym (ap (λ (b : Bool). cond b n (max_names * (max_name + 1))) (lt-leb n (max_names * (max_name + 1)) (omega arith)))

pub returns : goal.returns
returns c = let n = length c.args.sheet.now in
    sym (ap (λ (b : Bool). cond b n (max_names * (max_name + 1))) (le-leb n (max_names * (max_name + 1)) (omega arith)))
