-- How many parts an ending stands for.
-- Assumes nothing.
use mathlib.Core.Path.{◌≡◌, sym, ◌∙◌}
use Prim.Native.Nat.{◌-◌}
use native.Mathlib.Omega.{arith}
use Rattle.sheet_name.proofs.Settling.{parts_below, parts_past}
use Rattle.sheet_name.proofs.parts_in.Goals as goal

pub returns-then-n-ge-UNCOVERED : goal.returns-then-n-ge-UNCOVERED
returns-then-n-ge-UNCOVERED c = let end = c.args.end in
    sym (parts_past end (omega arith))

pub returns-then-n-eq0 : goal.returns-then-n-eq0
returns-then-n-eq0 c = let end = c.args.end in
    let e : 0 ≡ end - 1 = omega arith in
    e ∙ sym (parts_below end (omega arith))

pub returns : goal.returns
returns c = let end = c.args.end in
    sym (parts_below end (omega arith))
