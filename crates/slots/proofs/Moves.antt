-- Bytes copied within memory, counted.
-- Assumes nothing.
use Prim.Native.Nat.{ℕ, ◌-◌}
use mathlib.Core.Path.{◌≡◌, ap, ◌∙◌}
use mathlib.Core.List.{List}
use lib.ListN.{drop}
use lib.Seq.{paste}
use Rattle.std.specs.List.{copy_within}

pub moved : (d s : List ℕ) (from to at n : ℕ) → to - from ≡ n → s ≡ copy_within d from to at → s ≡ paste d at (drop from d) n
moved d s from to at n e u = u ∙ ap (paste d at (drop from d)) e
