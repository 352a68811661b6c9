-- The bytes of set words, counted.
-- Assumes nothing.
use Prim.Native.Nat.{ℕ, ◌*◌}
use mathlib.Core.Path.{◌≡◌, refl}
use mathlib.Core.List.{List, [], ◌∷◌}
use native.Mathlib.Omega.{arith}
use lib.ListN.{length}
use Rattle.command_parts.specs.Memory.{eights}

pub length_eights : (l : List ℕ) → length (eights l) ≡ 8 * length l
length_eights [] = refl
length_eights (w ∷ l) = omega (arith, length_eights l)
