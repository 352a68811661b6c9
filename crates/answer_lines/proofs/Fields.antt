-- The bytes of what was spoken, counted.
-- Assumes nothing.
use Prim.Native.Nat.{ℕ, ◌+◌, ◌*◌, ◌%◌}
use mathlib.Core.Path.{◌≡◌}
use mathlib.Core.List.{List, [], ◌∷◌, ◌++◌}
use native.Mathlib.Omega.{arith}
use lib.ListN.{length, length-append}
use Rattle.lines.specs.Printed.{twos}
use Rattle.lines.proofs.Printed.{length_twos}
use Rattle.answer_lines.specs.Answers.{spoken_front, spoken_body}

pub length_spoken : (steps : ℕ) (phones numbers : List ℕ) → length (spoken_body steps phones numbers) ≡ 6 + length phones + 2 * length numbers
unfolding spoken_body
length_spoken steps phones numbers =
    let f = spoken_front steps (length phones) in
    let n = length numbers % 256 ∷ [] in
    omega (arith, length-append ((f ++ phones) ++ n) (twos numbers), length-append (f ++ phones) n, length-append f phones, length_twos numbers)
