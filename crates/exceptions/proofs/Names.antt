-- A sound name is made of letters.
-- Assumes nothing.
use mathlib.Core.Path.{◌≡◌}
use native.Mathlib.Omega.{arith}
use mathlib.Core.Bool.{true, ◌&&◌}
use mathlib.Core.List.{[], ◌∷◌}
use lib.Dec.{leb}
use borrow.Author.Tests.{leb-true}
use Rattle.rules.specs.Limits.{max_name_byte}
use Rattle.rules.specs.Shape.{all_from}
use Rattle.rules.specs.Names.{SoundName}
use Rattle.rules.proofs.Cases.{and_l, and_r}
use Rattle.automaton.specs.Automaton.{Str, Letters}

letters_of : (w : Str) → all_from max_name_byte w ≡ true → Letters w
letters_of [] h = tt
letters_of (c ∷ w) h =
    let r = and_r (leb 1 c) (leb c max_name_byte && all_from max_name_byte w) h in
    let least = leb-true 1 c (and_l (leb 1 c) (leb c max_name_byte && all_from max_name_byte w) h) in
    let most = leb-true c max_name_byte (and_l (leb c max_name_byte) (all_from max_name_byte w) r) in
    (omega arith, omega arith, letters_of w (and_r (leb c max_name_byte) (all_from max_name_byte w) r))

pub sound_letters : (name : Str) → SoundName name → Letters name
sound_letters name s = letters_of name s.bytes
