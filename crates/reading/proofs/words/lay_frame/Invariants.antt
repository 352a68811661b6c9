-- `reading::words::lay_frame` meets its contract: the boundary, the name's bytes and the boundary, stored one after the other.
-- Assumes nothing.
use mathlib.Core.List.{◌∷◌, map}
use mathlib.Core.Path.{◌≡◌}
use lib.ListN.{take}
use Rattle.rules.specs.Memory.{over}
use Rattle.speech.specs.Words.{boundary_or}
use Rattle.reading.proofs.words.lay_frame.Given as goal

abbrev pub invariant-loop-i : goal.invariant-loop-i
invariant-loop-i l = l.f ≡ over (0 ∷ map boundary_or (take l.i l.name)) l.initial.f
