-- What each name has after a list of changes: the phones of the last accepted change that names it.
-- Assumes nothing.
use Rattle.std.specs.Prelude.{cond, List, [], ◌∷◌}
use Rattle.rules.specs.Refusals.{Reply, accepted, declined}
use Rattle.automaton.specs.Automaton.{Str, same}
use Rattle.change.specs.Change.{Change}
use Rattle.change_history.specs.Code.{name_of, phones_of}

-- the changes that were accepted
abbrev pub accepted_of : List Change → List Reply → List Change
accepted_of [] rs = []
accepted_of (c ∷ cs) [] = []
accepted_of (c ∷ cs) (accepted ∷ rs) = c ∷ accepted_of cs rs
accepted_of (c ∷ cs) (declined n p ∷ rs) = accepted_of cs rs

-- the phones that the last of the changes that name w gives it, none where that is a removal; p where none names it
abbrev pub last_for : Str → Str → List Change → Str
last_for w p [] = p
last_for w p (c ∷ cs) = last_for w (cond (same w (name_of c)) (phones_of c) p) cs
