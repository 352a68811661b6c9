-- What is said after a list of changes: the phones that the last accepted change of a name gave it, so that a list holds just the names added
-- and not removed since, with their last phones.
-- Assumes nothing.
use mathlib.Core.Path.{◌≡◌, refl, ap, ◌∙◌}
use mathlib.Core.Bool.{cond}
use Prim.Native.Nat.{ℕ}
use mathlib.Core.List.{List, [], ◌∷◌}
use Rattle.rules.specs.Refusals.{Reply, accepted, declined}
use Rattle.automaton.specs.Automaton.{Str, same}
use Rattle.exceptions.specs.Judging.{Says}
use Rattle.change.specs.Change.{Change, after_change}
use Rattle.change.specs.Change.Change.{Add, Remove}
use Rattle.change_history.specs.Code.{name_of, phones_of}
use Rattle.change_history.specs.Last.{accepted_of, last_for}
use Rattle.change_history.specs.Replay.{said_after, nothing, FromEmpty}

after_one : (m : Str → Str) (c : Change) (w : Str) → after_change m c w ≡ cond (same w (name_of c)) (phones_of c) (m w)
after_one m (Add name p) w = refl
after_one m (Remove name) w = refl

last_from : (m : Str → Str) (cs : List Change) (rs : List Reply) (w : Str) → said_after m cs rs w ≡ last_for w (m w) (accepted_of cs rs)
last_from m [] rs w = refl
last_from m (c ∷ cs) [] w = refl
last_from m (c ∷ cs) (accepted ∷ rs) w =
    last_from (after_change m c) cs rs w ∙ ap (λ (p : Str). last_for w p (accepted_of cs rs)) (after_one m c w)
last_from m (c ∷ cs) (declined n p ∷ rs) w = last_from m cs rs w

pub last_phones : (cs : List Change) (rs : List Reply) (w : Str) → said_after nothing cs rs w ≡ last_for w [] (accepted_of cs rs)
last_phones cs rs w = last_from nothing cs rs w

pub list_last : (cs : List Change) (answers₀ places₀ list answers places : List ℕ) (f : FromEmpty cs answers₀ places₀ list answers places)
    → Says list (λ w. last_for w [] (accepted_of cs f.replies))
list_last cs answers₀ places₀ list answers places f w l = f.says w l ∙ last_phones cs f.replies w
