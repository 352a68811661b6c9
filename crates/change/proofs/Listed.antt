-- Whether a name is listed, and what counting the names asks.
-- Assumes nothing.
use mathlib.Core.Path.{◌≡◌, sym, ap, ◌∙◌, subst}
use Prim.Native.Nat.{ℕ, zero, suc, ◌+◌, ◌/◌, ◌<◌}
use native.Mathlib.Omega.{arith}
use mathlib.Core.List.{List, []}
use lib.Dec.{eqb}
use lib.ListN.{length}
use Rattle.automaton.specs.Automaton.{Str, rows_of, phones_at, Laid, end_state, look, Sound}
use Rattle.states.specs.States.{AsksState, EndAsks}
use Rattle.packing.specs.Packing.{count, table, groups_of, group_at}
use Rattle.minimality.specs.Judging.{Decides}
use Rattle.exceptions.specs.Layout.{start_of}
use Rattle.exceptions.proofs.Judged.{lettered_found}
use Rattle.change.specs.Steps.{ListAsks}
use Rattle.change.proofs.Fewest.{end_inside}
use Rattle.change.proofs.Groups.{look_end}

module _ (ws : List ℕ) (name : Str) (a : ListAsks ws name) (n : ℕ) (e : n ≡ start_of ws) where
  sound : Sound (rows_of ws) n
  sound = subst (Sound (rows_of ws)) (sym e) a.list.sound

  laid : Laid ws n
  laid = subst (Laid ws) (sym e) a.list.laid

  pub end_asks : EndAsks ws n name
  end_asks = record { sound = sound; laid = laid; letters = a.letters }

  module _ (q : ℕ) (g : q ≡ end_state (rows_of ws) n name) where
    pub state_asks : AsksState ws n q
    state_asks = let i = end_inside (rows_of ws) n sound n (omega arith) name a.letters in record { laid = laid; state = omega arith }

    pub unlisted_found : (v : ℕ) → v ≡ rows_of ws q 64 → Decides (look (rows_of ws) (start_of ws) name ≡ []) (eqb v 0)
    unlisted_found v h =
        let z : phones_at (rows_of ws) q ≡ look (rows_of ws) (start_of ws) name =
        ap (phones_at (rows_of ws)) g ∙ (sym (look_end (rows_of ws) n name) ∙ ap (λ (x : ℕ). look (rows_of ws) x name) e) in
        subst (λ (p : Str). Decides (p ≡ []) (eqb v 0)) z (lettered_found (rows_of ws) q v h)

-- no phones have no groups, and some have some
pub groups_none : (p : Str) → length p ≡ 0 → groups_of p ≡ []
unfolding groups_of count
groups_none p e = let z : (length p + 2) / 3 ≡ 0 = omega arith in ap (table (group_at p)) z

pub groups_some : (p : Str) → (length p ≡ 0 → ⊥) → groups_of p ≡ [] → ⊥
unfolding groups_of count
groups_some p ne e = none ((length p + 2) / 3) (omega arith) e
  where
    none : (k : ℕ) → 0 < k → table (group_at p) k ≡ [] → ⊥
    none zero h g = omega arith
    none (suc k) h g = let z : ◌≡◌ {A = ℕ} 0 1 = cc in omega arith
