-- The states of a list (document 02, request 1): no two have the same endings with the same phones, each is reached from the start and leads to a name.
-- Assumes nothing.
use mathlib.Core.Path.{◌≡◌, refl, sym, ap, ◌∙◌}
use Prim.Native.Nat.{ℕ, ◌≤◌, ◌<◌}
use native.Mathlib.Omega.{arith}
use mathlib.Core.List.{List, []}
use Rattle.automaton.specs.Automaton.{Str, rows_of, end_state, look, Letters, Sound}
use Rattle.automaton.proofs.Endings.{leads, reached}
use Rattle.automaton.proofs.NameLengths.{blank_says}
use Rattle.packing.specs.Packing.{byte_of, unpack}
use Rattle.phone_strings.specs.Packed.{AllPacked}
use Rattle.phone_strings.proofs.Padding.{look_same, phones_differ}
use Rattle.exceptions.specs.Layout.{start_of}
use Rattle.exceptions.specs.Judging.{IsList}

-- no groups have no phones
pub unpack_none : unpack [] ≡ []
unfolding unpack byte_of
unpack_none = refl

-- a state says no phones just of those names for which it has no groups: as the blank state does
pub nothing_said : (ws : List ℕ) (n : ℕ) → Sound (rows_of ws) n → AllPacked (rows_of ws) n → (q : ℕ) → q ≤ n → (w : Str) → Letters w → unpack (look (rows_of ws) q w) ≡ [] → look (rows_of ws) q w ≡ []
nothing_said ws n s p q h w t e =
    let b = blank_says (rows_of ws) s.blank w t in
    look_same ws n s p w t q 0 h (omega arith) (e ∙ sym (ap unpack b ∙ unpack_none)) ∙ b

module _ (ws : List ℕ) (l : IsList ws) where
  -- no two states have the same endings with the same phones
  pub states_differ : (i j : ℕ) → i ≤ start_of ws → j ≤ start_of ws → ((w : Str) → Letters w → unpack (look (rows_of ws) i w) ≡ unpack (look (rows_of ws) j w)) → i ≡ j
  states_differ = phones_differ ws (start_of ws) l.sound l.phones

  -- every state is reached from the start
  pub states_reached : (q : ℕ) → 0 < q → q ≤ start_of ws → (w : Str) × Letters w × (end_state (rows_of ws) (start_of ws) w ≡ q)
  states_reached = reached (rows_of ws) (start_of ws) l.sound l.needed

  -- and leads to a name
  pub states_lead : (q : ℕ) → 0 < q → q ≤ start_of ws → (w : Str) × Letters w × (unpack (look (rows_of ws) q w) ≡ [] → ⊥)
  states_lead q p h =
      let r = leads (rows_of ws) (start_of ws) l.sound q p h in
      (r.0, r.1, λ e. r.2 (nothing_said ws (start_of ws) l.sound l.phones q h r.0 r.1 e))
