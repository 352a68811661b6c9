-- The rows that are kept after a change, or too many of them.
-- Assumes nothing.
use mathlib.Core.Path.{◌≡◌, refl, sym, ap}
use Prim.Native.Nat.{ℕ, suc, ◌≤◌, ◌<◌}
use native.Mathlib.Omega.{arith}
use mathlib.Core.Bool.{true, false}
use mathlib.Core.List.{List}
use lib.ListN.{length, get_or, set}
use Rattle.rules.specs.Limits.{max_states}
use Rattle.automaton.proofs.Tests.{clash}
use Rattle.compaction.specs.Compaction.{SweepAsks, marked, Swept}
use Rattle.exceptions.specs.Layout.{startWord}
use Rattle.exceptions.proofs.Sizes.{start_word}
use Rattle.change.specs.Steps.{SweepReady, Swept?}

pub start_fits : (ws w : List ℕ) → startWord < length ws → length w ≡ length ws → 4199 < length w
start_fits ws w h e = let z = start_word in omega arith

pub many_found : (ws m : List ℕ) (top v : ℕ) → v ≡ marked (λ x. get_or m x 0) (suc top) → suc max_states < v → Swept? ws m top ws false
many_found ws m top v e h = record { few = λ z. clash z refl; many = λ z. (omega arith, refl) }

pub few_found : (ws m : List ℕ) (top v : ℕ) (w : List ℕ) (k : ℕ) → v ≡ marked (λ x. get_or m x 0) (suc top) → v ≤ suc max_states → Swept ws m top w k → length w ≡ length ws → Swept? ws m top (set w 4199 k) true
few_found ws m top v w k e h s l =
    let c = s.count in
    record {
      few = λ z. (w, k, s, (let y : k ≤ max_states = omega arith in y), l, ap (λ (t : ℕ). set w t k) (sym start_word));
      many = λ z. clash refl z;
    }

pub sweep_asks : (ws m : List ℕ) (top : ℕ) → SweepReady ws top → length m ≡ 4162 → SweepAsks ws m top
sweep_asks ws m top a e =
    let t = a.states in
    record { sound = a.sound; laid = a.laid; states = omega arith; marked = omega arith; small = a.small }
