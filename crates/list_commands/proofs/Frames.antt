-- The fields of an add and of a remove, as the functions cut them, and which commands are on the list.
-- Assumes nothing.
use Prim.Native.Nat.{ℕ, ◌+◌, ◌-◌, ◌≤◌, ◌<◌}
use mathlib.Core.Path.{◌≡◌, sym, ap, ap₂, ◌∙◌, subst}
use mathlib.Core.List.{List}
use mathlib.Core.Bool.{true, false}
use native.Mathlib.Omega.{arith}
use borrow.Author.Tests.{leb-true, le-leb, lt-leb}
use lib.ListN.{length, get_or, take, drop, length-drop, get_or-eq_default}
use lib.Dec.{leb}
use lib.Seq.{take_all}
use Rattle.rules.proofs.Cases.{and_l, and_r}
use Rattle.rules.specs.Refusals.{Reply}
use Rattle.change.specs.Change.{Change, Changed}
use Rattle.change.specs.Change.Change.{Add, Remove}
use Rattle.list_commands.specs.ListCommands.{add_sized, addition, is_list_command}

module _ (f : List ℕ) where
  -- all from n on
  rest : (n : ℕ) → take (length f - n) (drop n f) ≡ drop n f
  rest n = take_all (length f - n) (drop n f) (omega (arith, length-drop n f))

  none : (i : ℕ) → length f ≤ i → get_or f i 0 ≡ 0
  none i h = get_or-eq_default f 0 h

  -- ---- 20 and 21

  pub add_short : length f < 2 → false ≡ add_sized f
  add_short h = sym (lt-leb (2 + get_or f 1 0) (length f) (omega arith))

  module _ (list after : List ℕ) (r : Reply) where
    pub cut_add : (n : ℕ) → n ≡ get_or f 1 0 → Changed (Add (take (2 + n - 2) (drop 2 f)) (take (length f - (2 + n)) (drop (2 + n) f))) list after r
        → Changed (addition f) list after r
    cut_add n e h =
        let d : 2 + n - 2 ≡ get_or f 1 0 = omega arith in
        subst (λ (c : Change). Changed c list after r)
        (ap₂ Add (ap (λ (k : ℕ). take k (drop 2 f)) d) (rest (2 + n) ∙ ap (λ (k : ℕ). drop (2 + k) f) e)) h

    pub cut_remove : Changed (Remove (take (length f - 1) (drop 1 f))) list after r → Changed (Remove (drop 1 f)) list after r
    cut_remove h = subst (λ (w : List ℕ). Changed (Remove w) list after r) (rest 1) h

  -- ---- the first byte

  pub no_kind : length f ≡ 0 → false ≡ is_list_command f
  unfolding is_list_command
  no_kind h = let e = none 0 (omega arith) in rw e

  pub low_kind : get_or f 0 0 < 32 → false ≡ is_list_command f
  unfolding is_list_command
  low_kind h = rw (lt-leb 32 (get_or f 0 0) h)

  pub kind_is : 32 ≤ get_or f 0 0 → leb (get_or f 0 0) 38 ≡ is_list_command f
  unfolding is_list_command
  kind_is h = rw (le-leb 32 (get_or f 0 0) h)

  module _ (p : is_list_command f ≡ true) where
    from : 32 ≤ get_or f 0 0
    unfolding is_list_command
    from = leb-true 32 (get_or f 0 0) (and_l (leb 32 (get_or f 0 0)) _ p)

    to : get_or f 0 0 ≤ 38
    unfolding is_list_command
    to = leb-true (get_or f 0 0) 38 (and_r (leb 32 (get_or f 0 0)) _ p)

    some : length f ≡ 0 → ⊥
    some e = let z = none 0 (omega arith) in let k = from in omega arith

    pub has_kind : 1 ≤ length f
    has_kind = let z = some in omega arith

    -- no other is left
    pub last_kind : (get_or f 0 0 ≡ 32 → ⊥) → (get_or f 0 0 ≡ 33 → ⊥) → (get_or f 0 0 ≡ 34 → ⊥) → (get_or f 0 0 ≡ 35 → ⊥) → (get_or f 0 0 ≡ 36 → ⊥) → (get_or f 0 0 ≡ 37 → ⊥)
        → get_or f 0 0 ≡ 38
    last_kind a b c d e g = let l = from in let h = to in omega arith
