-- Whether a rule of a ruleset uses a class, rule by rule.
-- Assumes nothing.
use Prim.Native.Nat.{ℕ, suc, ◌+◌, ◌≤◌, ◌<◌}
use mathlib.Core.Path.{◌≡◌, sym, ap, ap₂, ◌∙◌}
use mathlib.Core.List.{List}
use mathlib.Core.Bool.{true, false, ◌||◌}
use native.Mathlib.Omega.{arith}
use native.Mathlib.Numerals.{add-one}
use lib.ListN.{drop, drop_of_length-le}
use lib.Seq.{drop-cons}
use Rattle.classes.specs.Classes.{is_in}
use Rattle.classes.specs.Setting.{list_uses}
use Rattle.image.specs.State.{no_entry}
use Rattle.image.specs.Image.{count_of, entries_of, entry_at}
use Rattle.image.proofs.Entries.{entries_length}

module _ (d : List ℕ) (c i : ℕ) where
  module _ (h : i < count_of d) (left right : List ℕ) (l : left ≡ (entry_at d i).rule.left) (r : right ≡ (entry_at d i).rule.right) where
    here : list_uses c (drop i (entries_of d)) ≡ ((is_in c left || is_in c right) || list_uses c (drop (suc i) (entries_of d)))
    here =
        ap (list_uses c) (drop-cons (entries_of d) i no_entry (omega (arith, entries_length d)))
        ∙ ap₂ (λ (x y : List ℕ). (is_in c x || is_in c y) || list_uses c (drop (suc i) (entries_of d))) (sym l) (sym r)

    pub uses_here : (is_in c left || is_in c right) ≡ true → list_uses c (drop i (entries_of d)) ≡ true
    uses_here e = here ∙ rw e

    pub uses_on : (is_in c left || is_in c right) ≡ false → list_uses c (drop i (entries_of d)) ≡ list_uses c (drop (i + 1) (entries_of d))
    uses_on e = here ∙ rw (e, add-one i)

  pub uses_end : count_of d ≤ i → list_uses c (drop i (entries_of d)) ≡ false
  uses_end h = rw (drop_of_length-le (entries_of d) {i = i} (omega (arith, entries_length d)))
