-- Both passes over a frame: the left one shared, the right one with its count going on from there.
-- Assumes nothing.
use mathlib.Core.Path.{◌≡◌, refl, sym, ap, ◌∙◌}
use Prim.Native.Nat.{ℕ, suc, ◌+◌, ◌-◌, ◌≤◌}
use native.Mathlib.Omega.{arith}
use mathlib.Core.Bool.{Bool, ◌&&◌}
use mathlib.Core.List.{List, reverse}
use lib.Dec.{ltb}
use lib.ListN.{length, drop, length-drop, length-reverse}
use Rattle.std.specs.Prelude.{Option, Some, None, is_some}
use Rattle.fitting.specs.Fitting.{Str}
use Rattle.speech.specs.Places.{frame_size}
use Rattle.tables.specs.Tables.{Table}
use Rattle.tables.specs.Walk.{from, all_below, left_at, right_at}
use Rattle.tables.proofs.Walk.{pass_steps, pass_uncounted}
use Rattle.tables.proofs.Words.{all_below_ext}
use Rattle.tables.proofs.Truth.{clash}
use Rattle.passes.specs.Passes.{right_on, Passed, left_rows_of, right_rows_of}
use Rattle.prefix_tree.specs.Sharing.{Holds, SharedPass}
use Rattle.prefix_tree.specs.declared.Counts.{Counts}
use Rattle.sheet_passes.specs.Passing.{FramePassed}

module _ (words : List ℕ) (l r : ℕ) (f : List ℕ) (two : 2 ≤ length f) where
  abbrev n : ℕ
  n = length f - 2

  long : length f - 1 ≡ suc n
  long = omega arith

  abbrev tl : Table
  tl = left_rows_of words l

  abbrev tr : Table
  tr = right_rows_of words l r

  right_count : (k : ℕ) → (right_on tr k f 1).steps ≡ k + (length f - 1)
  right_count k = pass_steps tr (from k) (reverse (drop 1 f)) ∙ ap (λ (x : ℕ). k + x) (length-reverse (drop 1 f) ∙ length-drop 1 f)

  right_state : (k i : ℕ) → (right_on tr k f i).state ≡ (right_at tl tr f n i).state
  right_state k i = pass_uncounted tr 0 k 0 (reverse (drop i f))

  abbrev lefts_below : Bool
  lefts_below = all_below (λ i. ltb (left_at tl tr f n i).state l) (suc n)

  abbrev rights_below : Bool
  rights_below = all_below (λ i. ltb (right_at tl tr f n i).state r) (suc n)

  module _ {t : List ℕ} {n₀ steps : ℕ} {left t' left' : List ℕ} {p : Option Counts} (s : SharedPass tl f t n₀ steps left t' left' p) where
    left_usable : (ws : List Str) → Holds tl ws t n₀ → is_some p ≡ lefts_below
    left_usable ws h = (s.shares ws h).usable ∙ ap (all_below (λ i. ltb (left_at tl tr f n i).state l)) long

  -- no right pass is made
  pub frame-bad : {t : List ℕ} {n₀ steps : ℕ} {left right t' left' : List ℕ} → SharedPass tl f t n₀ steps left t' left' None → FramePassed words l r f t n₀ steps left right t' left' right None
  frame-bad s =
      record {
        sized = s.sized;
        left-sized = s.left-sized;
        right_sized = refl;
        grown = tt;
        shares = λ ws h. record {
          both = λ k. record {
            usable = sym (ap (λ (b : Bool). b && rights_below) (sym (left_usable s ws h)));
            lefts = λ y. clash y refl;
            rights = λ y. clash y refl;
            left-small = λ y. clash y refl;
            right-small = λ y. clash y refl;
            looked = λ y. clash y refl;
          };
          holds = tt;
        };
      }

  module _ {t : List ℕ} {n₀ steps : ℕ} {left t' left' : List ℕ} {p : Counts} (s : SharedPass tl f t n₀ steps left t' left' (Some p)) where
    both_usable : {right' : List ℕ} {q : Option ℕ} → Passed (right_on tr p.steps f) r (length f - 1) 1 (p.steps + frame_size) right' q → (ws : List Str) → Holds tl ws t n₀ → is_some q ≡ lefts_below && rights_below
    both_usable o ws h =
        o.usable
        ∙ (ap (all_below (λ i. ltb (right_on tr p.steps f i).state r)) long ∙ all_below_ext _ _ (λ i. ap (λ (x : ℕ). ltb x r) (right_state p.steps i)) (suc n))
        ∙ ap (λ (b : Bool). b && rights_below) (left_usable s ws h)

    pub frame-right_bad : {right right' : List ℕ} → length right' ≡ length right → Passed (right_on tr p.steps f) r (length f - 1) 1 (p.steps + frame_size) right' None → FramePassed words l r f t n₀ steps left right t' left' right' None
    frame-right_bad same o =
        record {
          sized = s.sized;
          left-sized = s.left-sized;
          right_sized = same;
          grown = tt;
          shares = λ ws h. record {
            both = λ k. record {
              usable = both_usable o ws h;
              lefts = λ y. clash y refl;
              rights = λ y. clash y refl;
              left-small = λ y. clash y refl;
              right-small = λ y. clash y refl;
              looked = λ y. clash y refl;
            };
            holds = tt;
          };
        }

    pub frame-good : {right right' : List ℕ} → length right' ≡ length right → {k : ℕ} → Passed (right_on tr p.steps f) r (length f - 1) 1 (p.steps + frame_size) right' (Some k)
        → FramePassed words l r f t n₀ steps left right t' left' right' (Some (record { nodes = p.nodes; steps = k }))
    frame-good same o =
        record {
          sized = s.sized;
          left-sized = s.left-sized;
          right_sized = same;
          grown = record {
            tree = λ _. s.grown.tree;
            steps-are = omega (arith, o.looked refl, right_count p.steps, s.grown.steps-are);
            few = omega (arith, s.grown.few);
            more = s.grown.more;
          };
          shares = λ ws h. record {
            both = λ k. record {
              usable = both_usable o ws h;
              lefts = λ u j a b. (s.shares ws h).all refl j a (omega (arith, long));
              rights = λ u j a b. o.all u j a (omega (arith, long)) ∙ right_state p.steps j;
              left-small = λ u j a b. s.grown.small j a (omega (arith, long));
              right-small = λ u j a b. o.small u j a (omega (arith, long));
              looked = λ u. refl;
            };
            holds = (s.shares ws h).holds;
          };
        }
