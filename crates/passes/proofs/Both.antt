-- Both passes of a word: the right one is made where the left one led to no state out of range.
-- Assumes nothing.
use Prim.Native.Nat.{ℕ, suc, ◌+◌}
use mathlib.Core.Path.{◌≡◌, sym, ap, ◌∙◌}
use mathlib.Core.Bool.{Bool, true, false, ◌&&◌}
use mathlib.Core.List.{List, [], ◌∷◌, reverse}
use lib.Dec.{ltb}
use lib.ListN.{length, take, drop}
use lib.Seq.{take-append_seam}
use Rattle.std.specs.Prelude.{Option, is_some, unwrap_or}
use Rattle.fitting.specs.Fitting.{Str, frame}
use Rattle.speech.specs.Places.{frame_size}
use Rattle.tables.specs.Tables.{Table}
use Rattle.tables.specs.Walk.{Step as State, pass, from, all_below, left_at, right_at, count_after}
use Rattle.tables.proofs.Truth.{clash}
use Rattle.tables.proofs.Walk.{pass_uncounted}
use Rattle.tables.proofs.Words.{all_below_ext}
use Rattle.tables.proofs.Steps.{pass_after_none}
use Rattle.passes.specs.Passes.{left_on, right_on, Passed, left_rows_of, right_rows_of, Both}

module _ (ws : List ℕ) (l r : ℕ) (f : List ℕ) (n steps : ℕ) (left right : List ℕ) (one : Option ℕ)
    (a : Passed (left_on (left_rows_of ws l) steps f) l (suc n) (suc n) (steps + frame_size) left one) where
  abbrev tl : Table
  tl = left_rows_of ws l

  abbrev tr : Table
  tr = right_rows_of ws l r

  -- the states are those of passes that count from 0
  left_state : (i : ℕ) → (left_on tl steps f i).state ≡ (left_at tl tr f n i).state
  left_state i = pass_uncounted tl 0 steps 0 (take i f)

  right_state : (k i : ℕ) → (right_on tr k f i).state ≡ (right_at tl tr f n i).state
  right_state k i = pass_uncounted tr 0 k 0 (reverse (drop i f))

  lefts_below : is_some one ≡ all_below (λ i. ltb (left_at tl tr f n i).state l) (suc n)
  lefts_below = a.usable ∙ all_below_ext _ _ (λ i. ap (λ (q : ℕ). ltb q l) (left_state i)) (suc n)

  -- with the left pass, usable is what the right pass makes it
  abbrev right_below : Bool
  right_below = all_below (λ i. ltb (right_at tl tr f n i).state r) (suc n)

  pub both_bad : is_some one ≡ false → Both ws l r f n steps left right one
  both_bad u =
      record {
        usable = u ∙ sym (ap (λ (b : Bool). b && right_below) (sym lefts_below ∙ u));
        lefts = λ y. clash y u;
        rights = λ y. clash y u;
        left-small = λ y. clash y u;
        right-small = λ y. clash y u;
        looked = λ y. clash y u;
      }

  pub both_good : is_some one ≡ true → (two : Option ℕ) → Passed (right_on tr (unwrap_or one 0) f) r (suc n) 1 (unwrap_or one 0 + frame_size) right two → Both ws l r f n steps left right two
  both_good e two b =
      record {
        usable =
            b.usable ∙ (all_below_ext _ _ (λ i. ap (λ (q : ℕ). ltb q r) (right_state (unwrap_or one 0) i)) (suc n)
            ∙ sym (ap (λ (t : Bool). t && right_below) (sym lefts_below ∙ e)));
        lefts = λ q k low high. a.all e k low high ∙ left_state k;
        rights = λ q k low high. b.all q k low high ∙ right_state (unwrap_or one 0) k;
        left-small = λ q. a.small e;
        right-small = λ q. b.small q;
        looked = λ q. b.looked q ∙ ap (λ (k : ℕ). (right_on tr k f 1).steps) (a.looked e);
      }

-- over the frame of a word, the count is the one that is defined
pub count-is : (tl tr : Table) (k : ℕ) (w : Str) → (right_on tr (left_on tl k (frame w) (suc (length w))).steps (frame w) 1).steps ≡ count_after tl tr [] k w
unfolding count_after
count-is tl tr k w =
    let e : take (suc (length w)) (frame w) ≡ 0 ∷ w = ap (λ (v : Str). 0 ∷ v) (take-append_seam w (0 ∷ [])) in
    ap (λ (s : State). (right_on tr s.steps (frame w) 1).steps) (ap (pass tl (from k)) e ∙ sym (pass_after_none tl [] (from k) (0 ∷ w)))
