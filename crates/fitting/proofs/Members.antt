-- Laws of strings of symbols in which classes stand: when one stands for the start, the end or the whole of another, told by runs of the same length.
-- Assumes nothing.
use Prim.Native.Nat.{ℕ, suc, ◌+◌, ◌-◌, ◌≤◌, ◌<◌}
use mathlib.Core.Path.{◌≡◌, refl, sym, ap, ap₂, ◌∙◌}
use mathlib.Core.List.{[], ◌∷◌}
use mathlib.Core.Bool.{Bool, true, false, ◌&&◌, or-false}
use native.Mathlib.Omega.{arith}
use native.Mathlib.Numerals.{add-one}
use borrow.Author.Tests.{leb-true, leb-false}
use lib.Dec.{leb}
use lib.ListN.{length, get_or, take, drop, length-drop, drop_of_length-le}
use lib.Seq.{drop-cons, length-take-le}
use Rattle.rules.proofs.Cases.{by_bool}
use Rattle.classes.specs.Classes.{Classes, stands}
use Rattle.fitting.specs.Fitting.{Str, same_by, starts_by, ends_by}
use Rattle.fitting.proofs.Strings.{drop_take}

module _ (k : Classes) where
  -- strings that stand one for the other are as long
  same_lengths : (s w : Str) → (length s ≡ length w → ⊥) → same_by k s w ≡ false
  same_lengths [] [] h = absurd (h refl)
  same_lengths [] (y ∷ w) h = refl
  same_lengths (x ∷ s) [] h = refl
  same_lengths (x ∷ s) (y ∷ w) h = by_bool (stands k x y) (λ e. rw e (same_lengths s w (λ q. h (ap suc q)))) (λ e. rw e)

  starts_long : (s w : Str) → length w < length s → starts_by k s w ≡ false
  starts_long [] w h = absurd (omega arith)
  starts_long (x ∷ s) [] h = refl
  starts_long (x ∷ s) (y ∷ w) h = by_bool (stands k x y) (λ e. rw e (starts_long s w (omega arith))) (λ e. rw e)

  starts_same : (s w : Str) → length s ≤ length w → starts_by k s w ≡ same_by k s (take (length s) w)
  starts_same [] w h = refl
  starts_same (x ∷ s) [] h = absurd (omega arith)
  starts_same (x ∷ s) (y ∷ w) h = ap (λ (b : Bool). stands k x y && b) (starts_same s w (omega arith))

  ends_long : (s w : Str) → length w < length s → ends_by k s w ≡ false
  ends_long s [] h = same_lengths s [] (λ e. omega arith)
  ends_long s (y ∷ w) h = rw (same_lengths s (y ∷ w) (λ e. omega arith)) (ends_long s w (omega arith))

  ends_same : (s w : Str) → length s ≤ length w → ends_by k s w ≡ same_by k s (drop (length w - length s) w)
  ends_same s [] h = let e : 0 - length s ≡ 0 = omega arith in rw e
  ends_same s (y ∷ w) h =
      by_bool (leb (length s) (length w))
      (λ q.
      let l = leb-true (length s) (length w) q in
      let e : suc (length w) - length s ≡ suc (length w - length s) = omega arith in
      rw (same_lengths s (y ∷ w) (λ z. omega arith), e) (ends_same s w l))
      (λ q.
      let l = leb-false (length s) (length w) q in
      let e : suc (length w) - length s ≡ 0 = omega arith in
      rw (ends_long s w l, e) (or-false (same_by k s (y ∷ w))))

  -- A loop that compares the symbols of a with the letters of b from q on: after i of them the rest decides.
  module _ (a b : Str) (q : ℕ) (room : q + length a ≤ length b) where
    abbrev pub ahead : ℕ → Bool
    ahead i = same_by k (drop i a) (take (length a - i) (drop (q + i) b))

    front : (i : ℕ) → i < length a → ahead i ≡ (stands k (get_or a i 0) (get_or b (q + i) 0) && ahead (i + 1))
    front i h =
        let e : length a - i ≡ suc (length a - (i + 1)) = omega arith in
        let f : suc (q + i) ≡ q + (i + 1) = omega arith in
        ap₂ (same_by k) (drop-cons a i 0 h)
        (ap₂ (λ (n : ℕ) (l : Str). take n l) e (drop-cons b (q + i) 0 (omega arith))
        ∙ ap (λ (n : ℕ). get_or b (q + i) 0 ∷ take (length a - (i + 1)) (drop n b)) f)
        ∙ ap (λ (n : ℕ). stands k (get_or a i 0) (get_or b (q + i) 0) && same_by k (drop n a) (take (length a - (i + 1)) (drop (q + (i + 1)) b))) (sym (add-one i))

    pub by_begin : same_by k a (take (length a) (drop q b)) ≡ ahead 0
    by_begin =
        let e : length a - 0 ≡ length a = omega arith in
        let f : q + 0 ≡ q = omega arith in
        rw (e, f)

    pub by_on : (i : ℕ) → i < length a → stands k (get_or a i 0) (get_or b (q + i) 0) ≡ true → ahead i ≡ ahead (i + 1)
    by_on i h e = front i h ∙ ap (λ (t : Bool). t && ahead (i + 1)) e

    pub by_off : (i : ℕ) → i < length a → stands k (get_or a i 0) (get_or b (q + i) 0) ≡ false → ahead i ≡ false
    by_off i h e = front i h ∙ ap (λ (t : Bool). t && ahead (i + 1)) e

    pub by_end : (i : ℕ) → length a ≤ i → ahead i ≡ true
    by_end i h =
        let e : length a - i ≡ 0 = omega arith in
        rw (e, drop_of_length-le a {i = i} h)

  -- where a context has no room, and where one run of its length tells
  module _ (s f : Str) (i : ℕ) (inside : i ≤ length f) where
    pub starts_past : length f - i < length s → starts_by k s (drop i f) ≡ false
    starts_past h = starts_long s (drop i f) (omega (arith, length-drop i f))

    pub starts_run : length s ≤ length f - i → starts_by k s (drop i f) ≡ same_by k s (take (length s) (drop i f))
    starts_run h = starts_same s (drop i f) (omega (arith, length-drop i f))

    pub ends_past : i < length s → ends_by k s (take i f) ≡ false
    ends_past h = ends_long s (take i f) (omega (arith, length-take-le i f inside))

    pub ends_run : length s ≤ i → ends_by k s (take i f) ≡ same_by k s (take (length s) (drop (i - length s) f))
    ends_run h =
        let l : length (take i f) - length s ≡ i - length s = omega (arith, length-take-le i f inside) in
        ends_same s (take i f) (omega (arith, length-take-le i f inside))
        ∙ (ap (λ (n : ℕ). same_by k s (drop n (take i f))) l
        ∙ ap (same_by k s) (drop_take (i - length s) (length s) i f (omega arith)))
