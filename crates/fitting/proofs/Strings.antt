-- Laws of strings of symbols: when one starts, ends or equals another, told by runs of the same length, and frames.
-- Assumes nothing.
use Prim.Native.Nat.{ℕ, zero, suc, ◌+◌, ◌-◌, ◌≤◌, ◌<◌}
use mathlib.Core.Path.{◌≡◌, refl, sym, ap, ap₂, ◌∙◌}
use mathlib.Core.List.{List, [], ◌∷◌, ◌++◌}
use mathlib.Core.Bool.{Bool, true, false, ◌&&◌, ◌||◌, true≢false}
use native.Mathlib.Omega.{arith}
use native.Mathlib.Numerals.{add-one}
use borrow.Author.Tests.{leb-true, leb-false, eq-eqb, ne_eqb}
use lib.Dec.{eqb, leb}
use lib.ListN.{length, get_or, take, drop, length-append, length-drop, drop_of_length-le}
use lib.Seq.{drop-cons, length-take-le, take-nil}
use Rattle.rules.proofs.Cases.{by_bool}
use Rattle.fitting.specs.Fitting.{Str, same, starts, ends, frame}

-- tests

pub clash {ℓ} : {A : Type ℓ} {b : Bool} → b ≡ true → b ≡ false → A
clash p q = absurd (true≢false (sym p ∙ q))

pub and_turn : (a b c : Bool) → (a && (b && c)) ≡ (b && (c && a))
and_turn true true true = refl
and_turn true true false = refl
and_turn true false c = refl
and_turn false true true = refl
and_turn false true false = refl
and_turn false false c = refl

and_assoc : (a b c : Bool) → (a && (b && c)) ≡ ((a && b) && c)
and_assoc true b c = refl
and_assoc false b c = refl

or-false : (b : Bool) → (b || false) ≡ b
or-false true = refl
or-false false = refl

-- equal strings are as long
pub same_lengths : (s w : Str) → (length s ≡ length w → ⊥) → same s w ≡ false
same_lengths [] [] h = absurd (h refl)
same_lengths [] (y ∷ w) h = refl
same_lengths (x ∷ s) [] h = refl
same_lengths (x ∷ s) (y ∷ w) h =
    by_bool (eqb x y) (λ e. rw e (same_lengths s w (λ q. h (ap suc q)))) (λ e. rw e)

-- a string that starts or ends another is no longer, and is then told by one run of its length
pub starts_long : (s w : Str) → length w < length s → starts s w ≡ false
starts_long [] w h = absurd (omega arith)
starts_long (x ∷ s) [] h = refl
starts_long (x ∷ s) (y ∷ w) h =
    by_bool (eqb x y) (λ e. rw e (starts_long s w (omega arith))) (λ e. rw e)

pub starts_same : (s w : Str) → length s ≤ length w → starts s w ≡ same s (take (length s) w)
starts_same [] w h = refl
starts_same (x ∷ s) [] h = absurd (omega arith)
starts_same (x ∷ s) (y ∷ w) h = ap (λ (b : Bool). eqb x y && b) (starts_same s w (omega arith))

pub starts_most : (s w : Str) → starts s w ≡ true → length s ≤ length w
starts_most s w e = by_bool (leb (length s) (length w)) (λ q. leb-true (length s) (length w) q) (λ q. clash e (starts_long s w (leb-false (length s) (length w) q)))

pub starts_append : (s t w : Str) → starts (s ++ t) w ≡ (starts s w && starts t (drop (length s) w))
starts_append [] t w = refl
starts_append (x ∷ s) t [] = refl
starts_append (x ∷ s) t (y ∷ w) =
    ap (λ (b : Bool). eqb x y && b) (starts_append s t w) ∙ and_assoc (eqb x y) (starts s w) (starts t (drop (length s) w))

pub ends_long : (s w : Str) → length w < length s → ends s w ≡ false
ends_long s [] h = same_lengths s [] (λ e. omega arith)
ends_long s (y ∷ w) h = rw (same_lengths s (y ∷ w) (λ e. omega arith)) (ends_long s w (omega arith))

pub ends_same : (s w : Str) → length s ≤ length w → ends s w ≡ same s (drop (length w - length s) w)
ends_same s [] h = let e : 0 - length s ≡ 0 = omega arith in rw e
ends_same s (y ∷ w) h =
    by_bool (leb (length s) (length w))
    (λ q.
    let l = leb-true (length s) (length w) q in
    let e : suc (length w) - length s ≡ suc (length w - length s) = omega arith in
    rw (same_lengths s (y ∷ w) (λ z. omega arith), e) (ends_same s w l))
    (λ q.
    let l = leb-false (length s) (length w) q in
    let e : suc (length w) - length s ≡ 0 = omega arith in
    rw (ends_long s w l, e) (or-false (same s (y ∷ w))))

-- A loop that compares a with b from q on: after i symbols the rest decides.
module _ (a b : Str) (q : ℕ) (room : q + length a ≤ length b) where
  abbrev pub ahead : ℕ → Bool
  ahead i = same (drop i a) (take (length a - i) (drop (q + i) b))

  front : (i : ℕ) → i < length a
      → ahead i ≡ (eqb (get_or a i 0) (get_or b (q + i) 0) && ahead (i + 1))
  front i h =
      let e : length a - i ≡ suc (length a - (i + 1)) = omega arith in
      let f : suc (q + i) ≡ q + (i + 1) = omega arith in
      ap₂ same (drop-cons a i 0 h)
      (ap₂ (λ (k : ℕ) (l : Str). take k l) e (drop-cons b (q + i) 0 (omega arith))
      ∙ ap (λ (k : ℕ). get_or b (q + i) 0 ∷ take (length a - (i + 1)) (drop k b)) f)
      ∙ ap (λ (k : ℕ). eqb (get_or a i 0) (get_or b (q + i) 0) && same (drop k a) (take (length a - (i + 1)) (drop (q + (i + 1)) b))) (sym (add-one i))

  pub run_begin : same a (take (length a) (drop q b)) ≡ ahead 0
  run_begin =
      let e : length a - 0 ≡ length a = omega arith in
      let f : q + 0 ≡ q = omega arith in
      rw (e, f)

  pub run_on : (i : ℕ) → i < length a → get_or a i 0 ≡ get_or b (q + i) 0 → ahead i ≡ ahead (i + 1)
  run_on i h e = front i h ∙ ap (λ (t : Bool). t && ahead (i + 1)) (eq-eqb _ _ e)

  pub run_off : (i : ℕ) → i < length a → (get_or a i 0 ≡ get_or b (q + i) 0 → ⊥) → ahead i ≡ false
  run_off i h e = front i h ∙ ap (λ (t : Bool). t && ahead (i + 1)) (ne_eqb _ _ e)

  pub run_end : (i : ℕ) → length a ≤ i → ahead i ≡ true
  run_end i h =
      let e : length a - i ≡ 0 = omega arith in
      rw (e, drop_of_length-le a {i = i} h)

pub drop_take : (k m j : ℕ) (l : List ℕ) → k + m ≡ j → drop k (take j l) ≡ take m (drop k l)
drop_take zero m j l e = let z : j ≡ m = omega arith in rw z
drop_take (suc k) m zero l e = absurd (omega arith)
drop_take (suc k) m (suc j) [] e = sym (take-nil m)
drop_take (suc k) m (suc j) (x ∷ l) e = drop_take k m j l (omega arith)

-- where a pattern has no room, and where one run of its length tells
module _ (s f : Str) (i : ℕ) (inside : i ≤ length f) where
  pub starts_past : length f - i < length s → starts s (drop i f) ≡ false
  starts_past h = starts_long s (drop i f) (omega (arith, length-drop i f))

  pub starts_run : length s ≤ length f - i → starts s (drop i f) ≡ same s (take (length s) (drop i f))
  starts_run h = starts_same s (drop i f) (omega (arith, length-drop i f))

  pub ends_past : i < length s → ends s (take i f) ≡ false
  ends_past h = ends_long s (take i f) (omega (arith, length-take-le i f inside))

  pub ends_run : length s ≤ i → ends s (take i f) ≡ same s (take (length s) (drop (i - length s) f))
  ends_run h =
      let l : length (take i f) - length s ≡ i - length s = omega (arith, length-take-le i f inside) in
      ends_same s (take i f) (omega (arith, length-take-le i f inside))
      ∙ (ap (λ (k : ℕ). same s (drop k (take i f))) l
      ∙ ap (same s) (drop_take (i - length s) (length s) i f (omega arith)))

pub frame_long : (name : Str) → length (frame name) ≡ length name + 2
frame_long name = omega (arith, length-append name (0 ∷ []))
