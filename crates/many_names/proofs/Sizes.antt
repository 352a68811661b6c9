-- The names of a sheet counted, and whether it is sound.
-- Assumes nothing.
use mathlib.Core.Path.{◌≡◌, refl, sym, ap, ap₂, ◌∙◌}
use Prim.Native.Nat.{ℕ, zero, suc, ◌+◌, ◌-◌, ◌*◌, ◌≤◌, ◌<◌}
use native.Mathlib.Omega.{arith}
use mathlib.Core.Bool.{Bool, true, false, ◌&&◌}
use mathlib.Core.List.{List, [], ◌∷◌}
use lib.Dec.{leb, ltb, eqb}
use lib.ListN.{length, get_or, take, drop, length-drop}
use lib.Seq.{drop-cons, drop-drop, drop-length}
use borrow.Author.Tests.{le-leb, lt-leb, leb-false, ltb-false, eqb-true, eqb-false}
use Rattle.rules.proofs.Cases.{by_bool}
use Rattle.fitting.specs.Fitting.{Str}
use Rattle.many_names.specs.Names.{names_in, has_next, sound_sheet}
use Rattle.many_names.proofs.Names.{next-count, next-whole, names-next, names-end}

-- a name is left: the rest is sound as the whole from it on is
sound_step : (j n : ℕ) (s : List ℕ) → n ≤ length s → sound_sheet (suc j) (n ∷ s) ≡ sound_sheet j (drop n s)
sound_step j n s h = ap (λ (b : Bool). b && sound_sheet j (drop n s)) (le-leb n (length s) h)

sound_cut : (j n : ℕ) (s : List ℕ) → length s < n → sound_sheet j (n ∷ s) ≡ false
sound_cut zero n s h = refl
sound_cut (suc j) n s h = ap (λ (b : Bool). b && sound_sheet j (drop n s)) (lt-leb n (length s) h)

sound_nil : (j : ℕ) → sound_sheet j [] ≡ true
sound_nil zero = refl
sound_nil (suc j) = refl

module _ (sheet : List ℕ) (k : ℕ) where
  pub record Counting (at count : ℕ) : Type 0 where
    pub at_in : at ≤ length sheet
    pub count-in : count ≤ k
    pub at-few : at ≤ 256 * count
    pub sound : sound_sheet k sheet ≡ sound_sheet (k - count) (drop at sheet)
    pub names : length (names_in k sheet) ≡ count + length (names_in (k - count) (drop at sheet))

  pub counting-begin : Counting 0 0
  counting-begin =
      let z : k ≡ k - 0 = omega arith in
      record {
        at_in = omega arith;
        count-in = omega arith;
        at-few = omega arith;
        sound = ap (λ (j : ℕ). sound_sheet j sheet) z;
        names = ap (λ (j : ℕ). length (names_in j sheet)) z ∙ omega arith;
      }

  module _ (at count : ℕ) (c : Counting at count) where
    tail_is : at < length sheet → drop at sheet ≡ get_or sheet at 0 ∷ drop (at + 1) sheet
    tail_is h = let one : suc at ≡ at + 1 = omega arith in drop-cons sheet at 0 h ∙ ap (λ (m : ℕ). get_or sheet at 0 ∷ drop m sheet) one

    module _ (h : has_next sheet at count k ≡ true) where
      abbrev n : ℕ
      n = get_or sheet at 0

      pub counting-next : (at' : ℕ) → at' ≡ at + 1 + n → n < 256 → Counting at' (count + 1)
      counting-next at' e byte =
          let w = next-whole sheet at count k h in
          let u = next-count sheet at count k h in
          let f : k - count ≡ suc (k - (count + 1)) = omega arith in
          record {
            at_in = omega arith;
            count-in = omega arith;
            at-few = omega (arith, c.at-few);
            sound = c.sound ∙ (ap₂ sound_sheet f (tail_is (omega arith)) ∙ (sound_step (k - (count + 1)) n (drop (at + 1) sheet) (omega (arith, length-drop (at + 1) sheet))
                ∙ (ap (sound_sheet (k - (count + 1))) (drop-drop n (at + 1) sheet) ∙ ap (λ (i : ℕ). sound_sheet (k - (count + 1)) (drop i sheet)) (sym e))));
            names = omega (arith, c.names, ap length (names-next sheet at count k h), ap (λ (i : ℕ). length (names_in (k - (count + 1)) (drop i sheet))) e);
          }

    module _ (h : has_next sheet at count k ≡ false) where
      pub counted-names : count ≡ length (names_in k sheet)
      counted-names = omega (arith, c.names, ap length (names-end sheet at count k h))

      pub counted-sound : eqb at (length sheet) ≡ sound_sheet k sheet
      counted-sound =
          by_bool (eqb at (length sheet))
          (λ e.
          let q : at ≡ length sheet = eqb-true at (length sheet) e in
          e ∙ sym (c.sound ∙ (ap (λ (i : ℕ). sound_sheet (k - count) (drop i sheet)) q ∙ (ap (sound_sheet (k - count)) (drop-length sheet) ∙ sound_nil (k - count)))))
          (λ e.
          let d = eqb-false at (length sheet) e in
          let l : at < length sheet = omega (arith, c.at_in, d) in
          e ∙ sym (c.sound ∙ (ap (sound_sheet (k - count)) (tail_is l) ∙ cut l)))
        where
          cut : at < length sheet → sound_sheet (k - count) (get_or sheet at 0 ∷ drop (at + 1) sheet) ≡ false
          cut l =
              by_bool (ltb count k)
              (λ b.
              let x : leb (at + 1 + get_or sheet at 0) (length sheet) ≡ false = ap (λ (y : Bool). y && leb (at + 1 + get_or sheet at 0) (length sheet)) (sym b) ∙ h in
              sound_cut (k - count) (get_or sheet at 0) (drop (at + 1) sheet) (omega (arith, leb-false (at + 1 + get_or sheet at 0) (length sheet) x, length-drop (at + 1) sheet)))
              (λ b. let z : k - count ≡ 0 = omega (arith, ltb-false count k b) in ap (λ (j : ℕ). sound_sheet j (get_or sheet at 0 ∷ drop (at + 1) sheet)) z)

pub names-few : (k : ℕ) (s : List ℕ) → length (names_in k s) ≤ k
names-few zero s = omega arith
names-few (suc k) [] = omega arith
names-few (suc k) (n ∷ s) = by_bool (leb n (length s)) (λ b. rw b (omega (arith, names-few k (drop n s)))) (λ b. rw b (omega arith))

-- where there are no more than j names, j are enough
pub names_enough : (j k : ℕ) (s : List ℕ) → length (names_in k s) ≤ j → j ≤ k → names_in j s ≡ names_in k s
names_enough zero k s h l = none (names_in k s) (omega arith)
  where
    none : (ns : List Str) → length ns ≤ 0 → [] ≡ ns
    none [] h = refl
    none (x ∷ ns) h = absurd (omega arith)
names_enough (suc j) zero s h l = absurd (omega arith)
names_enough (suc j) (suc k) [] h l = refl
names_enough (suc j) (suc k) (n ∷ s) h l =
    by_bool (leb n (length s))
    (λ b.
    let i : length (take n s ∷ names_in k (drop n s)) ≤ suc j = rw b at h in
    rw b (ap (λ (ns : List Str). take n s ∷ ns) (names_enough j k (drop n s) (omega arith) (omega arith))))
    (λ b. rw b)
