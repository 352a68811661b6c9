-- One name more is answered, in the part of the lent memory after the answers before it; and the loop over the names.
-- Assumes nothing.
use Rattle.std.specs.Prelude.{Result}
use mathlib.Core.Path.{◌≡◌, sym, ap, ap₂, ◌∙◌, subst, subst₂}
use Prim.Native.Nat.{ℕ, ◌+◌, ◌-◌, ◌*◌, ◌≤◌, ◌<◌}
use native.Mathlib.Omega.{arith}
use mathlib.Core.Bool.{true, false}
use mathlib.Core.List.{List, [], ◌∷◌, ◌++◌}
use lib.ListN.{length, get_or, take, drop, length-drop}
use lib.Seq.{get_or-drop, drop-drop}
use borrow.Rule.Slice.PartMut.{mid_of, put_mid}
use Rattle.fitting.specs.Fitting.{Str}
use Rattle.speech.specs.Speech.{Outcome, Said, told_of, saying}
use Rattle.speech.specs.declared.Spoken.{Spoken}
use Rattle.rules.specs.declared.Refusal.{Refusal}
use Rattle.many_names.specs.Names.{names_in, name_at, has_next}
use Rattle.many_names.specs.Codes.{phones_given, numbers_given}
use Rattle.many_names.specs.Many.{reply_size, replied}
use Rattle.many_names.specs.declared.Progress.{Progress}
use Rattle.many_names.proofs.Names.{next-count, names-next}
use Rattle.many_names.proofs.Answering as A
use Rattle.sheet_name.specs.Judging.{parts_in, Kept}
use Rattle.sheet_judging.specs.Kept.{parts_of}
use Rattle.sheet_answers.specs.Answers.{said_by, SomeKept, SaysKept, KeptAt, SomeKeptAt, NextKept, KeptBy, SomeKeptBy, AnsweredAll}

fits : (f : Str → Outcome) → A.Fits (said_by f)
fits f n phones numbers = A.delivered-fit (f n) phones numbers

-- ---- one name

module _ (image list sheet ends starts kept : List ℕ) (p : Progress) (n : ℕ) (here : n ≡ get_or sheet p.at 0) (first : ℕ) (begins : first ≡ get_or starts p.count 0)
    (m : ℕ) (many : m ≡ parts_in (get_or ends p.count 0)) where
  -- the name and its parts, as the code has them
  abbrev name : Str
  name = take (p.at + 1 + n - (p.at + 1)) (drop (p.at + 1) sheet)

  abbrev parts : List ℕ
  parts = take (first + m - first) (drop first kept)

  name_same : name_at sheet p.at ≡ name
  name_same = let e : get_or sheet p.at 0 ≡ p.at + 1 + n - (p.at + 1) = omega (arith, here) in ap (λ (k : ℕ). take k (drop (p.at + 1) sheet)) e

  parts_same : parts_of ends starts kept p.count ≡ parts
  parts_same = let e : parts_in (get_or ends p.count 0) ≡ first + m - first = omega (arith, many) in ap₂ (λ (k i : ℕ). take k (drop i kept)) e (sym begins)

  as_held : (f : Str → Outcome) → KeptAt image list sheet ends starts kept p.count (name_at sheet p.at) (f (name_at sheet p.at)) → Kept image list name (get_or ends p.count 0) parts (f name)
  as_held f = subst₂ (λ (w : Str) (z : List ℕ). Kept image list w (get_or ends p.count 0) z (f w)) name_same parts_same

  module _ (some : SomeKeptAt image list sheet ends starts kept p.count (name_at sheet p.at)) where
    pub some-kept : SomeKept image list name (get_or ends p.count 0) parts
    some-kept = record { outcome = some.outcome; kept = as_held (λ _. some.outcome) some.held }

    pub last-in : first + m ≤ length kept
    last-in = omega (arith, some.placed, begins, many)

  module _ (ph nu re : List ℕ) (s : Result Spoken Refusal) (zs ys : List ℕ)
      (e : SaysKept image list name (get_or ends p.count 0) parts (mid_of p.phones (length ph - p.phones) ph) (mid_of p.numbers (length nu - p.numbers) nu) zs ys s) where
    says : (f : Str → Outcome) → KeptAt image list sheet ends starts kept p.count (name_at sheet p.at) (f (name_at sheet p.at))
        → record { said = saying (told_of s) zs ys; steps = 0 } ≡ said_by f name (mid_of p.phones (length ph - p.phones) ph) (mid_of p.numbers (length nu - p.numbers) nu)
    says f k = ap (λ (x : Said). record { said = x; steps = 0 }) (e (f name) (as_held f k))

    -- what the answer gives has room after what was given before
    module _ (some : SomeKeptAt image list sheet ends starts kept p.count (name_at sheet p.at)) where
      abbrev o : Str → Outcome
      o = λ _. some.outcome

      pub phones-room : (g : ℕ) → g ≡ phones_given (told_of s) → p.phones ≤ length ph → p.phones + g ≤ length ph
      phones-room = A.phones-room (said_by o) (fits o) sheet ph nu re p n here s 0 zs ys (says o some.held)

      pub numbers-room : (g : ℕ) → g ≡ numbers_given (told_of s) → p.numbers ≤ length nu → p.numbers + g ≤ length nu
      numbers-room = A.numbers-room (said_by o) (fits o) sheet ph nu re p n here s 0 zs ys (says o some.held)

    pub next-kept : (g h : ℕ) → g ≡ phones_given (told_of s) → h ≡ numbers_given (told_of s) → (re' : List ℕ)
        → re' ≡ take (reply_size * p.count) re ++ (replied (record { said = saying (told_of s) zs ys; steps = 0 }) ++ drop (reply_size * p.count + reply_size) re)
        → NextKept image list sheet ends starts kept ph nu re p (put_mid p.phones (length ph - p.phones) ph zs) (put_mid p.numbers (length nu - p.numbers) nu ys) re'
        (record { at = p.at + 1 + n; count = p.count + 1; phones = p.phones + g; numbers = p.numbers + h })
    next-kept g h eg eh re' er f k = A.next-is (said_by f) (fits f) sheet ph nu re p n here s 0 zs ys (says f k) g h eg eh re' er

-- ---- the loop

module _ (image list sheet ends starts kept : List ℕ) (k : ℕ) where
  abbrev names : List Str
  names = names_in k sheet

  pub record AnsweredTo (ph₀ nu₀ re₀ ph nu re : List ℕ) (p : Progress) : Type 0 where
    pub left_over : drop p.count names ≡ names_in (k - p.count) (drop p.at sheet)
    pub goes : (f : Str → Outcome) → KeptBy image list sheet ends starts kept k f → A.Going (said_by f) sheet k ph₀ nu₀ re₀ ph nu re p

  pub answered-begin : (ph nu re : List ℕ) → reply_size * k ≤ length re → AnsweredTo ph nu re ph nu re A.start
  answered-begin ph nu re h =
      let z : k ≡ k - 0 = omega arith in
      record {
        left_over = ap (λ (j : ℕ). names_in j sheet) z;
        goes = λ f w. A.begin (said_by f) sheet k ph nu re h;
      }

  module _ (ph₀ nu₀ re₀ ph nu re : List ℕ) (p : Progress) (g : AnsweredTo ph₀ nu₀ re₀ ph nu re p) (some : SomeKeptBy image list sheet ends starts kept k) where
    pub going : A.Going (said_by some.outcomes) sheet k ph₀ nu₀ re₀ ph nu re p
    going = g.goes some.outcomes some.held

    pub answered-end : has_next sheet p.at p.count k ≡ false → AnsweredAll image list sheet ends starts kept k ph₀ nu₀ re₀ ph nu re p.count
    answered-end h f w =
        let x = g.goes f w in
        record {
          count-is = A.end-count (said_by f) sheet k ph₀ nu₀ re₀ ph nu re p x h;
          replies-are = A.end-replies (said_by f) sheet k ph₀ nu₀ re₀ ph nu re p x h;
          phones-are = A.end-phones (said_by f) sheet k ph₀ nu₀ re₀ ph nu re p x h;
          numbers-are = A.end-numbers (said_by f) sheet k ph₀ nu₀ re₀ ph nu re p x h;
        }

    module _ (h : has_next sheet p.at p.count k ≡ true) where
      over_is : drop p.count names ≡ name_at sheet p.at ∷ names_in (k - (p.count + 1)) (drop (p.at + 1 + get_or sheet p.at 0) sheet)
      over_is = g.left_over ∙ names-next sheet p.at p.count k h

      name_is : get_or names p.count [] ≡ name_at sheet p.at
      name_is =
          let z : p.count ≡ p.count + 0 = omega arith in
          ap (λ (i : ℕ). get_or names i []) z ∙ (sym (get_or-drop p.count names 0 []) ∙ ap (λ (ns : List Str). get_or ns 0 []) over_is)

      inside : p.count < length names
      inside = omega (arith, length-drop p.count names, ap length over_is)

      held-here : (f : Str → Outcome) → KeptBy image list sheet ends starts kept k f → KeptAt image list sheet ends starts kept p.count (name_at sheet p.at) (f (name_at sheet p.at))
      held-here f w = subst (λ (v : Str). KeptAt image list sheet ends starts kept p.count v (f v)) name_is (w p.count inside)

      pub some-here : SomeKeptAt image list sheet ends starts kept p.count (name_at sheet p.at)
      some-here = record { placed = some.placed p.count inside; outcome = some.outcomes (name_at sheet p.at); held = held-here some.outcomes some.held }

      pub replies-room : reply_size * p.count + reply_size ≤ length re
      replies-room = omega (arith, next-count sheet p.at p.count k h, going.within.replies-in)

      pub answered-next : (ph' nu' re' : List ℕ) (p' : Progress) → NextKept image list sheet ends starts kept ph nu re p ph' nu' re' p' → AnsweredTo ph₀ nu₀ re₀ ph' nu' re' p'
      answered-next ph' nu' re' p' x =
          let y = x some.outcomes (held-here some.outcomes some.held) in
          record {
            left_over = ap (λ (i : ℕ). drop i names) y.count_next ∙ (sym (drop-drop 1 p.count names) ∙ (ap (drop 1) over_is
                ∙ sym (ap₂ (λ (i j : ℕ). names_in (k - i) (drop j sheet)) y.count_next y.at_next)));
            goes = λ f w. A.next (said_by f) sheet k (fits f) ph₀ nu₀ re₀ ph nu re p (g.goes f w) h ph' nu' re' p' (x f (held-here f w));
          }

      pub count_next : (ph' nu' re' : List ℕ) (p' : Progress) → NextKept image list sheet ends starts kept ph nu re p ph' nu' re' p' → p'.count ≡ p.count + 1
      count_next ph' nu' re' p' x = (x some.outcomes (held-here some.outcomes some.held)).count_next
