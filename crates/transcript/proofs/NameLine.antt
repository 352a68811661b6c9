-- The name in a frame that was read from a line: what the 67 bytes kept of it tell.
-- Assumes nothing.
use Prim.Native.Nat.{ℕ, ◌+◌, ◌-◌, ◌≤◌, ◌<◌}
use mathlib.Core.Path.{◌≡◌, refl, sym, ap, ap₂, ◌∙◌}
use mathlib.Core.List.{List, [], ◌∷◌}
use mathlib.Core.Bool.{Bool, true, false, cond}
use native.Mathlib.Omega.{arith}
use borrow.Author.Tests.{ltb-true, ltb-false}
use Rattle.std.specs.Prelude.{Some, None, min}
use lib.Dec.{eqb, ltb}
use lib.ListN.{length, get_or, take, drop, length-drop}
use lib.Seq.{take_all, take-take, take-append-le, drop-append-le, length-take-le}
use Rattle.rules.specs.Memory.{over}
use Rattle.rules.proofs.Cases.{by_bool}
use Rattle.frames.specs.declared.Line.{Line}
use Rattle.frames.specs.Lines.{Parsed, sound_line, decoded, report}
use Rattle.frames.proofs.Lines.{sound_was}
use Rattle.frames.proofs.Report.{Found, found, not_found, decoded_sound}
use Rattle.transcript.specs.Names.{unsound, name, letters_in, asked, cut, name_in}

-- ---- 67 bytes of a frame

first_kept : (f xs : List ℕ) → 2 ≤ length f → get_or (over (take 67 f) xs) 0 0 ≡ get_or f 0 0
first_kept [] xs h = absurd (omega arith)
first_kept (a ∷ f) xs h = refl

from_one : (f : List ℕ) (k : ℕ) → k ≤ 66 → take k (drop 1 (take 67 f)) ≡ take k (drop 1 f)
from_one [] k h = refl
from_one (a ∷ f) k h = take-take k 66 f h

long_enough : (f : List ℕ) (k : ℕ) → k + 2 ≤ length f → k ≤ 65 → 1 + k ≤ length (take 67 f)
long_enough f k a b =
    by_bool (ltb 67 (length f))
    (λ e. let l = ltb-true 67 (length f) e in omega (arith, length-take-le 67 f (omega arith)))
    (λ e. let l = ltb-false 67 (length f) e in omega (arith, ap length (take_all 67 f (omega arith))))

letters_kept : (f xs : List ℕ) (k : ℕ) → k + 2 ≤ length f → k ≤ 65 → take k (drop 1 (over (take 67 f) xs)) ≡ take k (drop 1 f)
letters_kept f xs k a b =
    let t = take 67 f in
    let d = drop (length t) xs in
    let h = long_enough f k a b in
    let m : k ≤ length (drop 1 t) = simp length-drop (omega arith) in
    ap (take k) (drop-append-le 1 t d (omega arith)) ∙ (take-append-le k (drop 1 t) d m ∙ from_one f k (omega arith))

short_letters : (f : List ℕ) → 2 ≤ length f → length f ≤ 67 → take (length f - 2) (drop 1 f) ≡ take 65 (letters_in f)
short_letters f h u =
    let l : length (take (length f - 2) (drop 1 f)) ≤ 65 = omega (arith, length-take-le (length f - 2) (drop 1 f) (simp length-drop (omega arith))) in
    sym (take_all 65 (letters_in f) l)

long_letters : (f : List ℕ) → 67 < length f → take 65 (drop 1 f) ≡ take 65 (letters_in f)
long_letters f h = sym (take-take 65 (length f - 2) (drop 1 f) (omega arith))

-- ---- the line that was read

module _ (text : List ℕ) (at : ℕ) (xs z : List ℕ)
    (h : z ≡ over (take (length xs) (decoded (drop at text))) xs) (n : length xs ≡ 67) where
  pub name_in_bad : None ≡ report (length text) (sound_line (drop at text)) → name_in None z ≡ cut (asked (sound_line (drop at text)))
  name_in_bad e = sym (ap (λ (l : Parsed). cut (asked l)) (not_found text at e))

  module _ (line : Line) (e : Some line ≡ report (length text) (sound_line (drop at text))) where
    g : Found text at line
    g = found text at line e

    two : 2 ≤ length g.f
    two = (sound_was (drop at text) g.f g.rest g.is).two

    held : z ≡ over (take 67 g.f) xs
    held = h ∙ ap₂ (λ (k : ℕ) (l : List ℕ). over (take k l) xs) n (decoded_sound (drop at text) g.f g.rest g.is)

    first : get_or z 0 0 ≡ get_or g.f 0 0
    first = ap (λ (l : List ℕ). get_or l 0 0) held ∙ first_kept g.f xs two

    said : cut (asked (sound_line (drop at text))) ≡ cut (cond (eqb (get_or z 0 0) 3) (name (letters_in g.f)) unsound)
    said = ap (λ (l : Parsed). cut (asked l)) g.is ∙ ap (λ (k : ℕ). cut (cond (eqb k 3) (name (letters_in g.f)) unsound)) (sym first)

    pub name_in_other : eqb (get_or z 0 0) 3 ≡ false → name_in None z ≡ cut (asked (sound_line (drop at text)))
    name_in_other o = sym (said ∙ ap (λ (b : Bool). cut (cond b (name (letters_in g.f)) unsound)) o)

    module _ (o : eqb (get_or z 0 0) 3 ≡ true) where
      named : cut (asked (sound_line (drop at text))) ≡ name (take 65 (letters_in g.f))
      named = said ∙ ap (λ (b : Bool). cut (cond b (name (letters_in g.f)) unsound)) o

      long : 67 < line.len → name_in (Some 66) z ≡ cut (asked (sound_line (drop at text)))
      long l =
          let m = g.many in
          ap (λ (w : List ℕ). name (take 65 (drop 1 w))) held
          ∙ (ap name (letters_kept g.f xs 65 (omega arith) (omega arith) ∙ long_letters g.f (omega arith)) ∙ sym named)

      short : line.len ≤ 67 → name_in (Some (line.len - 1)) z ≡ cut (asked (sound_line (drop at text)))
      short l =
          let m = g.many in
          let k : line.len - 1 - 1 ≡ length g.f - 2 = omega (arith, two) in
          ap₂ (λ (i : ℕ) (w : List ℕ). name (take i (drop 1 w))) k held
          ∙ (ap name (letters_kept g.f xs (length g.f - 2) (omega (arith, two)) (omega arith) ∙ short_letters g.f two (omega arith)) ∙ sym named)

      -- up to 67 bytes of its frame are kept
      pub name_in_kept : (b : ℕ) → b ≡ min line.len 67 → name_in (Some (b - 1)) z ≡ cut (asked (sound_line (drop at text)))
      name_in_kept b q =
          by_bool (ltb 67 line.len)
          (λ t. let u = ltb-true 67 line.len t in let v : b - 1 ≡ 66 = omega arith in ap (λ (i : ℕ). name_in (Some i) z) v ∙ long u)
          (λ t. let u = ltb-false 67 line.len t in let v : b - 1 ≡ line.len - 1 = omega arith in ap (λ (i : ℕ). name_in (Some i) z) v ∙ short u)

      pub some : 2 ≤ line.len
      some = omega (arith, two, g.many)
