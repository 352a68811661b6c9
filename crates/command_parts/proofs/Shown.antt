-- Laws of the commands that store and show: a stored element, a shown part.
-- Assumes nothing.
use Prim.Native.Nat.{ℕ, ◌+◌, ◌-◌, ◌≤◌, ◌<◌}
use mathlib.Core.Path.{◌≡◌, sym, ◌∙◌, subst}
use mathlib.Core.Bool.{Bool, true, false}
use mathlib.Core.List.{List, ◌∷◌}
use native.Mathlib.Omega.{arith}
use borrow.Author.Tests.{le-ltb, lt-ltb, eq-eqb}
use lib.ListN.{length, get_or, take, drop, set}
use lib.Dec.{eqb, ltb}
use Rattle.rules.specs.Memory.{over}
use Rattle.numbers.specs.Numbers.{bytes4}
use Rattle.lines.specs.Printed.{printed}
use Rattle.command_parts.specs.Fields.{four}
use Rattle.command_parts.specs.Answers.{malformed_line, done_line, leaving, sized_to, Answered}
use Rattle.command_parts.specs.Memory.{stored_at, shown_if, inside, shown}
use Rattle.command_parts.proofs.Replies.{Gives, length_malformed, answered_not, answered_done}

module _ (n k i j v : ℕ) (xs out out' : List ℕ) (len : ℕ) (h : n ≡ k) (e : j ≡ i) where
  pub stored_out : length xs ≤ j → len ≡ 15 → out' ≡ over malformed_line out → Answered (sized_to (eqb n k) (stored_at i v xs) xs) xs len out out'
  stored_out l m b = rw (eq-eqb n k h) (answered_not (ltb i (length xs)) (leaving done_line (set xs i v)) xs out out' len (le-ltb i (length xs) (omega arith)) m b)

  pub stored_in : (w : ℕ) → j < length xs → w ≡ v → len ≡ 5 → out' ≡ over done_line out
      → Answered (sized_to (eqb n k) (stored_at i v xs) xs) (set xs j w) len out out'
  stored_in w l d m b =
      rw (eq-eqb n k h) (answered_done (ltb i (length xs)) (set xs i v) xs out out' len (lt-ltb i (length xs) (omega arith)) (set xs j w) (rw (e, d)) m b)

-- what is shown, or that nothing is
module _ (b : Bool) (bytes : List ℕ) (len : ℕ) (out out' : List ℕ) where
  pub not_shown : b ≡ false → len ≡ 15 → out' ≡ over malformed_line out → Gives (shown_if b bytes) len out out'
  not_shown p l h = rw p (l ∙ sym length_malformed, h)

  pub is_shown : b ≡ true → Gives (printed (10 ∷ bytes)) len out out' → Gives (shown_if b bytes) len out out'
  is_shown p g = rw p g

-- an edit count as it was read
pub edits_shown : (edits n len : ℕ) (out out' : List ℕ) → edits ≡ n → Gives (printed (10 ∷ bytes4 edits)) len out out' → Gives (printed (10 ∷ bytes4 n)) len out out'
edits_shown edits n len out out' e g = subst (λ (x : ℕ). Gives (printed (10 ∷ bytes4 x)) len out out') e g

-- a part that is asked for
module _ (bytes : List ℕ → List ℕ) (f xs : List ℕ) (len : ℕ) (out out' : List ℕ) where
  abbrev asked : List ℕ
  asked = take (get_or f 5 0) (drop (four 1 f) xs)

  pub part_not : inside f (length xs) ≡ false → len ≡ 15 → out' ≡ over malformed_line out → Gives (shown bytes f xs) len out out'
  part_not p l h = not_shown (inside f (length xs)) (bytes asked) len out out' p l h

  pub part_shown : inside f (length xs) ≡ true → (i k : ℕ) → i ≡ four 1 f → k ≡ get_or f 5 0
      → Gives (printed (10 ∷ bytes (take (i + k - i) (drop i xs)))) len out out' → Gives (shown bytes f xs) len out out'
  part_shown p i k ei ek g =
      let d : i + k - i ≡ get_or f 5 0 = omega arith in
      let e : take (i + k - i) (drop i xs) ≡ asked = rw (d, ei) in
      is_shown (inside f (length xs)) (bytes asked) len out out' p (subst (λ (z : List ℕ). Gives (printed (10 ∷ bytes z)) len out out') e g)
