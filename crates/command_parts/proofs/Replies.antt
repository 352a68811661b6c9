-- The lines of answers, how long they are, and an edit's outcome with its answer.
-- Assumes nothing.
use Rattle.std.specs.Prelude.{Result, Ok, Err}
use Prim.Native.Nat.{ℕ, ◌≤◌}
use mathlib.Core.Path.{◌≡◌, refl, sym, ap, ◌∙◌}
use mathlib.Core.List.{List, [], ◌∷◌, ◌++◌}
use mathlib.Core.Bool.{Bool, true, false}
use native.Mathlib.Omega.{arith}
use lib.ListN.{length, drop, length-append}
use Rattle.numbers.specs.Numbers.{bytes2, bytes4}
use Rattle.rules.specs.Memory.{over}
use Rattle.rules.specs.Refusals.{reply_of, refusal_number, refusal_place}
use Rattle.rules.specs.declared.Refusal.{Refusal}
use Rattle.image.specs.Image.{Edited, outcome, last_of}
use Rattle.lines.specs.Printed.{refused_body, refusal_line}
use Rattle.lines.proofs.Printed.{length_printed}
use Rattle.command_parts.specs.Answers.{done_line, last_line, states_line, walk_refusal, malformed_line, reply_line, edit_line, Effect, leaving, Effects, SpeechEffect, sized_to, both_sized, speech_sized, ruled, Answered, BothAnswered, SpeechAnswered}

length_last : (n : ℕ) → length (last_line n) ≡ 9
unfolding last_line
length_last n = length_printed (6 ∷ bytes2 n)

-- what is answered, and how long it is
abbrev pub Gives : List ℕ → ℕ → List ℕ → List ℕ → Type 0
Gives line len out out' = (len ≡ length line) × (out' ≡ over line out)

-- an answer that was written had room
pub within : (line : List ℕ) (len : ℕ) (out out' : List ℕ) → len ≡ length line → out' ≡ over line out → len ≤ length out'
within line len out out' l h = omega (arith, l, ap length h, length-append line (drop (length line) out))

module _ (a : Result (Unit {0}) Refusal) (last len : ℕ) (out out' : List ℕ) where
  pub gives_last : a ≡ Ok tt → (n : ℕ) → n ≡ last → len ≡ 9 → out' ≡ over (last_line n) out → Gives (reply_line (reply_of a) last) len out out'
  gives_last p n e l h = rw (p, ← e) (l ∙ sym (length_last n), h)

  pub gives_refusal : (x : Refusal) → a ≡ Err x → len ≡ 15 → out' ≡ over (refusal_line x) out → Gives (reply_line (reply_of a) last) len out out'
  gives_refusal x p l h = rw p (l ∙ sym (length_printed (refused_body (refusal_number x) (refusal_place x))), h)

length_states : (l r : ℕ) → length (states_line l r) ≡ 13
unfolding states_line
length_states l r = length_printed (6 ∷ bytes2 l ++ bytes2 r)

pub length_walk_refusal : (steps n p : ℕ) → length (walk_refusal steps n p) ≡ 19
unfolding walk_refusal
length_walk_refusal steps n p = length_printed (8 ∷ bytes2 steps ++ (n ∷ bytes4 p))

length_done : length done_line ≡ 5
unfolding done_line
length_done = length_printed (6 ∷ [])

pub length_malformed : length malformed_line ≡ 15
length_malformed = length_printed (refused_body 13 0)

-- ---- a command's effect, carried out

module _ (b : Bool) (e : Effect) (xs out out' : List ℕ) (len : ℕ) where
  pub answered_not : b ≡ false → len ≡ 15 → out' ≡ over malformed_line out → Answered (sized_to b e xs) xs len out out'
  answered_not p l h = rw p (record { left = refl; many = l ∙ sym length_malformed; bytes = h })

  pub answered_so : b ≡ true → (xs' : List ℕ) → xs' ≡ e.after → len ≡ length e.line → out' ≡ over e.line out
      → Answered (sized_to b e xs) xs' len out out'
  answered_so p xs' x l h = rw p (record { left = x; many = l; bytes = h })

pub answered_edit : (b : Bool) (e : Edited) (image out out' : List ℕ) (len : ℕ) → b ≡ true → (a : Result (Unit {0}) Refusal) (image' : List ℕ)
    → outcome (reply_of a) image' ≡ e → len ≡ length (reply_line (reply_of a) (last_of image')) → out' ≡ over (reply_line (reply_of a) (last_of image')) out
    → Answered (sized_to b (ruled e) image) image' len out out'
unfolding edit_line
answered_edit b e image out out' len p a image' q l h = rw (p, ← q) (record { left = refl; many = l; bytes = h })

pub answered_done : (b : Bool) (ys xs out out' : List ℕ) (len : ℕ) → b ≡ true → (xs' : List ℕ) → xs' ≡ ys → len ≡ 5 → out' ≡ over done_line out
    → Answered (sized_to b (leaving done_line ys) xs) xs' len out out'
answered_done b ys xs out out' len p xs' x l h = answered_so b (leaving done_line ys) xs out out' len p xs' x (l ∙ sym length_done) h

module _ (b : Bool) (e : Effects) (xs ys out out' : List ℕ) (len : ℕ) where
  pub both_not : b ≡ false → len ≡ 15 → out' ≡ over malformed_line out → BothAnswered (both_sized b e xs ys) xs ys len out out'
  both_not p l h = rw p (record { left = refl; right = refl; many = l ∙ sym length_malformed; bytes = h })

pub speech_not : (b : Bool) (e : SpeechEffect) (xs ys : List ℕ) (k : ℕ) (out out' : List ℕ) (len : ℕ) → b ≡ false → len ≡ 15 → out' ≡ over malformed_line out
    → SpeechAnswered (speech_sized b e xs ys k) xs ys k len out out'
speech_not b e xs ys k out out' len p l h =
    rw p (record { said = refl; numbered = refl; counted = refl; many = l ∙ sym length_malformed; bytes = h })

-- a line of two counts
pub gives_counts : (l r len : ℕ) (out out' : List ℕ) → len ≡ 13 → out' ≡ over (states_line l r) out → Gives (states_line l r) len out out'
gives_counts l r len out out' n h = (n ∙ sym (length_states l r), h)
