-- The lines that a command answers, and the edits that commands stand for. A frame of another length than its fields answers 05 with 13, place 0,
-- and changes nothing.
-- Assumes nothing.
use Rattle.std.specs.Prelude.{ℕ, ◌≡◌, List, [], ◌∷◌, ◌++◌, Bool, cond, length}
use Rattle.numbers.specs.Numbers.{bytes2, bytes4}
use Rattle.rules.specs.Memory.{over}
use Rattle.rules.specs.Refusals.{Reply, accepted, declined}
use Rattle.image.specs.Image.{Edited, last_of}
use Rattle.speech.specs.Speech.{Told, spoken, refused}
use Rattle.lines.specs.Printed.{refused_body, printed}

-- 06 alone
unfoldable pub done_line : List ℕ
done_line = printed (6 ∷ [])

-- 06 and a number
unfoldable pub last_line : ℕ → List ℕ
last_line last = printed (6 ∷ bytes2 last)

-- 06, L, R
unfoldable pub states_line : ℕ → ℕ → List ℕ
states_line l r = printed (6 ∷ bytes2 l ++ bytes2 r)

-- a walk's refusal: 08, steps, number, place
unfoldable pub walk_refusal : ℕ → ℕ → ℕ → List ℕ
walk_refusal steps number p = printed (8 ∷ bytes2 steps ++ (number ∷ bytes4 p))

-- a line that is no command
abbrev pub malformed_line : List ℕ
malformed_line = printed (refused_body 13 0)

-- the answer of a call that changes the ruleset: 06 with `last`, or the refusal
abbrev pub reply_line : Reply → ℕ → List ℕ
reply_line accepted last = last_line last
reply_line (declined n p) last = printed (refused_body n p)

unfoldable pub edit_line : Edited → List ℕ
edit_line e = reply_line e.reply (last_of e.image)

-- what a command comes to: the line of its answer, and the memory that it was lent to change as it is after it
pub record Effect : Type 0 where
  pub line : List ℕ
  pub after : List ℕ

abbrev pub leaving : List ℕ → List ℕ → Effect
leaving line after = record { line = line; after = after }

-- the same of a command that was lent two memories
pub record Effects : Type 0 where
  pub line : List ℕ
  pub first : List ℕ
  pub second : List ℕ

abbrev pub leaving_both : List ℕ → List ℕ → List ℕ → Effects
leaving_both line first second = record { line = line; first = first; second = second }

-- the same of a command that speaks a name: it is lent the phones, the numbers, and the contested letters of the last name spoken
pub record SpeechEffect : Type 0 where
  pub line : List ℕ
  pub phones : List ℕ
  pub numbers : List ℕ
  pub contested : ℕ

abbrev pub leaving_speech : List ℕ → List ℕ → List ℕ → ℕ → SpeechEffect
leaving_speech line phones numbers contested = record { line = line; phones = phones; numbers = numbers; contested = contested }

-- the contested letters of the last name spoken: a name that is refused leaves those of the one before
abbrev pub contested_after : Told → ℕ → ℕ
contested_after (spoken p n c) before = c
contested_after (refused n p) before = before

-- what a frame as long as its fields comes to; any other changes nothing
abbrev pub sized_to : Bool → Effect → List ℕ → Effect
sized_to b e xs = cond b e (leaving malformed_line xs)

abbrev pub both_sized : Bool → Effects → List ℕ → List ℕ → Effects
both_sized b e xs ys = cond b e (leaving_both malformed_line xs ys)

abbrev pub speech_sized : Bool → SpeechEffect → List ℕ → List ℕ → ℕ → SpeechEffect
speech_sized b e phones numbers contested = cond b e (leaving_speech malformed_line phones numbers contested)

-- the ruleset after an edit
abbrev pub ruled : Edited → Effect
ruled e = leaving (edit_line e) e.image

-- a command was carried out: the memory after it, and the answer at the front of the lent bytes
pub record Answered (e : Effect) (memory : List ℕ) (len : ℕ) (out out' : List ℕ) : Type 0 where
  pub left : memory ≡ e.after
  pub many : len ≡ length e.line
  pub bytes : out' ≡ over e.line out

pub record BothAnswered (e : Effects) (one other : List ℕ) (len : ℕ) (out out' : List ℕ) : Type 0 where
  pub left : one ≡ e.first
  pub right : other ≡ e.second
  pub many : len ≡ length e.line
  pub bytes : out' ≡ over e.line out

pub record SpeechAnswered (e : SpeechEffect) (phones numbers : List ℕ) (contested len : ℕ) (out out' : List ℕ) : Type 0 where
  pub said : phones ≡ e.phones
  pub numbered : numbers ≡ e.numbers
  pub counted : contested ≡ e.contested
  pub many : len ≡ length e.line
  pub bytes : out' ≡ over e.line out
