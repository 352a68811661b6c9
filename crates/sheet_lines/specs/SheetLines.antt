-- The lines that answer a walk sheet, by the replies to its names: 06, steps (4), names (2), and then a line for each name.
-- Assumes nothing.
use Rattle.std.specs.Prelude.{ℕ, zero, suc, ◌+◌, ◌-◌, ◌*◌, ◌≤◌, ◌<◌, ◌≡◌, cond, List, [], ◌∷◌, ◌++◌, eqb, length, get_or, drop}
use Rattle.numbers.specs.Numbers.{bytes2, bytes4}
use Rattle.rules.specs.Memory.{over}
use Rattle.rules.specs.Refusals.{accepted, reply_code}
use Rattle.speech.specs.Speech.{Told, spoken, refused}
use Rattle.lines.specs.Printed.{printed}
use Rattle.answer_lines.specs.Answers.{told_body, ToldWithin}
use Rattle.many_names.specs.Codes.{phones_given, numbers_given}
use Rattle.many_names.specs.Many.{reply_size}
use Rattle.command_parts.specs.Answers.{contested_after}
use Rattle.sheet_lines.specs.declared.NamePrinted.{NamePrinted}
use Rattle.sheet_lines.specs.declared.NamesPrinted.{NamesPrinted}

-- 06, steps, names
unfoldable pub sheet_line : ℕ → ℕ → List ℕ
sheet_line steps names = printed (6 ∷ bytes4 steps ++ bytes2 names)

-- what the reply at the front tells
abbrev pub told_by : List ℕ → Told
told_by replies =
    cond (eqb (get_or replies 0 0) (reply_code accepted)) (spoken (get_or replies 1 0) (get_or replies 2 0) (get_or replies 4 0)) (refused (get_or replies 0 0) (get_or replies 1 0))

-- a name's line is that of `say`, with no steps
abbrev pub name_line : List ℕ → List ℕ → List ℕ → List ℕ
name_line replies phones numbers = printed (told_body (told_by replies) 0 phones numbers)

-- n names in turn: the phones and numbers of each begin after those of the names before it
abbrev pub name_lines : ℕ → List ℕ → List ℕ → List ℕ → List ℕ
name_lines zero replies phones numbers = []
name_lines (suc n) replies phones numbers =
    name_line replies phones numbers
    ++ name_lines n (drop reply_size replies) (drop (phones_given (told_by replies)) phones) (drop (numbers_given (told_by replies)) numbers)

-- the contested letters of the last name spoken, after n names; `before` where none of them was
abbrev pub contested_by : ℕ → List ℕ → ℕ → ℕ
contested_by zero replies before = before
contested_by (suc n) replies before = contested_by n (drop reply_size replies) (contested_after (told_by replies) before)

-- ---- replies that can be printed

-- the code of the reply at the front is a byte, and as many phones and numbers as it tells are there
pub record Printable (replies : List ℕ) (phones numbers : ℕ) : Type 0 where
  pub coded : get_or replies 0 0 < 256
  pub within : ToldWithin (told_by replies) phones numbers

-- n replies in turn
abbrev pub AllPrintable : ℕ → List ℕ → ℕ → ℕ → Type 0
AllPrintable zero replies phones numbers = Unit {0}
AllPrintable (suc n) replies phones numbers =
    Printable replies phones numbers × AllPrintable n (drop reply_size replies) (phones - phones_given (told_by replies)) (numbers - numbers_given (told_by replies))

-- the lines of n names that share so many phones and numbers have no more bytes
abbrev pub longest_lines : ℕ → ℕ → ℕ → ℕ
longest_lines n phones numbers = 15 * n + 2 * phones + 4 * numbers

-- ---- what the functions give

-- a name's line was put at the front of the lent bytes
pub record PutName (replies phones numbers : List ℕ) (before : ℕ) (r : NamePrinted) (out out' : List ℕ) : Type 0 where
  pub many : r.len ≡ length (name_line replies phones numbers)
  pub bytes : out' ≡ over (name_line replies phones numbers) out
  pub said : r.phones ≡ phones_given (told_by replies)
  pub numbered : r.numbers ≡ numbers_given (told_by replies)
  pub counted : r.contested ≡ contested_after (told_by replies) before

-- the lines of n names
pub record PutNames (n : ℕ) (replies phones numbers : List ℕ) (before : ℕ) (r : NamesPrinted) (out out' : List ℕ) : Type 0 where
  pub many : r.len ≡ length (name_lines n replies phones numbers)
  pub bytes : out' ≡ over (name_lines n replies phones numbers) out
  pub short : r.len ≤ longest_lines n (length phones) (length numbers)
  pub counted : r.contested ≡ contested_by n replies before
