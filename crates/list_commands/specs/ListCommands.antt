-- The monitor's commands on the exceptions list, 20 to 26 (docs/MONITOR.md): the line of each answer, and what is held after it. A command is its
-- bytes without their checksum; one of another length than its fields answers 05 with 13, place 0, and changes nothing.
-- Assumes nothing.
use Rattle.std.specs.Prelude.{ℕ, ◌+◌, ◌≡◌, Bool, true, false, cond, ◌&&◌, List, ◌∷◌, leb, eqb, length, get_or, take, drop}
use Rattle.rules.specs.Memory.{over}
use Rattle.rules.specs.Refusals.{Reply, accepted, declined, Report, wrote, refused}
use Rattle.exceptions.specs.Calls.{Emptied, emptied, name_count, state_count}
use Rattle.change.specs.Change.{Change, Changed}
use Rattle.change.specs.Change.Change.{Add, Remove}
use Rattle.readout.specs.ReadOut.{ReadOut, read_out}
use Rattle.numbers.specs.Numbers.{bytes4}
use Rattle.lines.specs.Printed.{refused_body, printed}
use Rattle.command_parts.specs.Fields.{four, lent_of, back}
use Rattle.command_parts.specs.Answers.{Effect, leaving, sized_to, done_line, states_line, malformed_line}
use Rattle.command_parts.specs.Memory.{stored_at, shown}

-- bytes of the longest answer: 0A, 255 bytes and their checksum, two digits each, and the line's end
abbrev pub longest_answer : ℕ
longest_answer = 515

-- ---- 20, 21 and 24, of the lent part of the list

-- 06, names (2), states (2) of the list after a change, or the refusal
abbrev pub change_line : Reply → List ℕ → List ℕ
change_line accepted list = states_line (name_count list) (state_count list)
change_line (declined n p) list = printed (refused_body n p)

-- a change; how the list after it is laid out is free
pub record Changes (c : Change) (list : List ℕ) (e : Effect) : Type 0 where
  pub reply : Reply
  pub change : Changed c list e.after reply
  pub answer : e.line ≡ change_line reply e.after

-- 20, name length (1), name, phones to the end: at least as many bytes as the name length says
abbrev pub add_sized : List ℕ → Bool
add_sized f = leb (2 + get_or f 1 0) (length f)

abbrev pub addition : List ℕ → Change
addition f = Add (take (get_or f 1 0) (drop 2 f)) (drop (2 + get_or f 1 0) f)

pub record Adds (f list : List ℕ) (e : Effect) : Type 0 where
  pub sized : add_sized f ≡ true → Changes (addition f) list e
  pub short : add_sized f ≡ false → e ≡ leaving malformed_line list

-- 21, name
abbrev pub Removes : List ℕ → List ℕ → Effect → Type 0
Removes f list e = Changes (Remove (drop 1 f)) list e

-- 06, or the refusal
abbrev pub empty_line : Reply → List ℕ
empty_line accepted = done_line
empty_line (declined n p) = printed (refused_body n p)

abbrev pub empty_effect : Emptied → Effect
empty_effect e = leaving (empty_line e.reply) e.list

-- 24: the empty list again
unfoldable pub emptied_by : List ℕ → List ℕ → Effect
emptied_by f list = sized_to (eqb (length f) 1) (empty_effect (emptied list)) list

-- ---- 22 and 23, of the read-out bytes

-- 06, bytes written (4), or the refusal
abbrev pub read_out_line : Report → List ℕ
read_out_line (wrote n) = printed (6 ∷ bytes4 n)
read_out_line (refused n p) = printed (refused_body n p)

-- the first n bytes were lent
abbrev pub read_out_effect : ℕ → List ℕ → ReadOut → Effect
read_out_effect n text r = leaving (read_out_line r.report) (back n r.bytes text)

unfoldable pub read_out_in : ℕ → List ℕ → List ℕ → Effect
read_out_in n list text = read_out_effect n text (read_out list (take n text))

-- 22, lent bytes (4): the lent list read out into the first so many
unfoldable pub read_out_by : List ℕ → List ℕ → List ℕ → Effect
read_out_by f list text = sized_to (eqb (length f) 5) (read_out_in (lent_of (four 1 f) (length text)) list text) text

-- 23, index (4), count (1): bytes are shown
unfoldable pub shown_text : List ℕ → List ℕ → List ℕ
shown_text = shown (λ (x : List ℕ). x)

-- ---- 25 and 26, of the list's memory

-- 25, units (4): so many units are lent from now on
unfoldable pub lent_line : List ℕ → List ℕ
lent_line f = cond (eqb (length f) 5) done_line malformed_line

unfoldable pub lent_after : List ℕ → ℕ → ℕ → ℕ
lent_after f there lent = cond (eqb (length f) 5) (lent_of (four 1 f) there) lent

-- 26, index (4), value (4): store one unit, lent or not, with no check
unfoldable pub stored_unit : List ℕ → List ℕ → Effect
stored_unit f list = sized_to (eqb (length f) 9) (stored_at (four 1 f) (four 5 f) list) list

-- ---- all of them, by the first byte

-- whether a command is one of these
unfoldable pub is_list_command : List ℕ → Bool
is_list_command f = leb 32 (get_or f 0 0) && leb (get_or f 0 0) 38

-- what these commands reach: the list's memory, how many of its units are lent, and the read-out bytes
pub record Listed : Type 0 where
  pub list : List ℕ
  pub lent : ℕ
  pub text : List ℕ

abbrev pub holding : List ℕ → ℕ → List ℕ → Listed
holding list lent text = record { list = list; lent = lent; text = text }

abbrev pub lent_part : Listed → List ℕ
lent_part s = take s.lent s.list

-- the line of an answer, and what is held after it
pub record Response : Type 0 where
  pub line : List ℕ
  pub state : Listed

abbrev pub responding : List ℕ → Listed → Response
responding line s = record { line = line; state = s }

-- what is not lent to a command to change stays as it is
abbrev pub on_lent_part : Listed → Effect → Response
on_lent_part s e = responding e.line (holding (back s.lent e.after s.list) s.lent s.text)

abbrev pub on_list : Listed → Effect → Response
on_list s e = responding e.line (holding e.after s.lent s.text)

abbrev pub on_text : Listed → Effect → Response
on_text s e = responding e.line (holding s.list s.lent e.after)

-- an effect on the lent part, one of those that P allows
pub record Allowed (P : Effect → Type 0) (s : Listed) (r : Response) : Type 0 where
  pub effect : Effect
  pub meets : P effect
  pub is : r ≡ on_lent_part s effect

pub record Answers (f : List ℕ) (s : Listed) (r : Response) : Type 0 where
  pub adds : get_or f 0 0 ≡ 32 → Allowed (Adds f (lent_part s)) s r
  pub removes : get_or f 0 0 ≡ 33 → Allowed (Removes f (lent_part s)) s r
  pub reads : get_or f 0 0 ≡ 34 → r ≡ on_text s (read_out_by f (lent_part s) s.text)
  pub shows : get_or f 0 0 ≡ 35 → r ≡ responding (shown_text f s.text) s
  pub empties : get_or f 0 0 ≡ 36 → r ≡ on_lent_part s (emptied_by f (lent_part s))
  pub lends : get_or f 0 0 ≡ 37 → r ≡ responding (lent_line f) (holding s.list (lent_after f (length s.list) s.lent) s.text)
  pub stores : get_or f 0 0 ≡ 38 → r ≡ on_list s (stored_unit f s.list)

-- ---- answers that were given

-- a command was carried out with one of the effects that P allows: the memory after it, and its line at the front of the lent bytes
pub record Carried (P : Effect → Type 0) (memory : List ℕ) (len : ℕ) (out out' : List ℕ) : Type 0 where
  pub line : List ℕ
  pub meets : P (leaving line memory)
  pub many : len ≡ length line
  pub bytes : out' ≡ over line out

-- an answer that was given: what is held after it, and its line at the front of the lent bytes
pub record Replied (f : List ℕ) (s held : Listed) (len : ℕ) (out out' : List ℕ) : Type 0 where
  pub line : List ℕ
  pub answers : Answers f s (responding line held)
  pub many : len ≡ length line
  pub bytes : out' ≡ over line out
