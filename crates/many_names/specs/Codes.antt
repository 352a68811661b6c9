-- What a call that speaks a name gives in numbers: a code, reply_code accepted where the name is spoken and else the refusal's number, and what goes with it.
-- Assumes nothing.
use Rattle.std.specs.Prelude.{ℕ}
use Rattle.rules.specs.Refusals.{accepted, reply_code}
use Rattle.speech.specs.Speech.{Told, spoken, refused}

abbrev pub spoken_code : Told → ℕ
spoken_code (spoken p n c) = reply_code accepted
spoken_code (refused n p) = n

-- how many phones were given, or the refusal's place
abbrev pub phones_or_place : Told → ℕ
phones_or_place (spoken p n c) = p
phones_or_place (refused n p) = p

-- how many phones were given
abbrev pub phones_given : Told → ℕ
phones_given (spoken p n c) = p
phones_given (refused n p) = 0

-- how many rule numbers were given
abbrev pub numbers_given : Told → ℕ
numbers_given (spoken p n c) = n
numbers_given (refused n p) = 0

-- how many letters were contested
abbrev pub contested_given : Told → ℕ
contested_given (spoken p n c) = c
contested_given (refused n p) = 0
