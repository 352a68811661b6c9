-- What the cutting of the input into lines keeps to.
-- Assumes nothing.
use Rattle.std.specs.Prelude.{ℕ, ◌+◌, nat_le, cond}

-- how many bytes of a line's memory are the text to answer, of a line that has ended after so many bytes: these and its 0A, but none where
-- they fill the memory, so that a line that is too long is as unsound as an empty one
abbrev pub text_of : ℕ → ℕ
text_of held = cond (nat_le 4097 held) 0 (held + 1)
