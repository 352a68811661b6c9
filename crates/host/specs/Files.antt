-- What a host gets in numbers when a rule file is written.
-- Assumes nothing.
use Rattle.std.specs.Prelude.{ℕ}
use Rattle.rules.specs.Refusals.{accepted, reply_code}
use Rattle.rules.specs.Refusals.{Report, wrote, refused}

abbrev pub written_code : Report → ℕ
written_code (wrote n) = reply_code accepted
written_code (refused n p) = n

-- the bytes written, or the refusal's place
abbrev pub bytes_or_place : Report → ℕ
bytes_or_place (wrote n) = n
bytes_or_place (refused n p) = p
