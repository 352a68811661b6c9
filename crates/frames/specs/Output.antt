-- A frame that goes out byte by byte (document 02, request 2): its sum is a running value, and the checksum is made from that alone.
-- Assumes nothing.
use Rattle.std.specs.Prelude.{◌≡◌, ℕ, zero, suc, ◌+◌, ◌/◌, ◌%◌, List, [], ◌∷◌, ◌++◌}
use Rattle.rules.specs.Memory.{over_at}
use Rattle.frames.specs.declared.writer.Writer.{Writer}
use Rattle.frames.specs.Lines.{digit, digits, line_of, total, complement}

-- the lent bytes, where the frame's next byte goes, and the running sum
pub record Output : Type 0 where
  pub text : List ℕ
  pub next : ℕ
  pub sum : ℕ

abbrev pub output : Writer → List ℕ → Output
output w text = record { text = text; next = w.at; sum = w.sum }

-- a frame of which no byte has gone out
abbrev pub begun : ℕ → Writer
begun at = record { at = at; sum = 0 }

-- a byte goes out: its two digits, and it joins the sum
abbrev pub sent_byte : ℕ → Output → Output
sent_byte b o = record {
  text = over_at o.next (digit (b / 16) ∷ digit (b % 16) ∷ []) o.text;
  next = o.next + 2;
  sum = (o.sum + b) % 256;
}

-- bytes go out, one after the other
unfoldable pub sent : List ℕ → Output → Output
sent [] o = o
sent (b ∷ bytes) o = sent bytes (sent_byte b o)

pub record Sent (bytes : List ℕ) (before after : Output) : Type 0 where
  pub equal : after ≡ sent bytes before

-- the running sum is the sum modulo 256 of that frame's bytes so far
abbrev pub SumOf : List ℕ → Writer → Type 0
SumOf bytes w = w.sum ≡ total bytes % 256

-- and stays so with a byte more
abbrev pub SumKept : Writer → ℕ → Writer → Type 0
SumKept w b r = (bytes : List ℕ) → SumOf bytes w → SumOf (bytes ++ (b ∷ [])) r

-- the frame ends: the byte that makes the running sum zero, then 0A
unfoldable pub ended : Output → List ℕ
ended o = over_at o.next (line_of (complement o.sum ∷ [])) o.text

-- ---- fields

-- the bytes of the elements of a list, one after the other
abbrev pub fields : (ℕ → List ℕ) → List ℕ → List ℕ
fields bytes [] = []
fields bytes (n ∷ l) = bytes n ++ fields bytes l

-- ---- the digits of every byte, 00 to FF

abbrev pub count_from : ℕ → ℕ → List ℕ
count_from from zero = []
count_from from (suc n) = from ∷ count_from (suc from) n

unfoldable pub digit_pairs : List ℕ
digit_pairs = digits (count_from 0 256)
