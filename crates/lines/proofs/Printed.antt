-- A body that went out as a line at the front of lent bytes, and how long it is.
-- Assumes nothing.
use Prim.Native.Nat.{ℕ, ◌+◌, ◌*◌}
use mathlib.Core.Path.{◌≡◌, refl}
use mathlib.Core.List.{List, [], ◌∷◌}
use native.Mathlib.Omega.{arith}
use lib.ListN.{length, length-append}
use Rattle.rules.specs.Memory.{over}
use Rattle.frames.specs.declared.writer.Writer.{Writer}
use Rattle.frames.specs.Lines.{framed, sum_byte}
use Rattle.frames.specs.Output.{Output, output, begun, Sent, ended}
use Rattle.frames.proofs.Lines.{length_line}
use Rattle.frames.proofs.Output.{line_sent}
use Rattle.lines.specs.Printed.{twos, printed}

pub printed_sent : (text : List ℕ) {body z : List ℕ} {w : Writer} {o : Output} → w ≡ begun 0 → Sent body (output w text) o → z ≡ ended o
    → z ≡ over (printed body) text
unfolding printed
printed_sent text b s e = line_sent text 0 (omega arith) b s e

pub length_printed : (body : List ℕ) → length (printed body) ≡ 2 * length body + 3
unfolding printed
length_printed body = omega (arith, length_line (framed body), length-append body (sum_byte body ∷ []))

pub length_twos : (l : List ℕ) → length (twos l) ≡ 2 * length l
length_twos [] = refl
length_twos (n ∷ l) = omega (arith, length_twos l)
