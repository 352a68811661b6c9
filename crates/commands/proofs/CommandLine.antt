-- The command in a line: the bytes kept of it, by what the report of a line tells.
-- Assumes nothing.
use Prim.Native.Nat.{ℕ, ◌-◌, ◌≤◌, ◌<◌}
use mathlib.Core.Path.{◌≡◌, sym, ap, ◌∙◌}
use mathlib.Core.List.{List, []}
use mathlib.Core.Bool.{Bool, cond}
use native.Mathlib.Omega.{arith}
use borrow.Author.Tests.{le-leb, lt-leb}
use Rattle.std.specs.Prelude.{Some, None}
use lib.ListN.{length, take, drop}
use lib.Seq.{take_all, take-append-le}
use Rattle.rules.specs.Memory.{over}
use Rattle.frames.specs.declared.Line.{Line}
use Rattle.frames.specs.Lines.{sound_line, decoded, report}
use Rattle.frames.proofs.Lines.{sound_was}
use Rattle.frames.proofs.Report.{Found, found, not_found, decoded_sound}
use Rattle.commands.specs.Monitor.{command_in}

module _ (text xs z : List ℕ)
    (h : z ≡ over (take (length xs) (decoded (drop 0 text))) xs) (n : length z ≡ length xs) where
  pub none_unsound : None ≡ report (length text) (sound_line (drop 0 text)) → [] ≡ command_in (length xs) (sound_line (drop 0 text))
  none_unsound e = sym (ap (command_in (length xs)) (not_found text 0 e))

  module _ (line : Line) (e : Some line ≡ report (length text) (sound_line (drop 0 text))) where
    g : Found text 0 line
    g = found text 0 line e

    pub some : 2 ≤ line.len
    some = omega (arith, (sound_was (drop 0 text) g.f g.rest g.is).two, g.many)

    pub none_long : length z < line.len → [] ≡ command_in (length xs) (sound_line (drop 0 text))
    none_long l =
        let m = g.many in
        rw (g.is, lt-leb (length g.f) (length xs) (omega arith))

    held : length g.f ≤ length xs → z ≡ over g.f xs
    held l =
        h ∙ ap (λ (b : List ℕ). over b xs) (ap (take (length xs)) (decoded_sound (drop 0 text) g.f g.rest g.is) ∙ take_all (length xs) g.f l)

    pub command_is : line.len ≤ length z → take (line.len - 1) z ≡ command_in (length xs) (sound_line (drop 0 text))
    command_is l =
        let m = g.many in
        let k : length g.f ≤ length xs = omega arith in
        let t = take (length g.f - 1) g.f in
        let front : take (length g.f - 1) z ≡ t = ap (take (length g.f - 1)) (held k) ∙ take-append-le (length g.f - 1) g.f (drop (length g.f) xs) (omega arith) in
        ap (λ (i : ℕ). take (i - 1) z) m ∙ front
        ∙ sym (ap (command_in (length xs)) g.is ∙ ap (λ (b : Bool). cond b t []) (le-leb (length g.f) (length xs) k))
