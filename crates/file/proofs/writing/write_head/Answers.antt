-- `file::writing::write_head` meets its contract: its four fields go out.
-- Assumes nothing.
use Prim.Native.Nat.{◌/◌, ◌%◌}
use mathlib.Core.Path.{◌≡◌}
use mathlib.Core.List.{◌∷◌, ◌++◌}
use native.Mathlib.Omega.{arith}
use Rattle.numbers.specs.Numbers.{bytes2}
use Rattle.frames.proofs.Output.{sent_then, sent_as, line_sent}
use Rattle.file_format.specs.Layout.{head_type, edition}
use Rattle.file_format.specs.File.{head_body}
use Rattle.file.proofs.writing.write_head.Goals as goal

pub returns : goal.returns
returns c = let a = c.args in
    let s = c.begin-start.ensures in
    let k = c.put-kind.ensures in
    let e = c.put-edition.ensures in
    let n = c.put_two-counted.ensures in
    let w = c.from.ensures in
    let l = c.put_two-body.ensures in
    let z = c.end.ensures in
    let x : a.count / 256 % 256 ≡ a.count / 256 = omega (arith, c.requires.0) in
    let y : a.last / 256 % 256 ≡ a.last / 256 = omega arith in
    let b : head_type ∷ edition ∷ bytes2 a.count ++ bytes2 c.from.result ≡ head_body a.count a.last = rw (w, x, y) in
    line_sent a.out.now 0 (omega arith) s.begun (sent_as b (sent_then (sent_then (sent_then k.sent e.sent) n.sent) l.sent)) z.line
