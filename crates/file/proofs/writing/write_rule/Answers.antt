-- `file::writing::write_rule` meets its contract: the frame begins, its body goes out, it ends.
-- Assumes nothing.
use mathlib.Core.Path.{ap}
use native.Mathlib.Omega.{arith}
use lib.ListN.{length}
use Rattle.image.specs.Image.{entry_at}
use Rattle.frames.proofs.Output.{sent_as, line_sent}
use Rattle.file.proofs.RuleBytes.{Fields, body_is, line_length}
use Rattle.file.proofs.writing.write_rule.Goals as goal

pub put_body-body-requires : goal.put_body-body-requires
put_body-body-requires c = let a = c.args in
    let h = c.requires in
    let e = entry_at a.rules.bytes.now a.place in
    let f : Fields e _ _ _ _ = record { left = c.left_at-left.ensures; target = c.target_at-target.ensures; right = c.right_at-right.ensures; phones = c.phones_at-phones.ensures } in
    let b = body_is a.rules.bytes.now a.rules.sound a.place h.0 _ _ _ _ f _ c.number_at-number.ensures in
    (omega (arith, h.1.1, line_length e, ap length b, c.begin-start.ensures.next), h.1.0)

pub end-requires : goal.end-requires
end-requires c = let a = c.args in
    let h = c.requires in
    let e = entry_at a.rules.bytes.now a.place in
    let f : Fields e _ _ _ _ = record { left = c.left_at-left.ensures; target = c.target_at-target.ensures; right = c.right_at-right.ensures; phones = c.phones_at-phones.ensures } in
    let b = body_is a.rules.bytes.now a.rules.sound a.place h.0 _ _ _ _ f _ c.number_at-number.ensures in
    omega (arith, h.1.1, line_length e, ap length b, c.begin-start.ensures.next, c.put_body-body.ensures.next)

pub returns : goal.returns
returns c = let a = c.args in
    let h = c.requires in
    let e = entry_at a.rules.bytes.now a.place in
    let f : Fields e _ _ _ _ = record { left = c.left_at-left.ensures; target = c.target_at-target.ensures; right = c.right_at-right.ensures; phones = c.phones_at-phones.ensures } in
    let b = body_is a.rules.bytes.now a.rules.sound a.place h.0 _ _ _ _ f _ c.number_at-number.ensures in
    let s = c.begin-start.ensures in
    let q = c.put_body-body.ensures in
    let z = c.end.ensures in
    record {
      next = omega (arith, line_length e, ap length b, s.next, q.next, z.next);
      bytes = line_sent a.out.now a.at (omega (arith, h.1.1)) s.begun (sent_as b q.sent) z.line;
    }
