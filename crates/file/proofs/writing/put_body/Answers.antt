-- `file::writing::put_body` meets its contract: type and number, the lengths, the fields.
-- Assumes nothing.
use mathlib.Core.List.{◌++◌}
use native.Mathlib.Omega.{arith}
use lib.ListN.{length-append}
use Rattle.frames.proofs.Output.{sent_then}
use Rattle.file.specs.Loading.{number_bytes, length_bytes, field_bytes}
use borrow.Author.Rules.{rules}
use Rattle.file.proofs.writing.put_body.Goals as goal

pub put_number-a-requires : goal.put_number-a-requires
put_number-a-requires c = let a = c.args in
    let h = c.requires in
    (omega (arith, h.0, length-append (number_bytes a.number ++ length_bytes a.left.now a.target.now a.right.now a.phones.now) (field_bytes a.left.now a.target.now a.right.now a.phones.now)), h.1)

pub put_lengths-b-requires : goal.put_lengths-b-requires
put_lengths-b-requires c = let a = c.args in
    let h = c.requires in
    (omega (arith, h.0, length-append (number_bytes a.number ++ length_bytes a.left.now a.target.now a.right.now a.phones.now) (field_bytes a.left.now a.target.now a.right.now a.phones.now), c.put_number-a.ensures.next), h.1)

pub put_fields-requires : goal.put_fields-requires
put_fields-requires c = let a = c.args in
    let h = c.requires in
    (omega (arith, h.0, length-append (number_bytes a.number ++ length_bytes a.left.now a.target.now a.right.now a.phones.now) (field_bytes a.left.now a.target.now a.right.now a.phones.now), c.put_number-a.ensures.next, c.put_lengths-b.ensures.next), h.1)

pub returns : goal.returns
returns c = let a = c.args in
    let n = c.put_number-a.ensures in
    let l = c.put_lengths-b.ensures in
    let f = c.put_fields.ensures in
    record {
      next = omega (arith, length-append (number_bytes a.number ++ length_bytes a.left.now a.target.now a.right.now a.phones.now) (field_bytes a.left.now a.target.now a.right.now a.phones.now), n.next, l.next, f.next);
      sent = sent_then (sent_then n.sent l.sent) f.sent;
    }
