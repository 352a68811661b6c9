-- `file::writing::put_fields` meets its contract: one field after the other.
-- Assumes nothing.
use native.Mathlib.Omega.{arith}
use Rattle.frames.proofs.Output.{sent_then, sent_as}
use Rattle.file.proofs.RuleBytes.{fields_are, fields_length}
use borrow.Author.Rules.{rules}
use Rattle.file.proofs.writing.put_fields.Goals as goal

pub put_all_from-a-requires : goal.put_all_from-a-requires
put_all_from-a-requires c = let a = c.args in
    let h = c.requires in
    (omega (arith, h.0, fields_length a.left.now a.target.now a.right.now a.phones.now), h.1)

pub put_all_from-b-requires : goal.put_all_from-b-requires
put_all_from-b-requires c = let a = c.args in
    let h = c.requires in
    (omega (arith, h.0, fields_length a.left.now a.target.now a.right.now a.phones.now, c.put_all_from-a.ensures.next), h.1)

pub put_all_from-c-requires : goal.put_all_from-c-requires
put_all_from-c-requires c = let a = c.args in
    let h = c.requires in
    (omega (arith, h.0, fields_length a.left.now a.target.now a.right.now a.phones.now, c.put_all_from-a.ensures.next, c.put_all_from-b.ensures.next), h.1)

pub put_all_from-requires : goal.put_all_from-requires
put_all_from-requires c = let a = c.args in
    let h = c.requires in
    (omega (arith, h.0, fields_length a.left.now a.target.now a.right.now a.phones.now, c.put_all_from-a.ensures.next, c.put_all_from-b.ensures.next, c.put_all_from-c.ensures.next), h.1)

pub returns : goal.returns
returns c = let a = c.args in
    let l = c.put_all_from-a.ensures in
    let t = c.put_all_from-b.ensures in
    let r = c.put_all_from-c.ensures in
    let p = c.put_all_from.ensures in
    record {
      next = omega (arith, fields_length a.left.now a.target.now a.right.now a.phones.now, l.next, t.next, r.next, p.next);
      sent = sent_as (fields_are a.left.now a.target.now a.right.now a.phones.now) (sent_then (sent_then (sent_then l.sent t.sent) r.sent) p.sent);
    }
