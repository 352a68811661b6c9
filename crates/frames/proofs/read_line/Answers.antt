-- `frames::read_line` meets its contract. The loop's invariant: what remains from here gives the whole line, and the bytes so far stand
-- in the lent ones.
-- Assumes nothing.
use Rattle.std.proofs.Common.{◌∙◌, arith}
use Rattle.frames.proofs.Scan.{scan_start, scan_len, scan_length, scan_room, scan_next, out_line, out_bytes, end_line, end_bytes, fault_line, fault_bytes}
use Rattle.frames.proofs.read_line.Goals as goal

pub loop-i-init : goal.loop-i-init
loop-i-init c = let a = c.args in scan_start a.text.now a.at a.frame.now

pub shape_of-frame-then-text-i-eq10 : goal.shape_of-frame-then-text-i-eq10
shape_of-frame-then-text-i-eq10 c = let a = c.args in
    let l = c.loop-i in
    scan_length a.text.now a.at a.frame.now l.frame l.sum l.last l.len l.i l.invariant

pub returns-then-text-i-eq10 : goal.returns-then-text-i-eq10
returns-then-text-i-eq10 c = let a = c.args in
    let l = c.loop-i in
    let t = c.loop-i-test.true in
    let e = c.if-text-i-eq10.true in
    record {
      line = c.ended.ensures ∙ end_line a.text.now a.at a.frame.now l.frame l.sum l.last l.len l.i l.invariant t e;
      bytes = end_bytes a.text.now a.at a.frame.now l.frame l.sum l.last l.len l.i l.invariant t e;
    }

pub shape_of-frame-in_err-byte : goal.shape_of-frame-in_err-byte
shape_of-frame-in_err-byte c = let a = c.args in
    let l = c.loop-i in
    scan_length a.text.now a.at a.frame.now l.frame l.sum l.last l.len l.i l.invariant

pub returns-in_err-byte : goal.returns-in_err-byte
returns-in_err-byte c = let a = c.args in
    let l = c.loop-i in
    let t = c.loop-i-test.true in
    let n = c.if-text-i-eq10.false in
    let e = c.in_err-byte.ensures in
    record {
      line = c.from_residual.ensures ∙ fault_line a.text.now a.at a.frame.now l.frame l.sum l.last l.len l.i l.invariant t n e;
      bytes = fault_bytes a.text.now a.at a.frame.now l.frame l.sum l.last l.len l.i l.invariant t n e;
    }

pub overflow_add-len : goal.overflow_add-len
overflow_add-len c = let a = c.args in
    let l = c.loop-i in
    omega (arith, scan_len a.text.now a.at a.frame.now l.frame l.sum l.last l.len l.i l.invariant)

pub overflow_add-i-in-loop-i : goal.overflow_add-i-in-loop-i
overflow_add-i-in-loop-i c = let a = c.args in
    let l = c.loop-i in
    let p = c.in_ok-byte in
    omega (
      arith,
      scan_room a.text.now a.at a.frame.now l.frame l.sum l.last l.len l.i l.invariant c.loop-i-test.true c.if-text-i-eq10.false p.byte p.ensures,
    )

pub loop-i-preserved : goal.loop-i-preserved
loop-i-preserved c = let a = c.args in
    let l = c.loop-i in
    let p = c.in_ok-byte in
    scan_next a.text.now a.at a.frame.now l.frame l.sum l.last l.len l.i l.invariant c.loop-i-test.true c.if-text-i-eq10.false p.byte p.ensures c.wrapping_add_u8-sum.result c.wrapping_add_u8-sum.ensures.value (omega arith) _ c.store.ensures

pub shape_of-frame : goal.shape_of-frame
shape_of-frame c = let a = c.args in
    let l = c.loop-i in
    scan_length a.text.now a.at a.frame.now l.frame l.sum l.last l.len l.i l.invariant

pub returns : goal.returns
returns c = let a = c.args in
    let l = c.loop-i in
    let t = c.loop-i-test.false in
    record {
      line = out_line a.text.now a.at a.frame.now l.frame l.sum l.last l.len l.i l.invariant t;
      bytes = out_bytes a.text.now a.at a.frame.now l.frame l.sum l.last l.len l.i l.invariant t;
    }
