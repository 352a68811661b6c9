-- `transcript::name_in` meets its contract, by what the report of a line tells.
-- Assumes nothing.
use Rattle.transcript.proofs.NameLine.{name_in_bad, name_in_other, name_in_kept, some}
use borrow.Author.Tests.{eq-eqb, ne_eqb}
use native.Mathlib.Omega.{arith}
use Rattle.transcript.proofs.name_in.Goals as goal

pub returns-in_err-line : goal.returns-in_err-line
returns-in_err-line c =
    let r = c.read_line in
    rw c.from_residual.ensures (record { end = tt; name = name_in_bad c.args.text.now c.args.at c.args.frame.now r.new.frame r.ensures.bytes c.requires c.in_err-line.ensures.line })

pub returns-then-frame-ne3 : goal.returns-then-frame-ne3
returns-then-frame-ne3 c =
    let r = c.read_line in
    record {
      end = tt;
      name = name_in_other c.args.text.now c.args.at c.args.frame.now r.new.frame r.ensures.bytes c.requires c.in_ok-line.line c.in_ok-line.ensures.line (ne_eqb _ 3 c.if-frame-ne3.true);
    }

pub overflow_sub-result : goal.overflow_sub-result
overflow_sub-result c =
    let r = c.read_line in
    omega (arith, c.min.ensures, some c.args.text.now c.args.at c.args.frame.now r.new.frame r.ensures.bytes c.requires c.in_ok-line.line c.in_ok-line.ensures.line (eq-eqb _ 3 c.if-frame-ne3.false))

pub returns : goal.returns
returns c =
    let r = c.read_line in
    let l = c.in_ok-line in
    let t = eq-eqb _ 3 c.if-frame-ne3.false in
    let n = some c.args.text.now c.args.at c.args.frame.now r.new.frame r.ensures.bytes c.requires l.line l.ensures.line t in
    record {
      end = (omega (arith, c.min.ensures, n), omega (arith, c.min.ensures));
      name = name_in_kept c.args.text.now c.args.at c.args.frame.now r.new.frame r.ensures.bytes c.requires l.line l.ensures.line t c.min.result c.min.ensures;
    }
