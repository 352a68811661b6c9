-- `commands::filing::write_command` meets its contract: a frame of 5 bytes writes, any other is malformed.
-- Assumes nothing.
use borrow.Author.Rules.{rules}
use Rattle.commands.proofs.Writing.{written_not, written, gives_file, gives_unwritten}
use native.Mathlib.Omega.{arith}
use Prim.Native.Nat.{◌≤◌}
use lib.ListN.{length}
use Rattle.commands.proofs.filing.write_command.Goals as goal

pub returns-then-f-ne5 : goal.returns-then-f-ne5
returns-then-f-ne5 c = let a = c.args in
    let told = written_not a.f.now a.image.now a.out.now _ _ c.if-f-ne5.true c.malformed.ensures.len c.malformed.ensures.bytes in
    record {
      len = told.0;
      bytes = told.1;
    }

pub returns-in-Ok : goal.returns-in-Ok
returns-in-Ok c = let a = c.args in
    let n = c.lent-n.result in
    let h : n ≤ length a.out.now = omega (arith, c.lent-n.ensures.1.1, c.requires) in
    let told = written a.f.now a.image.now a.out.now _ _ n _ c.if-f-ne5.false c.lent-n.ensures.0 c.four_at.ensures.0
    (gives_file n a.image.now c.write_in-written.result a.out.now _ h c.write_in-written.ensures _ c.in-Ok.is) in
    record {
      len = told.0;
      bytes = told.1;
    }

pub returns-in-Err : goal.returns-in-Err
returns-in-Err c = let a = c.args in
    let n = c.lent-n.result in
    let h : n ≤ length a.out.now = omega (arith, c.lent-n.ensures.1.1, c.requires) in
    let told = written a.f.now a.image.now a.out.now _ _ n _ c.if-f-ne5.false c.lent-n.ensures.0 c.four_at.ensures.0
    (gives_unwritten n a.image.now c.write_in-written.result a.out.now _ h c.write_in-written.ensures _ _ _ c.in-Err.is c.refusal_line.ensures.len c.refusal_line.ensures.bytes) in
    record {
      len = told.0;
      bytes = told.1;
    }
