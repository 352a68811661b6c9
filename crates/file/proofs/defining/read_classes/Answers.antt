-- `file::defining::read_classes` meets its contract. The loop's invariant: the lines from here on decide the end, and the classes so far are stored.
-- Assumes nothing.
use Prim.Native.Nat.{ℕ}
use mathlib.Core.Path.{sym, ap, ◌∙◌}
use native.Mathlib.Omega.{arith}
use Rattle.std.proofs.lemmas.Result.{err_from_is_err_and}
use lib.ListN.{length, length-replicate}
use Rattle.classes.specs.Masks.{masks_size}
use Rattle.file.proofs.ClassReading.{ok_of, reading_start, reading_length, reading_end, reading_stop, reading_broken, reading_symbol, reading_next}
use Rattle.file.proofs.defining.read_classes.Goals as goal

pub loop-init : goal.loop-init
loop-init c = let a = c.args in reading_start a.file.now a.from a.masks.now c.requires.0 c.requires.1

pub read_class-requires : goal.read_class-requires
read_class-requires c = c.loop.invariant.first

pub returns-in_err-line : goal.returns-in_err-line
returns-in_err-line c =
    let a = c.args in
    let l = c.loop in
    let e = reading_broken a.file.now a.from l.masks l.at l.low l.counter l.invariant c.loop-test.true c.in_err-line.field-0.0 c.in_err-line.ensures in
    let p = err_from_is_err_and c.from_residual.result c.from_residual.ensures.1 in
    record {
      end = rw (p.1, p.2) e.end;
      classes = e.classes;
    }

pub returns-in_default : goal.returns-in_default
returns-in_default c = let a = c.args in let l = c.loop in
    let e = reading_stop a.file.now a.from l.masks l.at l.low l.counter l.invariant (ap ok_of (sym c.in_default.is) ∙ c.in_ok-line.ensures) in
    record {
      end = e.end;
      classes = e.classes;
    }

pub put_mask-requires : goal.put_mask-requires
put_mask-requires c = let a = c.args in let l = c.loop in let n = reading_length a.file.now a.from l.masks l.at l.low l.counter l.invariant in (omega arith, reading_symbol a.file.now a.from l.masks l.at l.low l.counter l.invariant c.loop-test.true c.in-Some.line (ap ok_of (sym c.in-Some.is) ∙ c.in_ok-line.ensures))

pub overflow_add-low : goal.overflow_add-low
overflow_add-low c = let a = c.args in let l = c.loop in omega (arith, (reading_symbol a.file.now a.from l.masks l.at l.low l.counter l.invariant c.loop-test.true c.in-Some.line (ap ok_of (sym c.in-Some.is) ∙ c.in_ok-line.ensures)).1)

pub loop-preserved : goal.loop-preserved
loop-preserved c = let a = c.args in let l = c.loop in reading_next a.file.now a.from l.masks l.at l.low l.counter l.invariant c.loop-test.true c.in-Some.line (ap ok_of (sym c.in-Some.is) ∙ c.in_ok-line.ensures) _ c.put_mask.ensures

pub shape_of-masks : goal.shape_of-masks
shape_of-masks c = let a = c.args in let l = c.loop in reading_length a.file.now a.from l.masks l.at l.low l.counter l.invariant ∙ sym (ap length c.requires.1 ∙ length-replicate {A = ℕ} masks_size 0)

pub returns : goal.returns
returns c = let a = c.args in let l = c.loop in let e = reading_end a.file.now a.from l.masks l.at l.low l.counter l.invariant c.loop-test.false in
    record {
      end = e.end;
      classes = e.classes;
    }
