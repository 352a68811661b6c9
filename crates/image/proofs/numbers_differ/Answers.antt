-- `image::numbers_differ` meets its contract.
-- Assumes nothing.
use Prim.Native.Nat.{◌*◌, ◌/◌}
use mathlib.Core.Path.{sym, ap, ◌∙◌}
use native.Mathlib.Omega.{arith}
use mathlib.Core.Bool.{true, false}
use lib.ListN.{length, set}
use Rattle.image.proofs.Tests.{distinct_all}
use Rattle.image.proofs.Entries.{numbers_low}
use Rattle.image.proofs.Scan.{seen_begin, seen_in, seen_again, seen_new, seen_end}
use Rattle.image.proofs.numbers_differ.Goals as goal

pub loop-i-init : goal.loop-i-init
loop-i-init c = seen_begin c.args.image.now c.args.count c.args.seen.now c.requires.1.1.1 (numbers_low c.args.image.now c.requires.0 c.args.count c.requires.1.0 (64 * length c.args.seen.now) c.requires.1.1.0)

pub bounds-seen-w : goal.bounds-seen-w
bounds-seen-w c = seen_in c.args.image.now c.args.count c.loop-i.i (length c.args.seen.now) c.loop-i.seen c.loop-i.invariant (omega arith) (omega arith) c.number_at-n.result c.number_at-n.ensures

pub shape_of-seen-then-has_bit : goal.shape_of-seen-then-has_bit
shape_of-seen-then-has_bit c = c.loop-i.invariant.long

pub returns-then-has_bit : goal.returns-then-has_bit
returns-then-has_bit c = let n = c.number_at-n in
    sym (distinct_all c.args.image.now c.args.count c.requires.1.0 false
    (seen_again c.args.image.now c.args.count c.loop-i.i (length c.args.seen.now) c.loop-i.seen c.loop-i.invariant (omega arith) (omega arith) n.result n.ensures (sym c.has_bit.ensures ∙ c.if-has_bit.true)))

pub bounds-seen-w-in-loop-i : goal.bounds-seen-w-in-loop-i
bounds-seen-w-in-loop-i c = seen_in c.args.image.now c.args.count c.loop-i.i (length c.args.seen.now) c.loop-i.seen c.loop-i.invariant (omega arith) (omega arith) c.number_at-n.result c.number_at-n.ensures

pub loop-i-preserved : goal.loop-i-preserved
loop-i-preserved c = let n = c.number_at-n in
    seen_new c.args.image.now c.args.count c.loop-i.i (length c.args.seen.now) c.loop-i.seen c.loop-i.invariant (omega arith) (omega arith) n.result n.ensures (sym c.has_bit.ensures ∙ c.if-has_bit.false) _ (ap (set c.loop-i.seen (n.result / 64)) c.with_bit.ensures)

pub shape_of-seen : goal.shape_of-seen
shape_of-seen c = c.loop-i.invariant.long

pub returns : goal.returns
returns c = sym (distinct_all c.args.image.now c.args.count c.requires.1.0 true (seen_end c.args.image.now c.args.count c.loop-i.i (length c.args.seen.now) c.loop-i.seen c.loop-i.invariant (omega arith)))
