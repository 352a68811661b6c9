-- `reading::read_letters` meets its contract: one rule more at each turn.
-- Assumes nothing.
use native.Mathlib.Omega.{arith}
use Rattle.image.proofs.Tests.{valid_count}
use Rattle.reading.proofs.Plain.{plain_begin, plain_room, plain_next, plain_none, plain_end}
use Rattle.reading.proofs.read_letters.Goals as goal

pub loop-i-init : goal.loop-i-init
loop-i-init c = plain_begin c.args.rules.bytes.now c.args.rules.sound c.args.frame.now c.args.parts.now c.requires.1.1

pub first_fit-requires : goal.first_fit-requires
first_fit-requires c = (c.args.rules.sound, (c.rule_count-count.ensures, omega arith))

pub returns-in_default : goal.returns-in_default
returns-in_default c = plain_none c.args.rules.bytes.now c.args.rules.sound c.args.frame.now c.loop-i.parts c.loop-i.k c.loop-i.i c.loop-i.invariant (omega arith) c.first_fit.result c.first_fit.ensures c.in_default.is

pub part_of-requires : goal.part_of-requires
part_of-requires c = let h = c.first_fit.ensures.inside _ c.in-Some.is in
    let n = valid_count c.args.rules.bytes.now c.args.rules.sound in
    (omega (arith, h.0), omega (arith, h.1))

pub offset_bounds-parts-k : goal.offset_bounds-parts-k
offset_bounds-parts-k c = omega (arith, plain_room c.args.rules.bytes.now c.args.rules.sound c.args.frame.now c.loop-i.parts c.loop-i.k c.loop-i.i c.loop-i.invariant (omega arith) c.first_fit.result c.first_fit.ensures)

pub bounds-parts-k : goal.bounds-parts-k
bounds-parts-k c = omega (arith, plain_room c.args.rules.bytes.now c.args.rules.sound c.args.frame.now c.loop-i.parts c.loop-i.k c.loop-i.i c.loop-i.invariant (omega arith) c.first_fit.result c.first_fit.ensures, c.loop-i.invariant.room)

pub overflow_add-k : goal.overflow_add-k
overflow_add-k c = omega (arith, plain_room c.args.rules.bytes.now c.args.rules.sound c.args.frame.now c.loop-i.parts c.loop-i.k c.loop-i.i c.loop-i.invariant (omega arith) c.first_fit.result c.first_fit.ensures)

pub target_len_at-i-requires : goal.target_len_at-i-requires
target_len_at-i-requires c = (c.args.rules.sound, (c.first_fit.ensures.inside _ c.in-Some.is).0)

pub overflow_add-i : goal.overflow_add-i
overflow_add-i c = omega (arith, c.target_len_at-i.ensures.1.1)

pub loop-i-smaller : goal.loop-i-smaller
loop-i-smaller c = omega (arith, c.target_len_at-i.ensures.1.0, c.loop-i.invariant.near)

pub loop-i-preserved : goal.loop-i-preserved
loop-i-preserved c = plain_next c.args.rules.bytes.now c.args.rules.sound c.args.frame.now c.loop-i.parts c.loop-i.k c.loop-i.i c.loop-i.invariant (omega arith) c.first_fit.result c.first_fit.ensures _ c.in-Some.is _ c.part_of.ensures c.target_len_at-i.result c.target_len_at-i.ensures.0 c.target_len_at-i.ensures.1.0 c.target_len_at-i.ensures.1.1

pub returns : goal.returns
returns c = plain_end c.args.rules.bytes.now c.args.rules.sound c.args.frame.now c.loop-i.parts c.loop-i.k c.loop-i.i c.loop-i.invariant (omega arith)
