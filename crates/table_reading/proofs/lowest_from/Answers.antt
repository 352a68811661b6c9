-- `table_reading::lowest_from` meets its contract. The loop's invariant: the lowest shared place is the lowest from word j on.
-- Assumes nothing.
use mathlib.Core.Path.{refl, sym, ap, ◌∙◌}
use native.Mathlib.Omega.{arith}
use lib.Count.{trailing_le}
use Rattle.tables.specs.SetWords.{meet_word}
use Rattle.tables.proofs.SetWords.{from_found, from_next, from_end}
use Rattle.table_reading.specs.Letters.{found_of}
use Rattle.table_reading.proofs.lowest_from.Goals as goal

pub loop-j-init : goal.loop-j-init
loop-j-init c = refl

pub overflow_cast-z : goal.overflow_cast-z
overflow_cast-z c = omega (arith, trailing_le 64 (meet_word c.args.sets.now c.args.s c.args.t c.loop-j.j))

pub returns-then-z-lt64 : goal.returns-then-z-lt64
returns-then-z-lt64 c = let a = meet_word c.args.sets.now c.args.s c.args.t in
    let j = c.loop-j.j in
    ap found_of (sym (c.loop-j.invariant ∙ from_found a j 8 (omega arith) (omega arith)))

pub loop-j-preserved : goal.loop-j-preserved
loop-j-preserved c = let a = meet_word c.args.sets.now c.args.s c.args.t in
    let j = c.loop-j.j in
    c.loop-j.invariant ∙ from_next a j 8 (omega arith) (omega arith)

pub returns : goal.returns
returns c = let a = meet_word c.args.sets.now c.args.s c.args.t in
    ap found_of (sym (c.loop-j.invariant ∙ from_end a c.loop-j.j 8 (omega arith)))
