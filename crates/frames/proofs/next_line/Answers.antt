-- `frames::next_line` meets its contract. The loop's invariant: what follows the line is what follows it from here.
-- Assumes nothing.
use Rattle.std.proofs.Common.{◌-◌, length, refl, rules}
use Rattle.frames.proofs.Scan.{Search, search_out, search_end, search_next}
use Rattle.frames.proofs.next_line.Goals as goal

pub loop-i-init : goal.loop-i-init
loop-i-init c = record { ahead = refl }

pub returns-then-text-i-eq10 : goal.returns-then-text-i-eq10
returns-then-text-i-eq10 c = let l = c.loop-i in
    let a = c.args in
    search_end a.text.now a.at l.i l.invariant c.loop-i-test.true c.if-text-i-eq10.true

pub loop-i-preserved : goal.loop-i-preserved
loop-i-preserved c = let l = c.loop-i in
    let a = c.args in
    search_next a.text.now a.at l.i l.invariant c.loop-i-test.true c.if-text-i-eq10.false

pub returns : goal.returns
returns c = let l = c.loop-i in
    let a = c.args in
    search_out a.text.now a.at l.i l.invariant c.loop-i-test.false
