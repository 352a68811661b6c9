-- `rules::all_within` meets its contract.
-- Assumes nothing.
use mathlib.Core.Path.{sym, ◌∙◌}
use Rattle.rules.proofs.Laws.{scan_on, scan_low, scan_high, scan_end}
use Rattle.rules.proofs.all_within.Goals as goal

pub returns-then-x-lt1 : goal.returns-then-x-lt1
returns-then-x-lt1 c = sym (c.loop-x.invariant ∙ scan_low _ _ _ c.loop-x-test.true c.if-x-lt1.true)

pub returns-then-hi-x : goal.returns-then-hi-x
returns-then-hi-x c = sym
    (c.loop-x.invariant
    ∙ scan_high _ _ _ c.loop-x-test.true c.if-x-lt1.false c.if-hi-x.true)

pub loop-x-preserved : goal.loop-x-preserved
loop-x-preserved c = c.loop-x.invariant
    ∙ scan_on _ _ _ c.loop-x-test.true c.if-x-lt1.false c.if-hi-x.false

pub returns : goal.returns
returns c = sym (c.loop-x.invariant ∙ scan_end _ _ _ c.loop-x-test.false)
