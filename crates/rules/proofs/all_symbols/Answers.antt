-- `rules::all_symbols` meets its contract: the symbols are tested in turn.
-- Assumes nothing.
use mathlib.Core.Path.{sym, ◌∙◌}
use Rattle.rules.proofs.Laws.{symbols_on, symbols_low, symbols_other, symbols_end, symbol_high, symbol_space, symbol_other}
use Rattle.rules.proofs.all_symbols.Goals as goal

pub returns-then-x-lt1 : goal.returns-then-x-lt1
returns-then-x-lt1 c = sym (c.loop-x.invariant ∙ symbols_low _ _ c.loop-x-test.true c.if-x-lt1.true)

pub returns-then-x-gt-MAX_SYMBOL : goal.returns-then-x-gt-MAX_SYMBOL
returns-then-x-gt-MAX_SYMBOL c = sym (c.loop-x.invariant ∙ symbols_other _ _ c.loop-x-test.true c.if-x-lt1.false (symbol_high _ c.if-x-gt-MAX_SYMBOL.true))

pub returns-then-x-eq-SEPARATOR : goal.returns-then-x-eq-SEPARATOR
returns-then-x-eq-SEPARATOR c = sym (c.loop-x.invariant ∙ symbols_other _ _ c.loop-x-test.true c.if-x-lt1.false (symbol_space _ c.if-x-gt-MAX_SYMBOL.false c.if-x-eq-SEPARATOR.true))

pub loop-x-preserved : goal.loop-x-preserved
loop-x-preserved c = c.loop-x.invariant ∙ symbols_on _ _ c.loop-x-test.true c.if-x-lt1.false (symbol_other _ c.if-x-gt-MAX_SYMBOL.false c.if-x-eq-SEPARATOR.false)

pub returns : goal.returns
returns c = sym (c.loop-x.invariant ∙ symbols_end _ _ c.loop-x-test.false)
