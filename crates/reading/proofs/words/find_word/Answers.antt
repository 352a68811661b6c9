-- `reading::words::find_word` meets its contract: the state in which the word ends is looked up, unless the word is the name.
-- Assumes nothing.
use native.Mathlib.Omega.{arith}
use Rattle.reading.proofs.FoundWord.{found_whole, word_asks, found_absent, found_most, found_state}
use Rattle.reading.proofs.NameWords.{word_long}
use Rattle.reading.proofs.words.find_word.Goals as goal

pub returns-then-to-from : goal.returns-then-to-from
returns-then-to-from c = let a = c.args in found_whole a.list.now a.name.now a.from a.end c.requires c.if-to-from.true

pub slice_bounds-end_state-end : goal.slice_bounds-end_state-end
slice_bounds-end_state-end c = omega (arith, c.requires.2, word_long c.args.name.now c.args.from c.requires.1)

pub end_state-found-requires : goal.end_state-found-requires
end_state-found-requires c = let a = c.args in word_asks a.list.now a.name.now a.from a.end c.requires

pub returns-in_default : goal.returns-in_default
returns-in_default c = let a = c.args in found_absent a.list.now a.name.now a.from a.end c.requires c.end_state-found.result c.end_state-found.ensures c.in_default.is

pub overflow_add-result : goal.overflow_add-result
overflow_add-result c = omega (arith, found_most c.args.list.now c.args.name.now c.args.from c.args.end c.requires c.end_state-found.result c.end_state-found.ensures _ c.in-Some.is)

pub overflow_cast-result : goal.overflow_cast-result
overflow_cast-result c = omega (arith, found_most c.args.list.now c.args.name.now c.args.from c.args.end c.requires c.end_state-found.result c.end_state-found.ensures _ c.in-Some.is)

pub returns : goal.returns
returns c = let a = c.args in found_state a.list.now a.name.now a.from a.end c.requires c.end_state-found.result c.end_state-found.ensures _ c.in-Some.is
