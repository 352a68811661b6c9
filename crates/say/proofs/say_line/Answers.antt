-- `say::say_line` meets its contract: no answer is longer than the memory for it, and the next line starts later.
-- Assumes nothing.
use Rattle.std.proofs.Common.{◌≡◌, length, drop, sym, arith, rules}
use lib.Seq.{length-take-le}
use Rattle.answer_lines.specs.Answers.{longest_line}
use Rattle.transcript.proofs.Bounds.{onward, answer_short}
use Rattle.say.proofs.say_line.Goals as goal

pub slice_bounds-write_all-end : goal.slice_bounds-write_all-end
slice_bounds-write_all-end g c =
    let a = c.args in
    let n = c.answer_name-answered in
    let l : length n.new.out ≡ longest_line = search rules in
    sym (length-take-le _ _ (omega (arith, n.ensures.len, answer_short a.rules.bytes.now a.words.now a.sets.now (drop a.at a.text.now))))

pub returns : goal.returns
returns g c = omega (arith, c.answer_name-answered.ensures.next, onward c.args.text.now c.args.at c.requires)
