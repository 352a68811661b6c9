-- `answer_lines::spoken_line` meets its contract: the frame begins, its body goes out, it ends.
-- Assumes nothing.
use native.Mathlib.Omega.{arith}
use Rattle.answer_lines.specs.Answers.{spoken_body}
use Rattle.lines.proofs.Printed.{printed_sent, length_printed}
use Rattle.answer_lines.proofs.Fields.{length_spoken}
use borrow.Author.Rules.{rules}
use Rattle.answer_lines.proofs.spoken_line.Goals as goal

pub returns : goal.returns
returns c = let a = c.args in
    let b = c.begin-start.ensures in
    let s = c.put_spoken-body.ensures in
    let e = c.end.ensures in
    let n = length_spoken a.steps a.phones.now a.numbers.now in
    record {
      len = omega (arith, length_printed (spoken_body a.steps a.phones.now a.numbers.now), n, b.next, s.next, e.next);
      bytes = printed_sent a.out.now b.begun s.sent e.line;
    }
