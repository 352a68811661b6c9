-- `sheet_lines::name_line` meets its contract, by the code of the reply.
-- Assumes nothing.
use mathlib.Core.Path.{refl, sym, ◌∙◌}
use native.Mathlib.Omega.{arith}
use lib.ListN.{get_or}
use lib.Seq.{length-take-le}
use Rattle.sheet_lines.proofs.Printing.{spoken_within, name_spoken, name_refused}
use borrow.Author.Rules.{rules}
use Rattle.sheet_lines.proofs.name_line.Goals as goal

pub slice_bounds-spoken_line-end : goal.slice_bounds-spoken_line-end
slice_bounds-spoken_line-end c = let a = c.args in
    let w = spoken_within a.replies.now _ _ (c.if-code-from.true ∙ c.from.ensures) c.requires.4 in
    sym (length-take-le (get_or a.replies.now 1 0) a.phones.now w.0)

pub slice_bounds-spoken_line-end-then-code-from : goal.slice_bounds-spoken_line-end-then-code-from
slice_bounds-spoken_line-end-then-code-from c = let a = c.args in
    let w = spoken_within a.replies.now _ _ (c.if-code-from.true ∙ c.from.ensures) c.requires.4 in
    sym (length-take-le (get_or a.replies.now 2 0) a.numbers.now w.1)

pub spoken_line-len-requires : goal.spoken_line-len-requires
spoken_line-len-requires c = let a = c.args in
    let h = c.requires in
    let w = spoken_within a.replies.now _ _ (c.if-code-from.true ∙ c.from.ensures) h.4 in
    let lp = length-take-le (get_or a.replies.now 1 0) a.phones.now w.0 in
    let ln = length-take-le (get_or a.replies.now 2 0) a.numbers.now w.1 in
    (omega (arith, lp, w.0, h.1), (omega (arith, ln, w.1, h.2), search rules))

pub returns-then-code-from : goal.returns-then-code-from
returns-then-code-from c = let s = c.spoken_line-len.ensures in
    let a = c.args in
    let h = c.requires in
    name_spoken a.replies.now a.phones.now a.numbers.now a.contested _ _ a.out.now _ (c.if-code-from.true ∙ c.from.ensures) h.4 h.2 s.len s.bytes refl

pub returns : goal.returns
returns c = let s = c.refused_line-len.ensures in
    let a = c.args in
    let h = c.requires in
    name_refused a.replies.now a.phones.now a.numbers.now a.contested _ _ a.out.now _ _ (λ e. c.if-code-from.false (e ∙ sym c.from.ensures)) h.4 refl s.len s.bytes refl
