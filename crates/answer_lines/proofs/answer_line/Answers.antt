-- `answer_lines::answer_line` meets its contract, by the cases of the answer.
-- Assumes nothing.
use Rattle.rules.specs.Memory.{over}
use Rattle.answer_lines.proofs.Told.{spoken_within, spoken_told, refused_told, length_refusal}
use lib.Seq.{length-take-le}
use lib.ListN.{length}
use Prim.Native.Nat.{ℕ}
use mathlib.Core.List.{List}
use mathlib.Core.Path.{sym, ap, ◌∙◌}
use native.Mathlib.Omega.{arith}
use borrow.Author.Rules.{rules}
use Rattle.answer_lines.proofs.answer_line.Goals as goal

pub slice_bounds-spoken_line-end : goal.slice_bounds-spoken_line-end
slice_bounds-spoken_line-end c = let a = c.args in
    let w = spoken_within a.answer.speech _ c.in-Ok.is _ _ c.requires.1.1.1 in
    sym (length-take-le c.in-Ok.said.phones a.phones.now w.0)

pub slice_bounds-spoken_line-end-in-Ok : goal.slice_bounds-spoken_line-end-in-Ok
slice_bounds-spoken_line-end-in-Ok c = let a = c.args in
    let w = spoken_within a.answer.speech _ c.in-Ok.is _ _ c.requires.1.1.1 in
    sym (length-take-le c.in-Ok.said.numbers a.numbers.now w.1)

pub spoken_line-requires : goal.spoken_line-requires
spoken_line-requires c = let a = c.args in
    let w = spoken_within a.answer.speech _ c.in-Ok.is _ _ c.requires.1.1.1 in
    let h = c.requires in
    let lp = length-take-le c.in-Ok.said.phones a.phones.now w.0 in
    let ln = length-take-le c.in-Ok.said.numbers a.numbers.now w.1 in
    (omega (arith, lp, w.0, h.0), (omega (arith, ln, w.1, h.1.0), search rules))

pub returns-in-Ok : goal.returns-in-Ok
returns-in-Ok c = let a = c.args in
    let e = spoken_told a.answer.speech _ c.in-Ok.is a.answer.steps a.phones.now a.numbers.now in
    let s = c.spoken_line in
    record {
      len = s.ensures.len ∙ ap length e;
      bytes = s.ensures.bytes ∙ ap (λ (l : List ℕ). over l a.out.now) e;
    }

pub returns-in-Err : goal.returns-in-Err
returns-in-Err c = let a = c.args in
    let x = c.in-Err.x in
    let e = refused_told a.answer.speech x c.in-Err.is a.answer.steps a.phones.now a.numbers.now in
    let s = c.refusal_line in
    record {
      len = s.ensures.len ∙ (sym (length_refusal x) ∙ ap length e);
      bytes = s.ensures.bytes ∙ ap (λ (l : List ℕ). over l a.out.now) e;
    }
