-- The next name, judged into the place of its parts.
-- Assumes nothing.
use mathlib.Core.Path.{sym, subst}
use Prim.Native.Nat.{◌+◌}
use native.Mathlib.Omega.{arith}
use Rattle.std.proofs.lemmas.Result.{err_from_is_err_and}
use Rattle.fitting.specs.Fitting.{Str}
use Rattle.prefix_tree.specs.Tree.{Room}
use Rattle.sheet_name.specs.Judging.{room_of}
use Rattle.sheet_judging.proofs.Slots.{name_here, frame_here, parts_few, next_refused, next_judged}
use borrow.Author.Rules.{rules}
use Rattle.sheet_judging.proofs.judge_next.Goals as goal

pub judge_name-judged-requires : goal.judge_name-judged-requires
judge_name-judged-requires c = let a = c.args in
    let e = name_here a.sheet.now a.p.at _ c.from.ensures in
    (c.requires.0, c.requires.1, c.requires.2, c.requires.4, subst (λ (v : Str). Room a.tree.now (a.p.nodes + room_of v)) (sym e) c.requires.5, c.requires.6, frame_here a.kept.now a.p.kept c.requires.11, c.requires.12)

pub offset_bounds-ends-i : goal.offset_bounds-ends-i
offset_bounds-ends-i c = search (rules, c.requires.7)

pub bounds-ends-i : goal.bounds-ends-i
bounds-ends-i c = search (rules, c.requires.8)

pub overflow_cast-starts : goal.overflow_cast-starts
overflow_cast-starts c = search (rules, c.requires.10)

pub offset_bounds-starts-i : goal.offset_bounds-starts-i
offset_bounds-starts-i c = search (rules, c.requires.7)

pub bounds-starts-i : goal.bounds-starts-i
bounds-starts-i c = search (rules, c.requires.9)

pub overflow_add-result : goal.overflow_add-result
overflow_add-result c = search (rules, c.requires.7)

pub overflow_add-result-2 : goal.overflow_add-result-2
overflow_add-result-2 c = let a = c.args in
    omega (arith, parts_few a.sheet.now _ a.p c.from.ensures c.judge_name-judged.ensures a.kept.now c.kept-1.given.0 _ c.in_ok-x.was _ c.parts_in.ensures, c.requires.10)

pub returns-in_err-x : goal.returns-in_err-x
returns-in_err-x c = let a = c.args in
    let p = err_from_is_err_and c.from_residual.result c.from_residual.ensures.1 in
    rw (p.1, p.2) (next_refused a.sheet.now _ a.p c.from.ensures c.judge_name-judged.ensures a.kept.now c.kept-1.given.0 a.ends.now a.starts.now _ c.in_err-x.was)

pub returns : goal.returns
returns c = let a = c.args in
    next_judged a.sheet.now _ a.p c.from.ensures c.judge_name-judged.ensures a.kept.now c.kept-1.given.0 _ c.in_ok-x.was _ c.parts_in.ensures a.ends.now a.starts.now c.requires.11
