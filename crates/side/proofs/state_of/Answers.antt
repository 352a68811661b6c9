-- A run of the rows over a part of the symbols.
-- Assumes nothing.
use Prim.Native.Nat.{ℕ, ◌+◌}
use mathlib.Core.Path.{◌≡◌, sym, ap, ◌∙◌, subst}
use lib.ListN.{get_or}
use native.Mathlib.Omega.{arith}
use Rattle.side.proofs.Running.{Running, part_at, begin, next, moved, finished}
use Rattle.side.specs.Steps.{cell}
use Rattle.side.proofs.state_of.Goals as goal

pub loop-symbol-init : goal.loop-symbol-init
loop-symbol-init c = begin _ _ _ _ _ c.requires.0 c.requires.1

pub loop-symbol-preserved : goal.loop-symbol-preserved
loop-symbol-preserved c = let a = c.args in
    let l = c.loop-symbol in
    let e : c.from-q.result ≡ cell a.rows.now l.q (get_or a.pats.now (a.a + l.symbol-index) 0) =
    c.from-q.ensures ∙ ap (λ (k : ℕ). cell a.rows.now l.q k) (c.from.ensures ∙ part_at a.pats.now a.a a.e l.symbol-index (omega arith)) in
    let z : a.a + l.symbol-index + 1 ≡ a.a + (l.symbol-index + 1) = omega arith in
    subst (λ (j : ℕ). Running a.rows.now a.pats.now a.count a.a a.e c.from-q.result j) z
    (moved (sym e) (next a.rows.now a.pats.now a.count a.a a.e c.requires.0 c.requires.1 l.q (a.a + l.symbol-index) l.invariant (omega arith)))

pub returns : goal.returns
returns c = finished _ _ _ _ _ c.requires.0 c.requires.1 c.loop-symbol.q (c.args.a + c.loop-symbol.symbol-index) c.loop-symbol.invariant (omega arith)
