-- Whether a node has a symbol next: the empty string does not, nor does a pattern that has ended.
-- Assumes nothing.
use native.Mathlib.Omega.{arith}
use Rattle.count.proofs.Following as F
use mathlib.Core.Path.{◌≡◌, ◌∙◌}
use borrow.Author.Tests.{le-ltb}
use Prim.Native.Nat.{suc, ◌-◌}
use Rattle.count.proofs.has_symbol.Goals as goal

pub returns-then-q-eq0 : goal.returns-then-q-eq0
returns-then-q-eq0 c = F.symbol-none _ _ c.args.q c.args.m c.args.c c.if-q-eq0.true

pub returns-else-m-from : goal.returns-else-m-from
returns-else-m-from c = let e : c.args.q ≡ suc (c.args.q - 1) = omega (arith, c.if-q-eq0.false) in
    le-ltb _ _ c.if-m-from.false ∙ F.symbol-past _ _ _ c.requires.0 c.args.m c.args.c (c.args.q - 1) e (omega (arith, c.if-m-from.false, c.from.ensures))

pub returns-then-m-from : goal.returns-then-m-from
returns-then-m-from c = let e : c.args.q ≡ suc (c.args.q - 1) = omega (arith, c.if-q-eq0.false) in
    F.symbol-at _ _ _ c.requires.0 c.args.m c.args.c (c.args.q - 1) e (omega (arith, c.if-m-from.true, c.from.ensures))
