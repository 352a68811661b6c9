-- `image::table::has_run` meets its contract: entries are tested one after the other.
-- Assumes nothing.
use Prim.Native.Nat.{◌+◌, ◌*◌}
use mathlib.Core.Path.{sym, ◌∙◌}
use Rattle.image.specs.Image.{origin_size, table_start}
use Rattle.image.proofs.Origins.{rest_first, rest_place, rest_ordinal, rest_on, rest_end}
use native.Mathlib.Omega.{arith}
use Rattle.image.proofs.table.has_run.Goals as goal

pub loop-j-init : goal.loop-j-init
loop-j-init c = rest_first c.args.image.now (table_start + origin_size * c.args.p) c.args.q c.args.n

pub two_at-requires : goal.two_at-requires
two_at-requires c = omega (arith, c.requires.0, c.requires.1)

pub returns-then-from-q : goal.returns-then-from-q
returns-then-from-q c = sym (c.loop-j.invariant ∙ rest_place c.args.image.now (table_start + origin_size * c.args.p) c.args.q c.args.n c.loop-j.j (omega arith) (λ e. c.if-from-q.true (c.from.ensures ∙ (c.two_at.ensures ∙ e))))

pub two_at-requires-in-loop-j : goal.two_at-requires-in-loop-j
two_at-requires-in-loop-j c = omega (arith, c.requires.0, c.requires.1)

pub returns-then-from-j : goal.returns-then-from-j
returns-then-from-j c = sym (c.loop-j.invariant ∙ rest_ordinal c.args.image.now (table_start + origin_size * c.args.p) c.args.q c.args.n c.loop-j.j (omega arith) (sym c.two_at.ensures ∙ (sym c.from.ensures ∙ c.if-from-q.false)) (λ e. c.if-from-j.true (c.from-in-loop-j.ensures ∙ (c.two_at-in-loop-j.ensures ∙ e))))

pub loop-j-preserved : goal.loop-j-preserved
loop-j-preserved c = c.loop-j.invariant ∙ rest_on c.args.image.now (table_start + origin_size * c.args.p) c.args.q c.args.n c.loop-j.j (omega arith) (sym c.two_at.ensures ∙ (sym c.from.ensures ∙ c.if-from-q.false)) (sym c.two_at-in-loop-j.ensures ∙ (sym c.from-in-loop-j.ensures ∙ c.if-from-j.false))

pub returns : goal.returns
returns c = sym (c.loop-j.invariant ∙ rest_end c.args.image.now (table_start + origin_size * c.args.p) c.args.q c.args.n c.loop-j.j c.loop-j-test.false)
