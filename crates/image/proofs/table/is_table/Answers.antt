-- `image::table::is_table` meets its contract: the rules are tested in turn.
-- Assumes nothing.
use Prim.Native.Nat.{ℕ, ◌+◌, ◌<◌}
use mathlib.Core.Path.{sym, ap, ◌∙◌, subst}
use lib.Dec.{eqb}
use native.Mathlib.Numerals.{add-one}
use Rattle.rules.specs.Limits.{max_rules}
use Rattle.image.specs.Image.{classes_of, entries_of}
use Rattle.image.proofs.Entries.{entries_length}
use Rattle.image.proofs.Origins.{rest_fine, fine_begin, unfit, crowded, misplaced, tested, finished}
use native.Mathlib.Omega.{arith}
use Rattle.image.proofs.table.is_table.Goals as goal

pub loop-q-init : goal.loop-q-init
loop-q-init c = (omega arith, fine_begin c.args.image.now)

pub literal_count_at-n-requires : goal.literal_count_at-n-requires
literal_count_at-n-requires c = (c.requires.0, omega (arith, c.requires.1))

pub returns-then-n-eq0 : goal.returns-then-n-eq0
returns-then-n-eq0 c = sym (c.loop-q.invariant.1 ∙ unfit c.args.image.now (classes_of c.args.image.now) (entries_of c.args.image.now) c.loop-q.q c.loop-q.p (omega (arith, entries_length c.args.image.now, c.requires.1)) (sym c.literal_count_at-n.ensures.0 ∙ c.if-n-eq0.true))

pub overflow_add-p : goal.overflow_add-p
overflow_add-p c = omega (arith, c.literal_count_at-n.ensures.1)

pub returns-then-p-n-gt-MAX_RULES : goal.returns-then-p-n-gt-MAX_RULES
returns-then-p-n-gt-MAX_RULES c = sym (c.loop-q.invariant.1 ∙ crowded c.args.image.now (classes_of c.args.image.now) (entries_of c.args.image.now) c.loop-q.q c.loop-q.p (omega (arith, entries_length c.args.image.now, c.requires.1)) (subst (λ (n : ℕ). max_rules < c.loop-q.p + n) c.literal_count_at-n.ensures.0 c.if-p-n-gt-MAX_RULES.true))

pub has_run-requires : goal.has_run-requires
has_run-requires c = (c.requires.0.room, c.if-p-n-gt-MAX_RULES.false)

pub returns-then-not-has_run : goal.returns-then-not-has_run
returns-then-not-has_run c = sym (c.loop-q.invariant.1 ∙ misplaced c.args.image.now (classes_of c.args.image.now) (entries_of c.args.image.now) c.loop-q.q c.loop-q.p (omega (arith, entries_length c.args.image.now, c.requires.1)) c.literal_count_at-n.result c.literal_count_at-n.ensures.0 c.if-p-n-gt-MAX_RULES.false (omega arith) (sym c.has_run.ensures ∙ c.if-not-has_run.true))

pub loop-q-preserved : goal.loop-q-preserved
loop-q-preserved c = (c.if-p-n-gt-MAX_RULES.false, c.loop-q.invariant.1 ∙ (tested c.args.image.now (classes_of c.args.image.now) (entries_of c.args.image.now) c.loop-q.q c.loop-q.p (omega (arith, entries_length c.args.image.now, c.requires.1)) c.literal_count_at-n.result c.literal_count_at-n.ensures.0 c.if-p-n-gt-MAX_RULES.false (omega arith) (sym c.has_run.ensures ∙ c.if-not-has_run.false) ∙ ap (λ (i : ℕ). rest_fine c.args.image.now (classes_of c.args.image.now) (entries_of c.args.image.now) i (c.loop-q.p + c.literal_count_at-n.result)) (sym (add-one c.loop-q.q))))

pub literal_total-requires : goal.literal_total-requires
literal_total-requires c = c.requires.0.room

pub returns : goal.returns
returns c = sym (c.loop-q.invariant.1 ∙ (finished c.args.image.now (classes_of c.args.image.now) (entries_of c.args.image.now) c.loop-q.q c.loop-q.p (omega (arith, entries_length c.args.image.now, c.requires.1)) c.loop-q.invariant.0 ∙ ap (λ (n : ℕ). eqb n c.loop-q.p) (sym c.literal_total.ensures.0)))
