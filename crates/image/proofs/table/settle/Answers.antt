-- `image::table::settle` meets its contract: the table is laid rule by rule.
-- Assumes nothing.
use Prim.Native.Nat.{◌/◌, ◌%◌}
use mathlib.Core.Path.{ap}
use mathlib.Core.List.{◌∷◌, []}
use lib.ListN.{length}
use Rattle.rules.proofs.Memory.{over_at_length}
use Rattle.image.specs.Image.{total_start}
use Rattle.image.proofs.Settling.{laying_begin, laying_few, laying_long, laying_slots, laying_count, laying_next, laying_end, run_room}
use Rattle.image.proofs.Tests.{sound_long, sound_count}
use native.Mathlib.Omega.{arith}
use Rattle.image.proofs.table.settle.Goals as goal

pub rule_count-count-requires : goal.rule_count-count-requires
rule_count-count-requires c = sound_long _ c.requires

pub loop-q-init : goal.loop-q-init
loop-q-init c = laying_begin c.args.image.now

pub literal_count_at-n-requires : goal.literal_count_at-n-requires
literal_count_at-n-requires c = (laying_slots c.args.image.now c.requires c.loop-q.q c.loop-q.p c.loop-q.image (c.loop-q.invariant c.requires), omega (arith, laying_count c.args.image.now c.requires c.loop-q.q c.loop-q.p c.loop-q.image (c.loop-q.invariant c.requires), c.rule_count-count.ensures.0))

pub put_run-requires : goal.put_run-requires
put_run-requires c = (omega (arith, laying_long c.args.image.now c.requires c.loop-q.q c.loop-q.p c.loop-q.image (c.loop-q.invariant c.requires), sound_long c.args.image.now c.requires), (run_room c.args.image.now c.requires c.loop-q.q c.loop-q.p c.loop-q.image (c.loop-q.invariant c.requires) (omega (arith, c.rule_count-count.ensures.0)) c.literal_count_at-n.result c.literal_count_at-n.ensures.0, omega (arith, c.rule_count-count.ensures.0, sound_count c.args.image.now c.requires)))

pub overflow_add-p : goal.overflow_add-p
overflow_add-p c = omega (arith, run_room c.args.image.now c.requires c.loop-q.q c.loop-q.p c.loop-q.image (c.loop-q.invariant c.requires) (omega (arith, c.rule_count-count.ensures.0)) c.literal_count_at-n.result c.literal_count_at-n.ensures.0)

pub loop-q-preserved : goal.loop-q-preserved
loop-q-preserved c = λ ok. laying_next c.args.image.now ok c.loop-q.q c.loop-q.p c.loop-q.image (c.loop-q.invariant ok) (omega (arith, c.rule_count-count.ensures.0)) c.literal_count_at-n.result c.literal_count_at-n.ensures.0 _ c.put_run.ensures

pub put_total-requires : goal.put_total-requires
put_total-requires c = (omega (arith, laying_long c.args.image.now c.requires c.loop-q.q c.loop-q.p c.loop-q.image (c.loop-q.invariant c.requires), sound_long c.args.image.now c.requires), laying_few c.args.image.now c.requires c.loop-q.q c.loop-q.p c.loop-q.image (c.loop-q.invariant c.requires))

pub shape_of-image : goal.shape_of-image
shape_of-image c = omega (arith, laying_long c.args.image.now c.requires c.loop-q.q c.loop-q.p c.loop-q.image (c.loop-q.invariant c.requires), ap length c.put_total.ensures, over_at_length (c.loop-q.p / 256 ∷ c.loop-q.p % 256 ∷ []) c.loop-q.image total_start (omega (arith, laying_long c.args.image.now c.requires c.loop-q.q c.loop-q.p c.loop-q.image (c.loop-q.invariant c.requires), sound_long c.args.image.now c.requires)))

pub returns : goal.returns
returns c = laying_end c.args.image.now c.requires c.loop-q.q c.loop-q.p c.loop-q.image (c.loop-q.invariant c.requires) (omega (arith, c.rule_count-count.ensures.0)) _ c.put_total.ensures
