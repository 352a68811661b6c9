-- `classes::ordinals::put_choice` meets its contract. The loop's invariant: the symbols from i on are stored, and q is j divided by their choices.
-- Assumes nothing.
use Prim.Native.Nat.{ℕ, ◌/◌}
use mathlib.Core.Path.{◌≡◌, ap, ◌∙◌}
use native.Mathlib.Omega.{arith}
use lib.ListN.{length, drop}
use Rattle.classes.specs.Expansion.{size}
use Rattle.classes.specs.Masks.{classes_in}
use Rattle.classes.proofs.Store.{choice_from, fill-begin, fill-next, fill_end, filled_long, quotient_begin, quotient_next, symbol_some}
use Rattle.classes.proofs.ordinals.put_choice.Goals as goal

pub loop-i-init : goal.loop-i-init
loop-i-init c = (quotient_begin (classes_in c.args.masks.now) c.args.run.now c.requires.1.0 c.args.j c.args.out.now c.requires.1.1, fill-begin (classes_in c.args.masks.now) c.args.run.now c.requires.1.0 c.args.j c.args.out.now c.requires.1.1)

pub letter_round-requires : goal.letter_round-requires
letter_round-requires c = (c.requires.0, symbol_some (classes_in c.args.masks.now) c.args.run.now c.requires.1.0 c.args.j c.args.out.now c.requires.1.1 c.loop-i.i (omega arith) (omega arith))

pub bounds-out-i : goal.bounds-out-i
bounds-out-i c = omega (arith, ap length c.loop-i.invariant.1, filled_long (classes_in c.args.masks.now) c.args.run.now c.requires.1.0 c.args.j c.args.out.now c.requires.1.1 c.loop-i.i (omega arith))

pub rest_after-q-requires : goal.rest_after-q-requires
rest_after-q-requires c = (c.requires.0, symbol_some (classes_in c.args.masks.now) c.args.run.now c.requires.1.0 c.args.j c.args.out.now c.requires.1.1 c.loop-i.i (omega arith) (omega arith))

pub loop-i-preserved : goal.loop-i-preserved
loop-i-preserved c = (quotient_next (classes_in c.args.masks.now) c.args.run.now c.requires.1.0 c.args.j c.args.out.now c.requires.1.1 c.loop-i.i (omega arith) (omega arith) c.loop-i.q c.loop-i.invariant.0 _ c.rest_after-q.ensures, fill-next (classes_in c.args.masks.now) c.args.run.now c.requires.1.0 c.args.j c.args.out.now c.requires.1.1 c.loop-i.i (omega arith) (omega arith) c.loop-i.q c.loop-i.invariant.0 c.loop-i.out c.loop-i.invariant.1 _ c.letter_round.ensures)

pub shape_of-out : goal.shape_of-out
shape_of-out c = ap length c.loop-i.invariant.1 ∙ filled_long (classes_in c.args.masks.now) c.args.run.now c.requires.1.0 c.args.j c.args.out.now c.requires.1.1 c.loop-i.i (omega arith)

pub returns : goal.returns
returns c = let z : c.loop-i.i ≡ 0 = omega arith in (
  c.loop-i.invariant.0 ∙ ap (λ (n : ℕ). c.args.j / size (classes_in c.args.masks.now) (drop n c.args.run.now)) z,
  c.loop-i.invariant.1 ∙ (ap (choice_from (classes_in c.args.masks.now) c.args.run.now c.args.j c.args.out.now) z ∙ fill_end (classes_in c.args.masks.now) c.args.run.now c.requires.1.0 c.args.j c.args.out.now c.requires.1.1),
)
