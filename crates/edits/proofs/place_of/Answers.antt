-- `edits::place_of` meets its contract.
-- Assumes nothing.
use Prim.Native.Nat.{suc, ◌+◌}
use mathlib.Core.Path.{◌≡◌, ap}
use native.Mathlib.Omega.{arith}
use lib.ListN.{drop}
use Rattle.image.specs.Image.{rules_in}
use Rattle.edits.specs.Ledger.{place_of}
use Rattle.image.proofs.Scan.{past}
use Rattle.edits.proofs.Answers.{place_hit, place_miss}
use Rattle.edits.proofs.place_of.Goals as goal

pub returns-then-n-number : goal.returns-then-n-number
returns-then-n-number c = let h : place_of c.args.number (drop c.loop-i.i (rules_in c.args.count c.args.image.now)) ≡ 0 = place_hit c.args.image.now c.args.count c.loop-i.i (omega arith) c.args.number _ c.number_at-n.ensures c.if-n-number.true in (omega arith, omega arith)

pub loop-i-preserved : goal.loop-i-preserved
loop-i-preserved c = let h : place_of c.args.number (drop c.loop-i.i (rules_in c.args.count c.args.image.now)) ≡ suc (place_of c.args.number (drop (c.loop-i.i + 1) (rules_in c.args.count c.args.image.now))) = place_miss c.args.image.now c.args.count c.loop-i.i (omega arith) c.args.number _ c.number_at-n.ensures c.if-n-number.false in omega arith

pub returns : goal.returns
returns c = let h : place_of c.args.number (drop c.loop-i.i (rules_in c.args.count c.args.image.now)) ≡ 0 = ap (place_of c.args.number) (past c.args.image.now c.args.count c.loop-i.i (omega arith)) in omega arith
