-- From a state to its child: found in the row, or made with an empty row.
-- Assumes nothing.
use Rattle.side.proofs.Descending.{found_w, zero_w, made_w}
use mathlib.Core.Path.{refl}
use lib.ListN.{length-set}
use Rattle.side.proofs.descend.Goals as goal

pub returns-then-next-ne0 : goal.returns-then-next-ne0
returns-then-next-ne0 c = found_w _ _ _ _ c.from.result _ c.from.ensures c.if-next-ne0.true c.from-then-next-ne0.ensures refl

pub clear_row-requires : goal.clear_row-requires
clear_row-requires c = let h = c.requires.4 (zero_w c.args.rows.now c.args.at.state c.args.symbol c.from.result c.from.ensures c.if-next-ne0.false) in
    simp length-set h

pub returns : goal.returns
returns c = let z = c.if-next-ne0.false in
    let h = c.requires.4 (zero_w c.args.rows.now c.args.at.state c.args.symbol c.from.result c.from.ensures z) in
    made_w _ _ _ _ _ c.from.result _ c.from.ensures z c.requires.1 c.requires.0 h c.clear_row.ensures refl refl
