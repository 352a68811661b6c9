-- `minimality::apart` meets its contract.
-- Assumes nothing.
use Rattle.minimality.proofs.Keys.{chain_begin, chain_start, chain_next, key_below, laid_upto}
use Rattle.minimality.proofs.Scan.{holds, apart_yes}
use Rattle.automaton.specs.Automaton.{cells_of}
use lib.ListN.{length-set}
use mathlib.Core.Path.{refl}
use native.Mathlib.Omega.{arith}
use Rattle.minimality.proofs.Scan.{all_next}
use Rattle.minimality.specs.Chains.{Fresh}
use Rattle.minimality.proofs.apart.Goals as goal

pub loop-t-init : goal.loop-t-init
loop-t-init c = (chain_begin _ _ _ _ _ c.clear.ensures, refl, refl)

pub offset_bounds-heads-h : goal.offset_bounds-heads-h
offset_bounds-heads-h c = let b = key_below (cells_of c.args.words.now c.loop-t.t) in let e = c.row_key-h.ensures in omega arith

pub bounds-heads-h : goal.bounds-heads-h
bounds-heads-h c = let b = key_below (cells_of c.args.words.now c.loop-t.t) in
    let e = c.row_key-h.ensures in
    let k = c.requires.keys in
    let l = c.loop-t.invariant.1 in
    let m = c.clear.ensures.long in
    omega arith

pub walk-requires : goal.walk-requires
walk-requires c = let r = c.requires.room in
    let l = c.loop-t.invariant.2 in
    let ch = c.loop-t.invariant.0 in
    record {
      laid = laid_upto _ _ _ c.requires.laid (omega arith);
      room = omega arith;
      linked = ch.linked;
      start = chain_start _ _ _ _ _ ch _ _ c.row_key-h.ensures c.from.ensures;
    }

pub offset_bounds-heads-h-in-loop-t : goal.offset_bounds-heads-h-in-loop-t
offset_bounds-heads-h-in-loop-t c = let b = key_below (cells_of c.args.words.now c.loop-t.t) in let e = c.row_key-h.ensures in omega arith

pub bounds-heads-h-in-loop-t : goal.bounds-heads-h-in-loop-t
bounds-heads-h-in-loop-t c = let b = key_below (cells_of c.args.words.now c.loop-t.t) in
    let e = c.row_key-h.ensures in
    let k = c.requires.keys in
    let l = c.loop-t.invariant.1 in
    let m = c.clear.ensures.long in
    omega arith

pub loop-t-preserved : goal.loop-t-preserved
loop-t-preserved c = let b = key_below (cells_of c.args.words.now c.loop-t.t) in
    let e = c.row_key-h.ensures in
    let k = c.requires.keys in
    let l = c.loop-t.invariant.1 in
    let m = c.clear.ensures.long in
    let r = c.requires.room in
    let o = c.loop-t.invariant.2 in (
      chain_next _ _ _ _ _ c.loop-t.invariant.0 _ _ e refl (omega arith) (holds _ _ c.walk.ensures c.if-not-walk.false-raw) (omega arith) (omega arith),
      simp length-set l,
      simp length-set o,
    )

pub returns-else-not-walk : goal.returns-else-not-walk
returns-else-not-walk c = apart_yes _ _ _ (all_next (Fresh c.args.words.now) _ c.loop-t.invariant.0.fresh (c.walk.ensures.yes c.if-not-walk.false)) (omega arith)
