-- `reading::words::lay_frame` meets its contract: the boundary, the name's bytes and the boundary, stored one after the other.
-- Assumes nothing.
use native.Mathlib.Omega.{arith}
use lib.ListN.{set, length-set}
use Rattle.reading.proofs.NameWords.{lay_begin, lay_on, lay_end}
use Rattle.reading.proofs.words.lay_frame.Goals as goal

pub loop-i-init : goal.loop-i-init
loop-i-init c = let a = c.args in lay_begin a.f.now (omega arith)

pub loop-i-preserved : goal.loop-i-preserved
loop-i-preserved c = let l = c.loop-i in let a = c.args in lay_on a.name.now (set a.f.now 0 0) l.f l.i _ (omega arith) (omega (arith, length-set a.f.now 0 0)) l.invariant c.boundary_or.ensures

pub returns : goal.returns
returns c = let l = c.loop-i in let a = c.args in lay_end a.name.now a.f.now l.f l.i (omega arith) c.requires l.invariant
