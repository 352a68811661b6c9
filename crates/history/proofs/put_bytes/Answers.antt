-- `history::put_bytes` meets its contract: word by word.
-- Assumes nothing.
use native.Mathlib.Omega.{arith}
use Rattle.history.proofs.Coded.{begin, long, next, finished}
use Rattle.history.proofs.put_bytes.Goals as goal

pub loop-i-init : goal.loop-i-init
loop-i-init c = begin c.args.room.now c.args.code.now

pub loop-i-smaller : goal.loop-i-smaller
loop-i-smaller c = let st = c.args in let l = c.loop-i in omega (arith, long st.room.now st.code.now l.room l.i l.invariant)

pub loop-i-preserved : goal.loop-i-preserved
loop-i-preserved c = let st = c.args in let l = c.loop-i in next st.room.now st.code.now l.room l.i l.invariant (omega (arith, long st.room.now st.code.now l.room l.i l.invariant)) _ c.byte_at.ensures

pub shape_of-room : goal.shape_of-room
shape_of-room c = let st = c.args in let l = c.loop-i in long st.room.now st.code.now l.room l.i l.invariant

pub returns : goal.returns
returns c = let st = c.args in let l = c.loop-i in finished st.room.now st.code.now l.room l.i l.invariant (omega (arith, long st.room.now st.code.now l.room l.i l.invariant))
