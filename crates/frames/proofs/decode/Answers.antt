-- `frames::decode` meets its contract. The loop's invariant: the bytes so far stand at the front of the lent ones.
-- Assumes nothing.
use Rattle.std.proofs.Common.{◌-◌, drop, arith, rules}
use Rattle.frames.specs.Lines.{decoded}
use Rattle.frames.proofs.Decoding.{Decoded, decoded_start, decoded_length, decoded_next, decoded_end}
use Rattle.frames.proofs.decode.Goals as goal

pub loop-i-init : goal.loop-i-init
loop-i-init c = decoded_start (decoded (drop c.args.at c.args.text.now)) c.args.frame.now c.args.n c.requires.0 c.requires.1

pub bounds-frame-i : goal.bounds-frame-i
bounds-frame-i c = omega (arith, c.requires.1, decoded_length (decoded (drop c.args.at c.args.text.now)) c.args.frame.now c.args.n c.requires.0 c.requires.1 c.loop-i.frame c.loop-i.i c.loop-i.invariant)

pub loop-i-preserved : goal.loop-i-preserved
loop-i-preserved c = decoded_next (decoded (drop c.args.at c.args.text.now)) c.args.frame.now c.args.n c.requires.0 c.requires.1 c.loop-i.frame c.loop-i.i c.loop-i.invariant c.loop-i-test.true c.byte_at.result c.byte_at.ensures

pub shape_of-frame : goal.shape_of-frame
shape_of-frame c = decoded_length (decoded (drop c.args.at c.args.text.now)) c.args.frame.now c.args.n c.requires.0 c.requires.1 c.loop-i.frame c.loop-i.i c.loop-i.invariant

pub returns : goal.returns
returns c = decoded_end (decoded (drop c.args.at c.args.text.now)) c.args.frame.now c.args.n c.requires.0 c.requires.1 c.loop-i.frame c.loop-i.i c.loop-i.invariant c.loop-i-test.false
