-- One pattern more: the symbols that it has in common with a node give no state, and each of the others gives one.
-- Assumes nothing.
use mathlib.Core.Path.{ap}
use Prim.Native.Nat.{ℕ, ◌+◌, ◌-◌}
use native.Mathlib.Omega.{arith}
use Rattle.side.proofs.Inserting.{count-few}
use Rattle.count.proofs.Counting as C
use Rattle.count.proofs.count_one.Goals as goal

pub returns-then-len-m : goal.returns-then-len-m
returns-then-len-m c = C.count_same _ _ _ c.requires.0 _ _ _ c.requires.2.chains c.requires.2.tree _ c.requires.2.count c.requires.1 _ c.follow-s.ensures (omega (arith, c.if-len-m.true, c.from-len.ensures))

pub bounds-pats-i : goal.bounds-pats-i
bounds-pats-i c = omega (arith, c.from-len.ensures, c.if-len-m.false, c.requires.0.short c.args.i (omega arith), c.requires.0.room)

pub key_of-requires : goal.key_of-requires
key_of-requires c = C.branch-symbol _ _ _ c.requires.0 _ _ _ c.requires.2.chains c.requires.2.tree _ c.requires.2.count c.requires.1 _ c.follow-s.ensures (omega (arith, c.if-len-m.false, c.from-len.ensures))

pub attach-requires : goal.attach-requires
attach-requires c = (C.branch-lt _ _ _ c.requires.0 _ _ _ c.requires.2.chains c.requires.2.tree _ c.requires.2.count c.requires.1 _ c.follow-s.ensures, omega (arith, c.requires.0.few), C.room-more _ _ _ c.requires.0 _ _ _ c.requires.2.chains c.requires.2.tree _ c.requires.2.count c.requires.1 _ c.follow-s.ensures)

pub overflow_add-result : goal.overflow_add-result
overflow_add-result c = omega (arith, C.count-is _ _ _ c.requires.0 _ _ _ c.requires.2.chains c.requires.2.tree _ c.requires.2.count c.requires.1 _ c.follow-s.ensures, count-few _ _ _ c.requires.0, c.from-len.ensures)

pub returns : goal.returns
returns c = C.count-more _ _ _ c.requires.0 _ _ _ c.requires.2.chains c.requires.2.tree _ c.requires.2.count c.requires.1 _ c.follow-s.ensures (omega (arith, c.if-len-m.false, c.from-len.ensures)) _ c.key_of.ensures _
    (ap (λ (k : ℕ). c.args.count + (k - c.follow-s.result.depth)) c.from-len.ensures) _ _ _ c.attach.ensures.first c.attach.ensures.next c.attach.ensures.key
