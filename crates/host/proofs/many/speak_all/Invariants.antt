-- `host::many::speak_all` meets its contract, by the loop invariant `Going`: what stands and what is to come make the same lot.
-- Assumes nothing.
use Prim.Native.Nat.{◌-◌, ◌/◌}
use mathlib.Core.Path.{sym, ap, ◌∙◌}
use lib.ListN.{length}
use Rattle.rules.specs.Memory.{over}
use Rattle.many_names.specs.Many.{reply_size, Lot}
use native.Mathlib.Omega.{arith}
use Rattle.tables.specs.Walk.{walk_said}
use Rattle.exceptions.specs.Judging.{listing_of}
use Rattle.many_names.proofs.Names.{next-count, next-whole}
use Rattle.many_names.proofs.Answering.{Going, begin, next, end-count, end-replies, end-phones, end-numbers}
use Rattle.host.proofs.Answering.{walk_fits, all_is}
use Rattle.host.proofs.many.speak_all.Given as goal

abbrev pub invariant-loop-rules : goal.invariant-loop-rules
invariant-loop-rules l = Going (walk_said l.rules.bytes.now (listing_of l.list) l.words l.sets) l.names l.limit l.initial.phones l.initial.numbers l.initial.replies l.phones l.numbers l.replies l.p

abbrev pub decreases-loop-rules : goal.decreases-loop-rules
decreases-loop-rules l = l.limit - l.p.count
