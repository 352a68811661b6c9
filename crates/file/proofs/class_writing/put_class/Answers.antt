-- `file::class_writing::put_class` meets its contract: the type, the symbol, the letter count, the letters.
-- Assumes nothing.
use Prim.Native.Nat.{ℕ}
use mathlib.Core.Path.{ap}
use mathlib.Core.List.{[], ◌∷◌}
use native.Mathlib.Omega.{arith}
use Rattle.frames.proofs.Output.{sent_then, sent_as}
use Rattle.file.proofs.class_writing.put_class.Goals as goal

pub put_from-a-requires : goal.put_from-a-requires
put_from-a-requires c = let p = c.requires in (omega (arith, p.0), p.1)

pub put_from-b-requires : goal.put_from-b-requires
put_from-b-requires c = let p = c.requires in (omega (arith, p.0, c.put_from-a.ensures.next), p.1)

pub put_from-c-requires : goal.put_from-c-requires
put_from-c-requires c = let p = c.requires in (omega (arith, p.0, c.put_from-a.ensures.next, c.put_from-b.ensures.next), p.1)

pub put_letters-requires : goal.put_letters-requires
put_letters-requires c = let p = c.requires in (omega (arith, p.0, c.put_from-a.ensures.next, c.put_from-b.ensures.next, c.put_from-c.ensures.next), p.1)

pub returns : goal.returns
returns c = let a = c.args in let t = c.put_from-a.ensures in let s = c.put_from-b.ensures in let m = c.size_in-n.ensures in let n = c.put_from-c.ensures in let z = c.put_letters.ensures in let f = sent_as (ap (λ (i : ℕ). i ∷ []) m.0) n.sent in
    record {
      next = omega (arith, t.next, s.next, n.next, z.next);
      sent = sent_then (sent_then (sent_then t.sent s.sent) f) z.sent;
    }
