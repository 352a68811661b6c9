-- `command_parts::answers::walk_refusal` meets its contract: 08, steps, number and place go out.
-- Assumes nothing.
use Prim.Native.Nat.{ℕ}
use mathlib.Core.Path.{ap₂}
use mathlib.Core.List.{◌∷◌, ◌++◌}
use native.Mathlib.Omega.{arith}
use Rattle.numbers.specs.Numbers.{bytes2, bytes4}
use Rattle.frames.proofs.Output.{sent_then, sent_as}
use Rattle.lines.proofs.Printed.{printed_sent}
use Rattle.command_parts.specs.Answers.{walk_refusal}
use borrow.Author.Rules.{rules}
use Rattle.command_parts.proofs.answers.walk_refusal.Goals as goal

pub returns : goal.returns
unfolding walk_refusal
returns c = let a = c.args in
    let b = c.begin-start.ensures in
    let k = c.put-kind.ensures in
    let s = c.put_two-stepped.ensures in
    let n = c.put-number.ensures in
    let p = c.put_four-body.ensures in
    let e = c.end.ensures in
    let f = ap₂ (λ (n p : ℕ). 8 ∷ bytes2 a.steps ++ (n ∷ bytes4 p)) c.refusal_number.ensures c.refusal_place.ensures in
    record {
      len = omega (arith, b.next, k.next, s.next, n.next, p.next, e.next);
      bytes = printed_sent a.out.now b.begun (sent_as f (sent_then (sent_then (sent_then k.sent s.sent) n.sent) p.sent)) e.line;
    }
