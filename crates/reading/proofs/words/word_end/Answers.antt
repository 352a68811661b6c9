-- `reading::words::word_end` meets its contract: the bytes from i on decide.
-- Assumes nothing.
use Prim.Native.Nat.{◌+◌}
use mathlib.Core.Path.{◌≡◌, refl, sym, ◌∙◌}
use native.Mathlib.Omega.{arith}
use lib.ListN.{length}
use Rattle.reading.proofs.NameWords.{end_on, end_here, end_last}
use Rattle.reading.proofs.words.word_end.Goals as goal

pub loop-i-init : goal.loop-i-init
loop-i-init c = refl

pub returns-then-name-i-eq-SEPARATOR : goal.returns-then-name-i-eq-SEPARATOR
returns-then-name-i-eq-SEPARATOR c = let l = c.loop-i in sym (l.invariant ∙ end_here c.args.name.now l.i (omega arith) c.if-name-i-eq-SEPARATOR.true)

pub loop-i-preserved : goal.loop-i-preserved
loop-i-preserved c = let l = c.loop-i in l.invariant ∙ end_on c.args.name.now l.i (omega arith) c.if-name-i-eq-SEPARATOR.false

pub returns : goal.returns
returns c = let l = c.loop-i in
    let e : length c.args.name.now + 1 ≡ l.i + 1 = omega arith in
    e ∙ sym (l.invariant ∙ end_last c.args.name.now l.i (omega arith))
