-- `rules::judge_name` meets its contract: the bytes from i on decide.
-- Assumes nothing.
use mathlib.Core.Path.{sym, ◌∙◌}
use native.Mathlib.Omega.{arith}
use Rattle.rules.proofs.Names.{name_long, bytes_begin, bytes_on, bytes_low, bytes_high, bytes_end}
use Rattle.rules.proofs.judge_name.Goals as goal

pub returns-then-name-gt-MAX_NAME : goal.returns-then-name-gt-MAX_NAME
returns-then-name-gt-MAX_NAME c = sym (name_long c.args.name.now c.if-name-gt-MAX_NAME.true)

pub loop-i-init : goal.loop-i-init
loop-i-init c = bytes_begin c.args.name.now c.if-name-gt-MAX_NAME.false

pub returns-then-b-lt1 : goal.returns-then-b-lt1
returns-then-b-lt1 c = sym (c.loop-i.invariant ∙ bytes_low c.args.name.now c.loop-i.i (omega arith) c.if-b-lt1.true)

pub returns-then-b-gt-MAX_NAME_BYTE : goal.returns-then-b-gt-MAX_NAME_BYTE
returns-then-b-gt-MAX_NAME_BYTE c = sym (c.loop-i.invariant ∙ bytes_high c.args.name.now c.loop-i.i (omega arith) c.if-b-lt1.false c.if-b-gt-MAX_NAME_BYTE.true)

pub loop-i-preserved : goal.loop-i-preserved
loop-i-preserved c = c.loop-i.invariant ∙ bytes_on c.args.name.now c.loop-i.i (omega arith) c.if-b-lt1.false c.if-b-gt-MAX_NAME_BYTE.false

pub returns : goal.returns
returns c = sym (c.loop-i.invariant ∙ bytes_end c.args.name.now c.loop-i.i (omega arith))
