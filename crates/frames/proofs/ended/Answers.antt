-- `frames::ended` meets its contract: the tests in turn.
-- Assumes nothing.
use Rattle.std.proofs.Common.{◌≡◌, sym, ◌∙◌, arith, eq-eqb, ne_eqb, le-leb}
use borrow.Author.Tests.{lt-leb}
use Rattle.frames.specs.Lines.{complement}
use Rattle.frames.proofs.ended.Goals as goal

pub returns-then-len-lt2 : goal.returns-then-len-lt2
returns-then-len-lt2 c = rw (lt-leb _ _ c.if-len-lt2.true)

pub returns-then-last-wrapping_sub_u8 : goal.returns-then-last-wrapping_sub_u8
returns-then-last-wrapping_sub_u8 c = let b = c.wrapping_sub_u8 in
    let s : b.result ≡ complement c.args.sum = omega (arith, b.ensures) in
    rw (le-leb _ _ c.if-len-lt2.false, eq-eqb _ _ (c.if-last-wrapping_sub_u8.true ∙ s))

pub returns : goal.returns
returns c = let b = c.wrapping_sub_u8 in
    let s : b.result ≡ complement c.args.sum = omega (arith, b.ensures) in
    rw (le-leb _ _ c.if-len-lt2.false, ne_eqb _ _ (λ e. c.if-last-wrapping_sub_u8.false (e ∙ sym s)))
