-- All passes, then reading by the remembered states.
-- Assumes nothing.
use Rattle.sheet_name.proofs.OneName as N
use borrow.Author.Rules.{rules}
use Rattle.sheet_name.proofs.judge_frame.Goals as goal

pub pass_words-requires : goal.pass_words-requires
pass_words-requires c = ((λ e. let f = c.requires.0.facts e in record { left = f.left; right = f.right; room = f.rows }), c.requires.2, c.requires.3, c.requires.8, c.requires.4, c.requires.5, c.requires.6)

pub returns-in_err-counts : goal.returns-in_err-counts
returns-in_err-counts c = let a = c.args in
    rw c.from_residual.ensures (N.judged-refused a.image.now c.requires.0 c.requires.2.sound c.requires.4 c.in_err-counts.ensures _)

pub right_base-requires : goal.right_base-requires
right_base-requires c = λ e. let f = (c.requires.0.facts e).sets-room in search rules

pub read_words-reached-requires : goal.read_words-reached-requires
read_words-reached-requires c = let a = c.args in
    let z = N.sized-here a.image.now c.requires.0 c.requires.2.sound c.requires.4 c.in_ok-counts.ensures in
    (c.requires.1, c.requires.2.sound, c.requires.3, z.found, z.left, z.right, N.held-here a.image.now c.requires.0 c.requires.2.sound c.requires.4 c.in_ok-counts.ensures _ c.right_base.ensures, c.requires.7)

pub returns : goal.returns
returns c = let a = c.args in
    N.judged-read a.image.now c.requires.0 c.requires.2.sound c.requires.4 c.in_ok-counts.ensures _ c.right_base.ensures _ _ c.read_words-reached.ensures.few c.read_words-reached.ensures.read
