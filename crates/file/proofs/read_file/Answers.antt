-- `file::read_file` meets its contract: the file is judged, then stored.
-- Assumes nothing.
use Rattle.std.proofs.lemmas.Result.{err_from_is_err_and}
use mathlib.Core.Path.{sym, ap, ◌∙◌}
use Rattle.rules.specs.Refusals.{reply_of}
use Rattle.file.proofs.FileStored.{load_short, load_refused, load_accepted}
use borrow.Author.Rules.{rules}
use Rattle.file.proofs.read_file.Goals as goal

pub returns-then-image-lt-SIZE : goal.returns-then-image-lt-SIZE
returns-then-image-lt-SIZE c = load_short c.args.file.now c.args.image.now c.if-image-lt-SIZE.true

pub returns-in_err-judge : goal.returns-in_err-judge
returns-in_err-judge c = let p = err_from_is_err_and c.from_residual.result c.from_residual.ensures.1 in rw (p.1, p.2) (load_refused c.args.file.now c.args.image.now c.if-image-lt-SIZE.false _ _ (sym (ap reply_of c.in_err-judge.was) ∙ c.judge.ensures))

pub store_file-requires : goal.store_file-requires
store_file-requires c = (c.if-image-lt-SIZE.false, sym c.judge.ensures ∙ ap reply_of c.in_ok-judge.was)

pub returns : goal.returns
returns c = load_accepted c.args.file.now c.args.image.now c.if-image-lt-SIZE.false (sym c.judge.ensures ∙ ap reply_of c.in_ok-judge.was) _ c.store_file.ensures
