-- Zero memory is worked in, and is zero again.
-- Assumes nothing.
use Rattle.sheet.proofs.Zeros as Z
use borrow.Author.Rules.{rules}
use Rattle.sheet.proofs.answer_clear.Goals as goal

pub returns : goal.returns
returns c =
    record {
      answer = c.speak_words-answer.ensures;
      tree = Z.restored c.args.tree.now _ _ c.requires.1 (search rules) (c.fill.ensures.after (λ y e. e));
      kept = Z.restored c.args.kept.now _ _ c.requires.2 (search rules) (c.fill-2.ensures.after (λ y e. e));
    }
