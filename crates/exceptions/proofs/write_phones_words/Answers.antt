-- `exceptions::write_phones_words` meets its contract.
-- Assumes nothing.
use Rattle.exceptions.proofs.Looking.{phones_pasted}
use borrow.Author.Rules.{rules}
use Rattle.exceptions.proofs.write_phones_words.Goals as goal

pub returns : goal.returns
returns c =
    record {
      count = c.located-found.ensures.count;
      phones = phones_pasted c.args.words.now c.args.q _ _ c.args.at c.args.phones.now _ c.located-found.ensures c.requires.1 c.write.ensures;
    }
