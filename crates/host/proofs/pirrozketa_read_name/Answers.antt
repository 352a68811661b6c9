-- `host::pirrozketa_read_name` meets its contract.
-- Assumes nothing.
use Rattle.host.proofs.Reports.{said_code, said_given, said_applied, said_contested, said_phones, said_numbers}
use borrow.Author.Rules.{rules}
use Rattle.host.proofs.pirrozketa_read_name.Goals as goal

pub returns : goal.returns
returns c = let h = c.read_name-speech.ensures in
    record {
      code = said_code _ _ _ _ h _ c.spoken_code.ensures;
      given = said_given _ _ _ _ h _ c.phones_or_place.ensures;
      applied = said_applied _ _ _ _ h _ c.numbers_given.ensures;
      contested = said_contested _ _ _ _ h _ c.contested_given.ensures;
      phones = said_phones _ _ _ _ h;
      numbers = said_numbers _ _ _ _ h;
    }
