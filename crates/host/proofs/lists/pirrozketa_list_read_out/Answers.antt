-- `host::lists::pirrozketa_list_read_out` meets its contract.
-- Assumes nothing.
use Rattle.host.proofs.ListNumbers.{read_code, read_bytes, read_out}
use borrow.Author.Rules.{rules}
use Rattle.host.proofs.lists.pirrozketa_list_read_out.Goals as goal

pub returns : goal.returns
returns c = let h = c.read_out-written.ensures in
    record {
      code = read_code _ _ _ h _ c.written_code.ensures;
      bytes = read_bytes _ _ _ h _ c.bytes_or_place.ensures;
      out = read_out _ _ _ h;
    }
