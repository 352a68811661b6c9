-- `host::pirrozketa_write_file` meets its contract.
-- Assumes nothing.
use borrow.Author.Rules.{rules}
use Rattle.host.proofs.Reports.{filed_code, filed_bytes, filed_out}
use Rattle.host.proofs.pirrozketa_write_file.Goals as goal

pub returns : goal.returns
returns c = let h = c.write_file-written.ensures in
    record {
      code = filed_code _ _ _ h _ c.written_code.ensures;
      bytes = filed_bytes _ _ _ h _ c.bytes_or_place.ensures;
      out = filed_out _ _ _ h;
    }
