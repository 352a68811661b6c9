-- `file::writing::put_length` meets its contract.
-- Assumes nothing.
use Rattle.file.proofs.writing.put_length.Goals as goal

pub returns : goal.returns
returns c = let p = c.put_from.ensures in
    record {
      next = p.next;
      sent = p.sent;
    }
