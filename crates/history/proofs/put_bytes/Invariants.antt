-- `history::put_bytes` meets its contract: word by word.
-- Assumes nothing.
use Rattle.history.proofs.Coded.{Filling}
use Rattle.history.proofs.put_bytes.Given as goal

abbrev pub invariant-loop-i : goal.invariant-loop-i
invariant-loop-i l = Filling l.initial.room l.code l.room l.i
