-- `passes::look_up` meets its contract: the state is the word at the row's entry, and the count is one more.
-- Assumes nothing.
use mathlib.Core.Path.{refl, ap}
use Prim.Native.Nat.{ℕ, ◌+◌, ◌*◌}
use lib.ListN.{get_or}
use Rattle.passes.proofs.look_up.Goals as goal

pub returns : goal.returns
returns c = let a = c.args in
    record { next = ap (λ (q : ℕ). get_or a.words.now (a.rows + (64 * q + a.c)) 0) c.from-q.ensures; more = refl }
