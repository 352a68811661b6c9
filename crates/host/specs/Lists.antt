-- What a host gets in numbers from the calls on the exceptions list.
-- Assumes nothing.
use Rattle.std.specs.Prelude.{◌≡◌, ℕ, List}
use Rattle.rules.specs.Refusals.{Reply, reply_code, reply_place}
use Rattle.change.specs.Change.{Change, Changed}

-- a change of the list: the code and the place of its answer, and the list after it
pub record ListChanged (c : Change) (before after : List ℕ) (code place : ℕ) : Type 0 where
  pub reply : Reply
  pub change : Changed c before after reply
  pub code_is : code ≡ reply_code reply
  pub place_is : place ≡ reply_place reply
