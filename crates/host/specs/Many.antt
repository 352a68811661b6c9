-- Many names in one call, each answered by the walk: 0 or 17 once for all of them.
-- Assumes nothing.
use Rattle.std.specs.Prelude.{ℕ, ◌/◌, List, cond, length}
use Rattle.std.proofs.Math.Option.{none, some}
use Rattle.rules.specs.Refusals.{accepted, reply_code}
use Rattle.rules.specs.Memory.{over}
use Rattle.image.specs.Image.{valid}
use Rattle.exceptions.specs.Judging.{Listing}
use Rattle.tables.specs.Walk.{walk_said}
use Rattle.many_names.specs.Names.{names_in}
use Rattle.many_names.specs.Many.{reply_size, Lot, each}

-- every whole name that has room for its reply, by the walk
unfoldable pub spoken_all : List ℕ → Listing → List ℕ → List ℕ → List ℕ → List ℕ → List ℕ → List ℕ → Lot
spoken_all image l ws ss names phones numbers replies = each (walk_said image l ws ss) (names_in (length replies / reply_size) names) phones numbers

-- all that the call gives
pub record Many : Type 0 where
  pub code : ℕ
  pub count : ℕ
  pub replies : List ℕ
  pub phones : List ℕ
  pub numbers : List ℕ

abbrev pub many_from : Lot → List ℕ → Many
many_from l replies = record { code = reply_code accepted; count = l.count; replies = over l.replies replies; phones = l.phones; numbers = l.numbers }

-- nothing is answered
abbrev pub none_answered : ℕ → List ℕ → List ℕ → List ℕ → Many
none_answered n replies phones numbers = record { code = n; count = 0; replies = replies; phones = phones; numbers = numbers }

-- 17, for memory that is no list, or else what follows
abbrev pub if_list : Listing → Many → Many → Many
if_list none bad m = bad
if_list (some s) bad m = m

-- 0 or 17 once, for memory that is no ruleset or no list; else each name has its own reply
unfoldable pub many_said : List ℕ → Listing → List ℕ → List ℕ → List ℕ → List ℕ → List ℕ → List ℕ → Many
many_said image l ws ss names phones numbers replies =
    cond (valid image)
    (if_list l (none_answered 17 replies phones numbers) (many_from (spoken_all image l ws ss names phones numbers replies) replies))
    (none_answered 0 replies phones numbers)
