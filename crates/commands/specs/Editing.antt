-- The commands that edit the ruleset.
-- Assumes nothing.
use Rattle.std.specs.Prelude.{List, ℕ, leb, eqb, length, get_or, drop}
use Rattle.numbers.specs.Numbers.{two}
use Rattle.edits.specs.Ledger.Edit.{Add, Drop, Move, SetClass}
use Rattle.edits.specs.Edits.{edited}
use Rattle.command_parts.specs.Fields.{add_sized, added_rule}
use Rattle.command_parts.specs.Answers.{Effect, sized_to, ruled}

-- 10, p (2), four lengths (1 each), their bytes: add
unfoldable pub added : List ℕ → List ℕ → Effect
added f image = sized_to (add_sized f) (ruled (edited image (Add (added_rule f) (two 1 f)))) image

-- 11, number (2): drop
unfoldable pub dropped : List ℕ → List ℕ → Effect
dropped f image = sized_to (eqb (length f) 3) (ruled (edited image (Drop (two 1 f)))) image

-- 12, number (2), p (2): move
unfoldable pub moved : List ℕ → List ℕ → Effect
moved f image = sized_to (eqb (length f) 5) (ruled (edited image (Move (two 1 f) (two 3 f)))) image

-- 28, symbol (1), letters to the end: set a class
unfoldable pub class_set : List ℕ → List ℕ → Effect
class_set f image = sized_to (leb 2 (length f)) (ruled (edited image (SetClass (get_or f 1 0) (drop 2 f)))) image
