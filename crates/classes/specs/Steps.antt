-- A letter of a name against a symbol of a choice that is told by its ordinal.
-- Assumes nothing.
use Rattle.std.specs.Prelude.{ℕ, ◌/◌, ◌%◌, cond, eqb, length, get_or, Option, Some, None}
use Rattle.classes.specs.Classes.{Classes, letters}

-- what is left of q for the symbols before, where letter q of a symbol, counted round, is y
abbrev pub stepped : Classes → ℕ → ℕ → ℕ → Option ℕ
stepped k c y q = cond (eqb (get_or (letters k c) (q % length (letters k c)) 0) y) (Some (q / length (letters k c))) None
