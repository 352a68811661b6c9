-- How many states a side has.
-- Assumes nothing.
use Rattle.std.specs.Prelude.{◌≡◌, ℕ, ◌≤◌, Bool, List}
use Rattle.tables.specs.States.{right_states}
use Rattle.patterns.specs.Sides.{side_table, Scratch}

-- the states of a side are counted
pub record Counted (image : List ℕ) (right : Bool) (r : ℕ) (ps ls : List ℕ) : Type 0 where
  pub is : r ≡ (side_table image right).count
  pub few : r ≤ right_states
  pub scratch : Scratch ps ls
