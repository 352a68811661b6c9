-- What the answer of a walk says, the compiled ruleset of lent slices, and the facts that the tests of its lengths and its edit count establish.
-- Assumes nothing.
use Rattle.std.specs.Prelude.{ℕ, ◌≤◌, ◌<◌, ◌≡◌, Bool, true, false, List, length, Err, Ok, Result}
use Rattle.rules.specs.Refusals.{Reply, accepted, declined}
use Rattle.speech.specs.Speech.{told_of, saying}
use Rattle.speech.specs.declared.Unread.{Unread}
use Rattle.speech.specs.declared.Unread.TheVariants.{Uncovered, BadTables}
use Rattle.tables.specs.Words.{needed_words, needed_sets, Compiled}
use Rattle.tables.specs.Walk.{judged_tables, Walked}
use Rattle.passes.specs.declared.Compiled.{Compiled as Lent}
use Rattle.walk.specs.declared.WalkAnswer.{WalkAnswer}

-- all that a walk gives: its answer, and the lent phones and numbers after it
abbrev pub walked_of : WalkAnswer → List ℕ → List ℕ → Walked
walked_of r phones numbers = record { said = saying (told_of r.speech) phones numbers; steps = r.steps }

-- words and set words with the state counts l and r
abbrev pub compiled_with : List ℕ → List ℕ → ℕ → ℕ → Compiled
compiled_with ws ss l r = record { words = ws; sets = ss; «left-states» = l; «right-states» = r }

-- what a struct of them holds
abbrev pub compiled_in : Lent → Compiled
compiled_in c = compiled_with c.words.now c.sets.now c.left_states c.right_states

-- the steps that go with how reading ended
abbrev pub steps_with : Result ℕ Unread → ℕ → ℕ
steps_with (Ok k) steps = steps
steps_with (Err (Uncovered i)) steps = steps
steps_with (Err BadTables) steps = 0

-- the lengths fit, as facts
pub record Fit (words sets l r : ℕ) : Type 0 where
  pub left : 0 < l
  pub right : 0 < r
  pub rows : needed_words l r ≤ words
  pub sets-room : needed_sets l r ≤ sets

-- what the tests of the tables come to by two answers: names can be sent through, else the tables are stale or too short
abbrev pub verdict : Bool → Bool → Reply
verdict true stale = accepted
verdict false true = declined 22 0
verdict false false = declined 16 0

-- they are these, and the facts where names can be sent through
pub record FitsAs (ws ss : List ℕ) (l r edits : ℕ) (fit stale : Bool) : Type 0 where
  pub is : judged_tables (compiled_with ws ss l r) edits ≡ verdict fit stale
  pub apart : fit ≡ true → stale ≡ false
  pub facts : fit ≡ true → Fit (length ws) (length ss) l r
