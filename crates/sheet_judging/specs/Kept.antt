-- How far the judging of a sheet has come, and what is kept of its names.
-- Assumes nothing.
use Rattle.std.specs.Prelude.{ℕ, ◌+◌, ◌-◌, ◌≤◌, ◌<◌, ◌≡◌, Bool, List, [], length, get_or, take, drop, set, Result, Err, IfOk, IfErr}
use Rattle.rules.specs.Refusals.{accepted, reply_of}
use Rattle.rules.specs.declared.Refusal.{Refusal}
use Rattle.exceptions.specs.Judging.{says_of}
use Rattle.fitting.specs.Fitting.{Str}
use Rattle.speech.specs.Speech.{Outcome}
use Rattle.tables.specs.Steps.{prefixes_of, right_steps}
use Rattle.prefix_tree.specs.Tree.{first_of, state_of}
use Rattle.many_names.specs.Names.{names_in, name_at}
use Rattle.sheet_name.specs.Judging.{parts_in, outcome_of, sheet_refusal, Kept, NameGoes}
use Rattle.sheet_judging.specs.Sheet.{sheet_words, first_refusal}
use Rattle.sheet_judging.specs.declared.Judging.{Judging}

-- the parts that are kept of name j: as many as go with the way its reading ended, from its start on
abbrev pub parts_of : List ℕ → List ℕ → List ℕ → ℕ → List ℕ
parts_of ends starts kept j = take (parts_in (get_or ends j 0)) (drop (get_or starts j 0) kept)

-- and they lie in the lent memory
abbrev pub PartsAt : List ℕ → List ℕ → List ℕ → ℕ → Type 0
PartsAt ends starts kept j = get_or starts j 0 + parts_in (get_or ends j 0) ≤ length kept

-- the root of the tree, which has no child and state 0
pub record Root (t : List ℕ) : Type 0 where
  pub childless : first_of t 0 ≡ 0
  pub state-is : state_of t 0 ≡ 0

module _ (words sets : List ℕ) (l r : ℕ) (fit : Bool) (image list sheet : List ℕ) where
  abbrev pub out : Str → Outcome
  out = outcome_of words sets l r image list

  -- one name more: its parts are laid after those kept before
  pub record NameTaken (t ends starts kept : List ℕ) (p : Judging) (t' ends' starts' kept' : List ℕ) (p' : Judging) : Type 0 where
    pub end : ℕ
    pub at_next : p'.at ≡ p.at + 1 + get_or sheet p.at 0
    pub count_next : p'.count ≡ p.count + 1
    pub kept_next : p'.kept ≡ p.kept + parts_in end
    pub ends_now : ends' ≡ set ends p.count end
    pub starts-now : starts' ≡ set starts p.count p.kept
    pub kept-before : take p.kept kept' ≡ take p.kept kept
    pub goes : NameGoes words sets l r fit image list (name_at sheet p.at) t p.nodes p.steps t' (take (parts_in end) (drop p.kept kept')) (record { nodes = p'.nodes; steps = p'.steps; end = end })

  -- what judging the next name gives
  pub record NextJudged (t ends starts kept : List ℕ) (p : Judging) (t' ends' starts' kept' : List ℕ) (x : Result Judging Refusal) : Type 0 where
    pub sized : length t' ≡ length t
    pub ends-sized : length ends' ≡ length ends
    pub starts-sized : length starts' ≡ length starts
    pub kept-sized : length kept' ≡ length kept
    pub taken : IfOk x (NameTaken t ends starts kept p t' ends' starts' kept')
    pub refused : IfErr x (λ e. sheet_refusal (out (name_at sheet p.at)) ≡ reply_of (Err e))

  -- all names judged, where none refuses the sheet
  pub record AllKept (k : ℕ) (ends starts kept : List ℕ) (p : Judging) : Type 0 where
    pub goes : first_refusal out (names_in k sheet) ≡ accepted
    -- the count is that of the different non-empty prefixes, and of the right passes
    pub steps-are : p.steps ≡ (length (prefixes_of (sheet_words (says_of list) (names_in k sheet))) - 1) + right_steps (sheet_words (says_of list) (names_in k sheet))
    pub placed : (j : ℕ) → j < length (names_in k sheet) → PartsAt ends starts kept j
    pub held : (j : ℕ) → j < length (names_in k sheet)
        → Kept image list (get_or (names_in k sheet) j []) (get_or ends j 0) (parts_of ends starts kept j) (out (get_or (names_in k sheet) j []))

  -- what judging all names gives
  pub record SheetJudged (k : ℕ) (t ends starts kept t' ends' starts' kept' : List ℕ) (x : Result Judging Refusal) : Type 0 where
    pub sized : length t' ≡ length t
    pub ends-sized : length ends' ≡ length ends
    pub starts-sized : length starts' ≡ length starts
    pub kept-sized : length kept' ≡ length kept
    pub goes : IfOk x (AllKept k ends' starts' kept')
    pub refused : IfErr x (λ e. first_refusal out (names_in k sheet) ≡ reply_of (Err e))
