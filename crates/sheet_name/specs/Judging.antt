-- What is known of one name of a sheet before anything is written: what it comes to, and the tree with its words.
-- Assumes nothing.
use Rattle.std.specs.Prelude.{◌≡◌, ℕ, ◌+◌, ◌-◌, ◌≤◌, ◌<◌, Bool, true, cond, ◌||◌, List, [], ◌∷◌, ◌++◌, eqb, ltb, leb, length, take, Option, Some, None, IfSome, IfNone, OnSome, Err, Ok, Result, IfOk, IfErr}
use Rattle.rules.specs.Limits.{max_name}
use Rattle.rules.specs.Names.{judged_name}
use Rattle.rules.specs.Refusals.{Reply, accepted, declined, reply_of}
use Rattle.rules.specs.declared.Refusal.{Refusal}
use Rattle.rules.specs.declared.Refusal.TheVariants as R
use Rattle.exceptions.specs.Judging.{says_of}
use Rattle.image.specs.Image.{edits_of, literals_of}
use Rattle.fitting.specs.Fitting.{Str}
use Rattle.speech.specs.Words.{Word, words_in, unlisted}
use Rattle.speech.specs.Speech.{Outcome, speaks, declines, at_once, answered, judged_by, listed_or}
use Rattle.speech.specs.declared.Unread.{Unread}
use Rattle.speech.specs.declared.Unread.TheVariants.{Uncovered, BadTables}
use Rattle.speech.specs.Places.{frame_size, EndsBy, PartsIn, parts_reading, Parted}
use Rattle.tables.specs.Steps.{hashed, right_steps}
use Rattle.tables.specs.Walk.{walk_through}
use Rattle.passes.specs.Passes.{left_rows_of}
use Rattle.table_reading.specs.Letters.{FewParts}
use Rattle.walk.specs.Walked.{compiled_with}
use Rattle.prefix_tree.specs.Tree.{Tree}
use Rattle.prefix_tree.specs.Sharing.{Holds}
use Rattle.sheet_passes.specs.Passing.{Grown}
use Rattle.sheet_name.specs.declared.Judged.{Judged}
use Rattle.sheet_name.specs.declared.Judgement.{Judgement}

-- what a sound name that is not on the list comes to by itself
abbrev pub through_of : List ℕ → List ℕ → ℕ → ℕ → List ℕ → List ℕ → Str → Outcome
through_of words sets l r image list name = walk_through (compiled_with words sets l r) (edits_of image) (literals_of image) name (says_of list)

-- how its reading ended, with the parts in memory
pub record Read (words sets : List ℕ) (l r : ℕ) (image list : List ℕ) (name : Str) (parts : List ℕ) (x : Judged) : Type 0 where
  pub parted : Parted image list frame_size parts x.reached
  pub few : FewParts name x.reached
  pub taken : ℕ
  pub says : answered (parts_reading image list parts x.reached) taken ≡ through_of words sets l r image list name

abbrev pub SharesAll : List ℕ → ℕ → List ℕ → Str → List ℕ → ℕ → List ℕ → Judged → Type 0
SharesAll words l list name t n t' x =
    (ws : List Str) → Holds (left_rows_of words l) ws t n → Holds (left_rows_of words l) (ws ++ hashed (unlisted (says_of list) (words_in name))) t' x.counts.nodes

pub record FrameJudged (words sets : List ℕ) (l r : ℕ) (fit stale : Bool) (image list : List ℕ) (name : Str) (t : List ℕ) (n steps : ℕ) (t' parts' : List ℕ) (x : Option Judged) : Type 0 where
  pub sized : length t' ≡ length t
  pub refused : IfNone x (through_of words sets l r image list name ≡ at_once (cond stale 22 16) 0)
  pub read : IfSome x (Read words sets l r image list name parts')
  pub grown : IfSome x (λ j. Grown fit l (length name + 1) (right_steps (unlisted (says_of list) (words_in name))) n steps t' j.counts)
  pub short : OnSome x (right_steps (unlisted (says_of list) (words_in name)) ≤ length name + 1)
  pub shares : IfSome x (SharesAll words l list name t n t')

-- ---- a name, whatever it is

-- what it comes to by itself, with a list that is one and a valid ruleset
abbrev pub outcome_of : List ℕ → List ℕ → ℕ → ℕ → List ℕ → List ℕ → Str → Outcome
outcome_of words sets l r image list name = judged_by (judged_name name) (listed_or (says_of list) name (through_of words sets l r image list name))

-- the words that it sends through the tables: none where it is refused with 2 or 1, or is on the list
abbrev pub sent_by : Reply → Str → List Word → List Word
sent_by accepted [] ws = ws
sent_by accepted (x ∷ p) ws = []
sent_by (declined n p) s ws = []

abbrev pub table_words : (Str → Str) → Str → List Word
table_words m name = sent_by (judged_name name) (m name) (unlisted m (words_in name))

-- 16 and 22 are of the tables, and refuse the whole sheet; any other outcome is the name's own
abbrev pub sheet_refusal : Outcome → Reply
sheet_refusal (speaks xs k) = accepted
sheet_refusal (declines n p k) = cond (eqb n 16 || eqb n 22) (declined n p) accepted

-- How reading ended, as a number: one more than the rules applied, or, from uncovered_from on, the position of a letter without a rule. 0 is kept for a
-- name that sent no word through the tables.
abbrev pub uncovered_from : ℕ
uncovered_from = frame_size + 2

abbrev pub code_of : Result ℕ Unread → ℕ
code_of (Ok k) = k + 1
code_of (Err (Uncovered i)) = i + uncovered_from
code_of (Err BadTables) = 0

-- how many parts are kept with such a number
abbrev pub parts_in : ℕ → ℕ
parts_in end = cond (ltb end uncovered_from) (end - 1) 0

-- what is kept of a name that went through the tables: how its reading ended, and its parts
pub record Sent (image list : List ℕ) (end : ℕ) (parts : List ℕ) (o : Outcome) : Type 0 where
  pub reached : Result ℕ Unread
  pub code : end ≡ code_of reached
  pub few : EndsBy frame_size reached
  pub within : PartsIn image list parts
  pub taken : ℕ
  pub says : answered (parts_reading image list parts reached) taken ≡ o

-- of any other nothing need be kept: whatever its words came to, it is answered so
abbrev pub Unsent : List ℕ → Str → Outcome → Type 0
Unsent list name o = (q : Outcome) → o ≡ judged_by (judged_name name) (listed_or (says_of list) name q)

pub record Kept (image list : List ℕ) (name : Str) (end : ℕ) (parts : List ℕ) (o : Outcome) : Type 0 where
  pub sized : length parts ≡ parts_in end
  pub unsent : end ≡ 0 → Unsent list name o
  pub sent : 0 < end → Sent image list end parts o

-- nodes of the tree, and parts, that a name takes at the most: one of more than max_name bytes takes none
abbrev pub room_of : Str → ℕ
room_of name = cond (leb (length name) max_name) (length name + 1) 0

-- the refusal of the sheet, or how reading ended
abbrev pub settled_as : Result ℕ Unread → ℕ → ℕ → Result Judgement Refusal
settled_as (Ok k) nodes steps = Ok (record { nodes = nodes; steps = steps; end = k + 1 })
settled_as (Err (Uncovered i)) nodes steps = Ok (record { nodes = nodes; steps = steps; end = i + uncovered_from })
settled_as (Err BadTables) nodes steps = Err (R.BadTables 0)

abbrev pub settled : Option Judged → Bool → Result Judgement Refusal
settled None stale = Err (cond stale (R.StaleTables 0) (R.BadTables 0))
settled (Some x) stale = settled_as x.reached x.counts.nodes x.counts.steps

abbrev pub HoldsMore : List ℕ → ℕ → List ℕ → Str → List ℕ → ℕ → List ℕ → ℕ → Type 0
HoldsMore words l list name t n t' k =
    (ws : List Str) → Holds (left_rows_of words l) ws t n → Holds (left_rows_of words l) (ws ++ hashed (table_words (says_of list) name)) t' k

module _ (words sets : List ℕ) (l r : ℕ) (fit : Bool) (image list : List ℕ) (name : Str) (t : List ℕ) (n steps : ℕ) (t' : List ℕ) where
  -- a name that does not refuse the sheet, with the parts that are to be kept of it
  pub record NameGoes (parts : List ℕ) (x : Judgement) : Type 0 where
    pub goes : sheet_refusal (outcome_of words sets l r image list name) ≡ accepted
    pub kept : Kept image list name x.end parts (outcome_of words sets l r image list name)
    pub kept-few : parts_in x.end ≤ room_of name
    pub tree : fit ≡ true → Tree t' x.nodes l
    pub steps-are : x.steps + n ≡ steps + x.nodes + right_steps (table_words (says_of list) name)
    pub few : x.nodes ≤ n + room_of name
    pub more : n ≤ x.nodes
    pub short : right_steps (table_words (says_of list) name) ≤ room_of name
    pub holds : HoldsMore words l list name t n t' x.nodes

  -- what judging a name gives, with the memory where its parts are
  pub record NameJudged (parts : List ℕ) (x : Result Judgement Refusal) : Type 0 where
    pub sized : length t' ≡ length t
    pub goes : IfOk x (λ y. NameGoes (take (parts_in y.end) parts) y)
    pub refused : IfErr x (λ e. sheet_refusal (outcome_of words sets l r image list name) ≡ reply_of (Err e))
