-- A whole transect in one go: document 02, request 8. What a call that answers a sheet gives: whether it is refused, the one count, how many names were
-- answered, their replies, and the lent phones and numbers after it.
-- Assumes nothing.
use Rattle.std.specs.Prelude.{ℕ, ◌+◌, ◌*◌, ◌≤◌, ◌≡◌, true, cond, List, leb, length}
use Rattle.std.proofs.Math.Option.{none, some}
use Rattle.rules.specs.Memory.{over}
use Rattle.rules.specs.Limits.{max_names}
use Rattle.rules.specs.Refusals.{Reply, accepted, declined, reply_of}
use Rattle.exceptions.specs.Judging.{Listing, is_list, listing_of, says_of}
use Rattle.image.specs.Image.{valid, edits_of, literals_of}
use Rattle.fitting.specs.Fitting.{Str}
use Rattle.speech.specs.Places.{frame_size}
use Rattle.speech.specs.Speech.{Outcome, judged_call}
use Rattle.tables.specs.Words.{Compiled, compiled_from}
use Rattle.tables.specs.Walk.{shared_steps, walk_through}
use Rattle.prefix_tree.specs.Tree.{node_size}
use Rattle.many_names.specs.Names.{names_in, sound_sheet}
use Rattle.many_names.specs.Many.{reply_size, each}
use Rattle.sheet_judging.specs.Sheet.{sheet_words, first_refusal, work_room}
use Rattle.sheet_judging.specs.Kept.{Root}
use Rattle.sheet_answers.specs.Answers.{said_by}
use Rattle.sheet.specs.Zeros.{zeros}
use Rattle.sheet.specs.declared.SheetAnswer.{SheetAnswer}

pub record SheetSaid : Type 0 where
  pub reply : Reply
  pub steps : ℕ
  pub names : ℕ
  pub replies : List ℕ
  pub phones : List ℕ
  pub numbers : List ℕ

abbrev pub sheet_said : SheetAnswer → List ℕ → List ℕ → List ℕ → SheetSaid
sheet_said a replies phones numbers = record { reply = reply_of a.answer; steps = a.steps; names = a.names; replies = replies; phones = phones; numbers = numbers }

-- a refusal of the sheet: nothing is written, and it has no steps
abbrev pub refused_sheet : ℕ → ℕ → List ℕ → List ℕ → List ℕ → SheetSaid
refused_sheet n p replies phones numbers = record { reply = declined n p; steps = 0; names = 0; replies = replies; phones = phones; numbers = numbers }

-- The names in turn, each as f says that it comes to, in the lent memory that is left. The sheet's one count is the one that the step function carried
-- through the words of all names that go through the tables.
abbrev pub answered_sheet : Compiled → (Str → Outcome) → (Str → Str) → List Str → List ℕ → List ℕ → List ℕ → SheetSaid
answered_sheet c f m names replies phones numbers =
    record {
      reply = accepted;
      steps = shared_steps c (sheet_words m names);
      names = (each (said_by f) names phones numbers).count;
      replies = over (each (said_by f) names phones numbers).replies replies;
      phones = (each (said_by f) names phones numbers).phones;
      numbers = (each (said_by f) names phones numbers).numbers;
    }

-- what is not accepted is refused; else it is what follows
abbrev pub or_else : Reply → SheetSaid → List ℕ → List ℕ → List ℕ → SheetSaid
or_else accepted x replies phones numbers = x
or_else (declined n p) x replies phones numbers = refused_sheet n p replies phones numbers

-- the first 16 or 22 that a name alone would get refuses the sheet
abbrev pub judged_sheet : Compiled → (Str → Outcome) → (Str → Str) → List Str → List ℕ → List ℕ → List ℕ → SheetSaid
judged_sheet c f m names replies phones numbers = or_else (first_refusal f names) (answered_sheet c f m names replies phones numbers) replies phones numbers

-- what a name comes to alone, before the lent memory is looked at
abbrev pub alone : Compiled → List ℕ → Listing → Str → Outcome
alone c image l name = judged_call image l name (walk_through c (edits_of image) (literals_of image) name)

-- ---- memory to work in

-- words for the tree and for the kept parts, and numbers for the replies
abbrev pub tree_size : List ℕ → ℕ
tree_size sheet = node_size * (work_room sheet + 1)

-- a frame more, since the last name is read into the place of its parts
abbrev pub kept_size : List ℕ → ℕ
kept_size sheet = work_room sheet + frame_size

abbrev pub replies_size : List Str → ℕ
replies_size names = reply_size * length names

-- 11, 12 and 15 for too little memory to work in and too few replies
abbrev pub with_memory : List ℕ → List Str → List ℕ → List ℕ → SheetSaid → List ℕ → List ℕ → List ℕ → SheetSaid
with_memory sheet names tree kept x replies phones numbers =
    cond (zeros (tree_size sheet) tree)
    (cond (zeros (kept_size sheet) kept)
    (cond (leb (replies_size names) (length replies)) x (refused_sheet 15 (replies_size names) replies phones numbers))
    (refused_sheet 12 (kept_size sheet) replies phones numbers))
    (refused_sheet 11 (tree_size sheet) replies phones numbers)

-- ---- the names, once all that refuses a sheet before them is past

-- what is known then: a ruleset, a list, and room for so many names
pub record Ready (image list sheet : List ℕ) (limit : ℕ) (replies tree kept : List ℕ) : Type 0 where
  pub sound : valid image ≡ true
  pub listed : is_list list ≡ true
  pub few : limit ≤ max_names
  pub replies-room : reply_size * limit ≤ length replies
  pub tree-room : tree_size sheet ≤ length tree
  pub kept-room : kept_size sheet ≤ length kept
  pub root : Root tree

abbrev pub names_through : Compiled → List ℕ → List ℕ → List ℕ → ℕ → List ℕ → List ℕ → List ℕ → SheetSaid
names_through c image list sheet limit = judged_sheet c (alone c image (listing_of list)) (says_of list) (names_in limit sheet)

-- ---- the whole call

-- 17, for memory that is no list, or else what follows
abbrev pub with_list : Listing → SheetSaid → ((Str → Str) → SheetSaid) → SheetSaid
with_list none bad x = bad
with_list (some m) bad x = x m

-- A sheet through a compiled ruleset: 24 before all else; 0; 17; the memory; then the first 16 or 22 that a name alone would get; else each name has
-- its answer.
unfoldable pub sheet_through : Compiled → List ℕ → Listing → List ℕ → List ℕ → List ℕ → List ℕ → List ℕ → List ℕ → SheetSaid
sheet_through c image l sheet tree kept replies phones numbers =
    cond (sound_sheet max_names sheet)
    (cond (valid image)
    (with_list l (refused_sheet 17 0 replies phones numbers)
    (λ m. with_memory sheet (names_in max_names sheet) tree kept (judged_sheet c (alone c image l) m (names_in max_names sheet) replies phones numbers) replies phones numbers))
    (refused_sheet 0 0 replies phones numbers))
    (refused_sheet 24 0 replies phones numbers)

-- and through the one that the lent words and set words are
abbrev pub spoken_sheet : List ℕ → Listing → List ℕ → List ℕ → List ℕ → List ℕ → List ℕ → List ℕ → List ℕ → List ℕ → SheetSaid
spoken_sheet image l words sets = sheet_through (compiled_from words sets) image l
