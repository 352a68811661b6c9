-- What an edit does to a ruleset in lent memory, to the last byte.
-- Assumes nothing.
use Rattle.std.specs.Prelude.{cond, ℕ, ◌≡◌, List, [], ◌∷◌}
use Rattle.rules.specs.Refusals.{Reply, accepted, declined}
use Rattle.rule_bytes.specs.RuleBytes.{Filled}
use Rattle.image.specs.Image.{last_of, ledger_of, laid, with_class_at, settled, valid, Edited, outcome}
use Rattle.edits.specs.Ledger.{Edit, judged, applied, issued_by}
use Rattle.edits.specs.Ledger.Edit.{Add, Drop, Move, SetClass}

-- the image after an accepted edit: the list is laid anew with the table of its literal rules; of a class its own bytes change, and no others
abbrev pub changed : List ℕ → Edit → List ℕ
changed image (Add r p) = settled (laid (applied (ledger_of image) (Add r p)) image)
changed image (Drop n) = settled (laid (applied (ledger_of image) (Drop n)) image)
changed image (Move n p) = settled (laid (applied (ledger_of image) (Move n p)) image)
changed image (SetClass c l) = with_class_at c l image

abbrev pub outcome_by : Reply → List ℕ → Edit → Edited
outcome_by accepted image e = outcome accepted (changed image e)
outcome_by (declined n p) image e = outcome (declined n p) image

-- refusal 0 for memory that is no ruleset, else the ledger's answer and state; a refusal changes no byte
unfoldable pub edited : List ℕ → Edit → Edited
edited image e = cond (valid image) (outcome_by (judged (ledger_of image) e) image e) (outcome (declined 0 0) image)

-- the arrays of an edit's rule are full, as those of every rule that is handed to the code
abbrev pub FilledEdit : Edit → Type 0
FilledEdit (Add r p) = Filled r
FilledEdit (Drop n) = ◌≡◌ {A = ℕ} 0 0
FilledEdit (Move n p) = ◌≡◌ {A = ℕ} 0 0
FilledEdit (SetClass c l) = ◌≡◌ {A = ℕ} 0 0

-- the answers and the image of a list of edits, each given the image that the one before left
abbrev pub out_all : List ℕ → List Edit → List Reply
out_all image [] = []
out_all image (e ∷ es) = (edited image e).reply ∷ out_all (edited image e).image es

abbrev pub image_all : List ℕ → List Edit → List ℕ
image_all image [] = image
image_all image (e ∷ es) = image_all (edited image e).image es

-- the numbers that the accepted additions among them got, in turn: the `last` of the image after each
abbrev pub issued_in : List ℕ → List Edit → List ℕ
issued_in image [] = []
issued_in image (e ∷ es) =
    issued_by (edited image e).reply e (last_of (edited image e).image) (issued_in (edited image e).image es)
