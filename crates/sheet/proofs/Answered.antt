-- A sheet judged and answered, as its definition has it.
-- Assumes nothing.
use Rattle.std.specs.Prelude.{Result, Ok, Err, IfOk, IfErr}
use mathlib.Core.Path.{◌≡◌, sym, ap, ◌∙◌, subst}
use Prim.Native.Nat.{ℕ}
use mathlib.Core.Bool.{Bool, true}
use mathlib.Core.List.{List}
use Rattle.rules.specs.Refusals.{Reply, accepted, reply_of}
use Rattle.rules.specs.declared.Refusal.{Refusal}
use Rattle.exceptions.specs.Judging.{is_list, says_of}
use Rattle.image.specs.Image.{valid}
use Rattle.fitting.specs.Fitting.{Str}
use Rattle.speech.specs.Speech.{Outcome}
use Rattle.tables.specs.Words.{Compiled}
use Rattle.walk.specs.Walked.{compiled_with}
use Rattle.many_names.specs.Names.{names_in}
use Rattle.sheet_name.specs.Judging.{outcome_of}
use Rattle.sheet_judging.specs.Sheet.{first_refusal}
use Rattle.sheet_judging.specs.Kept.{AllKept, SheetJudged}
use Rattle.sheet_judging.specs.declared.Judging.{Judging}
use Rattle.sheet_answers.specs.Answers.{SomeKeptBy, AnsweredAll}
use Rattle.sheet.specs.Sheet.{SheetSaid, sheet_said, answered_sheet, or_else, judged_sheet, names_through}
use Rattle.sheet.specs.declared.SheetAnswer.{SheetAnswer}
use Rattle.sheet.proofs.Alone.{outcomes_alone, sheet_steps}
use Rattle.sheet.proofs.Whole.{refusing}

-- ---- the names judged, then answered

module _ (words sets : List ℕ) (l r : ℕ) (fit : Bool) (image list sheet : List ℕ) (k : ℕ) (t ends starts kept t' ends' starts' kept' : List ℕ) {y : Result Judging Refusal}
    (j : SheetJudged words sets l r fit image list sheet k t ends starts kept t' ends' starts' kept' y) (ok : valid image ≡ true) (known : is_list list ≡ true)
    (phones numbers replies : List ℕ) where
  abbrev c : Compiled
  c = compiled_with words sets l r

  abbrev f : Str → Outcome
  f = outcome_of words sets l r image list

  abbrev all : SheetSaid
  all = names_through c image list sheet k replies phones numbers

  -- where the first refusal is x
  judged_as : (x : Reply) → first_refusal f (names_in k sheet) ≡ x → or_else x (answered_sheet c f (says_of list) (names_in k sheet) replies phones numbers) replies phones numbers ≡ all
  judged_as x e =
      sym (ap (λ (y : Reply). or_else y (answered_sheet c f (says_of list) (names_in k sheet) replies phones numbers) replies phones numbers) e)
      ∙ ap (λ (g : Str → Outcome). judged_sheet c g (says_of list) (names_in k sheet) replies phones numbers) (outcomes_alone words sets l r image list ok known)

  pub sheet-refused : (x : Refusal) → y ≡ Err x → (a : SheetAnswer) → a ≡ refusing x → sheet_said a replies phones numbers ≡ all
  sheet-refused x e a q =
      let first = subst (λ (z : Result Judging Refusal). IfErr z (λ x. first_refusal f (names_in k sheet) ≡ reply_of (Err x))) e j.refused in
      ap (λ (y : SheetAnswer). sheet_said y replies phones numbers) q ∙ judged_as (reply_of (Err x)) first

  module _ (p : Judging) (is : y ≡ Ok p) where
    kept-all : AllKept words sets l r fit image list sheet k ends' starts' kept' p
    kept-all = subst (λ (z : Result Judging Refusal). IfOk z (AllKept words sets l r fit image list sheet k ends' starts' kept')) is j.goes

    pub some-kept : SomeKeptBy image list sheet ends' starts' kept' k
    some-kept = record { placed = kept-all.placed; outcomes = f; held = kept-all.held }

    pub sheet-answered : (phones' numbers' replies' : List ℕ) (n : ℕ)
        → AnsweredAll image list sheet ends' starts' kept' k phones numbers replies phones' numbers' replies' n
        → sheet_said (record { answer = Ok tt; steps = p.steps; names = n }) replies' phones' numbers' ≡ all
    sheet-answered phones' numbers' replies' n a =
        let b = a f kept-all.held in
        let count = kept-all.steps-are ∙ sym (sheet_steps c (says_of list) (names_in k sheet)) in
        (λ i. sheet_said (record { answer = Ok tt; steps = count i; names = b.count-is i }) (b.replies-are i) (b.phones-are i) (b.numbers-are i)) ∙ judged_as accepted kept-all.goes
