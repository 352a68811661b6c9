-- Demand 3 over the list of edits itself: the code of a list says just that list, so the claim that `endtoend::run` promises is about it.
-- Assumes nothing.
use Prim.Native.Nat.{ℕ}
use mathlib.Core.Path.{◌≡◌, refl, ap₂, ◌∙◌, subst}
use mathlib.Core.List.{List}
use Rattle.edits.specs.Ledger.{Edit}
use Rattle.history.specs.Replay.{taken}
use Rattle.history.proofs.Runs.{as_replayed}
use Rattle.history.proofs.EveryList.{taken_whole, list_words, list_letters}
use Rattle.endtoend.specs.EndToEnd.{Lent, Given, taken_edits, Enough, Claim, EndToEnd}
use Rattle.endtoend.specs.EveryList.{calls_in, Lends, ForEveryList}
use Rattle.endtoend.proofs.Claim.{end_to_end}

-- what the definitions give, of any lent code
pub calls_end : (m : Lent) → EndToEnd m (calls_in m)
calls_end m = end_to_end m (calls_in m) (as_replayed m.image m.code m.letters m.answers m.places _ refl) refl refl refl

module _ (es : List Edit) (m : Lent) (l : Lends es m) (e : Enough es m) where
  list_taken : taken_edits m ≡ es
  list_taken =
      ap₂ (λ (c p : List ℕ). taken c p m.answers m.places) l.code l.letters ∙ taken_whole es l.typed m.answers m.places l.answers l.places

  list_claim : (g : Given) → EndToEnd m g → Claim es m g
  list_claim g d = subst (λ (x : List Edit). Enough x m → Claim x m g) list_taken d.claim e

pub every_edit_list : ForEveryList
every_edit_list es m l e = record {
  code = list_words es l.typed l.few-letters;
  letters = list_letters es l.typed;
  run = list_claim es m l e;
  defined = list_claim es m l e (calls_in m) (calls_end m);
}
