-- Tables that were built before edits: the edit count only rises, so after an accepted addition, drop or move they carry another one; without one, a
-- build would write the same words.
-- Assumes nothing.
use Prim.Native.Nat.{ℕ, ◌+◌, ◌<◌}
use mathlib.Core.Path.{◌≡◌, refl, sym, ap, ◌∙◌}
use mathlib.Core.Bool.{true}
use mathlib.Core.List.{List}
use native.Mathlib.Omega.{arith}
use lib.ListN.{length, get_or}
use Rattle.rules.specs.Refusals.{accepted}
use Rattle.image.specs.State.{Ledger}
use Rattle.image.specs.Image.{edits_of, ledger_of, literals_of, valid}
use Rattle.edits.specs.Ledger.{Edit, after_all, counted}
use Rattle.edits.specs.Ledger.Edit.{Drop}
use Rattle.edits.specs.Edits.{image_all, FilledEdit}
use Rattle.edits.proofs.Counted.{counted_all, uncounted_all}
use Rattle.edits.proofs.History.{history, history_valid}
use Rattle.tables.specs.Words.{compiled_from, built}
use Rattle.tables.proofs.Theorem.{accepted_build}
use Rattle.tables.proofs.Stale.{stale_refused, built_fit, built_edits}
use Rattle.endtoend.specs.Stale.{BuiltBefore}
use Rattle.endtoend.proofs.Claim.{state_literals}

module _ (es : List Edit) (full : (k : ℕ) → k < length es → FilledEdit (get_or es k (Drop 0))) (image ws ss : List ℕ) (ok : (built image ws ss).reply ≡ accepted) where
  was_valid : valid image ≡ true
  was_valid = (accepted_build image ws ss ok).is-valid

  is-valid : valid (image_all image es) ≡ true
  is-valid = history_valid es full image was_valid

  now_state : ledger_of (image_all image es) ≡ after_all (ledger_of image) es
  now_state = (history es full image was_valid).1

  now_edits : edits_of (image_all image es) ≡ edits_of image + counted (ledger_of image) es
  now_edits = ap (λ (g : Ledger). g.edits) now_state ∙ counted_all es (ledger_of image)

  now_literals : counted (ledger_of image) es ≡ 0 → literals_of (image_all image es) ≡ literals_of image
  now_literals z =
      state_literals (image_all image es) (after_all (ledger_of image) es) now_state
      ∙ (uncounted_all es (ledger_of image) z ∙ sym (state_literals image (ledger_of image) refl))

  same_build : counted (ledger_of image) es ≡ 0 → built (image_all image es) ws ss ≡ built image ws ss
  unfolding built
  same_build z =
      let e : edits_of (image_all image es) ≡ edits_of image = omega (arith, now_edits, z) in
      rw (is-valid, was_valid, e, now_literals z)

  pub built_before : BuiltBefore es image ws ss
  built_before = record {
    stale = λ some l name phones numbers need.
        stale_refused (compiled_from (built image ws ss).words (built image ws ss).sets) (image_all image es) l name phones numbers is-valid need.sound need.whole need.word
        (built_fit image ws ss ok) (λ e. omega (arith, e, built_edits image ws ss ok, now_edits, some));
    good = same_build;
  }
