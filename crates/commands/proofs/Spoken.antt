-- What tables and names are answered with.
-- Assumes nothing.
use Rattle.std.specs.Prelude.{Result, Ok, Err}
use Prim.Native.Nat.{ℕ}
use mathlib.Core.Path.{◌≡◌, refl, sym, ◌∙◌, subst}
use mathlib.Core.List.{List}
use mathlib.Core.Bool.{Bool, true}
use Rattle.rules.specs.Memory.{over}
use Rattle.rules.specs.Refusals.{Reply, reply_of, refusal_number, refusal_place}
use Rattle.speech.specs.Speech.{Told, told_of, Said, saying}
use Rattle.speech.specs.declared.Spoken.{Spoken}
use Rattle.rules.specs.declared.Refusal.{Refusal}
use Rattle.tables.specs.Words.{left_count, right_count, Built, building}
use Rattle.tables.specs.Walk.{Walked}
use Rattle.lines.specs.Printed.{refused_body, printed, refusal_line}
use Rattle.answer_lines.specs.Answers.{told_body}
use Rattle.lines.proofs.Printed.{length_printed}
use Rattle.command_parts.specs.Answers.{contested_after, states_line, walk_refusal, both_sized, speech_sized, BothAnswered, SpeechAnswered}
use Rattle.commands.specs.Lent.{build_line, build_effects, plain_line, plain_effect, walk_line, walk_effect}
use Rattle.command_parts.proofs.Replies.{Gives, gives_counts, length_walk_refusal}

module _ (a : Result (Unit {0}) Refusal) (words : List ℕ) (len : ℕ) (out out' : List ℕ) where
  pub gives_states : a ≡ Ok tt → (l r : ℕ) → l ≡ left_count words → r ≡ right_count words → len ≡ 13 → out' ≡ over (states_line l r) out
      → Gives (build_line (reply_of a) words) len out out'
  gives_states p l r el er n h = rw (p, ← el, ← er) (gives_counts l r len out out' n h)

  pub gives_unbuilt : (x : Refusal) → a ≡ Err x → len ≡ 15 → out' ≡ over (refusal_line x) out → Gives (build_line (reply_of a) words) len out out'
  gives_unbuilt x p l h = rw p (l ∙ sym (length_printed (refused_body (refusal_number x) (refusal_place x))), h)

pub both_built : (b : Bool) (xs ys out out' : List ℕ) (len : ℕ) → b ≡ true → (xs' ys' : List ℕ) (w : Built) (a : Reply) → building a xs' ys' ≡ w
    → Gives (build_line a xs') len out out' → BothAnswered (both_sized b (build_effects w) xs ys) xs' ys' len out out'
both_built b xs ys out out' len p xs' ys' w a q g = rw (p, ← q) (record { left = refl; right = refl; many = g.0; bytes = g.1 })

module _ (b : Bool) (xs ys : List ℕ) (k : ℕ) (out out' : List ℕ) (len : ℕ) (p : b ≡ true) (xs' ys' : List ℕ) (k' : ℕ) (t : Told) (h : k' ≡ contested_after t k) where
  pub speech_read : (s : Said) → saying t xs' ys' ≡ s → Gives (plain_line t xs' ys') len out out'
      → SpeechAnswered (speech_sized b (plain_effect s k) xs ys k) xs' ys' k' len out out'
  speech_read s q g = rw (p, ← q) (record { said = refl; numbered = refl; counted = h; many = g.0; bytes = g.1 })

  pub speech_walked : (w : Walked) (steps : ℕ) → record { said = saying t xs' ys'; steps = steps } ≡ w → Gives (walk_line t steps xs' ys') len out out'
      → SpeechAnswered (speech_sized b (walk_effect w k) xs ys k) xs' ys' k' len out out'
  speech_walked w steps q g = rw (p, ← q) (record { said = refl; numbered = refl; counted = h; many = g.0; bytes = g.1 })

-- a walk that is refused is answered by 08, any other as it is told
module _ (speech : Result Spoken Refusal) (steps : ℕ) (phones numbers : List ℕ) (len : ℕ) (out out' : List ℕ) where
  pub walk_refused : (x : Refusal) → speech ≡ Err x → len ≡ 19 → out' ≡ over (walk_refusal steps (refusal_number x) (refusal_place x)) out
      → Gives (walk_line (told_of speech) steps phones numbers) len out out'
  walk_refused x p l h = rw p (l ∙ sym (length_walk_refusal steps (refusal_number x) (refusal_place x)), h)

  pub walk_spoken : (x : Spoken) → speech ≡ Ok x → Gives (printed (told_body (told_of speech) steps phones numbers)) len out out'
      → Gives (walk_line (told_of speech) steps phones numbers) len out out'
  walk_spoken x e g =
      subst (λ (s : Result Spoken Refusal). Gives (printed (told_body (told_of s) steps phones numbers)) len out out' → Gives (walk_line (told_of s) steps phones numbers) len out out')
      (sym e) (λ h. h) g
