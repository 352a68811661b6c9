-- The lines of answers, by what a call said.
-- Assumes nothing.
use Rattle.std.specs.Prelude.{Result, Ok, Err}
use Prim.Native.Nat.{ℕ}
use mathlib.Core.Path.{◌≡◌, refl, sym, ◌∙◌}
use mathlib.Core.List.{List, [], ◌∷◌}
use mathlib.Core.Bool.{true}
use Rattle.rules.specs.Memory.{over}
use Rattle.rules.specs.Refusals.{reply_of, report_of, refusal_number, refusal_place}
use Rattle.rules.specs.declared.Refusal.{Refusal}
use Rattle.exceptions.specs.Calls.{name_count, state_count}
use Rattle.numbers.specs.Numbers.{bytes4}
use Rattle.lines.specs.Printed.{refused_body, printed, refusal_line}
use Rattle.lines.proofs.Printed.{length_printed}
use Rattle.command_parts.specs.Answers.{done_line, states_line, malformed_line}
use Rattle.command_parts.proofs.Replies.{Gives, answered_done, gives_counts}
use Rattle.list_commands.specs.ListCommands.{change_line, empty_line, read_out_line}

module _ (len : ℕ) (out out' : List ℕ) where
  pub gives_malformed : len ≡ 15 → out' ≡ over malformed_line out → Gives malformed_line len out out'
  gives_malformed l h = (l ∙ sym (length_printed (refused_body 13 0)), h)

  pub gives_done : len ≡ 5 → out' ≡ over done_line out → Gives done_line len out out'
  gives_done l h = let w = answered_done true [] [] out out' len refl [] refl l h in (w.many, w.bytes)

  gives_refused : (x : Refusal) → len ≡ 15 → out' ≡ over (refusal_line x) out → Gives (refusal_line x) len out out'
  gives_refused x l h = (l ∙ sym (length_printed (refused_body (refusal_number x) (refusal_place x))), h)

  module _ (a : Result (Unit {0}) Refusal) where
    pub change_accepted : (list : List ℕ) (n s : ℕ) → a ≡ Ok tt → n ≡ name_count list → s ≡ state_count list → len ≡ 13
        → out' ≡ over (states_line n s) out → Gives (change_line (reply_of a) list) len out out'
    change_accepted list n s p en es l h = rw (p, ← en, ← es) (gives_counts n s len out out' l h)

    pub change_refused : (list : List ℕ) (x : Refusal) → a ≡ Err x → len ≡ 15 → out' ≡ over (refusal_line x) out
        → Gives (change_line (reply_of a) list) len out out'
    change_refused list x p l h = rw p (gives_refused x l h)

    pub empty_accepted : a ≡ Ok tt → len ≡ 5 → out' ≡ over done_line out → Gives (empty_line (reply_of a)) len out out'
    empty_accepted p l h = rw p (gives_done l h)

    pub empty_refused : (x : Refusal) → a ≡ Err x → len ≡ 15 → out' ≡ over (refusal_line x) out → Gives (empty_line (reply_of a)) len out out'
    empty_refused x p l h = rw p (gives_refused x l h)

  module _ (w : Result ℕ Refusal) where
    pub read_out : (n : ℕ) → w ≡ Ok n → len ≡ 13 → out' ≡ over (printed (6 ∷ bytes4 n)) out → Gives (read_out_line (report_of w)) len out out'
    read_out n p l h = rw p (l ∙ sym (length_printed (6 ∷ bytes4 n)), h)

    pub read_out_refused : (x : Refusal) → w ≡ Err x → len ≡ 15 → out' ≡ over (refusal_line x) out → Gives (read_out_line (report_of w)) len out out'
    read_out_refused x p l h = rw p (gives_refused x l h)
