-- `host::codes::written_code` meets its contract.
-- Assumes nothing.
use Rattle.std.specs.Prelude.{ℕ, Result, Ok, Err}
use Rattle.rules.specs.declared.Refusal.{Refusal}
use mathlib.Core.Path.{sym, ap, ◌∙◌}
use Rattle.rules.specs.Refusals.{report_of}
use Rattle.host.specs.Files.{written_code}
use borrow.Author.Rules.{rules}
use Rattle.host.proofs.codes.written_code.Goals as goal

pub returns-in-Err : goal.returns-in-Err
returns-in-Err c = c.refusal_number.ensures ∙ sym (ap (λ (v : Result ℕ Refusal). written_code (report_of v)) c.in-Err.is)
