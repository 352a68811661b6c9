-- `host::codes::bytes_or_place` meets its contract.
-- Assumes nothing.
use Rattle.std.specs.Prelude.{ℕ, Result, Ok, Err}
use Rattle.rules.specs.declared.Refusal.{Refusal}
use mathlib.Core.Path.{sym, ap, ◌∙◌}
use Rattle.rules.specs.Refusals.{report_of}
use Rattle.host.specs.Files.{bytes_or_place}
use borrow.Author.Rules.{rules}
use Rattle.host.proofs.codes.bytes_or_place.Goals as goal

pub returns-in-Err : goal.returns-in-Err
returns-in-Err c = c.refusal_place.ensures ∙ sym (ap (λ (v : Result ℕ Refusal). bytes_or_place (report_of v)) c.in-Err.is)
