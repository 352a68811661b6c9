-- `many_names::codes::spoken_code` meets its contract.
-- Assumes nothing.
use Rattle.std.specs.Prelude.{Result}
use mathlib.Core.Path.{sym, ap, ◌∙◌}
use Rattle.speech.specs.declared.Spoken.{Spoken}
use Rattle.rules.specs.declared.Refusal.{Refusal}
use Rattle.speech.specs.Speech.{told_of}
use Rattle.many_names.specs.Codes.{spoken_code}
use Rattle.many_names.proofs.codes.spoken_code.Goals as goal

pub returns-in-Err : goal.returns-in-Err
returns-in-Err c = c.refusal_number.ensures ∙ sym (ap (λ (v : Result Spoken Refusal). spoken_code (told_of v)) c.in-Err.is)
