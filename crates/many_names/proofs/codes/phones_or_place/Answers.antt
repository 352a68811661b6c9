-- `many_names::codes::phones_or_place` meets its contract.
-- Assumes nothing.
use Rattle.std.specs.Prelude.{Result}
use mathlib.Core.Path.{sym, ap, ◌∙◌}
use Rattle.speech.specs.declared.Spoken.{Spoken}
use Rattle.rules.specs.declared.Refusal.{Refusal}
use Rattle.speech.specs.Speech.{told_of}
use Rattle.many_names.specs.Codes.{phones_or_place}
use Rattle.many_names.proofs.codes.phones_or_place.Goals as goal

pub returns-in-Err : goal.returns-in-Err
returns-in-Err c = c.refusal_place.ensures ∙ sym (ap (λ (v : Result Spoken Refusal). phones_or_place (told_of v)) c.in-Err.is)
