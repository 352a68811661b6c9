-- What comparing letters with the choice of an ordinal gives, and the literal rules of a rule by its contexts and its target.
-- Assumes nothing.
use Rattle.std.specs.Prelude.{ℕ, ◌+◌, ◌/◌, cond, [], length, Option, Some, None}
use Rattle.rules.specs.Shape.{Production}
use Rattle.classes.specs.Classes.{Classes}
use Rattle.classes.specs.Expansion.{size}
use Rattle.classes.specs.Ordinal.{choice_at}
use Rattle.fitting.specs.Fitting.{Str, same, starts, fits}

-- choice j of s is w: what is left of j for the symbols before s
abbrev pub matched : Classes → Str → Str → ℕ → Option ℕ
matched k s w j = cond (same (choice_at k s j) w) (Some (j / size k s)) None

-- w starts with choice j of s
abbrev pub started : Classes → Str → Str → ℕ → Option ℕ
started k s w j = cond (starts (choice_at k s j) w) (Some (j / size k s)) None

-- a rule as far as it decides where it fits
abbrev pub rule_with : Str → Str → Str → Production
rule_with left target right = record { left = left; target = target; right = right; phones = [] }

-- where the target of a rule ends if it fits at i, else 0: no target ends there
abbrev pub end_of : Production → Str → ℕ → ℕ
end_of r f i = cond (fits r f i) (i + length r.target) 0
