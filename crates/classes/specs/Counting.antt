-- Numbers of literal rules as the functions give them.
-- Assumes nothing.
use Rattle.std.specs.Prelude.{ℕ, suc, cond, leb}
use Rattle.rules.specs.Limits.{max_rules}

-- as far as they are told: 513 stands for all above 512
abbrev pub capped : ℕ → ℕ
capped n = cond (leb n max_rules) n (suc max_rules)
