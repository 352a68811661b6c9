-- `frames::writer::put_from` meets its contract: the table has the byte's digits.
-- Assumes nothing.
use Rattle.std.proofs.Common.{ℕ, ◌+◌, ◌*◌, List, length, get_or, ap, ◌∙◌, ap₂, arith}
use Rattle.frames.proofs.DigitPairs.{pairs_length, pair_high, pair_low}
use Rattle.frames.proofs.writer.put_from.Goals as goal

pub bounds-pairs-i : goal.bounds-pairs-i
bounds-pairs-i c = let l = ap length c.requires.1 ∙ pairs_length in omega arith

pub bounds-pairs-i-2 : goal.bounds-pairs-i-2
bounds-pairs-i-2 c = let l = ap length c.requires.1 ∙ pairs_length in omega arith

pub put_digits-requires : goal.put_digits-requires
put_digits-requires c = let b = c.args.b in
    let p = c.requires in
    let e = c.from-i.ensures in (
      p.0,
      (
        ap₂ (λ (l : List ℕ) (i : ℕ). get_or l (2 * i) 0) p.1 e ∙ pair_high b (omega arith),
        ap₂ (λ (l : List ℕ) (i : ℕ). get_or l (2 * i + 1) 0) p.1 e ∙ pair_low b (omega arith),
      ),
    )
