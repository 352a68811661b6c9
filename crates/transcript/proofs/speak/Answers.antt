-- `transcript::speak` meets its contract: what the walk tells fits its lent memory.
-- Assumes nothing.
use Rattle.rules.specs.Memory.{over}
use Rattle.transcript.proofs.Spoken.{name_line_is, told_within}
use Rattle.transcript.specs.Names.{lent_phones, lent_numbers}
use Rattle.speech.specs.Speech.{told_of}
use lib.ListN.{length}
use Prim.Native.Nat.{ℕ}
use mathlib.Core.List.{List}
use mathlib.Core.Path.{◌≡◌, ap, ◌∙◌}
use native.Mathlib.Omega.{arith}
use borrow.Author.Rules.{rules}
use Rattle.transcript.proofs.speak.Goals as goal

pub answer_line-requires : goal.answer_line-requires
unfolding lent_phones lent_numbers
answer_line-requires c = let a = c.args in
    let w = c.speak_valid-answer in
    let lp : length w.new.phones ≡ 256 = search rules in
    let ln : length w.new.numbers ≡ 64 = search rules in
    (omega arith, (omega arith, (search rules, told_within a.rules.bytes.now a.words.now a.sets.now a.name.now (told_of w.result.speech) w.result.steps w.new.phones w.new.numbers w.ensures _ _ lp ln)))

pub returns : goal.returns
unfolding lent_phones lent_numbers
returns c = let a = c.args in
    let w = c.speak_valid-answer in
    let e = name_line_is a.rules.bytes.now a.words.now a.sets.now a.name.now (told_of w.result.speech) w.result.steps w.new.phones w.new.numbers w.ensures in
    let s = c.answer_line in
    record {
      len = s.ensures.len ∙ ap length e;
      bytes = s.ensures.bytes ∙ ap (λ (l : List ℕ). over l a.out.now) e;
    }
