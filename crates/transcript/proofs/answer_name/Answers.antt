-- `transcript::answer_name` meets its contract: 65 letters are answered as a longer name is.
-- Assumes nothing.
use Rattle.rules.specs.Memory.{over}
use Rattle.transcript.proofs.Spoken.{answered}
use Rattle.transcript.specs.Names.{answer_to, name_in}
use Rattle.answer_lines.proofs.Told.{length_refusal}
use Rattle.rules.specs.declared.Refusal.TheVariants.{BadLine}
use lib.ListN.{length, drop}
use Prim.Native.Nat.{ℕ}
use mathlib.Core.List.{List}
use mathlib.Core.Path.{sym, ap, ◌∙◌}
use Rattle.transcript.proofs.answer_name.Goals as goal

pub returns-in_default : goal.returns-in_default
returns-in_default c = let a = c.args in
    let h = c.name_in in
    let e = ap (λ o. answer_to a.image.now a.words.now a.sets.now (name_in o h.new.frame)) (sym c.in_default.is) ∙ answered a.image.now a.words.now a.sets.now (drop a.at a.text.now) h.new.frame c.requires.0 h.result h.ensures.name in
    let s = c.refusal_line-len in
    record {
      next = c.next_line-next.ensures;
      len = s.ensures.len ∙ (sym (length_refusal (BadLine 0)) ∙ ap length e);
      bytes = s.ensures.bytes ∙ ap (λ (l : List ℕ). over l a.out.now) e;
    }

pub returns : goal.returns
returns c = let a = c.args in
    let h = c.name_in in
    let e = ap (λ o. answer_to a.image.now a.words.now a.sets.now (name_in o h.new.frame)) (sym c.in-Some.is) ∙ answered a.image.now a.words.now a.sets.now (drop a.at a.text.now) h.new.frame c.requires.0 h.result h.ensures.name in
    let s = c.speak-len in
    record {
      next = c.next_line-next.ensures;
      len = s.ensures.len ∙ ap length e;
      bytes = s.ensures.bytes ∙ ap (λ (l : List ℕ). over l a.out.now) e;
    }
