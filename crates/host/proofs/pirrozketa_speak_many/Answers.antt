-- `host::pirrozketa_speak_many` meets its contract.
-- Assumes nothing.
use mathlib.Core.Path.{sym, ap, ◌∙◌}
use borrow.Author.Rules.{rules}
use borrow.Author.Tests.{not-true, not-false}
use Rattle.host.specs.Many.{Many}
use Rattle.host.proofs.Answering.{many_known, many_invalid, many_unlisted}
use Rattle.host.proofs.pirrozketa_speak_many.Goals as goal

pub returns-then-not-is_ruleset : goal.returns-then-not-is_ruleset
returns-then-not-is_ruleset c = let a = c.args in
    let e = sym (many_invalid a.image.now a.list.now a.words.now a.sets.now a.names.now a.phones.now a.numbers.now a.replies.now (sym c.is_ruleset.ensures ∙ c.if-not-is_ruleset.true)) in
    record {
      code = ap (λ (m : Many). m.code) e;
      count = ap (λ (m : Many). m.count) e;
      replies = ap (λ (m : Many). m.replies) e;
      phones = ap (λ (m : Many). m.phones) e;
      numbers = ap (λ (m : Many). m.numbers) e;
    }

pub returns-then-not-is_list : goal.returns-then-not-is_list
returns-then-not-is_list c = let a = c.args in
    let e = sym (many_unlisted a.image.now a.list.now a.words.now a.sets.now a.names.now a.phones.now a.numbers.now a.replies.now (sym c.is_ruleset.ensures ∙ c.if-not-is_ruleset.false) (sym c.is_list.ensures ∙ c.if-not-is_list.true)) in
    record {
      code = ap (λ (m : Many). m.code) e;
      count = ap (λ (m : Many). m.count) e;
      replies = ap (λ (m : Many). m.replies) e;
      phones = ap (λ (m : Many). m.phones) e;
      numbers = ap (λ (m : Many). m.numbers) e;
    }

pub speak_all-requires : goal.speak_all-requires
speak_all-requires c = sym c.is_list.ensures ∙ c.if-not-is_list.false

pub returns : goal.returns
returns c = let a = c.args in
    let f = c.speak_all.ensures in
    let e = sym (many_known a.image.now a.list.now a.words.now a.sets.now a.names.now a.phones.now a.numbers.now a.replies.now (sym c.is_ruleset.ensures ∙ c.if-not-is_ruleset.false) (sym c.is_list.ensures ∙ c.if-not-is_list.false)) in
    record {
      code = ap (λ (m : Many). m.code) e;
      count = f.count ∙ ap (λ (m : Many). m.count) e;
      replies = f.replies ∙ ap (λ (m : Many). m.replies) e;
      phones = f.phones ∙ ap (λ (m : Many). m.phones) e;
      numbers = f.numbers ∙ ap (λ (m : Many). m.numbers) e;
    }
