-- The order of refusals of the whole call.
-- Assumes nothing.
use mathlib.Core.Path.{refl, sym, ◌∙◌}
use borrow.Author.Tests.{not-true, not-false}
use Rattle.tables.specs.Words.{compiled_from}
use Rattle.sheet.proofs.Whole as W
use Rattle.sheet.proofs.speak_sheet.Goals as goal

pub returns-then-not-size : goal.returns-then-not-size
returns-then-not-size c = let a = c.args in
    record {
      answer = W.cut-sheet (compiled_from a.words.now a.sets.now) a.image.now a.list.now a.sheet.now a.tree.now a.kept.now a.replies.now a.phones.now a.numbers.now
          (sym c.size_of-size.ensures.sound ∙ not-true _ c.if-not-size.true) _ c.refused.ensures;
      tree = refl;
      kept = refl;
    }

pub returns-then-not-is_ruleset : goal.returns-then-not-is_ruleset
returns-then-not-is_ruleset c = let a = c.args in
    record {
      answer = W.no-rules (compiled_from a.words.now a.sets.now) a.image.now a.list.now a.sheet.now a.tree.now a.kept.now a.replies.now a.phones.now a.numbers.now
          (sym c.size_of-size.ensures.sound ∙ not-false _ c.if-not-size.false) (sym c.is_ruleset.ensures ∙ c.if-not-is_ruleset.true) _ c.refused-then-not-is_ruleset.ensures;
      tree = refl;
      kept = refl;
    }

pub returns-then-not-is_list : goal.returns-then-not-is_list
returns-then-not-is_list c = let a = c.args in
    record {
      answer = W.no-list (compiled_from a.words.now a.sets.now) a.image.now a.list.now a.sheet.now a.tree.now a.kept.now a.replies.now a.phones.now a.numbers.now
          (sym c.size_of-size.ensures.sound ∙ not-false _ c.if-not-size.false) (sym c.is_ruleset.ensures ∙ c.if-not-is_ruleset.false)
          (sym c.is_list.ensures ∙ c.if-not-is_list.true) _ c.refused-then-not-is_list.ensures;
      tree = refl;
      kept = refl;
    }

pub speak_sound-requires : goal.speak_sound-requires
speak_sound-requires c = (sym c.is_ruleset.ensures ∙ c.if-not-is_ruleset.false, sym c.is_list.ensures ∙ c.if-not-is_list.false, c.size_of-size.ensures.count)

pub returns : goal.returns
returns c = let a = c.args in
    let o = c.speak_sound.ensures in
    record {
      answer = W.whole-sheet (compiled_from a.words.now a.sets.now) a.image.now a.list.now a.sheet.now a.tree.now a.kept.now a.replies.now a.phones.now a.numbers.now
          (sym c.size_of-size.ensures.sound ∙ not-false _ c.if-not-size.false) (sym c.is_ruleset.ensures ∙ c.if-not-is_ruleset.false)
          (sym c.is_list.ensures ∙ c.if-not-is_list.false) _ o.answer;
      tree = o.tree;
      kept = o.kept;
    }
