-- `file::parsing::total_with` meets its contract.
-- Assumes nothing.
use mathlib.Core.Path.{◌≡◌, sym}
use native.Mathlib.Omega.{arith}
use lib.ListN.{length}
use lib.Seq.{length-take-le}
use Rattle.rules.specs.Limits.{max_context}
use Rattle.classes.specs.Masks.{classes_in}
use Rattle.file.proofs.Literals.{left_few, right_few, total_none, total_over, total_more}
use borrow.Author.Rules.{rules}
use Rattle.file.proofs.parsing.total_with.Goals as goal

pub slice_bounds-left-end : goal.slice_bounds-left-end
slice_bounds-left-end c = let nl : length c.args.rule.left ≡ max_context = search rules in omega (arith, left_few c.args.rule c.requires.1.1)

pub slice_bounds-literal_count-end : goal.slice_bounds-literal_count-end
slice_bounds-literal_count-end c = let nl : length c.args.rule.left ≡ max_context = search rules in sym (length-take-le _ _ (omega (arith, left_few c.args.rule c.requires.1.1)))

pub slice_bounds-right-end : goal.slice_bounds-right-end
slice_bounds-right-end c = let nr : length c.args.rule.right ≡ max_context = search rules in omega (arith, right_few c.args.rule c.requires.1.1)

pub slice_bounds-literal_count-end-2 : goal.slice_bounds-literal_count-end-2
slice_bounds-literal_count-end-2 c = let nr : length c.args.rule.right ≡ max_context = search rules in sym (length-take-le _ _ (omega (arith, right_few c.args.rule c.requires.1.1)))

pub returns-then-count-lt1 : goal.returns-then-count-lt1
returns-then-count-lt1 c = let a = c.args in let s = c.requires.1.1 in let nl : length a.rule.left ≡ max_context = search rules in let nr : length a.rule.right ≡ max_context = search rules in total_none a.rule s a.before (classes_in a.masks.now) _ _ c.literal_count-count.result c.from-l.ensures c.from-r.ensures nl nr c.literal_count-count.ensures.0 c.if-count-lt1.true

pub returns-then-before-count-gt-MAX_RULES : goal.returns-then-before-count-gt-MAX_RULES
returns-then-before-count-gt-MAX_RULES c = let a = c.args in let s = c.requires.1.1 in let nl : length a.rule.left ≡ max_context = search rules in let nr : length a.rule.right ≡ max_context = search rules in total_over a.rule s a.before (classes_in a.masks.now) _ _ c.literal_count-count.result c.from-l.ensures c.from-r.ensures nl nr c.literal_count-count.ensures.0 c.if-before-count-gt-MAX_RULES.true

pub returns : goal.returns
returns c = let a = c.args in let s = c.requires.1.1 in let nl : length a.rule.left ≡ max_context = search rules in let nr : length a.rule.right ≡ max_context = search rules in total_more a.rule s a.before (classes_in a.masks.now) _ _ c.literal_count-count.result c.from-l.ensures c.from-r.ensures nl nr c.literal_count-count.ensures.0 c.if-count-lt1.false c.if-before-count-gt-MAX_RULES.false
