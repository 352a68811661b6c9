-- `edits::literals_of` meets its contract.
-- Assumes nothing.
use mathlib.Core.Path.{◌≡◌, sym}
use native.Mathlib.Omega.{arith}
use borrow.Author.Rules.{rules}
use lib.ListN.{length}
use lib.Seq.{length-take-le}
use Rattle.rules.specs.Limits.{max_context}
use Rattle.edits.proofs.Judging.{masks-room, left-most, right-most, contexts_told}
use Rattle.edits.proofs.literals_of.Goals as goal

pub masks-requires : goal.masks-requires
masks-requires c = c.requires.0

pub slice_bounds-left-end : goal.slice_bounds-left-end
slice_bounds-left-end c = let h = left-most c.args.rule c.requires.1 in let l : length c.args.rule.left ≡ max_context = search rules in omega arith

pub slice_bounds-literal_count-end : goal.slice_bounds-literal_count-end
slice_bounds-literal_count-end c = let h = left-most c.args.rule c.requires.1 in let l : length c.args.rule.left ≡ max_context = search rules in sym (length-take-le _ _ (omega arith))

pub slice_bounds-right-end : goal.slice_bounds-right-end
slice_bounds-right-end c = let h = right-most c.args.rule c.requires.1 in let l : length c.args.rule.right ≡ max_context = search rules in omega arith

pub slice_bounds-literal_count-end-2 : goal.slice_bounds-literal_count-end-2
slice_bounds-literal_count-end-2 c = let h = right-most c.args.rule c.requires.1 in let l : length c.args.rule.right ≡ max_context = search rules in sym (length-take-le _ _ (omega arith))

pub literal_count-requires : goal.literal_count-requires
literal_count-requires c = masks-room c.args.image.now c.requires.0 _ c.masks.ensures

pub returns : goal.returns
returns c = let l : length c.args.rule.left ≡ max_context = search rules in let g : length c.args.rule.right ≡ max_context = search rules in (contexts_told c.args.rule c.requires.1 l g c.args.image.now _ c.masks.ensures _ c.literal_count.ensures.0, c.literal_count.ensures.1)
