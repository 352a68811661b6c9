-- `file::loading::store_rule` meets its contract: the line's frame stands in the lent bytes.
-- Assumes nothing.
use mathlib.Core.Path.{◌≡◌, sym, ap, ◌∙◌}
use native.Mathlib.Omega.{arith}
use borrow.Author.Rules.{rules}
use lib.ListN.{length, drop, replicate}
use lib.Seq.{length-take-le}
use Rattle.rules.specs.declared.Numbered.{Numbered}
use Rattle.rules.proofs.Cases.{and_l}
use Rattle.image.specs.Image.{with_rule}
use Rattle.frames.specs.Lines.{decoded}
use Rattle.frames.proofs.Decoding.{decoded_room}
use Rattle.file_format.specs.Layout.{longest_frame}
use Rattle.file_format.specs.File.{is_rule}
use Rattle.file.proofs.Parts.{frame_fits}
use Rattle.file.proofs.NextLine.{frame_whole, frame_entry}
use Rattle.file.proofs.loading.store_rule.Goals as goal

pub slice_bounds-entry_in-end : goal.slice_bounds-entry_in-end
slice_bounds-entry_in-end c = let l : length c.decode.new.frame ≡ longest_frame = search rules in sym (length-take-le _ _ (omega arith))

pub entry_in-entry-requires : goal.entry_in-entry-requires
entry_in-entry-requires c = ap is_rule (frame_whole (decoded (drop c.args.at c.args.file.now)) (replicate longest_frame 0) c.decode.new.frame c.frame_size-n.result c.frame_size-n.ensures.0 c.decode.ensures) ∙ and_l (is_rule (decoded (drop c.args.at c.args.file.now))) _ c.requires.0

pub overflow_add-result-2 : goal.overflow_add-result-2
overflow_add-result-2 c = let n = (frame_fits (decoded (drop c.args.at c.args.file.now)) c.requires.0).whole in omega (arith, c.frame_size-n.ensures.0, decoded_room c.args.file.now c.args.at (omega arith))

pub returns : goal.returns
returns c =
    record {
      next = omega (arith, c.frame_size-n.ensures.0);
      slot = c.put_rule.ensures ∙ ap (λ (x : Numbered). with_rule c.args.place x c.args.image.now) (frame_entry (decoded (drop c.args.at c.args.file.now)) (replicate longest_frame 0) c.decode.new.frame c.frame_size-n.result c.frame_size-n.ensures.0 c.decode.ensures c.entry_in-entry.result c.entry_in-entry.ensures);
    }
