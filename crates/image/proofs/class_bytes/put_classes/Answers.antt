-- `image::class_bytes::put_classes` meets its contract.
-- Assumes nothing.
use mathlib.Core.Path.{sym, ap₂, ◌∙◌}
use mathlib.Core.List.{List, ◌++◌, append_assoc}
use Prim.Native.Nat.{ℕ, ◌+◌}
use lib.ListN.{length, take, drop}
use lib.Seq.{take-length, drop-drop}
use Rattle.image.specs.Image.{class_start}
use Rattle.image.proofs.class_bytes.put_classes.Goals as goal

pub returns : goal.returns
returns c = c.put.ensures ∙ (append_assoc (take class_start c.args.image.now) (take (length c.args.masks.now) c.args.masks.now) (drop (class_start + length c.args.masks.now) c.args.image.now) ∙ ap₂ (λ (a b : List ℕ). take class_start c.args.image.now ++ (a ++ b)) (take-length c.args.masks.now) (sym (drop-drop (length c.args.masks.now) class_start c.args.image.now)))
