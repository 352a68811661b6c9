-- `classes::storing::put_mask` meets its contract.
-- Assumes nothing.
use mathlib.Core.Path.{refl, ◌∙◌}
use native.Mathlib.Omega.{arith}
use Rattle.std.proofs.lemmas.Slice.{put_mid-paste}
use Rattle.std.proofs.lemmas.List.Edits.{paste_all}
use Rattle.numbers.specs.Numbers.{bytes8}
use Rattle.numbers.proofs.Bytes.{be_eight}
use Rattle.classes.proofs.storing.put_mask.Goals as goal

pub returns : goal.returns
returns c = put_mid-paste _ _ _ _ _ _ (c.copy_from_slice.ensures.after ∙ (c.to_be_bytes.ensures ∙ be_eight c.args.mask)) (omega arith) refl
    ∙ paste_all _ _ (bytes8 c.args.mask) _ refl
