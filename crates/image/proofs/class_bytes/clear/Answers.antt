-- `image::class_bytes::clear` meets its contract.
-- Assumes nothing.
use Prim.Native.Nat.{ℕ, ◌-◌}
use mathlib.Core.Path.{◌≡◌, refl, ap, ◌∙◌}
use native.Mathlib.Omega.{arith}
use lib.ListN.{length, take, drop, replicate, length-drop}
use lib.Seq.{length-take-le}
use Rattle.std.proofs.lemmas.Slice.{put_mid-paste}
use Rattle.rules.proofs.Memory.{over_pasted}
use Rattle.image.specs.Image.{class_start, table_start}
use Rattle.image.proofs.class_bytes.clear.Goals as goal

pub returns : goal.returns
returns c = let d = c.args.image.now in
    let e : length (take (table_start - class_start) (drop class_start d)) ≡ table_start - class_start =
    length-take-le (table_start - class_start) (drop class_start d) (omega (arith, c.requires, length-drop class_start d)) in
    put_mid-paste class_start (table_start - class_start) d _ (replicate (table_start - class_start) 0) _ (c.fill.ensures.after (λ y f. f) ∙ ap (λ (n : ℕ). replicate n 0) e) refl refl
    ∙ over_pasted class_start (replicate (table_start - class_start) 0) d
