-- Memory with a head of zeros, no class and no literal rule holds the empty ruleset.
-- Assumes nothing.
use Prim.Native.Nat.{ℕ, ◌-◌, ◌≤◌}
use mathlib.Core.Path.{◌≡◌, refl, sym, ap, ◌∙◌}
use mathlib.Core.List.{List, [], ◌∷◌, map}
use native.Mathlib.Omega.{arith}
use lib.ListN.{length, replicate, length-drop}
use Rattle.rules.specs.Memory.{over_at}
use Rattle.rules.specs.Shape.{Entry, entry_of}
use Rattle.rules.proofs.Memory.{over_both}
use Rattle.classes.specs.Classes.{no_classes}
use Rattle.classes.specs.Masks.{masks_size, masks_of}
use Rattle.classes.proofs.Bytes.{masks_none}
use Rattle.image.specs.State.{start}
use Rattle.image.specs.Image.{head_size, image_size, class_start, total_start, table_start, count_of, rules_in, entries_of, classes_of, table_bytes, with_head, with_classes, settled, whole}
use Rattle.image.proofs.Front.{two_same}
use Rattle.image.proofs.Settling.{at_front}

module _ (d : List ℕ) (h : image_size ≤ length d) where
  abbrev headed : List ℕ
  headed = with_head 0 0 0 d

  abbrev classless : List ℕ
  classless = with_classes no_classes headed

  headed_long : image_size ≤ length headed
  headed_long = omega (arith, length-drop head_size d)

  none_counted : count_of classless ≡ 0
  none_counted =
      two_same class_start classless headed (at_front class_start class_start (masks_of no_classes) headed (omega arith) (omega (arith, headed_long))) 0 (omega arith)

  no_entries : entries_of classless ≡ []
  unfolding entries_of
  no_entries = ap (λ (n : ℕ). map entry_of (rules_in n classless)) none_counted

  pub emptied : (e z : List ℕ) → e ≡ headed → z ≡ over_at class_start (replicate (table_start - class_start) 0) e → z ≡ whole start d
  unfolding whole settled
  emptied e z p q =
      let m : classless ≡ over_at class_start (replicate masks_size 0) headed = ap (λ (s : List ℕ). over_at class_start s headed) masks_none in
      let t : over_at total_start (table_bytes (classes_of classless) (entries_of classless)) classless ≡ over_at total_start (0 ∷ 0 ∷ []) classless =
      ap (λ (l : List Entry). over_at total_start (table_bytes (classes_of classless) l) classless) no_entries in
      q ∙ (ap (over_at class_start (replicate (table_start - class_start) 0)) p
      ∙ sym (t ∙ (ap (over_at total_start (0 ∷ 0 ∷ [])) m ∙ over_both class_start total_start (replicate masks_size 0) (0 ∷ 0 ∷ []) headed refl (omega (arith, headed_long)))))
