-- With memory of the sizes that a host is told, whatever the sheet is, none of 11, 12 and 15 occurs.
-- Assumes nothing.
use mathlib.Core.Path.{◌≡◌, refl, sym}
use Prim.Native.Nat.{ℕ, zero, suc, ◌+◌, ◌*◌, ◌≤◌}
use native.Mathlib.Omega.{arith}
use mathlib.Core.Bool.{true}
use mathlib.Core.List.{List, [], ◌∷◌}
use lib.Dec.{leb, eqb}
use lib.ListN.{length, take}
use borrow.Author.Tests.{le-leb}
use Rattle.rules.specs.Limits.{max_name, max_names}
use Rattle.rules.proofs.Cases.{and_l, and_r}
use Rattle.speech.specs.Places.{frame_size}
use Rattle.prefix_tree.specs.Tree.{node_size}
use Rattle.many_names.specs.Names.{names_in}
use Rattle.many_names.specs.Many.{reply_size}
use Rattle.many_names.proofs.Sizes.{names-few}
use Rattle.sheet_judging.specs.Sheet.{work_room}
use Rattle.sheet.specs.Zeros.{all_zero, zeros}
use Rattle.sheet.specs.Sheet.{SheetSaid, with_memory}
use Rattle.sheet.proofs.Zeros.{zeros-room}
use Rattle.sheet.proofs.Whole.{room-few, has-memory}

fewer : (m n : ℕ) (s : List ℕ) → m ≤ n → all_zero (take n s) ≡ true → all_zero (take m s) ≡ true
fewer zero n s h e = refl
fewer (suc m) zero s h e = absurd (omega arith)
fewer (suc m) (suc n) [] h e = refl
fewer (suc m) (suc n) (x ∷ s) h e = rw (and_l (eqb x 0) (all_zero (take n s)) e) (fewer m n s (omega arith) (and_r (eqb x 0) (all_zero (take n s)) e))

zeros_fewer : (m n : ℕ) (s : List ℕ) → m ≤ n → zeros n s ≡ true → zeros m s ≡ true
zeros_fewer m n s h e =
    let l : m ≤ length s = omega (arith, zeros-room n s e) in
    rw (le-leb m (length s) l) (fewer m n s h (and_r (leb n (length s)) (all_zero (take n s)) e))

pub room_enough : (sheet tree kept replies phones numbers : List ℕ) (x : SheetSaid) → zeros (node_size * (max_names * (max_name + 1) + 1)) tree ≡ true
    → zeros (max_names * (max_name + 1) + frame_size) kept ≡ true → reply_size * max_names ≤ length replies
    → with_memory sheet (names_in max_names sheet) tree kept x replies phones numbers ≡ x
room_enough sheet tree kept replies phones numbers x t k l =
    let f = room-few sheet (work_room sheet) refl in
    sym (has-memory sheet tree kept replies phones numbers x (work_room sheet) (length (names_in max_names sheet)) refl refl
    (zeros_fewer _ _ tree (omega (arith, f)) t)
    (zeros_fewer _ _ kept (omega (arith, f)) k)
    (omega (arith, l, names-few max_names sheet)) x refl)
