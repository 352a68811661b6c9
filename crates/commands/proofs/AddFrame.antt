-- An add's frame: what its length says, and the edit of its rule and its place.
-- Assumes nothing.
use Prim.Native.Nat.{ℕ}
use mathlib.Core.Path.{◌≡◌, ◌∙◌}
use mathlib.Core.List.{List}
use mathlib.Core.Bool.{true}
use borrow.Author.Tests.{leb-true, eqb-true}
use lib.Dec.{leb}
use lib.ListN.{length}
use Rattle.numbers.specs.Numbers.{two}
use Rattle.rules.proofs.Cases.{and_l, and_r}
use Rattle.rules.specs.declared.Rule.{Rule}
use Rattle.image.specs.Image.{Edited}
use Rattle.edits.specs.Ledger.{Edit}
use Rattle.edits.specs.Edits.{edited}
use Rattle.rule_bytes.specs.RuleBytes.{rule_struct}
use Rattle.file_format.specs.Layout.{front_size, body_size, rule_in}
use Rattle.command_parts.specs.Fields.{add_sized, AddSized, added_rule}

pub sized : (f : List ℕ) → add_sized f ≡ true → AddSized f
sized f e = (leb-true front_size (length f) (and_l (leb front_size (length f)) _ e), eqb-true (length f) (body_size f) (and_r (leb front_size (length f)) _ e))

pub add_is : (e : Edited) (f image : List ℕ) (rule : Rule) (place : ℕ) → rule ≡ rule_struct (rule_in f) → place ≡ two 1 f
    → e ≡ edited image (Edit.Add rule place) → e ≡ edited image (Edit.Add (added_rule f) (two 1 f))
unfolding added_rule
add_is e f image rule place er ep h = h ∙ rw (er, ep)
