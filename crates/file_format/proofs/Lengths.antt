-- How long the lines of a file are: no well-formed ruleset has a file of more than 27,439 bytes. Longest has one of so many.
-- Assumes nothing.
use Prim.Native.Nat.{ℕ, zero, suc, ◌+◌, ◌*◌, ◌≤◌}
use mathlib.Core.Path.{◌≡◌, refl, ap}
use mathlib.Core.List.{List, [], ◌∷◌, ◌++◌}
use mathlib.Core.Bool.{true}
use native.Mathlib.Omega.{arith}
use borrow.Author.Tests.{leb-true}
use lib.Dec.{leb}
use lib.ListN.{length, length-append}
use Rattle.rules.specs.Limits.{first_class, class_count, max_class}
use Rattle.classes.specs.Classes.{Classes, letter_set}
use Rattle.classes.specs.Masks.{classes_shaped_from, classes_shaped}
use Rattle.frames.specs.Lines.{framed, sum_byte}
use Rattle.frames.proofs.Lines.{length_line}
use Rattle.file_format.specs.Layout.{line_size, longest_class_frame, front_size, longest_frame, longest_file}
use Rattle.file_format.specs.File.{class_body, class_line, class_lines_from, class_lines, well_formed, rule_body, head_line, rule_line, rule_lines, encode}
use Rattle.file_format.proofs.Bodies.{both, in_range}
use Rattle.rules.specs.Shape.{Entry}
use Rattle.image.specs.State.{Ruleset, entry, entries}
use Rattle.image.proofs.Entries.{shaped}
use Rattle.file_format.proofs.ClassFrames.{line_some}
use Rattle.file_format.proofs.Accepts.{formed_is}

-- ---- the lines of rules

pub length_rule : (x : Entry)
    → length (rule_line x) ≡ line_size (front_size + (length x.rule.left + (length x.rule.target + (length x.rule.right + length x.rule.phones))) + 1)
length_rule x =
    let r = x.rule in
    omega (
      arith,
      length_line (framed (rule_body x)),
      length-append (r.left ++ (r.target ++ (r.right ++ r.phones))) (sum_byte (rule_body x) ∷ []),
      length-append r.left (r.target ++ (r.right ++ r.phones)),
      length-append r.target (r.right ++ r.phones),
      length-append r.right r.phones,
    )

pub rules_longest : (last : ℕ) (es : List Entry) → entries last es ≡ true → length (rule_lines es) ≤ line_size longest_frame * length es
rules_longest last [] h = omega arith
rules_longest last (x ∷ es) h =
    let a = both (entry last x) _ h in
    let i = rules_longest last es a.1 in
    let b = shaped x.rule (in_range last x a.0).shaped in
    omega (arith, length-append (rule_line x) (rule_lines es), length_rule x, b.left-most, b.target-most, b.right-most, b.phones-most)

-- ---- the lines of classes

pub length_class : (c : ℕ) (l : List ℕ) → 1 ≤ length l → length (class_line c l) ≡ line_size (length l + 4)
length_class c l h =
    omega (arith, ap length (line_some c l h), length_line (framed (class_body c l)), length-append l (sum_byte (class_body c l) ∷ []))

class_longest : (c : ℕ) (l : List ℕ) → letter_set l ≡ true → length (class_line c l) ≤ line_size longest_class_frame
class_longest c [] h = omega arith
class_longest c (x ∷ l) h =
    let u = leb-true (length (x ∷ l)) max_class (both (leb (length (x ∷ l)) max_class) _ h).0 in
    omega (arith, length_class c (x ∷ l) (omega arith))

longest_from : (k : Classes) (n c : ℕ) → classes_shaped_from k c n ≡ true → length (class_lines_from k c n) ≤ line_size longest_class_frame * n
longest_from k zero c h = omega arith
longest_from k (suc n) c h =
    let a = both (letter_set (k c)) _ h in
    omega (arith, length-append (class_line c (k c)) (class_lines_from k (suc c) n), class_longest c (k c) a.0, longest_from k n (suc c) a.1)

pub classes_longest : (k : Classes) → classes_shaped k ≡ true → length (class_lines k) ≤ line_size longest_class_frame * class_count
unfolding class_lines classes_shaped
classes_longest k h = longest_from k class_count first_class h

-- ---- the file

-- in bytes, as document 02 has it
pub longest_bytes : longest_file ≡ 27439
longest_bytes = refl

pub longest : (b : Ruleset) → well_formed b ≡ true → length (encode b) ≤ longest_file
unfolding encode
longest b e =
    let v = formed_is b e in
    let i = rules_longest b.last b.rules v.all in
    let c = classes_longest b.classes v.shaped in
    omega (
      arith,
      v.few,
      length-append (head_line (length b.rules) b.last) (class_lines b.classes ++ rule_lines b.rules),
      length-append (class_lines b.classes) (rule_lines b.rules),
    )
