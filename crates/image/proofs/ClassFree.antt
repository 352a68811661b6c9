-- A rule without classes means one literal rule.
-- Assumes nothing.
use Prim.Native.Nat.{ℕ, zero, suc, ◌+◌, ◌*◌, ◌≤◌, ◌<◌}
use mathlib.Core.Path.{◌≡◌, refl, sym, ap, ap₂, ◌∙◌, subst}
use mathlib.Core.List.{List, [], ◌∷◌}
use mathlib.Core.Bool.{Bool, true, false, ◌&&◌, and-false}
use native.Mathlib.Omega.{arith}
use borrow.Author.Tests.{lt-ltb, le-ltb, ltb-true}
use lib.Dec.{ltb}
use lib.ListN.{length, get_or, drop, length-drop}
use lib.Seq.{get_or-take, get_or-drop, length-take-le}
use Rattle.rules.specs.Limits.{max_context, first_class}
use Rattle.rules.proofs.Cases.{and_l, and_r}
use Rattle.rule_bytes.specs.RuleBytes.{left_start, right_start}
use Rattle.classes.specs.Counting.{capped}
use Rattle.classes.specs.Expansion.{size, literal_count}
use Rattle.classes.specs.Masks.{classes_in}
use Rattle.classes.proofs.Standing.{alone_long}
use Rattle.classes.proofs.Scan.{cap_few}
use Rattle.image.specs.Image.{rule_start, count_of, masks_in, classes_of, entry_at, Slots, no_class, without_classes}
use Rattle.image.proofs.Entries.{Field, held_entry_shaped, held_left_field, held_right_field}
use Rattle.image.proofs.Lent.{count_by}

-- one that is a class decides
pub class_among : (n at : ℕ) (s : List ℕ) (k : ℕ) → k < n → first_class ≤ get_or s (at + k) 0 → no_class n at s ≡ false
class_among zero at s k h e = absurd (omega arith)
class_among (suc n) at s zero h e =
    let z : at + 0 ≡ at = omega arith in
    let u : first_class ≤ get_or s at 0 = subst (λ (x : ℕ). first_class ≤ get_or s x 0) z e in
    rw (le-ltb _ _ u)
class_among (suc n) at s (suc k) h e =
    let z : at + suc k ≡ at + 1 + k = omega arith in
    ap (λ (b : Bool). ltb (get_or s at 0) first_class && b) (class_among n (at + 1) s k (omega arith) (subst (λ (x : ℕ). first_class ≤ get_or s x 0) z e))
    ∙ and-false (ltb (get_or s at 0) first_class)

-- none is: by the bytes one by one, and what it says of them
pub none_in : (n at : ℕ) (s : List ℕ) → ((k : ℕ) → k < n → get_or s (at + k) 0 < first_class) → no_class n at s ≡ true
none_in zero at s h = refl
none_in (suc n) at s h =
    let z : at + 0 ≡ at = omega arith in
    let u : get_or s at 0 < first_class = subst (λ (x : ℕ). get_or s x 0 < first_class) z (h 0 (omega arith)) in
    rw (lt-ltb _ _ u) (none_in n (at + 1) s (λ k g. let e : at + suc k ≡ at + 1 + k = omega arith in subst (λ (x : ℕ). get_or s x 0 < first_class) e (h (suc k) (omega arith))))

pub none_at : (n at : ℕ) (s : List ℕ) → no_class n at s ≡ true → (k : ℕ) → k < n → get_or s (at + k) 0 < first_class
none_at zero at s e k h = absurd (omega arith)
none_at (suc n) at s e zero h =
    let z : at ≡ at + 0 = omega arith in
    subst (λ (x : ℕ). get_or s x 0 < first_class) z (ltb-true _ first_class (and_l (ltb (get_or s at 0) first_class) _ e))
none_at (suc n) at s e (suc k) h =
    let z : at + 1 + k ≡ at + suc k = omega arith in
    subst (λ (x : ℕ). get_or s x 0 < first_class) z (none_at n (at + 1) s (and_r (ltb (get_or s at 0) first_class) _ e) k (omega arith))

-- the four bytes of a context, one by one
pub none_of_four : (s : List ℕ) (at : ℕ) → get_or s at 0 < first_class → get_or s (at + 1) 0 < first_class → get_or s (at + 2) 0 < first_class → get_or s (at + 3) 0 < first_class
    → true ≡ no_class max_context at s
none_of_four s at a b c d = sym (none_in max_context at s by)
  where
    by : (k : ℕ) → k < max_context → get_or s (at + k) 0 < first_class
    by zero h = let e : at ≡ at + 0 = omega arith in subst (λ (x : ℕ). get_or s x 0 < first_class) e a
    by (suc zero) h = b
    by (suc (suc zero)) h = c
    by (suc (suc (suc zero))) h = d
    by (suc (suc (suc (suc k)))) h = absurd (omega arith)

-- letters and the boundary alone have one choice
single : (d l : List ℕ) → ((k : ℕ) → k < length l → get_or l k 0 < first_class) → size (classes_in d) l ≡ 1
single d [] h = refl
single d (x ∷ l) h = ap₂ (λ (m n : ℕ). m * n) (sym (alone_long d x (h 0 (omega arith)))) (single d l (λ k g. h (suc k) (omega arith)))

field_single : (d s : List ℕ) (at len from : ℕ) (symbols : List ℕ) → Field s at len from symbols → length symbols ≤ max_context → no_class max_context (at + from) s ≡ true → size (classes_in d) symbols ≡ 1
field_single d s at len from symbols f m p =
    single d symbols
    (λ k h.
    let n : k < get_or s (at + len) 0 = omega (arith, h, ap length f.is, length-take-le (get_or s (at + len) 0) (drop (at + from) s) (simp length-drop (omega (arith, f.run_in)))) in
    subst (λ (x : ℕ). x < first_class) (sym (ap (λ (l : List ℕ). get_or l k 0) (sym f.is) ∙ (get_or-take (get_or s (at + len) 0) (drop (at + from) s) k 0 n ∙ get_or-drop (at + from) s k 0))) (none_at max_context (at + from) s p k (omega arith)))

pub class_free_count : (d : List ℕ) (ok : Slots d) (p : ℕ) (h : p < count_of d) → without_classes (rule_start p) d ≡ true
    → (1 ≡ capped (literal_count (classes_of d) (entry_at d p).rule)) × (1 ≤ 513)
class_free_count d ok p h e =
    let q = held_entry_shaped d ok p h in
    let a = field_single (masks_in d) d (rule_start p) 0 left_start (entry_at d p).rule.left (held_left_field d ok p h) q.left-most (and_l (no_class max_context (rule_start p + left_start) d) _ e) in
    let b = field_single (masks_in d) d (rule_start p) 2 right_start (entry_at d p).rule.right (held_right_field d ok p h) q.right-most (and_r (no_class max_context (rule_start p + left_start) d) _ e) in
    let one : 1 ≤ 513 = omega arith in
    count_by d p 1 (masks_in d) _ _ refl refl refl (cap_few 1 one ∙ ap capped (sym (ap₂ (λ (m n : ℕ). m * n) a b)), one)
