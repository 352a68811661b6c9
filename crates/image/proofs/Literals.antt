-- The literal rules of a ruleset: how many there are, where each comes from, and their shape.
-- Assumes nothing.
use Prim.Native.Nat.{ℕ, zero, suc, ◌/◌, ◌%◌, ◌≤◌, ◌<◌}
use mathlib.Core.Path.{◌≡◌, sym, ◌∙◌, subst}
use mathlib.Core.List.{List, [], ◌∷◌}
use mathlib.Core.Bool.{true}
use native.Mathlib.Omega.{arith}
use borrow.Author.Tests.{leb-true, ltb-true, ltb-false}
use lib.Dec.{leb, ltb}
use lib.ListN.{length, get_or, drop, get_or-eq_default}
use Rattle.rules.specs.Limits.{max_rules, max_context, max_target, max_phones, first_class}
use Rattle.rules.specs.Shape.{Production, Entry}
use Rattle.rules.proofs.Cases.{and_l, and_r, by_bool}
use Rattle.numbers.specs.Numbers.{eight}
use Rattle.classes.specs.Classes.{Classes, is_class, letters, Proper, OnlyClasses}
use Rattle.classes.specs.Masks.{mask_start, letters_in, classes_in}
use Rattle.classes.specs.Expansion.{size, literal_count, literal_total}
use Rattle.classes.specs.Ordinal.{origin, choice_at, literal_at}
use Rattle.classes.proofs.Bytes.{outside_in, proper}
use Rattle.classes.proofs.Letters.{letters_below}
use Rattle.classes.proofs.Standing.{class_letters}
use Rattle.classes.proofs.Counts.{literal-total, product_pos}
use Rattle.classes.proofs.Ordinal.{length_origins, origin_literal, choice_symbol, choice_long}
use Rattle.image.specs.State.{no_entry}
use Rattle.image.specs.Literals.{LiteralAt}
use Rattle.image.specs.Image.{total_of, masks_in, entry_at, entries_of, classes_of, literals_of, origins_of, valid}
use Rattle.image.proofs.Entries.{Shaped, entry_shaped, entries_length}
use Rattle.image.proofs.Settling.{few_literals}
use Rattle.image.proofs.Origins.{origin_at, tabled_total}
use Rattle.image.proofs.Tests.{valid_sound, valid_tabled, sound_classes}

pub literals_length : (d : List ℕ) → length (literals_of d) ≡ literal_total (classes_of d) (entries_of d)
unfolding literals_of
literals_length d = literal-total (classes_of d) (entries_of d)

-- the shape of a literal rule, as facts on numbers
pub record LiteralShaped (r : Production) : Type 0 where
  pub left-most : length r.left ≤ max_context
  pub target-least : 1 ≤ length r.target
  pub target-most : length r.target ≤ max_target
  pub right-most : length r.right ≤ max_context
  pub phones-most : length r.phones ≤ max_phones
  pub left-symbols : (i : ℕ) → get_or r.left i 0 < 64
  pub target-symbols : (i : ℕ) → get_or r.target i 0 < 64
  pub right-symbols : (i : ℕ) → get_or r.right i 0 < 64

-- each class has letters below 64
abbrev Low : Classes → Type 0
Low k = (c i : ℕ) → get_or (k c) i 0 < 64

mask_low : (x i : ℕ) → get_or (letters_in x) i 0 < 64
mask_low x i =
    by_bool (ltb i (length (letters_in x))) (λ e. letters_below x i (ltb-true i (length (letters_in x)) e))
    (λ e. subst (λ (y : ℕ). y < 64) (sym (get_or-eq_default (letters_in x) 0 {n = i} (ltb-false i (length (letters_in x)) e))) (omega arith))

masks_low : (m : List ℕ) → Low (classes_in m)
masks_low m c i =
    by_bool (is_class c) (λ e. subst (λ (l : List ℕ). get_or l i 0 < 64) (sym (class_is m c e)) (mask_low (eight (mask_start c) m) i))
    (λ e. subst (λ (l : List ℕ). get_or l i 0 < 64) (sym (outside_in m c e)) (omega arith))
  where
    class_is : (m : List ℕ) (c : ℕ) → is_class c ≡ true → classes_in m c ≡ letters_in (eight (mask_start c) m)
    class_is m c e = class_letters m c (leb-true 64 c (and_l (leb 64 c) _ e)) (let u = ltb-true c 96 (and_r (leb 64 c) _ e) in omega arith)

classes_low : (d : List ℕ) → Low (classes_of d)
unfolding classes_of
classes_low d = masks_low (masks_in d)

pub classes_outside : (d : List ℕ) → OnlyClasses (classes_of d)
unfolding classes_of
classes_outside d = outside_in (masks_in d)

letters_low : (k : Classes) → Low k → (c i : ℕ) → get_or (letters k c) i 0 < 64
letters_low k low c i = by_bool (ltb c first_class) (λ e. rw e (one_low c i (ltb-true c first_class e))) (λ e. rw e (low c i))
  where
    one_low : (c i : ℕ) → c < 64 → get_or (c ∷ []) i 0 < 64
    one_low c zero h = h
    one_low c (suc i) h = omega arith

choice_low : (k : Classes) → Low k → (s : List ℕ) (j : ℕ) → 1 ≤ size k s → (i : ℕ) → get_or (choice_at k s j) i 0 < 64
choice_low k low s j ok i =
    by_bool (ltb i (length s))
    (λ e. subst (λ (x : ℕ). x < 64) (sym (choice_symbol k s j i ok (ltb-true i (length s) e))) (letters_low k low (get_or s i 0) (j / size k (drop (suc i) s) % length (letters k (get_or s i 0)))))
    (λ e. subst (λ (x : ℕ). x < 64) (sym (get_or-eq_default (choice_at k s j) 0 {n = i} (let u = ltb-false i (length s) e in omega (arith, choice_long k s j ok)))) (omega arith))

literal_shaped : (k : Classes) → Low k → (r : Production) → 1 ≤ literal_count k r → Shaped r → (j : ℕ) → LiteralShaped (literal_at k r j)
literal_shaped k low r some h j =
    let p = product_pos (size k r.left) (size k r.right) some in
    record {
      left-most = omega (arith, choice_long k r.left (j / size k r.right) p.0, h.left-most);
      target-least = h.target-least;
      target-most = h.target-most;
      right-most = omega (arith, choice_long k r.right j p.1, h.right-most);
      phones-most = h.phones-most;
      left-symbols = choice_low k low r.left (j / size k r.right) p.0;
      target-symbols = h.target-symbols;
      right-symbols = choice_low k low r.right j p.1;
    }

module _ (d : List ℕ) (ok : valid d ≡ true) where
  pub literals_few : length (literals_of d) ≤ max_rules
  literals_few = omega (arith, literals_length d, few_literals d (valid_sound d ok))

  pub total_is : total_of d ≡ length (literals_of d)
  total_is = tabled_total d (valid_tabled d ok) ∙ sym (literals_length d)

  pub total_few : total_of d ≤ max_rules
  total_few = omega (arith, total_is, literals_few)

  pub literal_is : (p : ℕ) → p < total_of d → LiteralAt d p (get_or (origins_of d) p (origin 0 0))
  unfolding literals_of
  literal_is p h =
      let t : p < literal_total (classes_of d) (entries_of d) = omega (arith, tabled_total d (valid_tabled d ok)) in
      let f = origin_literal (classes_of d) no_entry (origin 0 0) (entries_of d) p t in
      record {
        inside = let u = f.inside in omega (arith, entries_length d);
        below = f.below;
        literal = f.literal;
        entry = origin_at d (valid_tabled d ok) p (omega (arith, length_origins (classes_of d) 0 (entries_of d)));
      }

  -- the letters of each class ascend
  pub classes_proper : Proper (classes_of d)
  classes_proper = proper (classes_of d) (sound_classes d (valid_sound d ok)) (classes_outside d)

  pub literals_shaped : (p : ℕ) → p < length (literals_of d) → LiteralShaped (get_or (literals_of d) p no_entry).rule
  literals_shaped p h =
      let f = literal_is p (omega (arith, total_is)) in
      subst (λ (x : Entry). LiteralShaped x.rule) (sym f.literal)
      (literal_shaped (classes_of d) (classes_low d) (entry_at d (get_or (origins_of d) p (origin 0 0)).place).rule (let b = f.below in omega arith)
      (entry_shaped d ok (get_or (origins_of d) p (origin 0 0)).place f.inside) (get_or (origins_of d) p (origin 0 0)).ordinal)
