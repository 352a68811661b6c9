-- The answer of an addition, test by test, and the numbers that the tests look at.
-- Assumes nothing.
use Prim.Native.Nat.{ℕ, ◌+◌, ◌*◌, ◌≤◌, ◌<◌}
use mathlib.Core.Path.{◌≡◌, sym, ap, ◌∙◌}
use mathlib.Core.List.{List}
use mathlib.Core.Bool.{true, false}
use native.Mathlib.Omega.{arith}
use borrow.Author.Tests.{le-leb, lt-leb, leb-false, lt-ltb, le-ltb}
use lib.ListN.{length, take, drop, length-drop}
use lib.Seq.{length-take-le}
use lib.Dec.{leb}
use Rattle.rules.proofs.Cases.{by_bool}
use Rattle.rules.proofs.Laws.{length_first, first_take}
use Rattle.rules.specs.Limits.{max_rules, max_number, max_edits, max_context}
use Rattle.rules.specs.Shape.{shape, view}
use Rattle.rules.specs.Refusals.{accepted, declined}
use Rattle.rules.specs.declared.Rule.{Rule}
use Rattle.classes.specs.Classes.{defined}
use Rattle.classes.specs.Counting.{capped}
use Rattle.classes.specs.Expansion.{size, literal_count, literal_total}
use Rattle.classes.specs.Masks.{masks_size, classes_in}
use Rattle.classes.proofs.Counts.{defined_count}
use Rattle.image.specs.State.{Ledger, rules_of}
use Rattle.image.specs.Image.{head_size, image_size, class_start, ledger_of, entries_of, classes_of, masks_in, valid, count_of, total_of}
use Rattle.image.proofs.Entries.{shaped}
use Rattle.image.proofs.Origins.{tabled_total}
use Rattle.image.proofs.Scan.{length_listed}
use Rattle.image.proofs.Tests.{valid_tabled}
use Rattle.edits.specs.Ledger.{judged}
use Rattle.edits.specs.Ledger.Edit.{Add}

-- ---- how many literal rules a rule has, counted to 513

pub masks-room : (d : List ℕ) → image_size ≤ length d → (masks : List ℕ) → masks ≡ masks_in d → masks_size ≤ length masks
masks-room d h masks e =
    let l : length (masks_in d) ≡ masks_size = length-take-le masks_size (drop class_start d) (simp length-drop (omega arith)) in
    omega (arith, ap (λ (m : List ℕ). length m) e)

-- the contexts of a rule that has the shape, as they are lent
module _ (r : Rule) (h : shape (view r) ≡ true) where
  pub left-most : r.left_len ≤ max_context
  left-most = omega (arith, (shaped (view r) h).left-most, length_first r.left_len r.left 0)

  pub right-most : r.right_len ≤ max_context
  right-most = omega (arith, (shaped (view r) h).right-most, length_first r.right_len r.right 0)

  pub contexts_told : length r.left ≡ max_context → length r.right ≡ max_context → (d masks : List ℕ) → masks ≡ masks_in d → (n : ℕ)
      → n ≡ capped (size (classes_in masks) (take r.left_len r.left) * size (classes_in masks) (take r.right_len r.right))
      → n ≡ capped (literal_count (classes_of d) (view r))
  unfolding classes_of
  contexts_told a b d masks m n e =
      let l = first_take r.left_len r.left 0 (omega (arith, a, left-most)) in
      let g = first_take r.right_len r.right 0 (omega (arith, b, right-most)) in
      rw (l, g, ← m) e

capped_one : (x : ℕ) → leb 1 (capped x) ≡ leb 1 x
capped_one x = by_bool (leb x max_rules) (λ e. rw e) (λ e. rw e (sym (le-leb 1 x (omega (arith, leb-false x max_rules e)))))

capped_full : (x t : ℕ) → max_rules < t + capped x → max_rules < x + t
capped_full x t = by_bool (leb x max_rules) (λ e. rw e (λ h. omega arith)) (λ e h. omega (arith, leb-false x max_rules e))

capped_few : (x t : ℕ) → t + capped x ≤ max_rules → x + t ≤ max_rules
capped_few x t = by_bool (leb x max_rules) (λ e. rw e (λ h. omega arith)) (λ e. rw e (λ h. absurd (omega arith)))

-- ---- the answer of an addition, test by test

module _ (g : Ledger) (r : Rule) (p : ℕ) where
  pub add_shape : shape (view r) ≡ false → declined 6 0 ≡ judged g (Add r p)
  unfolding judged
  add_shape h = rw h

  module _ (h : shape (view r) ≡ true) (n : ℕ) (c : n ≡ capped (literal_count g.classes (view r))) where
    known : defined g.classes (view r) ≡ leb 1 n
    known = defined_count g.classes (view r) ∙ (sym (capped_one (literal_count g.classes (view r))) ∙ ap (leb 1) (sym c))

    pub add_class : n ≡ 0 → declined 20 0 ≡ judged g (Add r p)
    unfolding judged
    add_class z = rw (h, known, z)

    module _ (u : n ≡ 0 → ⊥) (count : ℕ) (l : count ≡ length g.list) where
      has : defined g.classes (view r) ≡ true
      has = known ∙ le-leb 1 n (omega arith)

      pub add_place : count < p → declined 7 0 ≡ judged g (Add r p)
      unfolding judged
      add_place v = rw (h, has, ← l, lt-leb p count v)

      module _ (v : p ≤ count) (total : ℕ) (t : total ≡ literal_total g.classes (rules_of g)) where
        abbrev x : ℕ
        x = literal_count g.classes (view r)

        pub add_full : max_rules < total + n → declined 21 0 ≡ judged g (Add r p)
        unfolding judged
        add_full w = rw (h, has, ← l, le-leb p count v, ← t, lt-leb (x + total) max_rules (capped_full x total (rw (← c) w)))

        module _ (w : total + n ≤ max_rules) (last : ℕ) (e : last ≡ g.last) where
          few : leb (x + total) max_rules ≡ true
          few = le-leb (x + total) max_rules (capped_few x total (rw (← c) w))

          pub add_last : max_number ≤ last → declined 10 0 ≡ judged g (Add r p)
          unfolding judged
          add_last y = rw (h, has, ← l, le-leb p count v, ← t, few, ← e, le-ltb last max_number y)

          module _ (y : last < max_number) (edits : ℕ) (m : edits ≡ g.edits) where
            pub add_spent : max_edits ≤ edits → declined 23 0 ≡ judged g (Add r p)
            unfolding judged
            add_spent z = rw (h, has, ← l, le-leb p count v, ← t, few, ← e, lt-ltb last max_number y, ← m, le-ltb edits max_edits z)

            pub add_accepted : edits < max_edits → accepted ≡ judged g (Add r p)
            unfolding judged
            add_accepted z = rw (h, has, ← l, le-leb p count v, ← t, few, ← e, lt-ltb last max_number y, ← m, lt-ltb edits max_edits z)

-- count and total of an image are those of its rules
pub count-is : (d : List ℕ) → count_of d ≡ length (ledger_of d).list
count-is d = sym (length_listed (count_of d) (drop head_size d))

pub total_is : (d : List ℕ) → valid d ≡ true → total_of d ≡ literal_total (classes_of d) (rules_of (ledger_of d))
unfolding entries_of
total_is d ok = tabled_total d (valid_tabled d ok)
