-- Images after a change, with the table of their rules and classes: what state they hold, and that they are rulesets.
--     settled-ledger, settled-valid      the table laid anew
--     relisted-ledger, relisted-valid    other rules, and then the table
--     class-ledger, class-valid          a class set that no rule uses
--     whole-ledger, whole-valid          a whole state
-- Assumes nothing.
use Prim.Native.Nat.{ℕ, ◌+◌, ◌-◌, ◌*◌, ◌/◌, ◌%◌, ◌≤◌}
use mathlib.Core.Path.{◌≡◌, refl, sym, ap, ap₂, ◌∙◌}
use mathlib.Core.List.{List, [], ◌∷◌, ◌++◌, append-nil}
use mathlib.Core.Bool.{true, false, ◌&&◌}
use native.Mathlib.Omega.{arith}
use borrow.Author.Tests.{eq-eqb}
use lib.Dec.{leb, eqb}
use lib.ListN.{length, get_or, take, drop}
use lib.Seq.{drop_at, drop-drop, take_at, length-take-le, get_or-drop}
use Rattle.image.proofs.Lent.{part_long}
use Rattle.rules.specs.Limits.{max_rules}
use Rattle.rules.specs.Memory.{over, over_at}
use Rattle.rules.specs.Shape.{Entry}
use Rattle.rules.specs.declared.Numbered.{Numbered}
use Rattle.rules.proofs.Cases.{and_i, and_l, and_r}
use Rattle.rules.proofs.Memory.{over_at_length}
use Rattle.classes.specs.Classes.{Classes, is_class, letter_set, OnlyClasses}
use Rattle.classes.specs.Expansion.{literal_total}
use Rattle.classes.specs.Masks.{masks_size, masks_of, classes_in, classes_shaped, with_mask}
use Rattle.classes.specs.Ordinal.{Origin, origins}
use Rattle.classes.specs.Setting.{with_class, list_uses}
use Rattle.classes.proofs.Bytes.{with-mask, with_mask_long, length_masks, masks_classes}
use Rattle.classes.proofs.Ordinal.{length_origins}
use Rattle.classes.proofs.Setting.{total_kept, origins_kept}
use Rattle.image.specs.State.{Ledger, relist, rules_of, ruleset_of, entries, distinct, is_ruleset}
use Rattle.image.specs.Image.{head_size, image_size, class_start, origin_size, total_start, table_start, origins_at, origin_bytes, table_bytes, total_of, count_of, last_of, edits_of, masks_in, ledger_of, entries_of, classes_of, origins_of, laid, with_classes, with_class_at, sound, tabled, valid, settled, whole}
use Rattle.image.proofs.Scan.{length_listed}
use Rattle.image.proofs.Front.{rules_same, last_same, edits_same}
use Rattle.image.proofs.Settling.{at_front, bytes_long, same_ledger, same_classes, same_entries, few_literals}
use Rattle.image.proofs.Stored.{Fine, fine_held, sound_by, laid_long, laid_state, sound_fine}
use Rattle.image.proofs.Tests.{valid_tests, valid_sound, valid_tabled, sound_long, sound_count, sound_slots}

-- ---- what lies from a place on

-- laid there, and after it
pub at_here : (a : ℕ) (x d : List ℕ) → a ≤ length d → drop a (over_at a x d) ≡ over x (drop a d)
at_here a x d h = drop_at (take a d) (over x (drop a d)) a (length-take-le a d h)

pub at_part : (a : ℕ) (x d : List ℕ) → a ≤ length d → take (length x) (drop a (over_at a x d)) ≡ x
at_part a x d h = ap (take (length x)) (at_here a x d h) ∙ take_at x (drop (length x) (drop a d)) (length x) refl

pub at_past : (a n : ℕ) (x d : List ℕ) → a + length x ≤ n → a ≤ length d → drop n (over_at a x d) ≡ drop n d
at_past a n x d u h =
    let e : a + (length x + (n - (a + length x))) ≡ n = omega arith in
    ap (λ (i : ℕ). drop i (over_at a x d)) (sym e)
    ∙ (sym (drop-drop (length x + (n - (a + length x))) a (over_at a x d))
    ∙ (ap (drop (length x + (n - (a + length x)))) (at_here a x d h)
    ∙ (sym (drop-drop (n - (a + length x)) (length x) (over x (drop a d)))
    ∙ (ap (drop (n - (a + length x))) (drop_at x (drop (length x) (drop a d)) (length x) refl)
    ∙ (drop-drop (n - (a + length x)) (length x) (drop a d) ∙ (drop-drop (length x + (n - (a + length x))) a d ∙ ap (λ (i : ℕ). drop i d) e))))))

-- ---- the table laid anew

origins_read : (l : List Origin) (r : List ℕ) → origins_at l (origin_bytes l ++ r) ≡ true
origins_read [] r = refl
origins_read (o ∷ l) r =
    let a : 256 * (o.place / 256) + o.place % 256 ≡ o.place = omega arith in
    let b : 256 * (o.ordinal / 256) + o.ordinal % 256 ≡ o.ordinal = omega arith in
    and_i (and_i (eq-eqb _ o.place a) (eq-eqb _ o.ordinal b)) (origins_read l r)

module _ (d : List ℕ) (ok : sound d ≡ true) where
  abbrev bytes : List ℕ
  bytes = table_bytes (classes_of d) (entries_of d)

  table_size : length bytes ≡ 2 + origin_size * literal_total (classes_of d) (entries_of d)
  table_size = omega (arith, bytes_long (origins_of d), length_origins (classes_of d) 0 (entries_of d))

  table_room : total_start + length bytes ≤ length d
  table_room = omega (arith, table_size, few_literals d ok, sound_long d ok)

  pub settled_long : length (settled d) ≡ length d
  unfolding settled
  settled_long = over_at_length bytes d total_start table_room

  settled_front : take total_start (settled d) ≡ take total_start d
  unfolding settled
  settled_front = at_front total_start total_start bytes d (omega arith) (omega (arith, table_room))

  pub settled_ledger : ledger_of (settled d) ≡ ledger_of d
  settled_ledger = same_ledger (settled d) d settled_front settled_long (sound_slots d ok)

  settled_rest : drop total_start (settled d) ≡ over bytes (drop total_start d)
  unfolding settled
  settled_rest = at_here total_start bytes d (omega (arith, table_room))

  total_read : total_of (settled d) ≡ literal_total (classes_of d) (entries_of d)
  total_read =
      let t : ℕ = literal_total (classes_of d) (entries_of d) in
      let e : 256 * (literal_total (classes_of d) (entries_of d) / 256) + literal_total (classes_of d) (entries_of d) % 256 ≡ literal_total (classes_of d) (entries_of d) = omega arith in
      ap₂ (λ (a b : ℕ). 256 * a + b) (sym (get_or-drop total_start (settled d) 0 0) ∙ ap (λ (s : List ℕ). get_or s 0 0) settled_rest)
      (sym (get_or-drop total_start (settled d) 1 0) ∙ ap (λ (s : List ℕ). get_or s 1 0) settled_rest)
      ∙ e

  table_read : origins_at (origins_of d) (drop table_start (settled d)) ≡ true
  table_read =
      ap (origins_at (origins_of d)) (sym (drop-drop 2 total_start (settled d)) ∙ ap (drop 2) settled_rest)
      ∙ origins_read (origins_of d) (drop (length bytes) (drop total_start d))

  pub settled_valid : valid (settled d) ≡ true
  unfolding tabled
  settled_valid =
      let c = same_classes (settled d) d settled_front settled_long (sound_slots d ok) in
      let e = same_entries (settled d) d settled_front settled_long (sound_slots d ok) in
      valid_tests (settled d)
      ∙ and_i (sound_by (settled d) (ledger_of d) settled_ledger (omega (arith, settled_long, sound_long d ok)) (sound_fine d ok))
      (and_i (eq-eqb (total_of (settled d)) _ (total_read ∙ ap₂ literal_total (sym c) (sym e)))
      (ap₂ (λ (k : Classes) (l : List Entry). origins_at (origins k 0 l) (drop table_start (settled d))) c e ∙ table_read))

-- ---- other rules, and then the table

module _ (d : List ℕ) (long : image_size ≤ length d) (l : List Numbered) (n : ℕ) (fine : Fine (relist (ledger_of d) l n)) where
  abbrev next : Ledger
  next = relist (ledger_of d) l n

  laid_next : ledger_of (laid next d) ≡ next
  laid_next = laid_state d long next (fine_held next fine) fine.filled

  pub laid_sound : sound (laid next d) ≡ true
  laid_sound = sound_by (laid next d) next laid_next (omega (arith, laid_long d long next (fine_held next fine) fine.filled)) fine

  pub relisted_ledger : ledger_of (settled (laid next d)) ≡ next
  relisted_ledger = settled_ledger (laid next d) laid_sound ∙ laid_next

  pub relisted_valid : valid (settled (laid next d)) ≡ true
  relisted_valid = settled_valid (laid next d) laid_sound

-- ---- a class set that no rule uses

module _ (d : List ℕ) (ok : valid d ≡ true) (c : ℕ) (symbol : is_class c ≡ true) (l : List ℕ) (set : letter_set l ≡ true) where
  class_room : image_size ≤ length d
  class_room = sound_long d (valid_sound d ok)

  masks_long : length (masks_in d) ≡ masks_size
  masks_long = part_long d class_room

  mask_long : length (with_mask c l (masks_in d)) ≡ masks_size
  mask_long = with_mask_long (masks_in d) (omega (arith, masks_long)) c symbol l ∙ masks_long

  pub class_long : length (with_class_at c l d) ≡ length d
  class_long = over_at_length (with_mask c l (masks_in d)) d class_start (omega (arith, mask_long, class_room))

  class_front : take class_start (with_class_at c l d) ≡ take class_start d
  class_front = at_front class_start class_start (with_mask c l (masks_in d)) d (omega arith) (omega (arith, class_room))

  classes_are : classes_of (with_class_at c l d) ≡ with_class (classes_of d) c l
  unfolding classes_of
  classes_are =
      ap classes_in (ap (λ (n : ℕ). take n (drop class_start (with_class_at c l d))) (sym mask_long) ∙ at_part class_start (with_mask c l (masks_in d)) d (omega (arith, class_room)))
      ∙ with-mask (masks_in d) (omega (arith, masks_long)) c symbol l set

  abbrev reset : Ledger
  reset = record { list = (ledger_of d).list; last = last_of d; classes = with_class (classes_of d) c l; edits = edits_of d }

  pub class_ledger : ledger_of (with_class_at c l d) ≡ reset
  class_ledger =
      let few = sound_count d (valid_sound d ok) in
      rw (rules_same (with_class_at c l d) d few class_front, last_same (with_class_at c l d) d few class_front, edits_same (with_class_at c l d) d few class_front, classes_are)

  entries_are : entries_of (with_class_at c l d) ≡ entries_of d
  unfolding entries_of
  entries_are = ap rules_of class_ledger

  pub class_valid : is_ruleset (ruleset_of reset) ≡ true → list_uses c (entries_of d) ≡ false → valid (with_class_at c l d) ≡ true
  unfolding tabled
  class_valid ruled unused =
      let past : (n : ℕ) → total_start ≤ n → drop n (with_class_at c l d) ≡ drop n d =
      λ n u. at_past class_start n (with_mask c l (masks_in d)) d (omega (arith, mask_long)) (omega (arith, class_room)) in
      let t : total_of (with_class_at c l d) ≡ total_of d =
      ap₂ (λ (a b : ℕ). 256 * a + b)
      (sym (get_or-drop total_start (with_class_at c l d) 0 0) ∙ (ap (λ (s : List ℕ). get_or s 0 0) (past total_start (omega arith)) ∙ get_or-drop total_start d 0 0))
      (sym (get_or-drop total_start (with_class_at c l d) 1 0) ∙ (ap (λ (s : List ℕ). get_or s 1 0) (past total_start (omega arith)) ∙ get_or-drop total_start d 1 0)) in
      let m : literal_total (classes_of (with_class_at c l d)) (entries_of (with_class_at c l d)) ≡ literal_total (classes_of d) (entries_of d) =
      ap₂ literal_total classes_are entries_are ∙ total_kept (classes_of d) c l (entries_of d) unused in
      let o : origins_of (with_class_at c l d) ≡ origins_of d =
      ap₂ (λ (k : Classes) (e : List Entry). origins k 0 e) classes_are entries_are ∙ origins_kept (classes_of d) c l 0 (entries_of d) unused in
      valid_tests (with_class_at c l d)
      ∙ and_i (sound_by (with_class_at c l d) reset class_ledger (omega (arith, class_long, class_room)) (record { ruled = ruled; filled = (sound_fine d (valid_sound d ok)).filled }))
      (ap₂ (λ (a b : ℕ). eqb a b && origins_at (origins_of (with_class_at c l d)) (drop table_start (with_class_at c l d))) t m
      ∙ (ap₂ (λ (a : List Origin) (s : List ℕ). eqb (total_of d) (literal_total (classes_of d) (entries_of d)) && origins_at a s) o (past table_start (omega arith))
      ∙ valid_tabled d ok))

-- ---- a whole state

module _ (d : List ℕ) (long : image_size ≤ length d) (g : Ledger) (fine : Fine g) (outside : OnlyClasses g.classes) where
  abbrev based : List ℕ
  based = laid g d

  abbrev classed : List ℕ
  classed = with_classes g.classes based

  based_long : length based ≡ length d
  based_long = laid_long d long g (fine_held g fine) fine.filled

  classed_long : length classed ≡ length d
  classed_long = over_at_length (masks_of g.classes) based class_start (omega (arith, based_long, length_masks g.classes)) ∙ based_long

  classed_front : take class_start classed ≡ take class_start based
  classed_front = at_front class_start class_start (masks_of g.classes) based (omega arith) (omega (arith, based_long))

  based_state : ledger_of based ≡ record { list = g.list; last = g.last; classes = classes_of d; edits = g.edits }
  based_state = laid_state d long g (fine_held g fine) fine.filled

  based_few : count_of based ≤ max_rules
  based_few =
      omega (arith, length_listed (count_of based) (drop head_size based), ap (λ (x : Ledger). length x.list) based_state, fine_held g fine)

  g_shaped : classes_shaped g.classes ≡ true
  unfolding is_ruleset
  g_shaped = and_l _ _ (and_r (distinct (rules_of g)) _ (and_r (entries g.last (rules_of g)) _ (and_r (leb (length (rules_of g)) max_rules) _ fine.ruled)))

  classes_read : classes_of classed ≡ g.classes
  unfolding classes_of
  classes_read =
      ap classes_in (ap (λ (n : ℕ). take n (drop class_start classed)) (sym (length_masks g.classes)) ∙ at_part class_start (masks_of g.classes) based (omega (arith, based_long)))
      ∙ (ap classes_in (sym (append-nil (masks_of g.classes))) ∙ masks_classes g.classes [] g_shaped outside)

  classed_ledger : ledger_of classed ≡ g
  classed_ledger =
      rw (rules_same classed based based_few classed_front ∙ ap (λ (x : Ledger). x.list) based_state, last_same classed based based_few classed_front ∙ ap (λ (x : Ledger). x.last) based_state, edits_same classed based based_few classed_front ∙ ap (λ (x : Ledger). x.edits) based_state, classes_read)

  pub classed_sound : sound classed ≡ true
  classed_sound = sound_by classed g classed_ledger (omega (arith, classed_long)) fine

  pub whole_ledger : ledger_of (whole g d) ≡ g
  unfolding whole
  whole_ledger = settled_ledger classed classed_sound ∙ classed_ledger

  pub whole_valid : valid (whole g d) ≡ true
  unfolding whole
  whole_valid = settled_valid classed classed_sound
