-- What `edited` is in each case of the functions' tests.
-- Assumes nothing.
use Prim.Native.Nat.{ℕ, suc, ◌+◌, ◌-◌, ◌≤◌, ◌<◌}
use mathlib.Core.Path.{◌≡◌, refl, sym, ap, ◌∙◌}
use mathlib.Core.List.{List, ◌++◌}
use mathlib.Core.Bool.{Bool, true, false, cond}
use native.Mathlib.Omega.{arith}
use borrow.Author.Tests.{eq-eqb, ne_eqb, le-leb, lt-leb, lt-ltb, le-ltb}
use lib.ListN.{length, take, drop}
use Rattle.std.specs.Prelude.{Some, None}
use Rattle.numbers.specs.Numbers.{bytes8}
use Rattle.rules.specs.Limits.{max_rules, max_number, max_edits, first_class, max_symbol}
use Rattle.rules.specs.Memory.{over_at}
use Rattle.rules.specs.Refusals.{Reply, accepted, declined}
use Rattle.rules.specs.declared.Rule.{Rule}
use Rattle.rules.specs.declared.Numbered.{Numbered}
use Rattle.classes.specs.Classes.{is_class, class_shape}
use Rattle.classes.specs.Masks.{mask_size, mask_start, mask_of, class_mask, with_mask}
use Rattle.classes.specs.Setting.{list_uses, settable}
use Rattle.image.specs.State.{rules_of, relist, insert_at, remove_at, relocated}
use Rattle.rule_bytes.specs.RuleBytes.{Filled}
use Rattle.image.specs.Image.{class_start, ledger_of, entries_of, masks_in, laid, settled, sound, valid, outcome, rules_in, numbered_at, count_of, last_of, edits_of}
use Rattle.slots.proofs.Laid.{length_remove_at}
use Rattle.image.proofs.Scan.{here}
use Rattle.image.proofs.Stored.{Fine, valid_fine}
use Rattle.image.proofs.Tests.{valid_long}
use Rattle.image.proofs.Whole.{laid_sound}
use Rattle.edits.specs.Ledger.{Edit, place_of, applied, judged}
use Rattle.edits.specs.Ledger.Edit.{Add, Drop, Move, SetClass}
use Rattle.edits.specs.Edits.{changed, edited}
use Rattle.edits.proofs.Applied.{Addable, addable, room, add_fine, drop_fine, move_fine}
use Rattle.edits.proofs.Judging.{count-is}

-- ---- the place of a number, scanned from slot i on

module _ (image : List ℕ) (n i : ℕ) (h : i < n) (m : ℕ) where
  pub place_hit : (x : ℕ) → x ≡ (numbered_at image i).number → x ≡ m → place_of m (drop i (rules_in n image)) ≡ 0
  place_hit x is e = rw (here image n i h, eq-eqb (numbered_at image i).number m (sym is ∙ e))

  pub place_miss : (x : ℕ) → x ≡ (numbered_at image i).number → (x ≡ m → ⊥) → place_of m (drop i (rules_in n image)) ≡ suc (place_of m (drop (i + 1) (rules_in n image)))
  place_miss x is e = rw (here image n i h, ne_eqb (numbered_at image i).number m (λ (q : (numbered_at image i).number ≡ m). e (is ∙ q)))

-- ---- a mask that may be none

none_of : (b : Bool) (n : ℕ) → None ≡ cond b (Some n) None → b ≡ false
none_of true n e = let z : ◌≡◌ {A = ℕ} 0 1 = cc in absurd (omega arith)
none_of false n e = refl

some_of : (b : Bool) (m n : ℕ) → Some m ≡ cond b (Some n) None → (b ≡ true) × (m ≡ n)
some_of true m n e = (refl, cc)
some_of false m n e = let z : ◌≡◌ {A = ℕ} 0 1 = cc in absurd (omega arith)

-- ---- what `edited` is

pub invalid : (d : List ℕ) (e : Edit) → valid d ≡ false → outcome (declined 0 0) d ≡ edited d e
unfolding edited
invalid d e h = rw h

module _ (d : List ℕ) (ok : valid d ≡ true) where
  no : (e : Edit) (n m : ℕ) → judged (ledger_of d) e ≡ declined n m → outcome (declined n m) d ≡ edited d e
  unfolding edited
  no e n m j = rw (ok, j)

  yes : (e : Edit) → judged (ledger_of d) e ≡ accepted → (z : List ℕ) → z ≡ changed d e → outcome accepted z ≡ edited d e
  unfolding edited
  yes e j z h = rw (ok, j, h)

  relisted : (l : List Numbered) (n : ℕ) → Fine (relist (ledger_of d) l n) → (z : List ℕ) → z ≡ laid (relist (ledger_of d) l n) d → sound z ≡ true
  relisted l n f z e = ap sound e ∙ laid_sound d (valid_long d ok) l n f

  long : (count : ℕ) → count ≡ count_of d → length (ledger_of d).list ≡ count
  long count c = sym (c ∙ count-is d)

  module _ (r : Rule) (p : ℕ) (a : Reply) (j : a ≡ judged (ledger_of d) (Add r p)) where
    pub add_no : (n m : ℕ) → a ≡ declined n m → outcome (declined n m) d ≡ edited d (Add r p)
    add_no n m e = no (Add r p) n m (sym j ∙ e)

    module _ (y : a ≡ accepted) where
      can : Addable (ledger_of d) r p
      can = addable (ledger_of d) r p (sym j ∙ y)

      pub add_below : last_of d < max_number
      add_below = can.last

      pub add_room : (p ≤ count_of d) × ((count_of d < max_rules) × (edits_of d < max_edits))
      add_room = (
        omega (arith, can.place, long (count_of d) refl),
        (omega (arith, room (ledger_of d) r p (valid_fine d ok).ruled can, long (count_of d) refl), can.edits),
      )

      module _ (full : Filled r) (last : ℕ) (l : last ≡ last_of d) (z : List ℕ)
          (e : z ≡ laid (relist (ledger_of d) (insert_at p (record { number = last + 1; rule = r }) (ledger_of d).list) (last + 1)) d) where
        same : z ≡ laid (applied (ledger_of d) (Add r p)) d
        same = e ∙ ap (λ (n : ℕ). laid (relist (ledger_of d) (insert_at p (record { number = n + 1; rule = r }) (ledger_of d).list) (n + 1)) d) l

        pub add_sound : sound z ≡ true
        add_sound =
            relisted (insert_at p (record { number = last_of d + 1; rule = r }) (ledger_of d).list) (last_of d + 1)
            (add_fine (ledger_of d) (valid_fine d ok) r p full (sym j ∙ y)) z same

        pub add_yes : (w : List ℕ) → w ≡ settled z → outcome accepted w ≡ edited d (Add r p)
        add_yes w q = yes (Add r p) (sym j ∙ y) w (q ∙ ap settled same)

  module _ (count : ℕ) (c : count ≡ count_of d) (n k : ℕ) (f : k ≡ place_of n (rules_in count d)) where
    found : place_of n (ledger_of d).list ≡ k
    found = sym (ap (λ (i : ℕ). place_of n (rules_in i d)) c) ∙ sym f

    rest : k < count → length (remove_at k (ledger_of d).list) ≡ count - 1
    rest u = length_remove_at k (ledger_of d).list (omega (arith, long count c)) ∙ ap (λ (i : ℕ). i - 1) (long count c)

    pub drop_none : count ≤ k → outcome (declined 8 0) d ≡ edited d (Drop n)
    unfolding judged
    drop_none u = no (Drop n) 8 0 (rw (found, long count c, le-ltb _ _ u))

    module _ (u : k < count) (edits : ℕ) (m : edits ≡ edits_of d) where
      pub drop_spent : max_edits ≤ edits → outcome (declined 23 0) d ≡ edited d (Drop n)
      unfolding judged
      drop_spent v = no (Drop n) 23 0 (rw (found, long count c, lt-ltb _ _ u, ← m, le-ltb _ _ v))

      module _ (v : edits < max_edits) where
        drops : judged (ledger_of d) (Drop n) ≡ accepted
        unfolding judged
        drops = rw (found, long count c, lt-ltb _ _ u, ← m, lt-ltb _ _ v)

        module _ (z : List ℕ) (e : z ≡ laid (relist (ledger_of d) (remove_at k (ledger_of d).list) (last_of d)) d) where
          dropped : z ≡ laid (applied (ledger_of d) (Drop n)) d
          dropped = e ∙ ap (λ (i : ℕ). laid (relist (ledger_of d) (remove_at i (ledger_of d).list) (last_of d)) d) (sym found)

          pub drop_sound : sound z ≡ true
          drop_sound =
              relisted (remove_at (place_of n (ledger_of d).list) (ledger_of d).list) (last_of d) (drop_fine (ledger_of d) (valid_fine d ok) n drops) z dropped

          pub drop_yes : (w : List ℕ) → w ≡ settled z → outcome accepted w ≡ edited d (Drop n)
          drop_yes w q = yes (Drop n) drops w (q ∙ ap settled dropped)

    module _ (p : ℕ) where
      pub move_none : count ≤ k → outcome (declined 8 0) d ≡ edited d (Move n p)
      unfolding judged
      move_none u = no (Move n p) 8 0 (rw (found, long count c, le-ltb _ _ u))

      module _ (u : k < count) where
        pub move_place : count ≤ p → outcome (declined 7 0) d ≡ edited d (Move n p)
        unfolding judged
        move_place v = no (Move n p) 7 0 (rw (found, long count c, lt-ltb _ _ u, rest u, lt-leb p (count - 1) (omega arith)))

        module _ (v : p < count) (edits : ℕ) (m : edits ≡ edits_of d) where
          pub move_spent : max_edits ≤ edits → outcome (declined 23 0) d ≡ edited d (Move n p)
          unfolding judged
          move_spent w = no (Move n p) 23 0 (rw (found, long count c, lt-ltb _ _ u, rest u, le-leb p (count - 1) (omega arith), ← m, le-ltb _ _ w))

          module _ (w : edits < max_edits) where
            moves : judged (ledger_of d) (Move n p) ≡ accepted
            unfolding judged
            moves = rw (found, long count c, lt-ltb _ _ u, rest u, le-leb p (count - 1) (omega arith), ← m, lt-ltb _ _ w)

            module _ (z : List ℕ) (e : z ≡ laid (relist (ledger_of d) (relocated k p (ledger_of d).list) (last_of d)) d) where
              moved : z ≡ laid (applied (ledger_of d) (Move n p)) d
              moved = e ∙ ap (λ (i : ℕ). laid (relist (ledger_of d) (relocated i p (ledger_of d).list) (last_of d)) d) (sym found)

              pub move_sound : sound z ≡ true
              move_sound =
                  relisted (relocated (place_of n (ledger_of d).list) p (ledger_of d).list) (last_of d)
                  (move_fine (ledger_of d) (valid_fine d ok) n p moves) z moved

              pub move_yes : (t : List ℕ) → t ≡ settled z → outcome accepted t ≡ edited d (Move n p)
              move_yes t q = yes (Move n p) moves t (q ∙ ap settled moved)

  module _ (c : ℕ) (l : List ℕ) where
    unsettable : settable (rules_of (ledger_of d)) c l ≡ false → outcome (declined 20 0) d ≡ edited d (SetClass c l)
    unfolding judged
    unsettable e = no (SetClass c l) 20 0 (rw e)

    pub set_low : c < first_class → outcome (declined 20 0) d ≡ edited d (SetClass c l)
    unfolding settable
    set_low h = unsettable (rw (lt-leb first_class c h))

    module _ (h : first_class ≤ c) where
      pub set_high : max_symbol < c → outcome (declined 20 0) d ≡ edited d (SetClass c l)
      unfolding settable
      set_high u = unsettable (rw (le-leb first_class c h, le-ltb c 96 (omega arith)))

      module _ (u : c ≤ max_symbol) where
        within : is_class c ≡ true
        within = rw (le-leb first_class c h, lt-ltb c 96 (omega arith))

        pub set_letters : None ≡ class_mask l → outcome (declined 20 0) d ≡ edited d (SetClass c l)
        unfolding settable
        set_letters e = unsettable (rw (within, none_of (class_shape l) (mask_of l) e))

        module _ (mask : ℕ) (m : Some mask ≡ class_mask l) where
          module _ (b : Bool) (used : b ≡ list_uses c (entries_of d)) where
            class_shaped : class_shape l ≡ true
            class_shaped = (some_of (class_shape l) mask (mask_of l) m).0

            pub set_used : b ≡ true → outcome (declined 20 0) d ≡ edited d (SetClass c l)
            unfolding settable entries_of
            set_used e = unsettable (rw (within, class_shaped, ← used, e))

            pub set_yes : b ≡ false → (z : List ℕ)
                → z ≡ over_at class_start (take (mask_start c) (masks_in d) ++ (bytes8 mask ++ drop (mask_start c + mask_size) (masks_in d))) d
                → outcome accepted z ≡ edited d (SetClass c l)
            unfolding judged settable entries_of with_mask
            set_yes e z q =
                let t : mask ≡ mask_of l = (some_of (class_shape l) mask (mask_of l) m).1 in
                yes (SetClass c l) (rw (within, class_shaped, ← used, e)) z
                (q ∙ ap (λ (x : ℕ). over_at class_start (take (mask_start c) (masks_in d) ++ (bytes8 x ++ drop (mask_start c + mask_size) (masks_in d))) d) t)
