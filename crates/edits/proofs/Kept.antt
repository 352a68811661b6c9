-- An edit of a valid ruleset leaves a valid one: what it keeps, over the rules as entries.
-- Assumes nothing.
use Prim.Native.Nat.{ℕ, zero, suc, ◌+◌, ◌≤◌, ◌<◌}
use mathlib.Core.Path.{◌≡◌, refl, sym, ap, ◌∙◌}
use mathlib.Core.List.{List, [], ◌∷◌, map}
use mathlib.Core.Bool.{true, false}
use native.Mathlib.Omega.{arith}
use borrow.Author.Tests.{le-leb, leb-true, eqb-false, ne_eqb}
use lib.ListN.{length, get_or}
use lib.Dec.{leb, eqb}
use Rattle.rules.proofs.Cases.{and_l, and_r, and_i, or_l, or_r, or_i, new_l, new_r, new_i}
use Rattle.rules.specs.Shape.{shape, Entry, entry_of}
use Rattle.rules.specs.declared.Numbered.{Numbered}
use Rattle.classes.specs.Classes.{Classes, defined}
use Rattle.classes.specs.Expansion.{literal_count, literal_total}
use Rattle.classes.specs.Setting.{with_class, rule_uses, list_uses}
use Rattle.classes.proofs.Counts.{count_pos}
use Rattle.classes.proofs.Setting.{defined_kept}
use Rattle.image.specs.State.{no_entry, no_numbered, entry, entries, member, distinct, all_defined, insert_at, remove_at}

eqb_turn : (m n : ℕ) → eqb m n ≡ false → eqb n m ≡ false
eqb_turn m n h = ne_eqb n m (λ (e : n ≡ m). eqb-false m n h (sym e))

-- entries

pub entry_more : (a b : ℕ) (x : Entry) → a ≤ b → entry a x ≡ true → entry b x ≡ true
entry_more a b x h e =
    let s = and_l (shape x.rule) _ e in
    let r = and_r (shape x.rule) _ e in
    let u : x.number ≤ a = leb-true _ _ (and_r (leb 1 x.number) _ r) in
    and_i s (and_i (and_l (leb 1 x.number) _ r) (le-leb x.number b (omega arith)))

pub entries_more : (a b : ℕ) (l : List Entry) → a ≤ b → entries a l ≡ true → entries b l ≡ true
entries_more a b [] h e = refl
entries_more a b (x ∷ l) h e = and_i (entry_more a b x h (and_l (entry a x) _ e)) (entries_more a b l h (and_r (entry a x) _ e))

pub entries_insert : (a p : ℕ) (x : Entry) (l : List Entry) → entry a x ≡ true → entries a l ≡ true → entries a (insert_at p x l) ≡ true
entries_insert a zero x l h e = and_i h e
entries_insert a (suc p) x [] h e = and_i h refl
entries_insert a (suc p) x (y ∷ l) h e = and_i (and_l (entry a y) _ e) (entries_insert a p x l h (and_r (entry a y) _ e))

pub entries_remove : (a k : ℕ) (l : List Entry) → entries a l ≡ true → entries a (remove_at k l) ≡ true
entries_remove a k [] e = refl
entries_remove a zero (y ∷ l) e = and_r (entry a y) _ e
entries_remove a (suc k) (y ∷ l) e = and_i (and_l (entry a y) _ e) (entries_remove a k l (and_r (entry a y) _ e))

pub entries_at : (a k : ℕ) (l : List Entry) → k < length l → entries a l ≡ true → entry a (get_or l k no_entry) ≡ true
entries_at a k [] h e = absurd (omega arith)
entries_at a zero (y ∷ l) h e = and_l (entry a y) _ e
entries_at a (suc k) (y ∷ l) h e = entries_at a k l (omega arith) (and_r (entry a y) _ e)

-- numbers

pub fresh : (a n : ℕ) (l : List Entry) → a < n → entries a l ≡ true → member n l ≡ false
fresh a n [] h e = refl
fresh a n (x ∷ l) h e =
    let u : x.number ≤ a = leb-true _ _ (and_r (leb 1 x.number) _ (and_r (shape x.rule) _ (and_l (entry a x) _ e))) in
    or_i (ne_eqb x.number n (λ (q : x.number ≡ n). omega arith)) (fresh a n l h (and_r (entry a x) _ e))

member_insert : (n p : ℕ) (x : Entry) (l : List Entry) → eqb x.number n ≡ false → member n l ≡ false → member n (insert_at p x l) ≡ false
member_insert n zero x l h e = or_i h e
member_insert n (suc p) x [] h e = or_i h refl
member_insert n (suc p) x (y ∷ l) h e = or_i (or_l (eqb y.number n) _ e) (member_insert n p x l h (or_r (eqb y.number n) _ e))

pub distinct_insert : (p : ℕ) (x : Entry) (l : List Entry) → member x.number l ≡ false → distinct l ≡ true → distinct (insert_at p x l) ≡ true
distinct_insert zero x l h e = new_i h e
distinct_insert (suc p) x [] h e = refl
distinct_insert (suc p) x (y ∷ l) h e =
    new_i
    (member_insert y.number p x l (eqb_turn y.number x.number (or_l (eqb y.number x.number) _ h)) (new_l (member y.number l) _ e))
    (distinct_insert p x l (or_r (eqb y.number x.number) _ h) (new_r (member y.number l) _ e))

member_remove : (n k : ℕ) (l : List Entry) → member n l ≡ false → member n (remove_at k l) ≡ false
member_remove n k [] e = refl
member_remove n zero (y ∷ l) e = or_r (eqb y.number n) _ e
member_remove n (suc k) (y ∷ l) e = or_i (or_l (eqb y.number n) _ e) (member_remove n k l (or_r (eqb y.number n) _ e))

pub distinct_remove : (k : ℕ) (l : List Entry) → distinct l ≡ true → distinct (remove_at k l) ≡ true
distinct_remove k [] e = refl
distinct_remove zero (y ∷ l) e = new_r (member y.number l) _ e
distinct_remove (suc k) (y ∷ l) e =
    new_i (member_remove y.number k l (new_l (member y.number l) _ e)) (distinct_remove k l (new_r (member y.number l) _ e))

member_at : (n k : ℕ) (l : List Entry) → k < length l → member n l ≡ false → eqb (get_or l k no_entry).number n ≡ false
member_at n k [] h e = absurd (omega arith)
member_at n zero (y ∷ l) h e = or_l (eqb y.number n) _ e
member_at n (suc k) (y ∷ l) h e = member_at n k l (omega arith) (or_r (eqb y.number n) _ e)

pub taken_new : (k : ℕ) (l : List Entry) → k < length l → distinct l ≡ true → member (get_or l k no_entry).number (remove_at k l) ≡ false
taken_new k [] h e = absurd (omega arith)
taken_new zero (y ∷ l) h e = new_l (member y.number l) _ e
taken_new (suc k) (y ∷ l) h e =
    or_i
    (eqb_turn (get_or l k no_entry).number y.number (member_at y.number k l (omega arith) (new_l (member y.number l) _ e)))
    (taken_new k l (omega arith) (new_r (member y.number l) _ e))

-- literal rules

exchange : (a b c : ℕ) → a + (b + c) ≡ b + (a + c)
exchange a b c = omega arith

one_more : (a b n : ℕ) → n ≤ b → 1 ≤ a → suc n ≤ a + b
one_more a b n h k = omega arith

module _ (k : Classes) where
  pub defined_insert : (p : ℕ) (x : Entry) (l : List Entry) → defined k x.rule ≡ true → all_defined k l ≡ true → all_defined k (insert_at p x l) ≡ true
  defined_insert zero x l h e = and_i h e
  defined_insert (suc p) x [] h e = and_i h refl
  defined_insert (suc p) x (y ∷ l) h e = and_i (and_l (defined k y.rule) _ e) (defined_insert p x l h (and_r (defined k y.rule) _ e))

  pub defined_remove : (i : ℕ) (l : List Entry) → all_defined k l ≡ true → all_defined k (remove_at i l) ≡ true
  defined_remove i [] e = refl
  defined_remove zero (y ∷ l) e = and_r (defined k y.rule) _ e
  defined_remove (suc i) (y ∷ l) e = and_i (and_l (defined k y.rule) _ e) (defined_remove i l (and_r (defined k y.rule) _ e))

  pub defined_at : (i : ℕ) (l : List Entry) → i < length l → all_defined k l ≡ true → defined k (get_or l i no_entry).rule ≡ true
  defined_at i [] h e = absurd (omega arith)
  defined_at zero (y ∷ l) h e = and_l (defined k y.rule) _ e
  defined_at (suc i) (y ∷ l) h e = defined_at i l (omega arith) (and_r (defined k y.rule) _ e)

  pub total_insert : (p : ℕ) (x : Entry) (l : List Entry) → literal_total k (insert_at p x l) ≡ literal_count k x.rule + literal_total k l
  total_insert zero x l = refl
  total_insert (suc p) x [] = refl
  total_insert (suc p) x (y ∷ l) =
      ap (λ (n : ℕ). literal_count k y.rule + n) (total_insert p x l) ∙ exchange (literal_count k y.rule) (literal_count k x.rule) (literal_total k l)

  pub total_remove : (i : ℕ) (l : List Entry) → i < length l → literal_count k (get_or l i no_entry).rule + literal_total k (remove_at i l) ≡ literal_total k l
  total_remove i [] h = absurd (omega arith)
  total_remove zero (y ∷ l) h = refl
  total_remove (suc i) (y ∷ l) h =
      exchange (literal_count k (get_or l i no_entry).rule) (literal_count k y.rule) (literal_total k (remove_at i l))
      ∙ ap (λ (n : ℕ). literal_count k y.rule + n) (total_remove i l (omega arith))

  -- each rule has a literal rule, so there are at least as many literal rules
  pub total_long : (l : List Entry) → all_defined k l ≡ true → length l ≤ literal_total k l
  total_long [] e = omega arith
  total_long (y ∷ l) e =
      one_more (literal_count k y.rule) (literal_total k l) (length l) (total_long l (and_r (defined k y.rule) _ e))
      (count_pos k y.rule (and_l (defined k y.rule) _ e))

-- a class set that no rule uses
module _ (k : Classes) (c : ℕ) (m : List ℕ) where
  pub defined_still : (l : List Entry) → list_uses c l ≡ false → all_defined k l ≡ true → all_defined (with_class k c m) l ≡ true
  defined_still [] u e = refl
  defined_still (y ∷ l) u e =
      and_i (defined_kept k c m y.rule (or_l (rule_uses c y.rule) _ u) ∙ and_l (defined k y.rule) _ e)
      (defined_still l (or_r (rule_uses c y.rule) _ u) (and_r (defined k y.rule) _ e))

-- ---- a list of rules as they were handed in, and the same as entries

pub map_insert : (p : ℕ) (x : Numbered) (l : List Numbered) → map entry_of (insert_at p x l) ≡ insert_at p (entry_of x) (map entry_of l)
map_insert zero x l = refl
map_insert (suc p) x [] = refl
map_insert (suc p) x (y ∷ l) = ap (λ (m : List Entry). entry_of y ∷ m) (map_insert p x l)

pub map_remove : (k : ℕ) (l : List Numbered) → map entry_of (remove_at k l) ≡ remove_at k (map entry_of l)
map_remove k [] = refl
map_remove zero (y ∷ l) = refl
map_remove (suc k) (y ∷ l) = ap (λ (m : List Entry). entry_of y ∷ m) (map_remove k l)

pub map_at : (k : ℕ) (l : List Numbered) → k < length l → get_or (map entry_of l) k no_entry ≡ entry_of (get_or l k no_numbered)
map_at k [] h = absurd (omega arith)
map_at zero (y ∷ l) h = refl
map_at (suc k) (y ∷ l) h = map_at k l (omega arith)
