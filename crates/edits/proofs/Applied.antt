-- An accepted edit of a ruleset leaves a ruleset.
-- Assumes nothing.
use Prim.Native.Nat.{ℕ, zero, suc, ◌+◌, ◌≤◌, ◌<◌}
use mathlib.Core.Path.{◌≡◌, refl, sym, ap, ap₂, ◌∙◌}
use mathlib.Core.List.{List}
use mathlib.Core.Bool.{Bool, true, false, cond, not, ◌&&◌}
use native.Mathlib.Omega.{arith}
use borrow.Author.Tests.{le-leb, leb-true, ltb-true}
use lib.ListN.{length, get_or, length-map}
use lib.Dec.{leb, ltb}
use Rattle.rules.proofs.Cases.{and_l, and_r, and_i}
use Rattle.rules.specs.Limits.{max_rules, max_number, max_edits}
use Rattle.rules.specs.Shape.{shape, view, Entry, entry_of}
use Rattle.rules.specs.Refusals.{Reply, accepted, declined}
use Rattle.rules.specs.declared.Rule.{Rule}
use Rattle.rules.specs.declared.Numbered.{Numbered}
use Rattle.classes.specs.Classes.{Classes, is_class, letter_set, class_shape, defined}
use Rattle.classes.specs.Expansion.{literal_count, literal_total}
use Rattle.classes.specs.Masks.{classes_shaped}
use Rattle.classes.specs.Setting.{list_uses, settable}
use Rattle.classes.proofs.Bytes.{with_shaped}
use Rattle.classes.proofs.Counts.{count_pos}
use Rattle.classes.proofs.Setting.{total_kept}
use Rattle.classes.proofs.Shapes.{shape_set}
use Rattle.image.specs.State.{Ruleset, Ledger, rules_of, ruleset_of, entries, distinct, all_defined, expandable, is_ruleset, no_numbered, no_entry, insert_at, remove_at}
use Rattle.rule_bytes.specs.RuleBytes.{Filled}
use Rattle.image.proofs.Stored.{Each, none, more, Fine}
use Rattle.edits.specs.Ledger.{place_of, applied, judged}
use Rattle.edits.specs.Ledger.Edit.{Add, Drop, Move, SetClass}
use Rattle.edits.proofs.Kept.{entries_more, entries_insert, entries_remove, entries_at, fresh, distinct_insert, distinct_remove, taken_new, defined_insert, defined_remove, defined_at, total_insert, total_remove, total_long, defined_still, map_insert, map_remove, map_at}

-- ---- full arrays

each_insert : (p : ℕ) (x : Numbered) {l : List Numbered} → Filled x.rule → Each l → Each (insert_at p x l)
each_insert zero x f h = more f h
each_insert (suc p) x f none = more f none
each_insert (suc p) x f (more g h) = more g (each_insert p x f h)

each_remove : (k : ℕ) {l : List Numbered} → Each l → Each (remove_at k l)
each_remove k none = none
each_remove zero (more g h) = h
each_remove (suc k) (more g h) = more g (each_remove k h)

each_at : (k : ℕ) {l : List Numbered} → k < length l → Each l → Filled (get_or l k no_numbered).rule
each_at k u none = absurd (omega arith)
each_at zero u (more g h) = g
each_at (suc k) u (more g h) = each_at k (omega arith) h

-- ---- a ruleset, clause by clause; that it holds at most 512 rules follows

record Ruled (k : Classes) (last : ℕ) (l : List Entry) : Type 0 where
  pub each : entries last l ≡ true
  pub apart : distinct l ≡ true
  pub shaped : classes_shaped k ≡ true
  pub known : all_defined k l ≡ true
  pub few : literal_total k l ≤ max_rules

ruled : (b : Ruleset) → is_ruleset b ≡ true → Ruled b.classes b.last b.rules
unfolding is_ruleset expandable
ruled b h =
    let e = and_r (leb (length b.rules) max_rules) _ h in
    let a = and_r (entries b.last b.rules) _ e in
    let c = and_r (distinct b.rules) _ a in
    let x = and_r (classes_shaped b.classes) _ c in
    record {
      each = and_l (entries b.last b.rules) _ e;
      apart = and_l (distinct b.rules) _ a;
      shaped = and_l (classes_shaped b.classes) _ c;
      known = and_l (all_defined b.classes b.rules) _ x;
      few = leb-true _ _ (and_r (all_defined b.classes b.rules) _ x);
    }

is_ruled : (b : Ruleset) → Ruled b.classes b.last b.rules → is_ruleset b ≡ true
unfolding is_ruleset expandable
is_ruled b r =
    let h : length b.rules ≤ max_rules = omega (arith, total_long b.classes b.rules r.known, r.few) in
    and_i (le-leb _ _ h) (and_i r.each (and_i r.apart (and_i r.shaped (and_i r.known (le-leb _ _ r.few)))))

-- ---- what an accepted edit has passed

acc_l : (b : Bool) (a : Reply) (x y : ℕ) → cond b a (declined x y) ≡ accepted → b ≡ true
acc_l true a x y h = refl
acc_l false a x y h = let z : ◌≡◌ {A = ℕ} 0 1 = cc in absurd (omega arith)

acc_r : (b : Bool) (a : Reply) (x y : ℕ) → cond b a (declined x y) ≡ accepted → a ≡ accepted
acc_r true a x y h = h
acc_r false a x y h = let z : ◌≡◌ {A = ℕ} 0 1 = cc in absurd (omega arith)

not_l : (b : Bool) → not b ≡ true → b ≡ false
not_l true h = sym h
not_l false h = refl

pub record Addable (g : Ledger) (r : Rule) (p : ℕ) : Type 0 where
  pub shaped : shape (view r) ≡ true
  pub known : defined g.classes (view r) ≡ true
  pub place : p ≤ length g.list
  pub few : literal_count g.classes (view r) + literal_total g.classes (rules_of g) ≤ max_rules
  pub last : g.last < max_number
  pub edits : g.edits < max_edits

pub addable : (g : Ledger) (r : Rule) (p : ℕ) → judged g (Add r p) ≡ accepted → Addable g r p
unfolding judged
addable g r p j =
    let a = acc_r (shape (view r)) _ _ _ j in
    let b = acc_r (defined g.classes (view r)) _ _ _ a in
    let c = acc_r (leb p (length g.list)) _ _ _ b in
    let t : Bool = leb (literal_count g.classes (view r) + literal_total g.classes (rules_of g)) max_rules in
    record {
      shaped = acc_l (shape (view r)) _ _ _ j;
      known = acc_l (defined g.classes (view r)) _ _ _ a;
      place = leb-true _ _ (acc_l (leb p (length g.list)) _ _ _ b);
      few = leb-true _ _ (acc_l t _ _ _ c);
      last = ltb-true _ _ (acc_l (ltb g.last max_number) _ _ _ (acc_r t _ _ _ c));
      edits = ltb-true _ _ (acc_l (ltb g.edits max_edits) _ _ _ (acc_r (ltb g.last max_number) _ _ _ (acc_r t _ _ _ c)));
    }

-- a rule that brings a literal rule more needs a slot more, and there is one
pub room : (g : Ledger) (r : Rule) (p : ℕ) → is_ruleset (ruleset_of g) ≡ true → Addable g r p → length g.list < max_rules
room g r p h a =
    let n : length g.list ≤ literal_total g.classes (rules_of g) =
    omega (arith, length-map g.list entry_of, total_long g.classes (rules_of g) (ruled (ruleset_of g) h).known) in
    omega (arith, a.few, count_pos g.classes (view r) a.known)

droppable : (g : Ledger) (n : ℕ) → judged g (Drop n) ≡ accepted → place_of n g.list < length g.list
unfolding judged
droppable g n j = ltb-true _ _ (acc_l (ltb (place_of n g.list) (length g.list)) _ _ _ j)

movable : (g : Ledger) (n p : ℕ) → judged g (Move n p) ≡ accepted → place_of n g.list < length g.list
unfolding judged
movable g n p j = ltb-true _ _ (acc_l (ltb (place_of n g.list) (length g.list)) _ _ _ j)

pub record Settable (g : Ledger) (c : ℕ) (l : List ℕ) : Type 0 where
  pub symbol : is_class c ≡ true
  pub letters : letter_set l ≡ true
  pub unused : list_uses c (rules_of g) ≡ false

pub can_set : (g : Ledger) (c : ℕ) (l : List ℕ) → judged g (SetClass c l) ≡ accepted → Settable g c l
unfolding judged settable
can_set g c l j =
    let s = acc_l (is_class c && (class_shape l && not (list_uses c (rules_of g)))) _ _ _ j in
    let t = and_r (is_class c) _ s in
    record {
      symbol = and_l (is_class c) _ s;
      letters = shape_set l (and_l (class_shape l) _ t);
      unused = not_l (list_uses c (rules_of g)) (and_r (class_shape l) _ t);
    }

-- ---- it leaves a ruleset

module _ (g : Ledger) (f : Fine g) where
  abbrev k : Classes
  k = g.classes

  was : Ruled k g.last (rules_of g)
  was = ruled (ruleset_of g) f.ruled

  pub add_fine : (r : Rule) (p : ℕ) → Filled r → judged g (Add r p) ≡ accepted → Fine (applied g (Add r p))
  add_fine r p full j =
      let a = addable g r p j in
      let x : Numbered = record { number = g.last + 1; rule = r } in
      let e : rules_of (applied g (Add r p)) ≡ insert_at p (entry_of x) (rules_of g) = map_insert p x g.list in
      record {
        ruled = is_ruled (ruleset_of (applied g (Add r p))) (record {
          each = ap (entries (g.last + 1)) e ∙ entries_insert (g.last + 1) p (entry_of x) (rules_of g)
              (and_i a.shaped (and_i (le-leb 1 (g.last + 1) (omega arith)) (le-leb (g.last + 1) (g.last + 1) (omega arith))))
              (entries_more g.last (g.last + 1) (rules_of g) (omega arith) was.each);
          apart = ap distinct e ∙ distinct_insert p (entry_of x) (rules_of g) (fresh g.last (g.last + 1) (rules_of g) (omega arith) was.each) was.apart;
          shaped = was.shaped;
          known = ap (all_defined k) e ∙ defined_insert k p (entry_of x) (rules_of g) a.known was.known;
          few = rw (e, total_insert k p (entry_of x) (rules_of g)) a.few;
        });
        filled = each_insert p x full f.filled;
      }

  pub drop_fine : (n : ℕ) → judged g (Drop n) ≡ accepted → Fine (applied g (Drop n))
  drop_fine n j =
      let i : ℕ = place_of n g.list in
      let u = droppable g n j in
      let e : rules_of (applied g (Drop n)) ≡ remove_at i (rules_of g) = map_remove i g.list in
      let v : i < length (rules_of g) = omega (arith, length-map g.list entry_of) in
      record {
        ruled = is_ruled (ruleset_of (applied g (Drop n))) (record {
          each = ap (entries g.last) e ∙ entries_remove g.last i (rules_of g) was.each;
          apart = ap distinct e ∙ distinct_remove i (rules_of g) was.apart;
          shaped = was.shaped;
          known = ap (all_defined k) e ∙ defined_remove k i (rules_of g) was.known;
          few = rw e (omega (arith, total_remove k i (rules_of g) v, was.few));
        });
        filled = each_remove i f.filled;
      }

  pub move_fine : (n p : ℕ) → judged g (Move n p) ≡ accepted → Fine (applied g (Move n p))
  move_fine n p j =
      let i : ℕ = place_of n g.list in
      let u = movable g n p j in
      let v : i < length (rules_of g) = omega (arith, length-map g.list entry_of) in
      let x : Entry = get_or (rules_of g) i no_entry in
      let l : List Entry = remove_at i (rules_of g) in
      let e : rules_of (applied g (Move n p)) ≡ insert_at p x l =
      map_insert p (get_or g.list i no_numbered) (remove_at i g.list) ∙ ap₂ (insert_at p) (sym (map_at i g.list u)) (map_remove i g.list) in
      record {
        ruled = is_ruled (ruleset_of (applied g (Move n p))) (record {
          each = ap (entries g.last) e ∙ entries_insert g.last p x l (entries_at g.last i (rules_of g) v was.each) (entries_remove g.last i (rules_of g) was.each);
          apart = ap distinct e ∙ distinct_insert p x l (taken_new i (rules_of g) v was.apart) (distinct_remove i (rules_of g) was.apart);
          shaped = was.shaped;
          known = ap (all_defined k) e ∙ defined_insert k p x l (defined_at k i (rules_of g) v was.known) (defined_remove k i (rules_of g) was.known);
          few = rw (e, total_insert k p x l, total_remove k i (rules_of g) v) was.few;
        });
        filled = each_insert p (get_or g.list i no_numbered) (each_at i u f.filled) (each_remove i f.filled);
      }

  -- no rule uses the class, so the literal rules stay
  pub set_ruled : (c : ℕ) (l : List ℕ) → Settable g c l → is_ruleset (ruleset_of (applied g (SetClass c l))) ≡ true
  set_ruled c l s =
      is_ruled (ruleset_of (applied g (SetClass c l))) (record {
        each = was.each;
        apart = was.apart;
        shaped = with_shaped k c l s.letters was.shaped;
        known = defined_still k c l (rules_of g) s.unused was.known;
        few = rw (total_kept k c l (rules_of g) s.unused) was.few;
      })
