-- Lists of edits: what the edit functions give, one after the other, is what the ledger gives; no number is issued twice.
-- Assumes nothing.
use Prim.Native.Nat.{ℕ, zero, suc, ◌+◌, ◌<◌}
use mathlib.Core.Path.{◌≡◌, refl, sym, ap, ap₂, ◌∙◌}
use mathlib.Core.List.{List, [], ◌∷◌}
use mathlib.Core.Bool.{true, false}
use native.Mathlib.Omega.{arith}
use lib.ListN.{length, get_or}
use Rattle.rules.specs.Refusals.{Reply, accepted, declined}
use Rattle.rules.specs.declared.Numbered.{Numbered}
use Rattle.classes.specs.Setting.{list_uses}
use Rattle.image.specs.State.{Ledger, rules_of, relist, insert_at, remove_at, relocated}
use Rattle.image.specs.Image.{ledger_of, entries_of, last_of, laid, settled, valid, Edited, outcome}
use Rattle.image.proofs.Stored.{Fine, valid_fine}
use Rattle.image.proofs.Tests.{valid_long}
use Rattle.image.proofs.Whole.{relisted_ledger, relisted_valid, class_ledger, class_valid}
use Rattle.edits.specs.Ledger.{Edit, place_of, applied, judged, after, after_by, after_all, answers_all, issued_by, issued}
use Rattle.edits.specs.Ledger.Edit.{Add, Drop, Move, SetClass}
use Rattle.edits.specs.Edits.{outcome_by, edited, FilledEdit, out_all, image_all, issued_in}
use Rattle.edits.proofs.Applied.{can_set, add_fine, drop_fine, move_fine, set_ruled}

-- what one edit gives for an image, in the ledger's terms
pub record Stepped (d : List ℕ) (e : Edit) (o : Edited) : Type 0 where
  pub reply : o.reply ≡ judged (ledger_of d) e
  pub state : ledger_of o.image ≡ after (ledger_of d) e
  pub kept : valid o.image ≡ true

module _ (d : List ℕ) (ok : valid d ≡ true) where
  fine : Fine (ledger_of d)
  fine = valid_fine d ok

  unused : (c : ℕ) → list_uses c (rules_of (ledger_of d)) ≡ false → list_uses c (entries_of d) ≡ false
  unfolding entries_of
  unused c h = h

  relisted : (e : Edit) (l : List Numbered) (n : ℕ) → judged (ledger_of d) e ≡ accepted → applied (ledger_of d) e ≡ relist (ledger_of d) l n
      → Fine (relist (ledger_of d) l n) → Stepped d e (outcome accepted (settled (laid (relist (ledger_of d) l n) d)))
  relisted e l n j a f = record { reply = sym j; state = rw (j, a) (relisted_ledger d (valid_long d ok) l n f); kept = relisted_valid d (valid_long d ok) l n f }

  stepped_by : (e : Edit) → FilledEdit e → (a : Reply) → judged (ledger_of d) e ≡ a → Stepped d e (outcome_by a d e)
  stepped_by (Add r p) w accepted j =
      relisted (Add r p) (insert_at p (record { number = last_of d + 1; rule = r }) (ledger_of d).list) (last_of d + 1) j refl (add_fine (ledger_of d) fine r p w j)
  stepped_by (Drop n) w accepted j =
      relisted (Drop n) (remove_at (place_of n (ledger_of d).list) (ledger_of d).list) (last_of d) j refl (drop_fine (ledger_of d) fine n j)
  stepped_by (Move n p) w accepted j =
      relisted (Move n p) (relocated (place_of n (ledger_of d).list) p (ledger_of d).list) (last_of d) j refl (move_fine (ledger_of d) fine n p j)
  stepped_by (SetClass c l) w accepted j =
      let s = can_set (ledger_of d) c l j in
      record {
        reply = sym j;
        state = rw j (class_ledger d ok c s.symbol l s.letters);
        kept = class_valid d ok c s.symbol l s.letters (set_ruled (ledger_of d) fine c l s) (unused c s.unused);
      }
  stepped_by e w (declined x y) j = record { reply = sym j; state = rw j; kept = ok }

  pub stepped : (e : Edit) → FilledEdit e → Stepped d e (edited d e)
  unfolding edited
  stepped e w = rw ok (stepped_by e w (judged (ledger_of d) e) refl)

-- from any valid image they are the ledger's
pub history : (es : List Edit) → ((k : ℕ) → k < length es → FilledEdit (get_or es k (Drop 0))) → (d : List ℕ) → valid d ≡ true
    → (out_all d es ≡ answers_all (ledger_of d) es) × (ledger_of (image_all d es) ≡ after_all (ledger_of d) es)
history [] w d ok = (refl, refl)
history (e ∷ es) w d ok =
    let t = stepped d ok e (w 0 (omega arith)) in
    let r = history es (λ k h. w (suc k) (omega arith)) (edited d e).image t.kept in
    (rw (t.reply, ← t.state, r.0), r.1 ∙ ap (λ g. after_all g es) t.state)

-- and the image after them is valid
pub history_valid : (es : List Edit) → ((k : ℕ) → k < length es → FilledEdit (get_or es k (Drop 0))) → (d : List ℕ) → valid d ≡ true
    → valid (image_all d es) ≡ true
history_valid [] w d ok = ok
history_valid (e ∷ es) w d ok =
    history_valid es (λ k h. w (suc k) (omega arith)) (edited d e).image (stepped d ok e (w 0 (omega arith))).kept

-- and the numbers that accepted additions got, read from the images, are the ledger's
pub history_issued : (es : List Edit) → ((k : ℕ) → k < length es → FilledEdit (get_or es k (Drop 0))) → (d : List ℕ) → valid d ≡ true
    → issued_in d es ≡ issued (ledger_of d) es
history_issued [] w d ok = refl
history_issued (e ∷ es) w d ok =
    let t = stepped d ok e (w 0 (omega arith)) in
    let r = history_issued es (λ k h. w (suc k) (omega arith)) (edited d e).image t.kept in
    ap₂ (λ (a : Reply) (g : Ledger). issued_by a e g.last (issued_in (edited d e).image es)) t.reply t.state
    ∙ ap (issued_by (judged (ledger_of d) e) e (after (ledger_of d) e).last) (r ∙ ap (λ (g : Ledger). issued g es) t.state)

-- each number issued after a state is above its last
issued_by_above : (g : Ledger) (e : Edit) (a : Reply) (l : List ℕ) → ((k : ℕ) → k < length l → (after_by a g e).last < get_or l k 0)
    → (k : ℕ) → k < length (issued_by a e (after_by a g e).last l) → g.last < get_or (issued_by a e (after_by a g e).last l) k 0
issued_by_above g (Add r p) accepted l h zero u = omega arith
issued_by_above g (Add r p) accepted l h (suc k) u = omega (arith, h k (omega arith))
issued_by_above g (Drop n) accepted l h k u = h k u
issued_by_above g (Move n p) accepted l h k u = h k u
issued_by_above g (SetClass c m) accepted l h k u = h k u
issued_by_above g e (declined x y) l h k u = h k u

issued_above : (es : List Edit) (g : Ledger) (k : ℕ) → k < length (issued g es) → g.last < get_or (issued g es) k 0
issued_above [] g k u = absurd (omega arith)
issued_above (e ∷ es) g k u = issued_by_above g e (judged g e) (issued (after g e) es) (issued_above es (after g e)) k u

issued_by_apart : (g : Ledger) (e : Edit) (a : Reply) (l : List ℕ) → ((k : ℕ) → k < length l → (after_by a g e).last < get_or l k 0)
    → ((i j : ℕ) → i < j → j < length l → get_or l i 0 < get_or l j 0)
    → (i j : ℕ) → i < j → j < length (issued_by a e (after_by a g e).last l)
    → get_or (issued_by a e (after_by a g e).last l) i 0 < get_or (issued_by a e (after_by a g e).last l) j 0
issued_by_apart g (Add r p) accepted l h q i zero u v = absurd (omega arith)
issued_by_apart g (Add r p) accepted l h q zero (suc j) u v = omega (arith, h j (omega arith))
issued_by_apart g (Add r p) accepted l h q (suc i) (suc j) u v = q i j (omega arith) (omega arith)
issued_by_apart g (Drop n) accepted l h q i j u v = q i j u v
issued_by_apart g (Move n p) accepted l h q i j u v = q i j u v
issued_by_apart g (SetClass c m) accepted l h q i j u v = q i j u v
issued_by_apart g e (declined x y) l h q i j u v = q i j u v

-- the numbers that accepted additions get rise, so no two are the same
pub issued_rise : (es : List Edit) (g : Ledger) (i j : ℕ) → i < j → j < length (issued g es) → get_or (issued g es) i 0 < get_or (issued g es) j 0
issued_rise [] g i j u v = absurd (omega arith)
issued_rise (e ∷ es) g i j u v =
    issued_by_apart g e (judged g e) (issued (after g e) es) (issued_above es (after g e)) (issued_rise es (after g e)) i j u v
