-- Laws of coded edits and of a replay's turns.
-- Assumes nothing.
use Prim.Native.Nat.{ℕ, zero, suc, ◌+◌, ◌-◌, ◌*◌, ◌≤◌, ◌<◌, ◌%◌, min}
use mathlib.Core.Path.{◌≡◌, refl, sym, ap, ap₂, ◌∙◌}
use mathlib.Core.List.{List, [], ◌∷◌, ◌++◌, map, append_assoc, append-nil}
use mathlib.Core.Bool.{Bool, true, false, cond}
use native.Mathlib.Omega.{arith}
use borrow.Author.Tests.{eq-eqb, ne_eqb, leb-true, leb-false}
use lib.ListN.{length, get_or, take, drop, drop_of_length-le, set, length-set, length-drop, length-append}
use lib.Seq.{drop-drop, take_all}
use lib.Dec.{leb, eqb}
use Rattle.rules.specs.Memory.{over}
use Rattle.rules.specs.Refusals.{Reply, accepted, declined, reply_code, reply_place}
use Rattle.rules.specs.declared.Rule.{Rule}
use Rattle.rules.proofs.Cases.{by_bool}
use Rattle.rules.proofs.Memory.{snoc_by}
use Rattle.classes.specs.Classes.{no_classes, OnlyClasses}
use Rattle.classes.specs.Masks.{classes_shaped}
use Rattle.image.specs.State.{Ledger, start, expandable, is_ruleset}
use Rattle.image.specs.Image.{image_size, ledger_of, valid, Edited, outcome, cleared}
use Rattle.image.proofs.Stored.{Fine, none}
use Rattle.image.proofs.Whole.{whole_ledger, whole_valid}
use Rattle.edits.specs.Ledger.{Edit, after_all, answers_all, issued, counted}
use Rattle.edits.specs.Ledger.Edit.{Add, Drop, Move, SetClass}
use Rattle.edits.specs.Edits.{edited, image_all, out_all, FilledEdit}
use Rattle.edits.proofs.Counted.{counted_all}
use Rattle.edits.proofs.History.{history, history_valid, history_issued, issued_rise}
use Rattle.history.specs.Code.{edit_words, byte_at, coded_rule, coded_letters, coded_edit, coded_edits}
use Rattle.history.proofs.Coded.{coded_rule_filled}
use Rattle.history.specs.Replay.{turns, taken, Replay, replaying, through, through_by, replayed, issued_from_empty, FromEmpty, Replayed}

-- the edit that the words say, by their kind
module _ (pool ws : List ℕ) where
  pub edit_add : (r : Rule) (p : ℕ) → get_or ws 0 0 ≡ 0 → r ≡ coded_rule ws → p ≡ get_or ws 2 0 → Add r p ≡ coded_edit pool ws
  edit_add r p k e q = rw (eq-eqb _ _ k, e, q)

  module _ (k : get_or ws 0 0 ≡ 0 → ⊥) where
    pub edit_drop : (n : ℕ) → get_or ws 0 0 ≡ 1 → n ≡ get_or ws 1 0 % 65536 → Drop n ≡ coded_edit pool ws
    edit_drop n l e = rw (ne_eqb _ _ k, eq-eqb _ _ l, e)

    module _ (l : get_or ws 0 0 ≡ 1 → ⊥) where
      pub edit_move : (n p : ℕ) → get_or ws 0 0 ≡ 2 → n ≡ get_or ws 1 0 % 65536 → p ≡ get_or ws 2 0 → Move n p ≡ coded_edit pool ws
      edit_move n p m e q = rw (ne_eqb _ _ k, ne_eqb _ _ l, eq-eqb _ _ m, e, q)

      pub edit_class : (get_or ws 0 0 ≡ 2 → ⊥) → SetClass (byte_at ws 1) (coded_letters pool ws) ≡ coded_edit pool ws
      edit_class m = rw (ne_eqb _ _ k, ne_eqb _ _ l, ne_eqb _ _ m)

  -- the letters of a class, as they are lent
  pub class_said : (c at n : ℕ) (l : List ℕ) → c ≡ byte_at ws 1 → at ≡ get_or ws 2 0 → n ≡ get_or ws 3 0 → l ≡ take n (drop at pool)
      → SetClass c l ≡ SetClass (byte_at ws 1) (coded_letters pool ws)
  class_said c at n l e a b q = ap₂ SetClass e (q ∙ ap₂ (λ (i j : ℕ). take i (drop j pool)) b a)

-- letters of a pool that may be shorter
pub part_taken : (at n start end : ℕ) (l : List ℕ) → start ≡ min at (length l) → end ≡ start + min n (length l - start)
    → take (end - start) (drop start l) ≡ take n (drop at l)
part_taken at n start end l s e =
    by_bool (leb at (length l))
    (λ u. let a : start ≡ at = omega (arith, leb-true at (length l) u) in
    by_bool (leb n (length l - at))
    (λ v. let b : end - start ≡ n = omega (arith, leb-true n (length l - at) v) in ap₂ (λ (i j : ℕ). take i (drop j l)) b a)
    (λ v. let b : end - start ≡ length l - at = omega (arith, leb-false n (length l - at) v) in
    ap₂ (λ (i j : ℕ). take i (drop j l)) b a
    ∙ (take_all (length l - at) (drop at l) (omega (arith, length-drop at l))
    ∙ sym (take_all n (drop at l) (omega (arith, length-drop at l, leb-false n (length l - at) v))))))
    (λ u. let v : length l < at = leb-false at (length l) u in
    let b : drop start l ≡ [] = drop_of_length-le l {i = start} (omega arith) in
    let c : drop at l ≡ [] = drop_of_length-le l {i = at} (omega arith) in
    ap (take (end - start)) b ∙ (take_all (end - start) [] (omega arith) ∙ sym (ap (take n) c ∙ take_all n [] (omega arith))))

edits_on : (n i : ℕ) (pool ws : List ℕ) → i < n
    → coded_edits (n - i) pool (drop (edit_words * i) ws) ≡ coded_edit pool (drop (edit_words * i) ws) ∷ coded_edits (n - (i + 1)) pool (drop (edit_words * (i + 1)) ws)
edits_on n i pool ws h =
    let e : n - i ≡ suc (n - (i + 1)) = omega arith in
    let s : edit_words * (i + 1) ≡ edit_words * i + edit_words = omega arith in
    rw (e, s, ← drop-drop edit_words (edit_words * i) ws)

filled_by : (pool ws : List ℕ) (a b c : Bool)
    → FilledEdit (cond a (Add (coded_rule ws) (get_or ws 2 0)) (cond b (Drop (get_or ws 1 0 % 65536))
    (cond c (Move (get_or ws 1 0 % 65536) (get_or ws 2 0)) (SetClass (byte_at ws 1) (coded_letters pool ws)))))
filled_by pool ws true b c = coded_rule_filled ws
filled_by pool ws false true c = refl
filled_by pool ws false false true = refl
filled_by pool ws false false false = refl

coded_filled : (n : ℕ) (pool ws : List ℕ) (k : ℕ) → k < length (coded_edits n pool ws) → FilledEdit (get_or (coded_edits n pool ws) k (Drop 0))
coded_filled zero pool ws k h = absurd (omega arith)
coded_filled (suc n) pool ws zero h = filled_by pool ws (eqb (get_or ws 0 0) 0) (eqb (get_or ws 0 0) 1) (eqb (get_or ws 0 0) 2)
coded_filled (suc n) pool ws (suc k) h = coded_filled n pool (drop edit_words ws) k (omega arith)

-- what holds after i turns: the answers that are given, and that those to come make up the rest
pub record Going (pool code d answers₀ places₀ : List ℕ) (n : ℕ) (img answers places : List ℕ) (i : ℕ) : Type 0 where
  pub low : i ≤ n
  pub «image-long» : length img ≡ length d
  pub «answers-long» : length answers ≡ length answers₀
  pub «places-long» : length places ≡ length places₀
  pub replies : List Reply
  pub count : length replies ≡ i
  pub images : image_all d (coded_edits n pool code) ≡ image_all img (coded_edits (n - i) pool (drop (edit_words * i) code))
  pub said : out_all d (coded_edits n pool code) ≡ replies ++ out_all img (coded_edits (n - i) pool (drop (edit_words * i) code))
  pub numbered : answers ≡ over (map reply_code replies) answers₀
  pub placed : places ≡ over (map reply_place replies) places₀

pub going_start : (pool code d answers places : List ℕ) (n : ℕ) → Going pool code d answers places n d answers places 0
going_start pool code d answers places n =
    let z : n - 0 ≡ n = omega arith in
    record {
      low = omega arith;
      «image-long» = refl;
      «answers-long» = refl;
      «places-long» = refl;
      replies = [];
      count = refl;
      images = rw z;
      said = rw z;
      numbered = refl;
      placed = refl;
    }

module _ (pool code d answers₀ places₀ : List ℕ) (n : ℕ) (img answers places : List ℕ) (i : ℕ) (g : Going pool code d answers₀ places₀ n img answers places i) where
  -- the word where the next edit starts
  abbrev at : ℕ
  at = edit_words * i

  pub going_on : (a : Reply) (img' : List ℕ) (v p : ℕ) → i < n → n ≤ turns (length code) (length answers₀) (length places₀) → length img' ≡ length img
      → outcome a img' ≡ edited img (coded_edit pool (take (length code - at) (drop at code)))
      → v ≡ reply_code a → p ≡ reply_place a → Going pool code d answers₀ places₀ n img' (set answers i v) (set places i p) (i + 1)
  going_on a img' v p h hn il oe ve pe =
      let t : take (length code - at) (drop at code) ≡ drop at code =
      take_all (length code - at) (drop at code) (omega (arith, length-drop at code)) in
      let q : outcome a img' ≡ edited img (coded_edit pool (drop at code)) = rw t at oe in
      let qa : a ≡ (edited img (coded_edit pool (drop at code))).reply = ap (λ (o : Edited). o.reply) q in
      let qi : img' ≡ (edited img (coded_edit pool (drop at code))).image = ap (λ (o : Edited). o.image) q in
      let x = edits_on n i pool code h in
      record {
        low = omega arith;
        «image-long» = il ∙ g.«image-long»;
        «answers-long» = length-set answers i v ∙ g.«answers-long»;
        «places-long» = length-set places i p ∙ g.«places-long»;
        replies = g.replies ++ (a ∷ []);
        count = length-append g.replies (a ∷ []) ∙ ap (λ (k : ℕ). k + 1) g.count;
        images = rw qi (g.images ∙ ap (image_all img) x);
        said = rw (append_assoc, qa, qi) (g.said ∙ ap (λ l. g.replies ++ out_all img l) x);
        numbered = snoc_by reply_code g.replies a answers₀ answers i v g.numbered g.count (omega arith) ve;
        placed = snoc_by reply_place g.replies a places₀ places i p g.placed g.count (omega arith) pe;
      }

pub going_end : (pool code d answers₀ places₀ : List ℕ) (n : ℕ) (img answers places : List ℕ) (i : ℕ) → Going pool code d answers₀ places₀ n img answers places i
    → n ≤ i → replaying accepted img answers places ≡ through (coded_edits n pool code) d answers₀ places₀
going_end pool code d answers₀ places₀ n img answers places i g h =
    let z : n - i ≡ 0 = omega (arith, g.low) in
    let w : image_all d (coded_edits n pool code) ≡ img = rw z at g.images in
    let o : out_all d (coded_edits n pool code) ≡ g.replies ++ [] = rw z at g.said in
    let r : out_all d (coded_edits n pool code) ≡ g.replies = o ∙ append-nil g.replies in
    rw (w, r, ← g.numbered, ← g.placed)

-- ---- from the empty ruleset

outside_none : OnlyClasses no_classes
outside_none c h = refl

start_fine : Fine start
unfolding is_ruleset expandable classes_shaped
start_fine = record { ruled = refl; filled = none }

-- memory that is cleared is a ruleset that holds the start
cleared_empty : (d : List ℕ) → (cleared d).reply ≡ accepted → (valid (cleared d).image ≡ true) × (ledger_of (cleared d).image ≡ start)
unfolding cleared
cleared_empty d e =
    by_bool (leb image_size (length d))
    (λ u. let l = leb-true image_size (length d) u in rw u (whole_valid d l start start_fine outside_none, whole_ledger d l start start_fine outside_none))
    (λ u. let z : ◌≡◌ {A = ℕ} 0 1 = cc (rw u at e) in absurd (omega arith))

-- the claim holds of the edits es, wherever they come from
pub from_empty : (es : List Edit) → ((k : ℕ) → k < length es → FilledEdit (get_or es k (Drop 0))) → (d answers places : List ℕ) → (cleared d).reply ≡ accepted
    → FromEmpty es d answers places (through es (cleared d).image answers places)
from_empty es w d answers places a =
    let ok = cleared_empty d a in
    let t = history es w (cleared d).image ok.0 in
    let n : issued_from_empty d es ≡ issued start es = history_issued es w (cleared d).image ok.0 ∙ ap (λ (g : Ledger). issued g es) ok.1 in
    let o : out_all (cleared d).image es ≡ answers_all start es = t.0 ∙ ap (λ (g : Ledger). answers_all g es) ok.1 in
    record {
      kept = history_valid es w (cleared d).image ok.0;
      state = t.1 ∙ ap (λ (g : Ledger). after_all g es) ok.1;
      edits = ap (λ (g : Ledger). g.edits) (t.1 ∙ ap (λ (g : Ledger). after_all g es) ok.1) ∙ (counted_all es start ∙ (let z : 0 + counted start es ≡ counted start es = omega arith in z));
      answers = ap (λ (l : List Reply). over (map reply_code l) answers) o;
      places = ap (λ (l : List Reply). over (map reply_place l) places) o;
      numbers = n;
      apart = rw n (λ i j u v e. omega (arith, issued_rise es start i j u v));
    }

-- a replay that is accepted was not refused at the start
cleared_by : (a : Reply) (es : List Edit) (d answers places : List ℕ) → (through_by a es d answers places).reply ≡ accepted → a ≡ accepted
cleared_by accepted es d answers places u = u
cleared_by (declined n p) es d answers places u = u

-- what is replayed makes the claim
pub as_replayed : (d code letters answers places : List ℕ) (r : Replay) → r ≡ replayed d code letters answers places → Replayed d code letters answers places r
unfolding replayed
as_replayed d code letters answers places r e =
    let es : List Edit = taken code letters answers places in
    record {
      whole = e;
      claim = λ u.
          let a : (cleared d).reply ≡ accepted = cleared_by (cleared d).reply es (cleared d).image answers places (sym (ap (λ (x : Replay). x.reply) e) ∙ u) in
          let w : r ≡ through es (cleared d).image answers places = e ∙ ap (λ (x : Reply). through_by x es (cleared d).image answers places) a in
          rw w (from_empty es (coded_filled (turns (length code) (length answers) (length places)) letters code) d answers places a);
    }

-- memory that is refused is kept
pub short_kept : (d code letters answers places img : List ℕ) (n p : ℕ) (a : Reply) → a ≡ declined n p → outcome a img ≡ cleared d
    → Replayed d code letters answers places (replaying (declined n p) img answers places)
unfolding replayed
short_kept d code letters answers places img n p a q e =
    as_replayed d code letters answers places _
    (ap (λ (x : Reply). through_by x (taken code letters answers places) img answers places) (sym q)
    ∙ ap (λ (o : Edited). through_by o.reply (taken code letters answers places) o.image answers places) e)

-- memory that is cleared, and the edits that are taken
pub long_enough : (d code letters answers places img : List ℕ) (a : Reply) → a ≡ accepted → outcome a img ≡ cleared d
    → (n : ℕ) → n ≡ turns (length code) (length answers) (length places) → (img' answers' places' : List ℕ)
    → replaying accepted img' answers' places' ≡ through (coded_edits n letters code) img answers places
    → Replayed d code letters answers places (replaying accepted img' answers' places')
unfolding replayed
long_enough d code letters answers places img a q c n t img' answers' places' e =
    let y : (cleared d).reply ≡ accepted = sym (ap (λ (o : Edited). o.reply) c) ∙ q in
    let i : img ≡ (cleared d).image = ap (λ (o : Edited). o.image) c in
    as_replayed d code letters answers places _
    (e
    ∙ (ap₂ (λ (k : ℕ) (x : List ℕ). through (coded_edits k letters code) x answers places) t i
    ∙ ap (λ (x : Reply). through_by x (taken code letters answers places) (cleared d).image answers places) (sym y)))
