-- One change in groups of phones: it has room, and the words after it are a minimal automaton that says it, or too many states are reached.
-- Assumes nothing.
use mathlib.Core.Path.{◌≡◌, refl, sym, ap, ap₂, ◌∙◌, subst}
use mathlib.Core.Logic.{◌⊎◌}
use Prim.Native.Nat.{ℕ, suc, ◌+◌, ◌-◌, ◌*◌, ◌≤◌, ◌<◌}
use native.Mathlib.Numerals.{add-one}
use native.Mathlib.Omega.{arith}
use mathlib.Core.Bool.{Bool, true, false}
use mathlib.Core.List.{List}
use lib.ListN.{length, get_or, set, length-set}
use lib.Seq.{get_or-set_same, get_or-set_other}
use Rattle.rules.specs.Limits.{max_states}
use Rattle.automaton.specs.Automaton.{Str, Rows, at, part, cells_of, rows_of, Sorted, Laid, look, Letters, Sound, Needed, changed}
use Rattle.automaton.specs.Changes.{Keeps}
use Rattle.automaton.proofs.Tests.{by_less, clash}
use Rattle.automaton.proofs.Change.{look_keeps, keeps_sound}
use Rattle.states.specs.States.{PutAsks, PutGives}
use Rattle.states.specs.declared.Placed.{Placed}
use Rattle.states.proofs.Parts.{part_ext}
use Rattle.states.proofs.Rows.{begins_rise}
use Rattle.exceptions.specs.Layout.{list_size, start_of, names_in}
use Rattle.exceptions.specs.Judging.{IsList}
use Rattle.exceptions.proofs.Sizes.{size_is, start_word}
use Rattle.change.specs.Steps.{Saved, Kept, Restored, FreeAsks, SweepReady, Reached, GroupsAsk, after_groups, Built, Applied, Rebuilt}
use Rattle.change.proofs.Filled.{filled}
use Rattle.change.proofs.Saving.{restored_same}
use Rattle.change.proofs.Crowding.{crowded}

-- ---- fewer rows

sound_less : (f : Rows) (n m : ℕ) → Sound f n → m ≤ n → Sound f m
sound_less f n m s h =
    record {
      blank = s.blank;
      unused = λ q l. s.unused q (omega arith);
      earlier = λ q c l. s.earlier q c (omega arith);
      padded = λ q l. s.padded q (omega arith);
      bytes = λ q k l. s.bytes q k (omega arith);
      apart = λ i j a b. s.apart i j (omega arith) (omega arith);
    }

laid_less : (ws : List ℕ) (n m : ℕ) → Laid ws n → m ≤ n → Laid ws m
laid_less ws n m l h =
    let e = begins_rise ws n (suc m) (suc n) l (omega arith) (omega arith) in
    let i = l.inside in
    let f = l.few in
    record { few = omega arith; start = l.start; ends = λ q g. l.ends q (omega arith); inside = omega arith; sorted = λ q g. l.sorted q (omega arith) }

-- ---- the word of the start is no offset of a state and no cell

module _ (w : List ℕ) (k : ℕ) (few : k ≤ max_states) (l : Laid w k) (memory : 4199 < length w) where
  w' : List ℕ
  w' = set w 4199 k

  other : (x : ℕ) → (x ≡ 4199 → ⊥) → get_or w' x 0 ≡ get_or w x 0
  unfolding w'
  other x ne = get_or-set_other w 4199 x k 0 ne

  cells_kept : (q : ℕ) → q ≤ k → cells_of w' q ≡ cells_of w q
  unfolding cells_of
  cells_kept q h =
      let a = other q (omega arith) in
      let e = other (suc q) (omega arith) in
      let b = begins_rise w k 0 q l (omega arith) (omega arith) in
      let s = l.start in
      ap₂ (λ (x y : ℕ). part w' x (y - x)) a e
      ∙ part_ext w' w (get_or w q 0) (get_or w q 0) (get_or w (suc q) 0 - get_or w q 0) (λ j o. other (get_or w q 0 + j) (omega arith))

  rows_kept : Keeps (rows_of w) (rows_of w') k
  unfolding rows_of
  rows_kept q c h o = ap (λ (t : List ℕ). at t c) (cells_kept q h)

  start_laid : Laid w' k
  unfolding w'
  start_laid =
      let f = l.few in
      let i = l.inside in
      let e = length-set w 4199 k in
      let o = other (suc k) (omega arith) in
      record {
        few = f;
        start = other 0 (omega arith) ∙ l.start;
        ends = λ q h. let x = other q (omega arith) in let y = other (suc q) (omega arith) in let g = l.ends q h in omega arith;
        inside = omega arith;
        sorted = λ q h. subst (Sorted 1) (sym (cells_kept q h)) (l.sorted q h);
      }

  needed_kept : Needed (rows_of w) k → Needed (rows_of w') k
  needed_kept a q z h = let r = a q z h in (r.0, r.1, r.2, r.3, rows_kept r.0 r.1 r.2 (let o = r.3 in let y : r.1 < 86 = omega arith in y) ∙ r.4)

  start_is : start_of w' ≡ k
  unfolding w' start_of
  start_is = ap (λ (t : ℕ). get_or (set w 4199 k) t 0) start_word ∙ get_or-set_same w 4199 k 0 memory

  -- the words with the start's number are a minimal automaton, where they were one from it
  pub built : (M : Str → Str) → Sound (rows_of w) k → Needed (rows_of w) k → ((v : Str) → Letters v → look (rows_of w) k v ≡ M v) → length w ≡ list_size → Built M (set w 4199 k)
  unfolding w'
  built M s a b e =
      let z = start_is in
      record {
        states = omega arith;
        laid = subst (Laid (set w 4199 k)) (sym z) start_laid;
        sound = subst (Sound (rows_of (set w 4199 k))) (sym z) (keeps_sound (rows_of w) (rows_of (set w 4199 k)) k s rows_kept);
        needed = subst (Needed (rows_of (set w 4199 k))) (sym z) (needed_kept a);
        says = λ v t. ap (λ (q : ℕ). look (rows_of (set w 4199 k)) q v) z ∙ (look_keeps (rows_of w) (rows_of (set w 4199 k)) k s rows_kept k (omega arith) v t ∙ b v t);
        size = length-set w 4199 k ∙ e;
      }

-- ---- the change

-- the cells of a list end so early that a change has room
pub ends_early : (ws : List ℕ) → IsList ws → length ws ≡ list_size → get_or ws (suc (start_of ws)) 0 + 5590 ≤ length ws
unfolding names_in
ends_early ws l e =
    let f = filled ws (start_of ws) l.sound l.laid l.needed in
    let a = l.states in
    let b = l.names in
    let z = size_is in
    omega arith

name_rows : (k : ℕ) → k ≤ 64 → 86 * (k - 0 + 1) ≤ 5590
name_rows k h = omega arith

module _ (ws : List ℕ) (name p : Str) (n : ℕ) (a : GroupsAsk ws name p) (e : n ≡ start_of ws) where
  n_few : n ≤ 4096
  n_few = let s = a.list.states in omega arith

  pub n_laid : Laid ws n
  n_laid = subst (Laid ws) (sym e) a.list.laid

  n_sound : Sound (rows_of ws) n
  n_sound = subst (Sound (rows_of ws)) (sym e) a.list.sound

  n_room : get_or ws (suc n) 0 + 5590 ≤ length ws
  n_room = subst (λ (x : ℕ). get_or ws (suc x) 0 + 5590 ≤ length ws) (sym e) (ends_early ws a.list a.size)

  n_above : 4200 ≤ get_or ws (suc n) 0
  n_above = let b = begins_rise ws n 0 (suc n) n_laid (omega arith) (omega arith) in let s = n_laid.start in omega arith

  pub put_asks : PutAsks ws n n name 0 p
  put_asks =
      let r = n_room in
      let h = name_rows (length name) a.few in
      let z = size_is in
      let s = a.size in
      record {
        sound = n_sound;
        laid = n_laid;
        inside = omega arith;
        states = n_few;
        few = a.few;
        place = omega arith;
        room = omega arith;
        small = omega arith;
        letters = a.letters;
        phones = a.phones;
      }

  pub free_asks : (end : ℕ) (saved : List ℕ) → end ≡ get_or ws (n + 1) 0 → 5655 ≤ length saved → FreeAsks ws n end saved
  free_asks end saved g l =
      let z : end ≡ get_or ws (suc n) 0 = g ∙ ap (λ (x : ℕ). get_or ws x 0) (add-one n) in
      let f = n_few in
      let b = n_above in
      let r = n_room in
      record { before = omega arith; room = omega arith; size = l }

  module _ (w : List ℕ) (r : Placed) (u : PutGives ws n n name 0 p w r) where
    root_few : r.root < 4162
    root_few = let o = u.rows.most in let h = u.rows.root in let f = n_few in let l = a.few in omega arith

    pub sweep_ready : SweepReady w r.root
    sweep_ready =
        let h = u.rows.root in
        let s = a.size in
        let z = size_is in
        let g = u.long in
        let x = start_word in
        record {
          sound = sound_less (rows_of w) r.top r.root u.rows.sound h;
          laid = laid_less w r.top r.root u.laid h;
          states = root_few;
          memory = omega arith;
          small = omega arith;
        }

    says : (v : Str) → Letters v → look (rows_of w) r.root v ≡ after_groups ws name p v
    says v t = subst (λ (x : ℕ). look (rows_of w) r.root v ≡ after_groups' x v) e (u.rows.says v t)
      where
        after_groups' : ℕ → Str → Str
        after_groups' x = changed name p (look (rows_of ws) x)

    pub kept : Kept ws n (get_or ws (n + 1) 0) w
    kept =
        let z : get_or ws (n + 1) 0 ≡ get_or ws (suc n) 0 = ap (λ (x : ℕ). get_or ws x 0) (add-one n) in
        let f = n_few in
        let l = a.few in
        let h = name_rows (length name) a.few in
        record {
          low = λ x g. u.begins x (omega arith) (◌⊎◌.inl (omega arith));
          mid = λ x g o. by_less x 4200 (λ i. u.begins x i (◌⊎◌.inr (let y : n + (length name - 0) + 2 < x = omega arith in y))) (λ i. u.before x i (omega arith));
          high = λ x g. u.after x (omega arith);
          long = u.long;
        }

    pub applied : (ws' : List ℕ) (b : Bool) → Reached w r.root ws' b → Applied ws n (get_or ws (n + 1) 0) name p ws' b
    applied ws' b c =
        record {
          done = λ t.
              let o = c.swept.few t in
              let v = o.0 in
              let k = o.1 in
              let s = o.2 in
              let y = o.4 in
              let g = u.long in
              let sz = a.size in
              let z = size_is in
              subst (Built (after_groups ws name p)) (sym (o.5 ∙ ap (λ (x : ℕ). set v x k) start_word))
              (built v k o.3 s.laid (omega arith) (after_groups ws name p) s.sound s.needed (λ x l. s.says x l ∙ says x l) (o.4 ∙ (u.long ∙ a.size)));
          full = λ t.
              let o = c.swept.many t in
              (crowded w c.marks r.root sweep_ready.sound c.spread o.0 (after_groups ws name p) says, subst (Kept ws n (get_or ws (n + 1) 0)) (sym o.1) kept);
        }

  pub end_inside : n + 1 < length ws
  end_inside = let f = n_few in let s = a.size in let z = size_is in omega arith

pub free_kept : (ws w : List ℕ) (n end : ℕ) (saved s : List ℕ) → FreeAsks ws n end saved → length w ≡ length ws → length s ≡ length saved → FreeAsks w n end s
free_kept ws w n end saved s a e g = let r = a.room in let z = a.size in record { before = a.before; room = omega arith; size = omega arith }

pub rebuilt : (ws : List ℕ) (n end : ℕ) (name p ws' : List ℕ) (b : Bool) → Applied ws n end name p ws' b → b ≡ true → Rebuilt ws name p ws' true
rebuilt ws n end name p ws' b a e = record { done = λ z. a.done e; full = λ z. clash refl z }

pub put_back : (ws : List ℕ) (n end : ℕ) (name p w s ws' : List ℕ) (b : Bool) → end ≡ get_or ws (n + 1) 0 → Saved ws n end s → Applied ws n (get_or ws (n + 1) 0) name p w b → b ≡ false → Restored w n end s ws' → Rebuilt ws name p ws' false
put_back ws n end name p w s ws' b g k a e r =
    let f = a.full e in
    record {
      done = λ z. clash z refl;
      full = λ z. (f.0, restored_same ws n end s w ws' k (subst (λ (x : ℕ). Kept ws n x w) (sym g) f.1) r);
    }
