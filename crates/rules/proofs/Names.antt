-- A name is judged byte by byte: what lies ahead decides. A sound name is accepted, and any other is refused with 2, or with 1 at some byte.
-- Assumes nothing.
use Prim.Native.Nat.{ℕ, suc, ◌+◌, ◌≤◌, ◌<◌}
use mathlib.Core.Path.{◌≡◌, refl, sym, ap, ap₂, ◌∙◌}
use mathlib.Core.List.{List, [], ◌∷◌}
use mathlib.Core.Bool.{Bool, true, cond, ◌&&◌}
use native.Mathlib.Omega.{arith}
use native.Mathlib.Numerals.{add-one}
use borrow.Author.Tests.{le-leb, lt-leb, leb-true}
use lib.Dec.{leb}
use lib.ListN.{length, get_or, drop, drop_of_length-le}
use lib.Seq.{drop-cons}
use Rattle.rules.specs.Limits.{max_name, max_name_byte}
use Rattle.rules.specs.Shape.{all_from}
use Rattle.rules.specs.Refusals.{accepted, declined}
use Rattle.rules.specs.Names.{name_byte, judged_bytes, judged_name, SoundName}
use Rattle.rules.proofs.Cases.{by_bool, and_l, and_r, and_i}

pub name_long : (name : List ℕ) → max_name < length name → judged_name name ≡ declined 2 0
unfolding judged_name
name_long name h = rw (lt-leb _ _ h)

pub bytes_begin : (name : List ℕ) → length name ≤ max_name → judged_name name ≡ judged_bytes 0 (drop 0 name)
unfolding judged_name
bytes_begin name h = rw (le-leb _ _ h)

module _ (name : List ℕ) (i : ℕ) (h : i < length name) where
  here : judged_bytes i (drop i name) ≡ cond (name_byte (get_or name i 0)) (judged_bytes (suc i) (drop (suc i) name)) (declined 1 i)
  here = ap (judged_bytes i) (drop-cons name i 0 h)

  pub bytes_on : 1 ≤ get_or name i 0 → get_or name i 0 ≤ max_name_byte → judged_bytes i (drop i name) ≡ judged_bytes (i + 1) (drop (i + 1) name)
  bytes_on l u =
      here ∙ (ap₂ (λ (a b : Bool). cond (a && b) (judged_bytes (suc i) (drop (suc i) name)) (declined 1 i)) (le-leb _ _ l) (le-leb _ _ u)
      ∙ ap (λ (k : ℕ). judged_bytes k (drop k name)) (sym (add-one i)))

  pub bytes_low : get_or name i 0 < 1 → judged_bytes i (drop i name) ≡ declined 1 i
  bytes_low l = here ∙ ap (λ (a : Bool). cond (a && leb (get_or name i 0) max_name_byte) (judged_bytes (suc i) (drop (suc i) name)) (declined 1 i)) (lt-leb _ _ l)

  pub bytes_high : 1 ≤ get_or name i 0 → max_name_byte < get_or name i 0 → judged_bytes i (drop i name) ≡ declined 1 i
  bytes_high l u =
      here ∙ ap₂ (λ (a b : Bool). cond (a && b) (judged_bytes (suc i) (drop (suc i) name)) (declined 1 i)) (le-leb _ _ l) (lt-leb _ _ u)

pub bytes_end : (name : List ℕ) (i : ℕ) → length name ≤ i → judged_bytes i (drop i name) ≡ accepted
bytes_end name i h = ap (judged_bytes i) (drop_of_length-le name h)

-- ---- a name that is accepted is sound, and the other way round

never : {n p : ℕ} → declined n p ≡ accepted → ⊥
never e = let z : ◌≡◌ {A = ℕ} 0 1 = cc in omega arith

bytes_all : (i : ℕ) (w : List ℕ) → judged_bytes i w ≡ accepted → all_from max_name_byte w ≡ true
bytes_all i [] e = refl
bytes_all i (b ∷ w) e =
    by_bool (leb 1 b)
    (λ p. by_bool (leb b max_name_byte) (λ q. rw (p, q) (bytes_all (suc i) w (rw (p, q) at e))) (λ q. absurd (never (rw (p, q) at e))))
    (λ p. absurd (never (rw p at e)))

pub accepted_sound : (name : List ℕ) → judged_name name ≡ accepted → SoundName name
unfolding judged_name
accepted_sound name e =
    by_bool (leb (length name) max_name)
    (λ q. record { short = leb-true (length name) max_name q; bytes = bytes_all 0 name (rw q at e) })
    (λ q. absurd (never (rw q at e)))

sound_bytes : (i : ℕ) (w : List ℕ) → all_from max_name_byte w ≡ true → judged_bytes i w ≡ accepted
sound_bytes i [] h = refl
sound_bytes i (b ∷ w) h =
    rw (and_i (and_l (leb 1 b) _ h) (and_l (leb b max_name_byte) _ (and_r (leb 1 b) _ h)))
    (sound_bytes (suc i) w (and_r (leb b max_name_byte) _ (and_r (leb 1 b) _ h)))

pub sound_judged : (name : List ℕ) → SoundName name → judged_name name ≡ accepted
sound_judged name s = bytes_begin name s.short ∙ sound_bytes 0 name s.bytes

pub data Judgement (name : List ℕ) : Type 0 where
  sound : SoundName name → Judgement name
  refuses : (n p : ℕ) → n < 3 → judged_name name ≡ declined n p → Judgement name

bytes_judgement : (i : ℕ) (w : List ℕ) → (P : Type 0) → (all_from max_name_byte w ≡ true → P) → ((p : ℕ) → judged_bytes i w ≡ declined 1 p → P) → P
bytes_judgement i [] P all some = all refl
bytes_judgement i (b ∷ w) P all some =
    by_bool (leb 1 b)
    (λ l. by_bool (leb b max_name_byte)
    (λ u. bytes_judgement (suc i) w P (λ r. all (and_i l (and_i u r))) (λ p h. some p (rw (l, u) h)))
    (λ u. some i (rw (l, u))))
    (λ l. some i (rw l))

pub judgement : (name : List ℕ) → Judgement name
unfolding judged_name
judgement name =
    by_bool (leb (length name) max_name)
    (λ e. bytes_judgement 0 name (Judgement name) (λ b. sound (record { short = leb-true (length name) max_name e; bytes = b }))
    (λ p h. refuses 1 p (omega arith) (rw e h)))
    (λ e. refuses 2 0 (omega arith) (rw e))
