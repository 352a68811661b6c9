-- Laws of names of several words, by induction on the string: where each word ends, all words from each on, and the frame of each as a part of the name's frame.
-- Assumes nothing.
use Prim.Native.Nat.{ℕ, zero, suc, ◌+◌, ◌-◌, ◌*◌, ◌≤◌, ◌<◌}
use mathlib.Core.Path.{◌≡◌, refl, sym, ap, ap₂, ◌∙◌, subst}
use mathlib.Core.Bool.{Bool, true, false, cond}
use mathlib.Core.List.{List, [], ◌∷◌, ◌++◌, map}
use native.Mathlib.Omega.{arith}
use native.Mathlib.Numerals.{add-one}
use borrow.Author.Tests.{le-leb, lt-leb, leb-true, leb-false, eqb-true, eq-eqb, ne_eqb}
use lib.Dec.{eqb, leb}
use lib.ListN.{length, get_or, take, drop, set, length-append, length-drop, length-map, length-set, drop_of_length-le}
use lib.Seq.{drop-cons, drop-drop, drop-set-lt, get_or-drop, length-take-le, take_all, take_at, take-length, take-suc}
use Rattle.rules.specs.Limits.{separator, max_name_byte}
use Rattle.rules.specs.Shape.{all_from}
use Rattle.rules.specs.Names.{SoundName}
use Rattle.rules.specs.Memory.{over}
use Rattle.rules.proofs.Cases.{by_bool, and_l, and_r, and_i}
use Rattle.rules.proofs.Memory.{over_snoc, snoc_by}
use Rattle.fitting.specs.Fitting.{Str, frame}
use Rattle.speech.specs.Words.{Word, word, split, on_first, placed, words_in, steps_for, boundary_or, frame_of, first_word, word_at, end_at, Starts, words_from, WordOf}

-- ---- the first word of a string, and the others

abbrev pub others : Str → List Str
others [] = []
others (c ∷ s) = cond (eqb c separator) (split s) (others s)

pub split_first : (s : Str) → split s ≡ first_word s ∷ others s
split_first [] = refl
split_first (c ∷ s) = by_bool (eqb c separator) (λ e. rw e) (λ e. rw e (ap (on_first c) (split_first s)))

pub first_short : (s : Str) → length (first_word s) ≤ length s
first_short [] = omega arith
first_short (c ∷ s) = by_bool (eqb c separator) (λ e. rw e (omega arith)) (λ e. let h = first_short s in rw e (omega arith))

others_after : (s : Str) → length (first_word s) < length s → others s ≡ split (drop (suc (length (first_word s))) s)
others_after [] h = absurd (omega arith)
others_after (c ∷ s) h =
    by_bool (eqb c separator) (λ e. rw e) (λ e. let g : suc (length (first_word s)) < suc (length s) = rw e at h in rw e (others_after s (omega arith)))

others_none : (s : Str) → length s ≤ length (first_word s) → others s ≡ []
others_none [] h = refl
others_none (c ∷ s) h =
    by_bool (eqb c separator)
    (λ e. let g : suc (length s) ≤ 0 = rw e at h in absurd (omega arith))
    (λ e. let g : suc (length s) ≤ suc (length (first_word s)) = rw e at h in rw e (others_none s (omega arith)))

first_part : (s : Str) → take (length (first_word s)) s ≡ first_word s
first_part [] = refl
first_part (c ∷ s) = by_bool (eqb c separator) (λ e. rw e) (λ e. rw e (ap (◌∷◌ c) (first_part s)))

-- a separator follows the first word, and none is in it
first_stops : (s : Str) → length (first_word s) < length s → get_or s (length (first_word s)) 0 ≡ separator
first_stops [] h = absurd (omega arith)
first_stops (c ∷ s) h =
    by_bool (eqb c separator)
    (λ e. rw e (eqb-true c separator e))
    (λ e. let g : suc (length (first_word s)) < suc (length s) = rw e at h in rw e (first_stops s (omega arith)))

first_letters : (s : Str) (k : ℕ) → k < length (first_word s) → eqb (get_or s k 0) separator ≡ false
first_letters [] k h = absurd (omega arith)
first_letters (c ∷ s) zero h =
    by_bool (eqb c separator) (λ e. let g : 0 < 0 = rw e at h in absurd (omega arith)) (λ e. e)
first_letters (c ∷ s) (suc k) h =
    by_bool (eqb c separator)
    (λ e. let g : suc k < 0 = rw e at h in absurd (omega arith))
    (λ e. let g : suc k < suc (length (first_word s)) = rw e at h in first_letters s k (omega arith))

-- the frame of the first word, less the # before it
first_frame : (s : Str) → take (suc (length (first_word s))) (map boundary_or s ++ (0 ∷ [])) ≡ first_word s ++ (0 ∷ [])
first_frame [] = refl
first_frame (c ∷ s) = by_bool (eqb c separator) (λ e. rw e) (λ e. rw e (ap (◌∷◌ c) (first_frame s)))

first_all : (hi : ℕ) (s : Str) → all_from hi s ≡ true → all_from hi (first_word s) ≡ true
first_all hi [] h = refl
first_all hi (c ∷ s) h =
    by_bool (eqb c separator)
    (λ e. rw e)
    (λ e. rw e (and_i (and_l (leb 1 c) _ h) (and_i (and_l (leb c hi) _ (and_r (leb 1 c) _ h)) (first_all hi s (and_r (leb c hi) _ (and_r (leb 1 c) _ h))))))

drop_all : (hi b : ℕ) (s : Str) → all_from hi s ≡ true → all_from hi (drop b s) ≡ true
drop_all hi zero s h = h
drop_all hi (suc b) [] h = refl
drop_all hi (suc b) (c ∷ s) h = drop_all hi b s (and_r (leb c hi) _ (and_r (leb 1 c) _ h))

all_low : (hi : ℕ) (s : Str) (k : ℕ) → all_from hi s ≡ true → k < length s → 1 ≤ get_or s k 0
all_low hi [] k h l = absurd (omega arith)
all_low hi (c ∷ s) zero h l = leb-true 1 c (and_l (leb 1 c) _ h)
all_low hi (c ∷ s) (suc k) h l = all_low hi s k (and_r (leb c hi) _ (and_r (leb 1 c) _ h)) (omega arith)

-- ---- the word that follows b bytes

pub word_part : (name : Str) (b : ℕ) → take (length (word_at name b)) (drop b name) ≡ word_at name b
word_part name b = first_part (drop b name)

pub word_long : (name : Str) (b : ℕ) → b ≤ length name → b + length (word_at name b) ≤ length name
word_long name b h = omega (arith, first_short (drop b name), length-drop b name)

pub end_most : (name : Str) (b : ℕ) → b ≤ length name → end_at name b ≤ suc (length name)
end_most name b h = omega (arith, word_long name b h)

pub word_whole : (name : Str) (b : ℕ) → b ≤ length name → length (word_at name b) ≡ length name → word_at name b ≡ name
word_whole name b h e =
    let z : b ≡ 0 = omega (arith, word_long name b h) in
    sym (word_part name b) ∙ (ap₂ (λ (k i : ℕ). take k (drop i name)) e z ∙ take-length name)

pub word_sound : (name : Str) (b : ℕ) → SoundName name → SoundName (word_at name b)
word_sound name b s =
    record { short = omega (arith, first_short (drop b name), length-drop b name, s.short); bytes = first_all max_name_byte (drop b name) (drop_all max_name_byte b name s.bytes) }

-- the word's part of the name, `&name[b..e - 1]`
pub word_cut : (name : Str) (b e : ℕ) → e ≡ end_at name b → take (e - 1 - b) (drop b name) ≡ word_at name b
word_cut name b e h =
    let n : e - 1 - b ≡ length (word_at name b) = omega arith in
    ap (λ (k : ℕ). take k (drop b name)) n ∙ word_part name b

-- A loop that looks for the separator after a word: the bytes from i on decide where it ends.
module _ (name : Str) (i : ℕ) where
  pub end_on : i < length name → (get_or name i 0 ≡ separator → ⊥) → end_at name i ≡ end_at name (i + 1)
  end_on h ne =
      let w : word_at name i ≡ get_or name i 0 ∷ word_at name (suc i) =
      ap first_word (drop-cons name i 0 h) ∙ ap (λ (t : Bool). cond t [] (get_or name i 0 ∷ word_at name (suc i))) (ne_eqb _ _ ne) in
      let e : i + suc (length (word_at name (suc i))) ≡ suc i + length (word_at name (suc i)) = omega arith in
      ap (λ (v : Str). suc (i + length v)) w ∙ (ap suc e ∙ ap (end_at name) (sym (add-one i)))

  pub end_here : i < length name → get_or name i 0 ≡ separator → end_at name i ≡ i + 1
  end_here h e =
      let w : word_at name i ≡ [] =
      ap first_word (drop-cons name i 0 h) ∙ ap (λ (t : Bool). cond t [] (get_or name i 0 ∷ word_at name (suc i))) (eq-eqb _ _ e) in
      let z : suc (i + 0) ≡ i + 1 = omega arith in
      ap (λ (v : Str). suc (i + length v)) w ∙ z

  pub end_last : length name ≤ i → end_at name i ≡ i + 1
  end_last h =
      let z : suc (i + 0) ≡ i + 1 = omega arith in
      ap (λ (l : Str). suc (i + length (first_word l))) (drop_of_length-le name {i = i} h) ∙ z

-- ---- all words

pub words_begin : (name : Str) → words_from name 0 ≡ words_in name
unfolding words_from words_in
words_begin name = rw (le-leb 0 (length name) (omega arith))

pub words_past : (name : Str) (b : ℕ) → length name < b → words_from name b ≡ []
unfolding words_from
words_past name b h = rw (lt-leb b (length name) h)

from_inside : (name : Str) (b : ℕ) → b ≤ length name → words_from name b ≡ word b (word_at name b) ∷ placed (end_at name b) (others (drop b name))
unfolding words_from
from_inside name b h = rw (le-leb b (length name) h) (ap (placed b) (split_first (drop b name)))

rest_from : (name : Str) (b : ℕ) → b ≤ length name → placed (end_at name b) (others (drop b name)) ≡ words_from name (end_at name b)
unfolding words_from
rest_from name b h =
    by_bool (leb (end_at name b) (length name))
    (λ q.
    let l = leb-true (end_at name b) (length name) q in
    let d : b + suc (length (word_at name b)) ≡ end_at name b = omega arith in
    rw q (ap (placed (end_at name b)) (others_after (drop b name) (omega (arith, length-drop b name))
    ∙ ap split (drop-drop (suc (length (word_at name b))) b name ∙ ap (λ (k : ℕ). drop k name) d))))
    (λ q.
    let l = leb-false (end_at name b) (length name) q in
    rw q (ap (placed (end_at name b)) (others_none (drop b name) (omega (arith, length-drop b name)))))

pub words_step : (name : Str) (b : ℕ) → b ≤ length name → words_from name b ≡ word b (word_at name b) ∷ words_from name (end_at name b)
words_step name b h = from_inside name b h ∙ ap (◌∷◌ (word b (word_at name b))) (rest_from name b h)

-- P holds of each word
abbrev pub AllWords : (Str → Type 0) → List Word → Type 0
AllWords P [] = Unit {0}
AllWords P (w ∷ ws) = P w.letters × AllWords P ws

all-from : (P : Str → Type 0) (name : Str) → ((b : ℕ) → b ≤ length name → P (word_at name b)) → (n b : ℕ) → length name < b + n → AllWords P (words_from name b)
all-from P name h zero b l = subst (AllWords P) (sym (words_past name b (omega arith))) tt
all-from P name h (suc n) b l =
    by_bool (leb b (length name))
    (λ q. let i = leb-true b (length name) q in subst (AllWords P) (sym (words_step name b i)) (h b i, all-from P name h n (end_at name b) (omega arith)))
    (λ q. subst (AllWords P) (sym (words_past name b (leb-false b (length name) q))) tt)

pub words_all : (P : Str → Type 0) (name : Str) → ((b : ℕ) → b ≤ length name → P (word_at name b)) → AllWords P (words_in name)
words_all P name h = subst (AllWords P) (words_begin name) (all-from P name h (suc (length name)) 0 (omega arith))

steps_placed : (b : ℕ) (s : Str) → steps_for (placed b (split s)) ≡ 2 * length s + 2
steps_placed b [] = refl
steps_placed b (c ∷ s) =
    by_bool (eqb c separator)
    (λ e. let i = steps_placed (suc (b + 0)) s in rw e (omega arith))
    (λ e.
    let d : b + suc (length (first_word s)) ≡ suc b + length (first_word s) = omega arith in
    let i = sym (ap (λ (ws : List Str). steps_for (placed (suc b) ws)) (split_first s)) ∙ steps_placed (suc b) s in
    rw (e, split_first s, d) (omega arith))

pub words_steps : (name : Str) → steps_for (words_in name) ≡ 2 * length name + 2
unfolding words_in
words_steps name = steps_placed 0 name

-- ---- the frame of a name

pub frame_length : (name : Str) → length (frame_of name) ≡ length name + 2
frame_length name = omega (arith, length-append (map boundary_or name) (0 ∷ []), length-map name boundary_or)

-- memory that starts with the frame
pub frame_part : (name : Str) (xs w : List ℕ) → w ≡ over (frame_of name) xs → take (length name + 2) w ≡ frame_of name
frame_part name xs w e = ap (take (length name + 2)) e ∙ take_at (frame_of name) (drop (length (frame_of name)) xs) (length name + 2) (frame_length name)

-- A loop that lays the frame: # before the name was stored in xs, and then i bytes.
pub lay_begin : (xs : List ℕ) → 1 ≤ length xs → set xs 0 0 ≡ over (0 ∷ []) (set xs 0 0)
lay_begin [] h = absurd (omega arith)
lay_begin (x ∷ xs) h = refl

pub lay_on : (name : Str) (xs f : List ℕ) (i v : ℕ) → i < length name → length name + 2 ≤ length xs → f ≡ over (0 ∷ map boundary_or (take i name)) xs → v ≡ boundary_or (get_or name i 0)
    → set f (i + 1) v ≡ over (0 ∷ map boundary_or (take (i + 1) name)) xs
lay_on name xs f i v h room e q =
    snoc_by boundary_or (0 ∷ take i name) (get_or name i 0) xs f (i + 1) v e (omega (arith, length-take-le i name (omega arith))) (omega arith) q
    ∙ ap (λ (l : Str). over (0 ∷ map boundary_or l) xs) (sym (take-suc name i 0 h) ∙ ap (λ (k : ℕ). take k name) (sym (add-one i)))

pub lay_end : (name : Str) (xs f : List ℕ) (i : ℕ) → i ≡ length name → length name + 2 ≤ length xs → f ≡ over (0 ∷ map boundary_or (take i name)) (set xs 0 0)
    → set f (length name + 1) 0 ≡ over (frame_of name) xs
lay_end name xs f i n room e =
    let l : length (0 ∷ map boundary_or name) ≡ length name + 1 = omega (arith, length-map name boundary_or) in
    ap (λ (v : List ℕ). set v (length name + 1) 0) (e ∙ ap (λ (v : Str). over (0 ∷ map boundary_or v) (set xs 0 0)) (take_all i name (omega arith)))
    ∙ (over_snoc (0 ∷ map boundary_or name) (set xs 0 0) (length name + 1) 0 l (omega (arith, length-set xs 0 0))
    ∙ ap (λ (v : List ℕ). frame_of name ++ v) (drop-set-lt (length (frame_of name)) xs 0 0 (omega (arith, frame_length name))))

inner_at : (s : Str) (i : ℕ) → i < length s → get_or (map boundary_or s ++ (0 ∷ [])) i 1 ≡ boundary_or (get_or s i 0)
inner_at [] i h = absurd (omega arith)
inner_at (c ∷ s) zero h = refl
inner_at (c ∷ s) (suc i) h = inner_at s i (omega arith)

inner_symbols : (s : Str) → all_from max_name_byte s ≡ true → (k : ℕ) → get_or (map boundary_or s ++ (0 ∷ [])) k 0 < 64
inner_symbols [] h zero = omega arith
inner_symbols [] h (suc k) = omega arith
inner_symbols (c ∷ s) h zero =
    by_bool (eqb c separator) (λ e. rw e (omega arith)) (λ e. let l = leb-true c max_name_byte (and_l (leb c max_name_byte) _ (and_r (leb 1 c) _ h)) in rw e (omega arith))
inner_symbols (c ∷ s) h (suc k) = inner_symbols s (and_r (leb c max_name_byte) _ (and_r (leb 1 c) _ h)) k

pub frame_symbols : (name : Str) → SoundName name → (k : ℕ) → k < length (frame_of name) → get_or (frame_of name) k 0 < 64
frame_symbols name s zero h = omega arith
frame_symbols name s (suc k) h = inner_symbols name s.bytes k

inner_drop : (b : ℕ) (s : Str) → b ≤ length s → drop b (map boundary_or s ++ (0 ∷ [])) ≡ map boundary_or (drop b s) ++ (0 ∷ [])
inner_drop zero s h = refl
inner_drop (suc b) [] h = absurd (omega arith)
inner_drop (suc b) (c ∷ s) h = inner_drop b s (omega arith)

-- ---- where words start

pub starts_first : (name : Str) → Starts name 0
starts_first name = refl

pub starts_next : (name : Str) (b : ℕ) → b ≤ length name → end_at name b ≤ length name → Starts name (end_at name b)
starts_next name b h l =
    let e : get_or name (b + length (word_at name b)) 0 ≡ separator =
    sym (get_or-drop b name (length (word_at name b)) 0) ∙ first_stops (drop b name) (omega (arith, length-drop b name)) in
    inner_at name (b + length (word_at name b)) (omega arith) ∙ ap boundary_or e

letter_at : (name : Str) (b k : ℕ) → b ≤ length name → k < length (word_at name b) → get_or (frame_of name) (suc (b + k)) 1 ≡ get_or name (b + k) 0
letter_at name b k h l =
    let f = first_letters (drop b name) k l in
    let e : eqb (get_or name (b + k) 0) separator ≡ false = ap (λ (x : ℕ). eqb x separator) (sym (get_or-drop b name k 0)) ∙ f in
    inner_at name (b + k) (omega (arith, word_long name b h)) ∙ ap (λ (t : Bool). cond t 0 (get_or name (b + k) 0)) e

pub no_start : (name : Str) (b j : ℕ) → b ≤ length name → b < j → j < end_at name b → SoundName name → Starts name j → ⊥
no_start name b j h l m s z =
    let k = j - suc b in
    let e : suc (b + k) ≡ j = omega arith in
    let low = all_low max_name_byte name (b + k) s.bytes (omega (arith, word_long name b h)) in
    let same : get_or name (b + k) 0 ≡ 0 = sym (letter_at name b k h (omega arith)) ∙ (ap (λ (i : ℕ). get_or (frame_of name) i 1) e ∙ z) in
    omega arith

-- the part of the frame from a word's first # to its second, `&frame[b..e + 1]`, is the word's own frame
pub word_frame : (name : Str) (b e : ℕ) → WordOf name b e → take (e + 1 - b) (drop b (frame_of name)) ≡ frame (word_at name b)
word_frame name b e w =
    let n : e + 1 - b ≡ suc (suc (length (word_at name b))) = omega (arith, w.ends) in
    let d : drop b (frame_of name) ≡ 0 ∷ map boundary_or (drop b name) ++ (0 ∷ []) =
    drop-cons (frame_of name) b 1 (omega (arith, frame_length name, w.inside)) ∙ ap₂ (λ (x : ℕ) (l : Str). x ∷ l) w.starts (inner_drop b name w.inside) in
    ap₂ (λ (k : ℕ) (l : Str). take k l) n d ∙ ap (◌∷◌ 0) (first_frame (drop b name))
