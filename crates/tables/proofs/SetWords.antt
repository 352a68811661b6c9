-- Sets of places in several words: the lowest place and how many there are, word by word, and so of the places that two sets share.
-- Assumes nothing.
use mathlib.Core.Path.{◌≡◌, refl, sym, ap, ap₂, ◌∙◌}
use Prim.Native.Nat.{ℕ, zero, suc, ◌+◌, ◌-◌, ◌*◌, ◌/◌, ◌%◌, ◌^◌, ◌≤◌, ◌<◌, zero-le, suc-le-suc}
use native.Mathlib.Nat.{zero-add, suc-add, add-zero, add-suc, add_assoc}
use native.Mathlib.Omega.{arith}
use native.Mathlib.Numerals.{add-one}
use mathlib.Core.Bool.{Bool, true, false, cond, ◌&&◌}
use mathlib.Core.List.{List}
use mathlib.Core.Option.{Option, none, some, map}
use borrow.Author.Tests.{lt-ltb, le-ltb}
use lib.Count.{count_trailing_zeros, ones_in, ones, ones_step}
use lib.Dec.{ltb}
use lib.ListN.{get_or}
use Rattle.rules.proofs.Cases.{by_bool}
use Rattle.numbers.specs.Bits.{bit}
use Rattle.tables.specs.Words.{table_at}
use Rattle.tables.specs.Walk.{lowest, how_many, places}
use Rattle.tables.specs.SetWords.{lowest_in, lowest_from, ones_from, in_words, meet_word}
use Rattle.tables.proofs.Sets.{pos_one, bit-and, lowest_ext, trailing_lowest}

-- ---- several words

abbrev or_else : Option ℕ → Option ℕ → Option ℕ
or_else none y = y
or_else (some k) y = some k

map_zero : (o : Option ℕ) → map (λ k. 0 + k) o ≡ o
map_zero none = refl
map_zero (some k) = rw (zero-add k)

map_or_else : (u : ℕ) (x y : Option ℕ) → map suc (or_else x (map (λ k. u + k) y)) ≡ or_else (map suc x) (map (λ k. suc u + k) y)
map_or_else u none none = refl
map_or_else u none (some k) = rw (suc-add u k)
map_or_else u (some j) y = refl

-- the lowest place below u + v is the lowest below u, or else u past the lowest of what follows
pub lowest_add : (u v : ℕ) (f g : ℕ → Bool) → ((k : ℕ) → f (u + k) ≡ g k) → lowest f (u + v) ≡ or_else (lowest f u) (map (λ k. u + k) (lowest g v))
unfolding lowest
lowest_add zero v f g h =
    rw (zero-add v, map_zero) (lowest_ext v f g (λ p l. rw (← h p, zero-add p)))
lowest_add (suc u) v f g h =
    rw (suc-add u v, lowest_add u v (λ k. f (suc k)) g (λ k. rw (← h k, suc-add u k)))
    (by_bool (f 0) (λ e. rw e) (λ e. rw e (map_or_else u (lowest (λ k. f (suc k)) u) (lowest g v))))

or_else_cond : (b : Bool) (t : ℕ) (y : Option ℕ) → or_else (cond b (some t) none) y ≡ cond b (some t) y
or_else_cond true t y = refl
or_else_cond false t y = refl

lowest_zero : (f : ℕ → Bool) → lowest f 0 ≡ none
unfolding lowest
lowest_zero f = refl

more : (m : ℕ) → 64 * suc m ≡ 64 + 64 * m
more m = omega arith

over : (k : ℕ) → (64 + k) / 64 ≡ suc (k / 64)
over k = omega arith

under_64 : (k : ℕ) → (64 + k) % 64 ≡ k % 64
under_64 k = omega arith

within : (p : ℕ) → p < 64 → p / 64 ≡ 0
within p h = omega arith

same_64 : (p : ℕ) → p < 64 → p % 64 ≡ p
same_64 p h = omega arith

-- the places below 64 are in the first word, and the places past them in the words after it
in_first : (a : ℕ → ℕ) (p : ℕ) → p < 64 → in_words a p ≡ bit (a 0) p
in_first a p l = ap₂ (λ (q r : ℕ). bit (a q) r) (within p l) (same_64 p l)

in_later : (a : ℕ → ℕ) (k : ℕ) → in_words a (64 + k) ≡ in_words (λ j. a (suc j)) k
in_later a k = ap₂ (λ (q r : ℕ). bit (a q) r) (over k) (under_64 k)

-- the word by word search finds the lowest place of the whole set
pub lowest_words : (m : ℕ) (a : ℕ → ℕ) → lowest (in_words a) (64 * m) ≡ lowest_in a m
unfolding lowest_in
lowest_words zero a = lowest_zero (in_words a)
lowest_words (suc m) a =
    ap (lowest (in_words a)) (more m)
    ∙ lowest_add 64 (64 * m) (in_words a) (in_words (λ j. a (suc j))) (in_later a)
    ∙ ap₂ or_else (lowest_ext 64 (in_words a) (bit (a 0)) (in_first a) ∙ trailing_lowest 64 (a 0))
    (ap (map (λ k. 64 + k)) (lowest_words m (λ j. a (suc j))))
    ∙ or_else_cond (ltb (count_trailing_zeros 64 (a 0)) 64) (count_trailing_zeros 64 (a 0)) (map (λ k. 64 + k) (lowest_in (λ j. a (suc j)) m))

-- ---- from word j on

sub_suc : (n j : ℕ) → j < n → n - j ≡ suc (n - (j + 1))
sub_suc n j h = omega arith

sub_none : (n j : ℕ) → n ≤ j → n - j ≡ 0
sub_none n j h = omega arith

-- the word at j, and the words after it
word-here : (a b : ℕ → ℕ) (j : ℕ) → ((i : ℕ) → a (j + i) ≡ b i) → a j ≡ b 0
word-here a b j h = ap a (sym (add-zero j)) ∙ h 0

words_after : (a b : ℕ → ℕ) (j : ℕ) → ((i : ℕ) → a (j + i) ≡ b i) → (i : ℕ) → a (suc j + i) ≡ b (suc i)
words_after a b j h i = ap a (suc-add j i ∙ sym (add-suc j i)) ∙ h (suc i)

map_add : (u v w : ℕ) → w ≡ u + v → (o : Option ℕ) → map (λ k. w + k) o ≡ map (λ k. u + k) (map (λ k. v + k) o)
map_add u v w e none = refl
map_add u v w e (some k) = ap some (omega arith)

lowest_from_is : (m : ℕ) (a b : ℕ → ℕ) (j : ℕ) → ((i : ℕ) → a (j + i) ≡ b i) → lowest_from a j m ≡ map (λ k. 64 * j + k) (lowest_in b m)
unfolding lowest_in lowest_from
lowest_from_is zero a b j h = refl
lowest_from_is (suc m) a b j h =
    rw (word-here a b j h, lowest_from_is m a (λ i. b (suc i)) (suc j) (words_after a b j h))
    (by_bool (ltb (count_trailing_zeros 64 (b 0)) 64) (λ t. rw t) (λ t. rw t (map_add (64 * j) 64 (64 * suc j) (omega arith) (lowest_in (λ i. b (suc i)) m))))

-- one word of the loop, with n words in all
pub from_found : (a : ℕ → ℕ) (j n : ℕ) → j < n → count_trailing_zeros 64 (a j) < 64 → lowest_from a j (n - j) ≡ some (64 * j + count_trailing_zeros 64 (a j))
unfolding lowest_from
from_found a j n h l = ap (lowest_from a j) (sub_suc n j h) ∙ rw (lt-ltb (count_trailing_zeros 64 (a j)) 64 l)

pub from_next : (a : ℕ → ℕ) (j n : ℕ) → j < n → 64 ≤ count_trailing_zeros 64 (a j) → lowest_from a j (n - j) ≡ lowest_from a (j + 1) (n - (j + 1))
unfolding lowest_from
from_next a j n h l =
    ap (lowest_from a j) (sub_suc n j h) ∙ rw (le-ltb (count_trailing_zeros 64 (a j)) 64 l)
    (ap (λ (i : ℕ). lowest_from a i (n - (j + 1))) (sym (add-one j)))

pub from_end : (a : ℕ → ℕ) (j n : ℕ) → n ≤ j → lowest_from a j (n - j) ≡ none
unfolding lowest_from
from_end a j n h = ap (lowest_from a j) (sub_none n j h)

-- ---- how many

pub how_many_ext : (n : ℕ) (f g : ℕ → Bool) → ((p : ℕ) → p < n → f p ≡ g p) → how_many f n ≡ how_many g n
unfolding how_many
how_many_ext zero f g h = refl
how_many_ext (suc n) f g h =
    rw (h 0 (suc-le-suc zero-le), how_many_ext n (λ k. f (suc k)) (λ k. g (suc k)) (λ k l. h (suc k) (suc-le-suc l)))

-- the places below u + v are those below u and those of what follows
pub how_many_add : (u v : ℕ) (f g : ℕ → Bool) → ((k : ℕ) → f (u + k) ≡ g k) → how_many f (u + v) ≡ how_many f u + how_many g v
unfolding how_many
how_many_add zero v f g h =
    rw (zero-add v, zero-add (how_many g v)) (how_many_ext v f g (λ p l. rw (← h p, zero-add p)))
how_many_add (suc u) v f g h =
    rw (suc-add u v, how_many_add u v (λ k. f (suc k)) g (λ k. rw (← h k, suc-add u k)))
    (sym (add_assoc (cond (f 0) 1 0) (how_many (λ k. f (suc k)) u) (how_many g v)))

-- the ones of a word's low w digits are the places it holds
pub ones_bits : (w x : ℕ) → ones_in w x ≡ how_many (bit x) w
unfolding ones_in how_many bit
ones_bits zero x = refl
ones_bits (suc w) x = ap₂ ◌+◌ (pos_one (x % 2) (omega arith)) (ones_bits w (x / 2))

-- of a word of w digits they are all
pub ones_all : (w x : ℕ) → x < 2 ^ w → ones x ≡ ones_in w x
unfolding ones_in ones
ones_all zero zero h = refl
ones_all zero (suc x) h = absurd (omega arith)
ones_all (suc w) x h = ones_step x ∙ ap (λ (k : ℕ). x % 2 + k) (ones_all w (x / 2) (omega arith))

pub ones_most : (w x : ℕ) → ones_in w x ≤ w
unfolding ones_in
ones_most zero x = zero-le
ones_most (suc w) x = omega (arith, ones_most w (x / 2))

-- at most 64 in each of m words
pub from_most : (a : ℕ → ℕ) (j m : ℕ) → ones_from a j m ≤ 64 * m
unfolding ones_from
from_most a j zero = zero-le
from_most a j (suc m) = omega (arith, ones_most 64 (a j), from_most a (suc j) m)

ones_from_is : (m : ℕ) (a b : ℕ → ℕ) (j : ℕ) → ((i : ℕ) → a (j + i) ≡ b i) → how_many (in_words b) (64 * m) ≡ ones_from a j m
unfolding how_many ones_from
ones_from_is zero a b j h = refl
ones_from_is (suc m) a b j h =
    ap (how_many (in_words b)) (more m)
    ∙ how_many_add 64 (64 * m) (in_words b) (in_words (λ i. b (suc i))) (in_later b)
    ∙ ap₂ ◌+◌ (how_many_ext 64 (in_words b) (bit (b 0)) (in_first b) ∙ sym (ones_bits 64 (b 0)) ∙ ap (ones_in 64) (sym (word-here a b j h)))
    (ones_from_is m a (λ i. b (suc i)) (suc j) (words_after a b j h))

-- the word by word count is that of the whole set
pub count_words : (m : ℕ) (a : ℕ → ℕ) → how_many (in_words a) (64 * m) ≡ ones_from a 0 m
count_words m a = ones_from_is m a a 0 (λ i. ap a (zero-add i))

-- one word of the loop, with n words in all
pub ones_next : (a : ℕ → ℕ) (j n : ℕ) → j < n → ones_from a j (n - j) ≡ ones_in 64 (a j) + ones_from a (j + 1) (n - (j + 1))
unfolding ones_from
ones_next a j n h = ap (ones_from a j) (sub_suc n j h) ∙ ap (λ (i : ℕ). ones_in 64 (a j) + ones_from a i (n - (j + 1))) (sym (add-one j))

pub ones_end : (a : ℕ → ℕ) (j n : ℕ) → n ≤ j → ones_from a j (n - j) ≡ 0
unfolding ones_from
ones_end a j n h = ap (ones_from a j) (sub_none n j h)

-- ---- the places that two sets share

-- Place p is in both sets when the intersected words hold it. `s` and `t` are where the two states' sets begin.
both_words : (ss : List ℕ) (s t p : ℕ)
    → (bit (get_or ss (s + p / 64) 0) (p % 64) && bit (get_or ss (t + p / 64) 0) (p % 64)) ≡ in_words (meet_word ss s t) p
both_words ss s t p = sym (bit-and (p % 64) (get_or ss (s + p / 64) 0) (get_or ss (t + p / 64) 0))

-- the same of two tables' states
both_tables : (ws vs ss : List ℕ) (rowsL setsL countL rowsR setsR countR q r p : ℕ)
    → ((table_at ws ss rowsL setsL countL).holds q p && (table_at vs ss rowsR setsR countR).holds r p)
    ≡ (bit (get_or ss (setsL + 8 * q + p / 64) 0) (p % 64) && bit (get_or ss (setsR + 8 * r + p / 64) 0) (p % 64))
both_tables ws vs ss rowsL setsL countL rowsR setsR countR q r p =
    ap₂ (λ (j k : ℕ). bit (get_or ss j 0) (p % 64) && bit (get_or ss k 0) (p % 64))
    (sym (add_assoc setsL (8 * q) (p / 64))) (sym (add_assoc setsR (8 * r) (p / 64)))

pub places_is : places ≡ 512
unfolding places
places_is = refl

-- the choice by the intersected words
pub choice_words : (ss : List ℕ) (s t : ℕ)
    → lowest (λ p. bit (get_or ss (s + p / 64) 0) (p % 64) && bit (get_or ss (t + p / 64) 0) (p % 64)) places
    ≡ lowest_from (meet_word ss s t) 0 8
choice_words ss s t =
    ap (lowest _) places_is
    ∙ lowest_ext 512 _ (in_words (meet_word ss s t)) (λ p l. both_words ss s t p)
    ∙ lowest_words 8 (meet_word ss s t)
    ∙ sym (lowest_from_is 8 (meet_word ss s t) (meet_word ss s t) 0
    (λ i. ap (λ (j : ℕ). meet_word ss s t j) (zero-add i))
    ∙ map_zero (lowest_in (meet_word ss s t) 8))

-- the same of two tables' states, as the walk meets their sets
pub choice_tables : (ws vs ss : List ℕ) (rowsL setsL countL rowsR setsR countR q r : ℕ)
    → lowest (λ p. (table_at ws ss rowsL setsL countL).holds q p && (table_at vs ss rowsR setsR countR).holds r p) places
    ≡ lowest_from (meet_word ss (setsL + 8 * q) (setsR + 8 * r)) 0 8
choice_tables ws vs ss rowsL setsL countL rowsR setsR countR q r =
    lowest_ext places _ _ (λ p l. both_tables ws vs ss rowsL setsL countL rowsR setsR countR q r p)
    ∙ choice_words ss (setsL + 8 * q) (setsR + 8 * r)

-- the places shared, by the intersected words
pub shared_words : (ss : List ℕ) (s t : ℕ)
    → how_many (λ p. bit (get_or ss (s + p / 64) 0) (p % 64) && bit (get_or ss (t + p / 64) 0) (p % 64)) places ≡ ones_from (meet_word ss s t) 0 8
shared_words ss s t =
    ap (how_many _) places_is
    ∙ how_many_ext 512 _ (in_words (meet_word ss s t)) (λ p l. both_words ss s t p)
    ∙ count_words 8 (meet_word ss s t)

-- the same of two tables' states
pub shared_tables : (ws vs ss : List ℕ) (rowsL setsL countL rowsR setsR countR q r : ℕ)
    → how_many (λ p. (table_at ws ss rowsL setsL countL).holds q p && (table_at vs ss rowsR setsR countR).holds r p) places
    ≡ ones_from (meet_word ss (setsL + 8 * q) (setsR + 8 * r)) 0 8
shared_tables ws vs ss rowsL setsL countL rowsR setsR countR q r =
    how_many_ext places _ _ (λ p l. both_tables ws vs ss rowsL setsL countL rowsR setsR countR q r p)
    ∙ shared_words ss (setsL + 8 * q) (setsR + 8 * r)
