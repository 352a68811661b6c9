-- What is counted of parts, one part at a time: their phones, their contested letters, and the rules among them.
-- Assumes nothing.
use Prim.Native.Nat.{ℕ, zero, suc, ◌+◌, ◌*◌, ◌≤◌, ◌<◌}
use mathlib.Core.Path.{◌≡◌, refl, sym, ap, ap₂, ◌∙◌}
use mathlib.Core.Bool.{cond}
use mathlib.Core.List.{List, [], ◌∷◌, ◌++◌, map, map-append}
use native.Mathlib.Nat.{mul-suc}
use native.Mathlib.Omega.{arith}
use native.Mathlib.Numerals.{add-one}
use borrow.Author.Tests.{lt-ltb, le-ltb, ltb-true}
use lib.Dec.{ltb}
use lib.ListN.{length, get_or, take, drop, length-append, drop_of_length-le}
use lib.Seq.{take-suc, drop-cons, take_all}
use Rattle.rules.specs.Limits.{max_rules}
use Rattle.rules.proofs.Cases.{by_bool}
use Rattle.fitting.specs.Reading.{Piece, applied, listed}
use Rattle.speech.specs.Places.{place_in, rules_among}
use Rattle.speech.specs.Speech.{phones_in, phones_of, numbers_in, numbers_of, contested_in, contested_of}

-- ---- what is counted of pieces: their phones, or their contested letters

pub record Sums (all : List Piece → ℕ) (each : Piece → ℕ) : Type 0 where
  pub none : all [] ≡ 0
  pub more : (x : Piece) (xs : List Piece) → all (x ∷ xs) ≡ each x + all xs

abbrev pub phone_count : List Piece → ℕ
phone_count xs = length (phones_of xs)

pub phones_sum : Sums phone_count (λ x. length (phones_in x))
phones_sum = record { none = refl; more = λ x xs. length-append (phones_in x) (phones_of xs) }

pub contested_sum : Sums contested_of contested_in
contested_sum = record { none = refl; more = λ x xs. refl }

-- `total` counted after k parts, of which none has more than `most`
pub record Counted (all : List Piece → ℕ) (most : ℕ) (f : ℕ → Piece) (ps : List ℕ) (k total : ℕ) : Type 0 where
  pub inside : k ≤ length ps
  pub counts : total ≡ all (map f (take k ps))
  pub small : total ≤ most * k

module _ (all : List Piece → ℕ) (each : Piece → ℕ) (g : Sums all each) (most : ℕ) (f : ℕ → Piece) (ps : List ℕ) where
  sum_snoc : (xs : List Piece) (y : Piece) → all (xs ++ (y ∷ [])) ≡ all xs + each y
  sum_snoc [] y = omega (arith, g.more y [], g.none)
  sum_snoc (x ∷ xs) y = omega (arith, g.more x (xs ++ (y ∷ [])), sum_snoc xs y, g.more x xs)

  pub counted_begin : Counted all most f ps 0 0
  counted_begin = record { inside = omega arith; counts = sym g.none; small = omega arith }

  pub counted_next : (k total n : ℕ) → Counted all most f ps k total → k < length ps → (to : ℕ) → to ≡ total + n → n ≡ each (f (get_or ps k 0)) → n ≤ most
      → Counted all most f ps (k + 1) to
  counted_next k total n c h to is e u =
      let s : all (map f (take (k + 1) ps)) ≡ all (map f (take k ps)) + each (f (get_or ps k 0)) =
      ap (λ (l : List ℕ). all (map f l)) (ap (λ (x : ℕ). take x ps) (add-one k) ∙ take-suc ps k 0 h)
      ∙ (ap all (map-append f (take k ps) (get_or ps k 0 ∷ [])) ∙ sum_snoc (map f (take k ps)) (f (get_or ps k 0))) in
      let m : most * (k + 1) ≡ most * k + most = ap (λ (x : ℕ). most * x) (add-one k) ∙ mul-suc most k in
      record {
        inside = omega arith;
        counts = omega (arith, s, c.counts);
        small = omega (arith, c.small);
      }

  pub counted_end : (k total : ℕ) → Counted all most f ps k total → length ps ≤ k → total ≡ all (map f ps)
  counted_end k total c h = c.counts ∙ ap (λ (l : List ℕ). all (map f l)) (take_all k ps h)

-- `most` a part are enough where no part has more
pub phones_few : (most : ℕ) (f : ℕ → Piece) (ps : List ℕ) → ((k : ℕ) → k < length ps → length (phones_in (f (get_or ps k 0))) ≤ most) → length (phones_of (map f ps)) ≤ most * length ps
phones_few most f [] h = omega arith
phones_few most f (p ∷ ps) h =
    omega (arith, length-append (phones_in (f p)) (phones_of (map f ps)), h 0 (omega arith), phones_few most f ps (λ k u. h (suc k) (omega arith)), mul-suc most (length ps))

-- a part is one letter at most, and a contested one has a number
pub contested_least : (x : Piece) → contested_in x ≤ 1
contested_least (applied a) = by_bool (ltb 1 a.fitting) (λ e. rw e (omega arith)) (λ e. rw e (omega arith))
contested_least (listed p) = omega arith

contested_one : (x : Piece) → contested_in x ≤ length (numbers_in x)
contested_one (applied a) = contested_least (applied a)
contested_one (listed p) = omega arith

pub contested_most : (xs : List Piece) → contested_of xs ≤ length (numbers_of xs)
contested_most [] = omega arith
contested_most (x ∷ xs) = omega (arith, contested_one x, contested_most xs, length-append (numbers_in x) (numbers_of xs))

-- ---- rules among parts

-- `count` rules among the first k parts
pub record Tallied (ps : List ℕ) (k count : ℕ) : Type 0 where
  pub inside : k ≤ length ps
  pub small : count ≤ k
  pub rest : rules_among ps ≡ count + rules_among (drop k ps)

module _ (ps : List ℕ) where
  pub tallied_begin : Tallied ps 0 0
  tallied_begin = record { inside = omega arith; small = omega arith; rest = omega arith }

  module _ (k count : ℕ) (t : Tallied ps k count) where
    tallied_next : (n : ℕ) → k < length ps → cond (ltb (place_in (get_or ps k 0)) max_rules) 1 0 ≡ n → n ≤ 1 → Tallied ps (k + 1) (count + n)
    tallied_next n h e u =
        let r : rules_among (drop k ps) ≡ n + rules_among (drop (k + 1) ps) =
        ap rules_among (drop-cons ps k 0 h) ∙ ap₂ ◌+◌ e (ap (λ (m : ℕ). rules_among (drop m ps)) (sym (add-one k))) in
        record { inside = omega arith; small = omega (arith, t.small); rest = omega (arith, t.rest) }

    pub tallied_rule : k < length ps → place_in (get_or ps k 0) < max_rules → Tallied ps (k + 1) (count + 1)
    tallied_rule h u = tallied_next 1 h (rw (lt-ltb (place_in (get_or ps k 0)) max_rules u) refl) (omega arith)

    pub tallied_other : k < length ps → max_rules ≤ place_in (get_or ps k 0) → Tallied ps (k + 1) count
    tallied_other h u = let e : count + 0 ≡ count = omega arith in rw (sym e) (tallied_next 0 h (rw (le-ltb (place_in (get_or ps k 0)) max_rules u) refl) (omega arith))

    pub tallied_end : length ps ≤ k → count ≡ rules_among ps
    tallied_end h = let e : rules_among (drop k ps) ≡ 0 = ap rules_among (drop_of_length-le ps {i = k} h) in omega (arith, t.rest)

one_most : (p : ℕ) → cond (ltb p max_rules) 1 0 ≤ 1
one_most p = by_bool (ltb p max_rules) (λ e. rw e (omega arith)) (λ e. rw e (omega arith))

pub rules_most : (ps : List ℕ) → rules_among ps ≤ length ps
rules_most [] = omega arith
rules_most (p ∷ ps) = omega (arith, one_most (place_in p), rules_most ps)

one_rule : (p : ℕ) → 1 ≤ cond (ltb p max_rules) 1 0 → p < max_rules
one_rule p h = by_bool (ltb p max_rules) (λ e. ltb-true p max_rules e) (λ e. let z : cond (ltb p max_rules) 1 0 ≤ 0 = rw e (omega arith) in absurd (omega arith))

-- all parts are rules
pub only_rules : (ps : List ℕ) → rules_among ps ≡ length ps → (k : ℕ) → k < length ps → place_in (get_or ps k 0) < max_rules
only_rules [] e k h = absurd (omega arith)
only_rules (p ∷ ps) e zero h = one_rule (place_in p) (omega (arith, one_most (place_in p), rules_most ps))
only_rules (p ∷ ps) e (suc k) h = only_rules ps (omega (arith, one_most (place_in p), rules_most ps)) k (omega arith)
