-- The states are the prefixes of the patterns, and those of the first patterns have the lowest numbers.
-- Assumes nothing.
use mathlib.Core.Path.{◌≡◌, refl, sym, ap, ap₂, ◌∙◌}
use Prim.Native.Nat.{ℕ, zero, suc, ◌+◌, ◌≤◌, ◌<◌, zero-le, suc-le-suc}
use mathlib.Core.Bool.{true, or-true}
use mathlib.Core.List.{List, [], ◌∷◌, ◌++◌}
use native.Mathlib.Nat.{le_of_suc-le-suc, not-suc-le-zero}
use native.Mathlib.Omega.{arith}
use native.Mathlib.Numerals.{add-one}
use lib.Dec.{eqb, eqb→eq, eqb_refl}
use lib.ListN.{length, get_or, take, drop, length-take, take-append-drop}
use lib.Seq.{take-suc, get_or-take}
use Rattle.rules.proofs.Cases.{by_bool}
use Rattle.fitting.specs.Fitting.{Str, same, starts}
use Rattle.tables.specs.States.{member, index, number_all, prefixes, all_prefixes, states, starts_any}
use Rattle.tables.proofs.Truth.{clash, true_eq, eq_true, and_left, and_right}
use Rattle.tables.proofs.Suffix.{same_refl}
use Rattle.tables.proofs.Numbering.{member_all, get_d_index, index_lt, index_all, index_get_d, numbered_is, distinct_states}
use Rattle.tables.proofs.Build.{number_all_append}
use Rattle.side.proofs.Inserting.{states_grow}

-- ---- a state starts a pattern

pub starts_take : (s p : Str) → starts s p ≡ true → (take (length s) p ≡ s) × (length s ≤ length p)
starts_take [] p e = (refl, zero-le)
starts_take (x ∷ s) [] e = clash e refl
starts_take (x ∷ s) (y ∷ p) e =
    let a : x ≡ y = eqb→eq x y (true_eq (eqb x y) (and_left (eqb x y) (starts s p) e)) in
    let r = starts_take s p (and_right (eqb x y) (starts s p) e) in
    (ap₂ ◌∷◌ (sym a) r.0, suc-le-suc r.1)

-- a pattern that s starts
pub record Starts (s : Str) (pats : List Str) : Type 0 where
  pub place : ℕ
  pub inside : place < length pats
  pub is : take (length s) (get_or pats place []) ≡ s
  pub long : length s ≤ length (get_or pats place [])

starts-any : (s : Str) (pats : List Str) → starts_any s pats ≡ true → Starts s pats
starts-any s [] e = clash e refl
starts-any s (p ∷ l) e =
    by_bool (starts s p)
    (λ t. record { place = 0; inside = suc-le-suc zero-le; is = (starts_take s p t).0; long = (starts_take s p t).1 })
    (λ t. let r = starts-any s l (rw t at e) in record { place = suc r.place; inside = suc-le-suc r.inside; is = r.is; long = r.long })

-- a numbered string that is not empty starts a pattern
pub started : (pats : List Str) (s : Str) → 0 < length s → member s (states pats) ≡ true → Starts s pats
started pats [] h m = absurd (not-suc-le-zero h)
started pats (x ∷ s) h m = starts-any (x ∷ s) pats (sym (numbered_is pats (x ∷ s)) ∙ m)

pub member_at : (l : List Str) (q : ℕ) → q < length l → member (get_or l q []) l ≡ true
member_at [] q h = absurd (not-suc-le-zero h)
member_at (x ∷ l) zero h = rw (same_refl x)
member_at (x ∷ l) (suc q) h = rw (member_at l q (le_of_suc-le-suc h)) (or-true (same (get_or l q []) x))

-- ---- a prefix of a pattern is numbered

pub take_starts : (d : ℕ) (p : Str) → starts (take d p) p ≡ true
take_starts zero p = refl
take_starts (suc d) [] = refl
take_starts (suc d) (x ∷ p) = rw (eq_true (eqb x x) (eqb_refl x)) (take_starts d p)

any_at : (s : Str) (l : List Str) (i : ℕ) → i < length l → starts s (get_or l i []) ≡ true → starts_any s l ≡ true
any_at s [] i h e = absurd (not-suc-le-zero h)
any_at s (x ∷ l) zero h e = rw e
any_at s (x ∷ l) (suc i) h e = rw (any_at s l i (le_of_suc-le-suc h) e) (or-true (starts s x))

pub prefix_member : (pats : List Str) (i d : ℕ) → i < length pats → member (take d (get_or pats i [])) (states pats) ≡ true
prefix_member pats i d h =
    let w = take d (get_or pats i []) in
    numbered_is pats w ∙ rw (any_at w pats i h (take_starts d (get_or pats i []))) (or-true (same w []))

-- ---- the states of the first patterns

all_append : (a b st : List Str) → number_all st (all_prefixes (a ++ b)) ≡ number_all (number_all st (all_prefixes a)) (all_prefixes b)
all_append [] b st = refl
all_append (x ∷ a) b st =
    number_all_append st (prefixes x) (all_prefixes (a ++ b))
    ∙ all_append a b (number_all st (prefixes x))
    ∙ ap (λ (l : List Str). number_all l (all_prefixes b)) (sym (number_all_append st (prefixes x) (all_prefixes a)))

-- the number that a string has among the states of the first patterns
index_early : (a b : List Str) (s : Str) → member s (states a) ≡ true → index s (states (a ++ b)) ≡ index s (states a)
index_early a b s m = ap (index s) (all_append a b ([] ∷ [])) ∙ index_all s (states a) (all_prefixes b) m

string_early : (a b : List Str) (q : ℕ) → q < length (states a) → get_or (states (a ++ b)) q [] ≡ get_or (states a) q []
string_early a b q h =
    let s = get_or (states a) q [] in
    let m = member_at (states a) q h in
    let e : index s (states (a ++ b)) ≡ q = index_early a b s m ∙ index_get_d (states a) (distinct_states a) q h in
    ap (λ (k : ℕ). get_or (states (a ++ b)) k []) (sym e)
    ∙ get_d_index s (states (a ++ b)) (ap (member s) (all_append a b ([] ∷ [])) ∙ member_all s (states a) (all_prefixes b) ∙ rw m)

module _ (pats : List Str) (i : ℕ) where
  -- a state below their count starts one of the first i patterns
  pub starts_early : (q : ℕ) → q < length (states (take i pats)) → 0 < length (get_or (states pats) q []) → Starts (get_or (states pats) q []) (take i pats)
  starts_early q h l =
      let e : get_or (states pats) q [] ≡ get_or (states (take i pats)) q [] =
      ap (λ (x : List Str). get_or (states x) q []) (sym (take-append-drop i pats)) ∙ string_early (take i pats) (drop i pats) q h in
      started (take i pats) (get_or (states pats) q []) l (ap (λ (s : Str). member s (states (take i pats))) e ∙ member_at (states (take i pats)) q h)

  module _ (h : i < length pats) where
    -- a prefix of the next pattern is a state of one pattern more
    pub prefix_early : (d : ℕ) → index (take d (get_or pats i [])) (states pats) < length (states (take (i + 1) pats))
    prefix_early d =
        let w = take d (get_or pats i []) in
        let a = take (i + 1) pats in
        let g : get_or a i [] ≡ get_or pats i [] = get_or-take (i + 1) pats i [] (omega arith) in
        let m : member w (states a) ≡ true = ap (λ (p : Str). member (take d p) (states a)) (sym g) ∙ prefix_member a i d (simp length-take (omega arith)) in
        let e : index w (states pats) ≡ index w (states a) = ap (λ (x : List Str). index w (states x)) (sym (take-append-drop (i + 1) pats)) ∙ index_early a (drop (i + 1) pats) w m in
        rw e (index_lt w (states a) m)

    -- one pattern more has no fewer states
    pub count_early : length (states (take i pats)) ≤ length (states (take (i + 1) pats))
    count_early =
        let e : take (i + 1) pats ≡ take i pats ++ (get_or pats i [] ∷ []) = ap (λ (k : ℕ). take k pats) (add-one i) ∙ take-suc pats i [] h in
        rw e (states_grow (take i pats) (get_or pats i []))
