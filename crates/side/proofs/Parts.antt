-- The patterns as parts of the symbols that lie in the list.
-- Assumes nothing.
use mathlib.Core.Path.{◌≡◌, refl, sym, ap, ◌∙◌, subst}
use Prim.Native.Nat.{ℕ, zero, suc, ◌+◌, ◌-◌, ◌*◌, ◌≤◌, ◌<◌}
use native.Mathlib.Omega.{arith}
use native.Mathlib.Decide.{dec_le}
use mathlib.Core.List.{List, [], ◌∷◌, ◌++◌, tail}
use lib.ListN.{length, get_or, take, drop, get_or-append}
use lib.Seq.{drop-cons, get_or_at}
use Rattle.tables.specs.Words.{row_size}
use Rattle.fitting.specs.Fitting.{Str}
use Rattle.tables.proofs.Symbols.{Small}
use Rattle.rules.specs.Limits.{max_pattern}
use Rattle.side.specs.Patterns.{pattern_at, patterns_of, Patterns}
use Rattle.side.specs.Steps.{part, Symbols}
use Rattle.side.proofs.Inserting.{patterns_length}
use Rattle.side.proofs.Running.{part_cons}

pub patterns_at : (ps ls : List ℕ) (n i : ℕ) → i < n → get_or (patterns_of ps ls n) i [] ≡ pattern_at ps ls i
unfolding patterns_of
patterns_at ps ls zero i h = absurd (omega arith)
patterns_at ps ls (suc n) i h = go (dec_le (suc i) n) (patterns_at ps ls n i)
  where
    go : Dec (i < n) → (i < n → get_or (patterns_of ps ls n) i [] ≡ pattern_at ps ls i) → get_or (patterns_of ps ls n ++ (pattern_at ps ls n ∷ [])) i [] ≡ pattern_at ps ls i
    go (yes y) f = get_or-append (patterns_of ps ls n) (pattern_at ps ls n ∷ []) [] i (omega (arith, patterns_length ps ls n)) ∙ f y
    go (no y) f =
        let e : i ≡ n = omega arith in
        get_or_at (patterns_of ps ls n) (pattern_at ps ls n) [] [] i (patterns_length ps ls n ∙ sym e) ∙ ap (pattern_at ps ls) (sym e)

take_twice : (d n : ℕ) (l : Str) → d ≤ n → take d (take n l) ≡ take d l
take_twice zero n l h = refl
take_twice (suc d) zero l h = absurd (omega arith)
take_twice (suc d) (suc n) [] h = refl
take_twice (suc d) (suc n) (x ∷ l) h = ap (λ (w : Str). x ∷ w) (take_twice d n l (omega arith))

-- the first d symbols of pattern i
pub part_is : (ps ls : List ℕ) (i d : ℕ) → d ≤ get_or ls i 0 → part ps (max_pattern * i) (max_pattern * i + d) ≡ take d (pattern_at ps ls i)
part_is ps ls i d h =
    let e : max_pattern * i + d - max_pattern * i ≡ d = omega arith in
    ap (λ (k : ℕ). take k (drop (max_pattern * i) ps)) e ∙ sym (take_twice d (get_or ls i 0) (drop (max_pattern * i) ps) h)

-- all but the first symbol
pub part_tail : (ps : List ℕ) (a e : ℕ) → a < e → e ≤ length ps → part ps (a + 1) e ≡ tail (part ps a e)
part_tail ps a e h l = sym (ap tail (part_cons ps a e h l))

small_take : (n a : ℕ) (ps : List ℕ) → a + n ≤ length ps → ((k : ℕ) → a ≤ k → k < a + n → get_or ps k 0 < row_size) → Small (take n (drop a ps))
small_take zero a ps l h = tt
small_take (suc n) a ps l h =
    subst (λ (w : Str). Small (take (suc n) w)) (sym (drop-cons ps a 0 (omega arith)))
    (h a (omega arith) (omega arith), small_take n (suc a) ps (omega arith) (λ k b c. h k (omega arith) (omega arith)))

pub small_part : (ps : List ℕ) (a e : ℕ) → Symbols ps a e → Small (part ps a e)
small_part ps a e s = small_take (e - a) a ps (omega (arith, s.order, s.inside)) (λ k b c. s.small k b (omega (arith, s.order)))

pub symbols_of : (ps ls : List ℕ) (n i d : ℕ) → Patterns ps ls n → i < n → d ≤ get_or ls i 0 → Symbols ps (max_pattern * i) (max_pattern * i + d)
symbols_of ps ls n i d ok h l =
    record {
      order = omega arith;
      inside = omega (arith, ok.short i h, ok.room);
      small = λ k a b. ok.small k (omega (arith, ok.short i h));
    }

pub symbols_rest : (ps : List ℕ) (a e : ℕ) → Symbols ps a e → a < e → Symbols ps (a + 1) e
symbols_rest ps a e s h = record { order = omega arith; inside = s.inside; small = λ k b c. s.small k (omega arith) c }
