-- The loop that lays the patterns of a side one after the other.
-- Assumes nothing.
use mathlib.Core.Path.{◌≡◌, refl, sym, ap, ap₂, ◌∙◌, subst}
use Prim.Native.Nat.{ℕ, zero, suc, ◌+◌, ◌-◌, ◌*◌, ◌≤◌, ◌<◌}
use native.Mathlib.Omega.{arith}
use native.Mathlib.Decide.{dec_le}
use mathlib.Core.Bool.{Bool, true}
use mathlib.Core.List.{List, [], ◌∷◌, ◌++◌, map, map-append}
use lib.ListN.{length, get_or, take, drop, set, replicate, length-replicate, length-set, length-take, length-drop}
use lib.Seq.{get_or-set_same, get_or-set_other, get_or-take, get_or-drop, take-suc, take_all, ext_get_or}
use Rattle.side.proofs.Writing.{zeros}
use Rattle.rules.specs.Limits.{max_rules, max_pattern}
use Rattle.tables.specs.Words.{row_size}
use Rattle.image.specs.State.{no_entry}
use Rattle.rules.specs.Shape.{Entry}
use Rattle.image.specs.Image.{valid, total_of, literals_of}
use Rattle.image.proofs.Literals.{total_is, literals_few}
use Rattle.literals.specs.Places.{literal_entry}
use Rattle.fitting.specs.Fitting.{Str}
use Rattle.side.specs.Patterns.{pattern_at, patterns_of}
use Rattle.side.specs.Wrote.{Wrote}
use Rattle.patterns.specs.Sides.{side_of, pattern_in, Scratch, Laid}
use Rattle.patterns.proofs.Symbols.{long, small}

module _ (d : List ℕ) (right : Bool) (ps₀ ls₀ : List ℕ) where
  -- the first i patterns are laid
  pub record Laying (ps ls : List ℕ) (i : ℕ) : Type 0 where
    pub reached : i ≤ total_of d
    pub ps_len : length ps ≡ length ps₀
    pub ls_len : length ls ≡ length ls₀
    pub low : (k : ℕ) → get_or ps k 0 < row_size
    pub lengths : (j : ℕ) → j < i → get_or ls j 0 ≡ length (pattern_in d right j)
    pub symbols : (j k : ℕ) → j < i → k < length (pattern_in d right j) → get_or ps (max_pattern * j + k) 0 ≡ get_or (pattern_in d right j) k 0

module _ (d : List ℕ) (right : Bool) (ok : valid d ≡ true) (ps₀ ls₀ : List ℕ) (sc : Scratch ps₀ ls₀) where
  few : total_of d ≤ max_rules
  few = omega (arith, total_is d ok, literals_few d ok)

  pub begin : Laying d right ps₀ ls₀ ps₀ ls₀ 0
  begin = record { reached = omega arith; ps_len = refl; ls_len = refl; low = sc.low; lengths = λ j h. absurd (omega arith); symbols = λ j k h l. absurd (omega arith) }

  module _ (ps ls : List ℕ) (i : ℕ) (y : Laying d right ps₀ ls₀ ps ls i) where
    module _ (h : i < total_of d) where
      pub fits : max_pattern * i + max_pattern ≤ length ps
      fits = omega (arith, y.ps_len, sc.room, few)

      pub lens_room : i < length ls
      lens_room = omega (arith, y.ls_len, sc.lens, few)

      pub next : (n : ℕ) → n ≡ length (pattern_in d right i) → (ps' : List ℕ) → Wrote ps (max_pattern * i) n (λ k. get_or (pattern_in d right i) k 0) ps' → Laying d right ps₀ ls₀ ps' (set ls i n) (i + 1)
      next n e ps' w =
          record {
            reached = omega arith;
            ps_len = w.len ∙ y.ps_len;
            ls_len = length-set ls i n ∙ y.ls_len;
            low = λ k. little k (dec_le (max_pattern * i) k) (dec_le (max_pattern * i + n) k);
            lengths = λ j l. len j l (dec_le (suc j) i);
            symbols = λ j k l m. sym_at j k l m (dec_le (suc j) i);
          }
        where
          little : (k : ℕ) → Dec (max_pattern * i ≤ k) → Dec (max_pattern * i + n ≤ k) → get_or ps' k 0 < row_size
          little k (no a) b = rw (w.below k (omega arith)) (y.low k)
          little k (yes a) (yes b) = rw (w.above k b) (y.low k)
          little k (yes a) (no b) =
              let q : max_pattern * i + (k - max_pattern * i) ≡ k = omega arith in
              subst (λ (j : ℕ). get_or ps' j 0 < row_size) q (rw (w.wrote (k - max_pattern * i) (omega arith)) (small d ok i h right (k - max_pattern * i)))

          len : (j : ℕ) → j < i + 1 → Dec (j < i) → get_or (set ls i n) j 0 ≡ length (pattern_in d right j)
          len j l (yes a) = get_or-set_other ls i j n 0 (omega arith) ∙ y.lengths j a
          len j l (no a) =
              let q : i ≡ j = omega arith in
              subst (λ (x : ℕ). get_or (set ls i n) x 0 ≡ length (pattern_in d right x)) q (get_or-set_same ls i n 0 lens_room ∙ e)

          sym_at : (j k : ℕ) → j < i + 1 → k < length (pattern_in d right j) → Dec (j < i) → get_or ps' (max_pattern * j + k) 0 ≡ get_or (pattern_in d right j) k 0
          sym_at j k l m (yes a) =
              let f = long d ok j (omega arith) right in
              w.below (max_pattern * j + k) (omega arith) ∙ y.symbols j k a m
          sym_at j k l m (no a) =
              let q : j ≡ i = omega arith in
              let g = ap (λ (x : ℕ). length (pattern_in d right x)) q in
              ap (λ (x : ℕ). get_or ps' (max_pattern * x + k) 0) q ∙ w.wrote k (omega (arith, e)) ∙ sym (ap (λ (x : ℕ). get_or (pattern_in d right x) k 0) q)

  -- ---- all are laid

  module _ (ps ls : List ℕ) (y : Laying d right ps₀ ls₀ ps ls (total_of d)) where
    at : (j : ℕ) → j < total_of d → pattern_at ps ls j ≡ pattern_in d right j
    at j h =
        let f = long d ok j h right in
        let n = y.lengths j h in
        let l : length (pattern_at ps ls j) ≡ length (pattern_in d right j) = simp (length-take, length-drop) (omega (arith, y.ps_len, sc.room, few)) in
        ext_get_or 0 (pattern_at ps ls j) (pattern_in d right j) l
        (λ k m. get_or-take (get_or ls j 0) (drop (max_pattern * j) ps) k 0 (omega arith) ∙ get_or-drop (max_pattern * j) ps k 0 ∙ y.symbols j k h (omega arith))

    all : (n : ℕ) → n ≤ total_of d → patterns_of ps ls n ≡ map (side_of right) (take n (literals_of d))
    unfolding patterns_of
    all zero h = refl
    all (suc n) h =
        ap₂ (λ (l : List Str) (s : Str). l ++ (s ∷ [])) (all n (omega arith)) (at n (omega arith))
        ∙ sym (ap (λ (l : List Entry). map (side_of right) l) (take-suc (literals_of d) n no_entry (omega (arith, total_is d ok)))
        ∙ map-append (side_of right) (take n (literals_of d)) (literal_entry d n ∷ []))

    pub finished : Laid d right ps ls
    finished =
        record {
          scratch = record { room = omega (arith, y.ps_len, sc.room); lens = omega (arith, y.ls_len, sc.lens); low = y.low };
          ok = record {
            few = few;
            room = omega (arith, y.ps_len, sc.room, few);
            lens = omega (arith, y.ls_len, sc.lens, few);
            short = λ j h. omega (arith, y.lengths j h, long d ok j h right);
            small = λ k h. y.low k;
          };
          are =
              all (total_of d) (omega arith)
              ∙ ap (map (side_of right)) (take_all (total_of d) (literals_of d) (omega (arith, total_is d ok)));
        }

pub laid_at : {d : List ℕ} {right : Bool} {ps₀ ls₀ ps ls : List ℕ} {i : ℕ} (n : ℕ) → i ≡ n → Laying d right ps₀ ls₀ ps ls i → Laying d right ps₀ ls₀ ps ls n
laid_at {d} {right} {ps₀} {ls₀} {ps} {ls} {i} n e y = subst (Laying d right ps₀ ls₀ ps ls) e y

-- arrays of zeros are scratch memory
pub cleared : (m n : ℕ) → max_pattern * max_rules ≤ m → max_rules ≤ n → Scratch (replicate m 0) (replicate n 0)
cleared m n a b = record { room = omega (arith, length-replicate {A = ℕ} m 0); lens = omega (arith, length-replicate {A = ℕ} n 0); low = λ k. rw (zeros m k) (omega arith) }
