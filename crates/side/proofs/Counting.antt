-- The loop over the symbols of pattern i, and the loop over the patterns.
-- Assumes nothing.
use mathlib.Core.Path.{◌≡◌, refl, sym, ap, ◌∙◌, subst}
use Prim.Native.Nat.{ℕ, ◌+◌, ◌*◌, ◌≤◌, ◌<◌}
use native.Mathlib.Omega.{arith}
use mathlib.Core.List.{List}
use lib.ListN.{length, get_or}
use Rattle.tables.specs.Words.{row_size}
use Rattle.tables.specs.States.{states}
use Rattle.rules.specs.Limits.{max_pattern}
use Rattle.side.specs.Patterns.{pattern_at, patterns_of, Patterns, state_count}
use Rattle.side.specs.Wrote.{Wrote, Past}
use Rattle.side.specs.Steps.{cell, Descended, Numbered, Counted, Step}
use Rattle.side.specs.declared.Place.{Place}
use Rattle.side.proofs.Descending.{as_step, past_step}
use Rattle.side.proofs.Inserting as I

module _ (ps ls : List ℕ) (i : ℕ) where
  pub record Symbols (xs ys : List ℕ) (at : Place) (m : ℕ) : Type 0 where
    pub numbered : I.Symbols ps ls i (cell ys) at.state at.count m
    pub past : Past (row_size * at.count) xs ys

module _ (ps ls : List ℕ) (i : ℕ) (ok : Patterns ps ls (i + 1)) (xs : List ℕ) (room : row_size * state_count ps ls (i + 1) ≤ length xs) where
  pub begin : (n : ℕ) → Numbered (states (patterns_of ps ls i)) xs → n ≡ state_count ps ls i → Symbols ps ls i xs xs (record { state = 0; count = n }) 0
  begin n nb f =
      record {
        numbered = I.begin (patterns_of ps ls i) (pattern_at ps ls i) (cell xs) n nb f;
        past = record { len = refl; same = λ j l. refl };
      }

  module _ (ys : List ℕ) (at : Place) (m : ℕ) (s : Symbols ps ls i xs ys at m) where
    few : at.count ≤ state_count ps ls (i + 1)
    few = I.symbols-few ps ls i ok (cell ys) at.state at.count m s.numbered

    lt : at.state < at.count
    lt = I.symbols-below ps ls i ok (cell ys) at.state at.count m s.numbered

    module _ (h : m < get_or ls i 0) (c : ℕ) (is : c ≡ get_or ps (max_pattern * i + m) 0) where
      small : c < row_size
      small = rw is (I.symbols-small ps ls i ok (cell ys) at.state at.count m s.numbered h)

      pub asks : (c < row_size) × (at.state < at.count) × (at.count < 65536) × (row_size * at.count ≤ length ys) × (cell ys at.state c ≡ 0 → row_size * at.count + row_size ≤ length ys)
      asks = (
        small,
        lt,
        omega (arith, few, I.count-few ps ls (i + 1) ok),
        omega (arith, few, s.past.len),
        λ z. let e = I.symbols-more ps ls i ok (cell ys) at.state at.count m s.numbered h (ap (cell ys at.state) (sym is) ∙ z) in omega (arith, s.past.len),
      )

      pub next : (zs : List ℕ) (r : Place) → Descended ys at.state at.count c r zs → Symbols ps ls i xs zs r (m + 1)
      next zs r d =
          let e = I.symbols-next ps ls i ok (cell ys) at.state at.count m s.numbered h (cell zs) r.state r.count (subst (λ (k : ℕ). Step (cell ys) (cell zs) at.state at.count k r.state r.count) is (as_step ys zs at.state at.count c r lt small d)) in
          let p = past_step ys zs at.state at.count c r d in
          record {
            numbered = e.0;
            past = record { len = p.len ∙ s.past.len; same = λ j l. p.same j l ∙ s.past.same j (omega (arith, e.1)) };
          }

    pub finished : get_or ls i 0 ≤ m → Counted ps ls (i + 1) xs at.count ys
    finished h =
        let f = I.symbols-finished ps ls i ok (cell ys) at.state at.count m s.numbered h in
        record { count = f.0; rows = f.1; past = s.past }

-- ---- the patterns

pub first : (ps ls xs ys : List ℕ) → Wrote xs 0 row_size (λ _. 0) ys → Counted ps ls 0 ys 1 ys
unfolding patterns_of
first ps ls xs ys w =
    record {
      count = refl;
      rows = I.no-child (cell ys) (λ c l. w.wrote c l) ps ls;
      past = record { len = refl; same = λ j l. refl };
    }

pub another : (ps ls : List ℕ) (n i : ℕ) (xs ys zs : List ℕ) (count r : ℕ) → i < n → Counted ps ls i xs count ys → Counted ps ls (i + 1) ys r zs → Counted ps ls (i + 1) xs r zs
another ps ls n i xs ys zs count r h a b =
    record {
      count = b.count;
      rows = b.rows;
      past = record {
        len = b.past.len ∙ a.past.len;
        same = λ j l. b.past.same j l ∙ a.past.same j (omega (arith, a.count, b.count, I.count-grows ps ls i (i + 1) (omega arith)));
      };
    }

-- what the first row's clearing left, too
pub all : (ps ls : List ℕ) (n : ℕ) (xs ys zs : List ℕ) (r : ℕ) → Wrote xs 0 row_size (λ _. 0) ys → Counted ps ls n ys r zs → Counted ps ls n xs r zs
all ps ls n xs ys zs r w a =
    record {
      count = a.count;
      rows = a.rows;
      past = record {
        len = a.past.len ∙ w.len;
        same = λ j l. a.past.same j l ∙ w.above j (omega (arith, a.count, I.count-some ps ls n));
      };
    }

-- the patterns are counted: their number, not i
pub counted : {ps ls xs ys : List ℕ} {i r : ℕ} (n : ℕ) → i ≡ n → Counted ps ls i xs r ys → Counted ps ls n xs r ys
counted {ps} {ls} {xs} {ys} {i} {r} n e a = subst (λ (k : ℕ). Counted ps ls k xs r ys) e a
