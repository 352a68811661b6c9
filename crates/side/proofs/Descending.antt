-- A step down to a child: what is found, and what is made.
-- Assumes nothing.
use mathlib.Core.Path.{◌≡◌, refl, sym, ap, ◌∙◌, subst}
use Prim.Native.Nat.{ℕ, ◌+◌, ◌*◌, ◌≤◌, ◌<◌}
use native.Mathlib.Omega.{arith}
use mathlib.Core.Logic.{◌≢◌, ◌⊎◌, inl, inr}
use mathlib.Core.List.{List}
use lib.Dec.{eqb, eqb→eq}
use borrow.Author.Tests.{eqb-false}
use Rattle.tables.specs.Words.{row_size}
use Rattle.rules.proofs.Cases.{by_bool}
use Rattle.tables.proofs.Truth.{true_eq}
use lib.ListN.{length, get_or, set, length-set}
use lib.Seq.{get_or-set_same, get_or-set_other}
use Rattle.side.specs.Wrote.{Wrote, Past}
use Rattle.side.specs.Steps.{cell, Made, Descended, Step, NewChild}
use Rattle.side.specs.declared.Place.{Place}

pub found : (xs : List ℕ) (q n c : ℕ) (r : Place) → (cell xs q c ≡ 0 → ⊥) → r.state ≡ cell xs q c → r.count ≡ n → Descended xs q n c r xs
found xs q n c r h e f = record { found = λ _. (e, (f, refl)); made = λ z. absurd (h z) }

made_is : (xs ys : List ℕ) (k n : ℕ) → k < row_size * n → row_size * n + row_size ≤ length xs → Wrote (set xs k n) (row_size * n) row_size (λ _. 0) ys → Made xs k n ys
made_is xs ys k n l h w =
    record {
      len = w.len ∙ length-set xs k n;
      child = w.below k l ∙ get_or-set_same xs k n 0 (omega arith);
      row = λ c m. w.wrote c m;
      below = λ j m d. w.below j m ∙ get_or-set_other xs k j n 0 d;
      above = λ j m. w.above j m ∙ get_or-set_other xs k j n 0 (omega arith);
    }

pub made : (xs ys : List ℕ) (q n c : ℕ) (r : Place) → cell xs q c ≡ 0 → q < n → c < row_size → row_size * n + row_size ≤ length xs → Wrote (set xs (row_size * q + c) n) (row_size * n) row_size (λ _. 0) ys
    → r.state ≡ n → r.count ≡ n + 1 → Descended xs q n c r ys
made xs ys q n c r z l m h w e f =
    record { found = λ d. absurd (d z); made = λ _. (e, (f, made_is xs ys (row_size * q + c) n (omega arith) h w)) }

-- the same where the symbol's copy w stands for it
pub found_w : (xs : List ℕ) (q n c w : ℕ) (r : Place) → w ≡ c → (get_or xs (row_size * q + w) 0 ≡ 0 → ⊥) → r.state ≡ get_or xs (row_size * q + w) 0 → r.count ≡ n → Descended xs q n c r xs
found_w xs q n c w r i h e f =
    let k : get_or xs (row_size * q + w) 0 ≡ cell xs q c = ap (λ (v : ℕ). get_or xs (row_size * q + v) 0) i in
    found xs q n c r (λ z. h (k ∙ z)) (e ∙ k) f

pub zero_w : (xs : List ℕ) (q c w : ℕ) → w ≡ c → get_or xs (row_size * q + w) 0 ≡ 0 → cell xs q c ≡ 0
zero_w xs q c w i z = sym (ap (λ (v : ℕ). get_or xs (row_size * q + v) 0) i) ∙ z

pub made_w : (xs ys : List ℕ) (q n c w : ℕ) (r : Place) → w ≡ c → get_or xs (row_size * q + w) 0 ≡ 0 → q < n → c < row_size → row_size * n + row_size ≤ length xs → Wrote (set xs (row_size * q + w) n) (row_size * n) row_size (λ _. 0) ys
    → r.state ≡ n → r.count ≡ n + 1 → Descended xs q n c r ys
made_w xs ys q n c w r i z l m h o e f =
    made xs ys q n c r (zero_w xs q c w i z) l m h (subst (λ (v : ℕ). Wrote (set xs (row_size * q + v) n) (row_size * n) row_size (λ _. 0) ys) i o) e f

-- what a step of the rows is as a step of their lookup
pub as_step : (xs ys : List ℕ) (q n c : ℕ) (r : Place) → q < n → c < row_size → Descended xs q n c r ys → Step (cell xs) (cell ys) q n c r.state r.count
as_step xs ys q n c r l m d =
    record {
      found = λ h. ((d.found h).0, ((d.found h).1.0, λ k e o p. ap (λ (z : List ℕ). cell z k e) (d.found h).1.1));
      made = λ h. ((d.made h).0, ((d.made h).1.0, new (d.made h).1.1));
    }
  where
    differ : (k e : ℕ) → e < row_size → (k ≢ q) ⊎ (e ≢ c) → row_size * k + e ≡ row_size * q + c → ⊥
    differ k e p (inl z) w = z (omega arith)
    differ k e p (inr z) w = z (omega arith)

    new : Made xs (row_size * q + c) n ys → NewChild (cell xs) (cell ys) q n c
    new w = record { child = w.child; row = w.row; other = λ k e o p z. w.below (row_size * k + e) (omega arith) (differ k e p z) }

-- what lies past the rows is kept
pub past_step : (xs ys : List ℕ) (q n c : ℕ) (r : Place) → Descended xs q n c r ys → Past (row_size * r.count) xs ys
past_step xs ys q n c r d =
    by_bool (eqb (cell xs q c) 0)
    (λ t. made_past (d.made (eqb→eq (cell xs q c) 0 (true_eq (eqb (cell xs q c) 0) t))))
    (λ t. found_past (d.found (eqb-false (cell xs q c) 0 t)))
  where
    made_past : (r.state ≡ n) × ((r.count ≡ n + 1) × Made xs (row_size * q + c) n ys) → Past (row_size * r.count) xs ys
    made_past w = record { len = w.1.1.len; same = λ j l. w.1.1.above j (omega (arith, w.1.0)) }

    found_past : (r.state ≡ cell xs q c) × ((r.count ≡ n) × (ys ≡ xs)) → Past (row_size * r.count) xs ys
    found_past w = record { len = ap length w.1.1; same = λ j l. ap (λ (x : List ℕ). get_or x j 0) w.1.1 }
