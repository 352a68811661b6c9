-- How many states one pattern more gives: its symbols past the longest prefix of it that is numbered already.
-- Assumes nothing.
use mathlib.Core.Path.{◌≡◌, sym, ap, ◌∙◌}
use Prim.Native.Nat.{ℕ, zero, suc, ◌+◌, ◌-◌, ◌≤◌, ◌<◌}
use native.Mathlib.Omega.{arith}
use native.Mathlib.Decide.{dec_le}
use native.Mathlib.Numerals.{add-one}
use mathlib.Core.Bool.{true, false, ◌||◌}
use mathlib.Core.List.{List, [], ◌∷◌, ◌++◌}
use lib.ListN.{length, take, length-append}
use lib.Seq.{take-suc, take_all, length-take-le}
use Rattle.rules.proofs.Cases.{by_bool}
use Rattle.fitting.specs.Fitting.{Str, starts}
use Rattle.tables.specs.States.{states, member, number_one, starts_any}
use Rattle.tables.proofs.Truth.{contra}
use Rattle.side.proofs.Prefixes.{starts_take, take_starts}
use Rattle.side.proofs.Inserting.{upto, upto_zero, upto_next}
use Rattle.count.specs.Tree.{nodes}
use Rattle.count.proofs.Starts.{nested, any_snoc, any_trans, any_node}

module _ (pats : List Str) (p : Str) where
  abbrev ws : List Str
  ws = nodes pats

  abbrev count : ℕ → ℕ
  count k = length (upto pats p k)

  -- the prefix of k + 1 symbols is numbered once those up to k are
  member_next : (k : ℕ) → member (take (suc k) p) (upto pats p k) ≡ (starts_any (take (suc k) p) ws || starts (take (suc k) p) (take k p))
  member_next k = any_node (pats ++ (take k p ∷ [])) (take (suc k) p) ∙ any_snoc (take (suc k) p) ws (take k p)

  next-is : (k : ℕ) → k < length p → upto pats p (suc k) ≡ number_one (upto pats p k) (take (suc k) p)
  next-is k h = ap (upto pats p) (sym (add-one k)) ∙ upto_next pats p k h ∙ ap (number_one (upto pats p k)) (sym (take-suc p k 0 h))

  lower : (j k : ℕ) → j ≤ k → k ≤ length p → starts (take j p) (take k p) ≡ true
  lower j k h l = nested (take j p) (take k p) p (take_starts j p) (take_starts k p) (omega (arith, length-take-le j p (omega arith), length-take-le k p l))

  -- nothing is new
  known : (k : ℕ) → k ≤ length p → starts_any (take k p) ws ≡ true → count k ≡ length (states pats)
  known zero h a = ap length (upto_zero pats p)
  known (suc k) h a =
      let m : member (take (suc k) p) (upto pats p k) ≡ true = member_next k ∙ rw a in
      let i = known k (omega arith) (any_trans (take k p) (take (suc k) p) ws (lower k (suc k) (omega arith) h) a) in
      ap length (next-is k h) ∙ rw m i

  -- all is new
  fresh : (m : ℕ) → starts_any (take (suc m) p) ws ≡ false → (j : ℕ) → m + j ≤ length p → count (m + j) ≡ count m + j
  fresh m a zero h = let e : m + zero ≡ m = omega arith in ap count e ∙ (let f : count m ≡ count m + zero = omega arith in f)
  fresh m a (suc j) h =
      let k = m + j in
      let x = take (suc k) p in
      let s : m + suc j ≡ suc k = omega arith in
      let b : starts_any x ws ≡ false = contra (λ z. any_trans (take (suc m) p) x ws (lower (suc m) (suc k) (omega arith) (omega arith)) z) a in
      let c : starts x (take k p) ≡ false =
      by_bool (starts x (take k p))
      (λ z. absurd (omega (arith, (starts_take x (take k p) z).1, length-take-le (suc k) p (omega arith), length-take-le k p (omega arith)))) (λ z. z) in
      let n : member x (upto pats p k) ≡ false = member_next k ∙ rw (b, c) in
      let i = fresh m a j (omega arith) in
      let g : count (suc k) ≡ count k + 1 = ap length (next-is k (omega arith)) ∙ rw n (length-append (upto pats p k) (x ∷ [])) in
      ap count s ∙ g ∙ (let e : count k + 1 ≡ count m + suc j = omega arith in e)

  pub added : (m : ℕ) → m ≤ length p → starts_any (take m p) ws ≡ true → (m < length p → starts_any (take (suc m) p) ws ≡ false)
      → length (states (pats ++ (p ∷ []))) ≡ length (states pats) + (length p - m)
  added m h a f = sym all ∙ go (dec_le (suc m) (length p))
    where
      all : count (length p) ≡ length (states (pats ++ (p ∷ [])))
      all = ap (λ (w : Str). length (states (pats ++ (w ∷ [])))) (take_all (length p) p (omega arith))

      go : Dec (m < length p) → count (length p) ≡ length (states pats) + (length p - m)
      go (yes y) =
          let e : m + (length p - m) ≡ length p = omega arith in
          ap count (sym e) ∙ fresh m (f y) (length p - m) (omega arith) ∙ ap (λ (k : ℕ). k + (length p - m)) (known m h a)
      go (no y) =
          let e : length p ≡ m = omega arith in
          ap count e ∙ known m h a ∙ (let g : length (states pats) ≡ length (states pats) + (length p - m) = omega arith in g)
