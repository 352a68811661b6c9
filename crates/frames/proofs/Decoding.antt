-- The bytes of a line by their places, and what stands in the lent bytes while they are stored one after the other.
-- Assumes nothing.
use Rattle.std.proofs.Common.{◌≡◌, ℕ, zero, suc, ◌+◌, ◌-◌, ◌*◌, ◌/◌, ◌%◌, ◌<◌, ◌≤◌, eqb, ltb, List, [], ◌∷◌, ◌++◌, length, get_or, take, drop, set, sym, refl, ap, ◌∙◌, add-one, arith, length-drop, length-take-le, get_or-drop, take-suc, ltb-false, ltb-true}
use Rattle.rules.specs.Memory.{over}
use Rattle.rules.proofs.Memory.{over_length, over_snoc}
use Rattle.rules.proofs.Cases.{by_bool}
use Rattle.frames.specs.Lines.{digit, value, decoded}
use Rattle.frames.proofs.Lines.{digit_value}

-- ---- the two digits of a byte

pub value_by : (a : ℕ) → value a < 16 → a % 16 + 9 * (a / 64) ≡ value a
unfolding digit
value_by a h =
    let e = digit_value a h in
    by_bool (ltb (value a) 10)
    (λ t. let l = ltb-true (value a) 10 t in let q : 48 + value a ≡ a = rw t at e in omega arith)
    (λ t. let l = ltb-false (value a) 10 t in let q : 55 + value a ≡ a = rw t at e in omega arith)

-- byte k of a line and its digits
pub record Digits (s : List ℕ) (k : ℕ) : Type 0 where
  pub room : 2 * k + 1 < length s
  pub high : value (get_or s (2 * k) 0) < 16
  pub low : value (get_or s (2 * k + 1) 0) < 16
  pub is : get_or (decoded s) k 0 ≡ 16 * value (get_or s (2 * k) 0) + value (get_or s (2 * k + 1) 0)

module _ (a b : ℕ) (s : List ℕ) (h : value a < 16) (l : value b < 16) (e : decoded (a ∷ b ∷ s) ≡ (16 * value a + value b) ∷ decoded s)
    (k' : (k : ℕ) → k < length (decoded s) → Digits s k) where
  digits_by : (k : ℕ) → k < length (decoded (a ∷ b ∷ s)) → Digits (a ∷ b ∷ s) k
  digits_by zero r = record { room = omega arith; high = h; low = l; is = rw e }
  digits_by (suc k) r =
      let d = k' k (omega (arith, ap length e)) in
      let m : 2 * suc k ≡ suc (suc (2 * k)) = omega arith in
      let n : 2 * suc k + 1 ≡ suc (suc (2 * k + 1)) = omega arith in
      record { room = omega (arith, d.room); high = rw m d.high; low = rw n d.low; is = rw (e, n, m) d.is }

pub digits_in : (s : List ℕ) (k : ℕ) → k < length (decoded s) → Digits s k
unfolding decoded
digits_in [] k h = absurd (omega arith)
digits_in (a ∷ []) k h = absurd (omega arith)
digits_in (a ∷ b ∷ s) k h =
    by_bool (eqb a 10)
    (λ t. absurd (omega (arith, rw t at h)))
    (λ t.
    by_bool (ltb (value a) 16)
    (λ p.
    by_bool (ltb (value b) 16)
    (λ q. digits_by a b s (ltb-true (value a) 16 p) (ltb-true (value b) 16 q) (rw (t, p, q)) (digits_in s) k h)
    (λ q. absurd (omega (arith, rw (t, p, q) at h))))
    (λ p. absurd (omega (arith, rw (t, p) at h))))

-- the same for a line that starts at a place of a text
pub record Placed (s : List ℕ) (at k : ℕ) : Type 0 where
  pub room : at + 2 * k + 1 < length s
  pub high : value (get_or s (at + 2 * k) 0) < 16
  pub low : value (get_or s (at + 2 * k + 1) 0) < 16
  pub is : 16 * value (get_or s (at + 2 * k) 0) + value (get_or s (at + 2 * k + 1) 0) ≡ get_or (decoded (drop at s)) k 0

pub placed : (s : List ℕ) (at k : ℕ) → k < length (decoded (drop at s)) → Placed s at k
placed s at k h =
    let d = digits_in (drop at s) k h in
    let a : get_or (drop at s) (2 * k) 0 ≡ get_or s (at + 2 * k) 0 = get_or-drop at s (2 * k) 0 in
    let n : at + (2 * k + 1) ≡ at + 2 * k + 1 = omega arith in
    let b : get_or (drop at s) (2 * k + 1) 0 ≡ get_or s (at + 2 * k + 1) 0 = get_or-drop at s (2 * k + 1) 0 ∙ ap (λ (m : ℕ). get_or s m 0) n in
    record {
      room = omega (arith, d.room, length-drop at s);
      high = rw (← a) d.high;
      low = rw (← b) d.low;
      is = rw (← a, ← b) (sym d.is);
    }

-- a line's digits lie within the text
pub decoded_room : (s : List ℕ) (at : ℕ) → 0 < length (decoded (drop at s)) → at + 2 * length (decoded (drop at s)) ≤ length s
decoded_room s at h = let p = placed s at (length (decoded (drop at s)) - 1) (omega arith) in omega (arith, p.room)

-- ---- the bytes so far

pub record Decoded (d xs w : List ℕ) (n k : ℕ) : Type 0 where
  pub within : k ≤ n
  pub stored : w ≡ over (take k d) xs

module _ (d xs : List ℕ) (n : ℕ) (many : n ≤ length d) (room : n ≤ length xs) where
  pub decoded_start : Decoded d xs xs n 0
  decoded_start = record { within = omega arith; stored = refl }

  module _ (w : List ℕ) (k : ℕ) (p : Decoded d xs w n k) where
    size : length (take k d) ≡ k
    size = length-take-le k d (omega (arith, p.within))

    pub decoded_length : length w ≡ length xs
    decoded_length = ap length p.stored ∙ over_length (take k d) xs (omega (arith, size, p.within))

    pub decoded_next : k < n → (b : ℕ) → b ≡ get_or d k 0 → Decoded d xs (set w k b) n (k + 1)
    decoded_next h b e =
        let t : take (k + 1) d ≡ take k d ++ (b ∷ []) = rw (e, add-one) (take-suc d k 0 (omega arith)) in
        record {
          within = omega arith;
          stored =
              ap (λ (v : List ℕ). set v k b) p.stored
              ∙ (over_snoc (take k d) xs k b size (omega arith) ∙ ap (λ (v : List ℕ). over v xs) (sym t));
        }

    pub decoded_end : n ≤ k → w ≡ over (take n d) xs
    decoded_end h = let e : k ≡ n = omega (arith, p.within) in p.stored ∙ ap (λ (m : ℕ). over (take m d) xs) e
