-- A list gone through from its end.
-- Assumes nothing.
use Prim.Native.Nat.{ℕ, ◌+◌, ◌-◌, ◌≤◌}
use mathlib.Core.Path.{◌≡◌, sym, ap, ◌∙◌}
use mathlib.Core.List.{[], ◌∷◌, ◌++◌, append-nil, append_assoc}
use native.Mathlib.Omega.{arith}
use lib.ListN.{length, get_or, length-append}
use lib.Seq.{get_or_at}
use Rattle.fitting.specs.Fitting.{Str}

-- `left` is what s has before its last k symbols
pub record Backwards (s left : Str) (k : ℕ) : Type 0 where
  pub gone : Str
  pub joined : s ≡ left ++ gone
  pub count : length gone ≡ k

pub begin : (s left : Str) (k : ℕ) → left ≡ s → k ≡ 0 → Backwards s left k
begin s left k e z = record { gone = []; joined = sym (append-nil left ∙ e); count = sym z }

module _ (s left : Str) (k : ℕ) (b : Backwards s left k) where
  pub counts : k + length left ≡ length s
  counts = omega (arith, ap length b.joined, length-append left b.gone, b.count)

  module _ (rest : Str) (x : ℕ) (e : left ≡ rest ++ (x ∷ [])) where
    joined : s ≡ rest ++ (x ∷ b.gone)
    joined = b.joined ∙ (ap (λ (w : Str). w ++ b.gone) e ∙ append_assoc rest (x ∷ []) b.gone)

    pub next : Backwards s rest (k + 1)
    next = record { gone = x ∷ b.gone; joined = joined; count = omega (arith, b.count) }

    pub more : k + 1 ≤ length s
    more = omega (arith, ap length joined, length-append rest (x ∷ b.gone), b.count)

    pub symbol : x ≡ get_or s (length s - 1 - k) 0
    symbol =
        let i : length rest ≡ length s - 1 - k = omega (arith, ap length joined, length-append rest (x ∷ b.gone), b.count) in
        sym (ap (λ (w : Str). get_or w (length s - 1 - k) 0) joined ∙ get_or_at rest x b.gone 0 (length s - 1 - k) i)
