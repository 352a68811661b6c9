-- At most four bytes, stored one after another from a place on.
-- Assumes nothing.
use Prim.Native.Nat.{ℕ, ◌+◌, ◌≤◌}
use mathlib.Core.Path.{◌≡◌, sym, ap, ◌∙◌}
use mathlib.Core.List.{List}
use native.Mathlib.Omega.{arith}
use lib.ListN.{length, get_or, set}
use lib.Seq.{paste, paste-zero}
use Rattle.rule_bytes.proofs.Copies.{put_step}

module _ (s b : List ℕ) (at : ℕ) where
  pub whole : (x : List ℕ) (n : ℕ) → x ≡ paste s at b n → length b ≡ n → x ≡ paste s at b (length b)
  whole x n e l = e ∙ ap (paste s at b) (sym l)

  pub one_put : 1 ≤ length b → at + length b ≤ length s → set s at (get_or b 0 0) ≡ paste s at b 1
  one_put h u = let e : at ≡ at + 0 = omega arith in ap (λ (x : ℕ). set s x (get_or b 0 0)) e ∙ put_step s s at b 0 (omega arith) (omega arith) (paste-zero s at b)

  pub two_put : 2 ≤ length b → at + length b ≤ length s → set (set s at (get_or b 0 0)) (at + 1) (get_or b 1 0) ≡ paste s at b 2
  two_put h u = put_step s _ at b 1 (omega arith) (omega arith) (one_put (omega arith) u)

  pub three_put : 3 ≤ length b → at + length b ≤ length s → set (set (set s at (get_or b 0 0)) (at + 1) (get_or b 1 0)) (at + 2) (get_or b 2 0) ≡ paste s at b 3
  three_put h u = put_step s _ at b 2 (omega arith) (omega arith) (two_put (omega arith) u)

  pub four_put : 4 ≤ length b → at + length b ≤ length s → set (set (set (set s at (get_or b 0 0)) (at + 1) (get_or b 1 0)) (at + 2) (get_or b 2 0)) (at + 3) (get_or b 3 0) ≡ paste s at b 4
  four_put h u = put_step s _ at b 3 (omega arith) (omega arith) (three_put (omega arith) u)
