-- Packed phones that are said alike are alike.
-- Assumes nothing.
use mathlib.Core.Path.{◌≡◌, sym, ap, ap₂, ◌∙◌}
use Prim.Native.Nat.{ℕ, ◌+◌, ◌*◌, ◌≤◌, ◌<◌}
use native.Mathlib.Omega.{arith}
use mathlib.Core.List.{List, [], ◌∷◌}
use Rattle.automaton.specs.Automaton.{Str, rows_of, look, Letters, Sound}
use Rattle.automaton.proofs.Tests.{by_less, by_same}
use Rattle.automaton.proofs.Change.{phones_ext}
use Rattle.automaton.proofs.Endings.{endings_differ, up_to_same}
use Rattle.packing.specs.Packing.{digit, unpack, byte_at, said}
use Rattle.packing.proofs.StatePhones.{said_is}
use Rattle.phone_strings.specs.Packed.{AllPacked}
use Rattle.phone_strings.proofs.Grouped.{byte_in}

digits_are : (v : ℕ) → v ≡ digit 0 v + 256 * digit 1 v + 65536 * digit 2 v
digits_are v = omega arith

digits_same : (v w : ℕ) → v < 16777216 → w < 16777216 → digit 0 v ≡ digit 0 w → digit 1 v ≡ digit 1 w → digit 2 v ≡ digit 2 w → v ≡ w
digits_same v w a b x y z = digits_are v ∙ (ap₂ (λ (u t : ℕ). u + 65536 * t) (ap₂ (λ (u t : ℕ). u + 256 * t) x y) z ∙ sym (digits_are w))

module _ (ws : List ℕ) (n : ℕ) (s : Sound (rows_of ws) n) (p : AllPacked (rows_of ws) n) where
  bytes_same : (i j : ℕ) → i ≤ n → j ≤ n → said (rows_of ws) i ≡ said (rows_of ws) j → (k : ℕ) → k < 66 → byte_at (rows_of ws) i k ≡ byte_at (rows_of ws) j k
  bytes_same i j a b e k h =
      by_less k 64
      (λ l. up_to_same 64 (byte_at (rows_of ws) i) (byte_at (rows_of ws) j) (λ m o. (p i a).padded m (omega arith)) (λ m o. (p j b).padded m (omega arith))
      (sym (said_is ws n i s a) ∙ (e ∙ said_is ws n j s b)) k l)
      (λ l. late i a k l h ∙ sym (late j b k l h))
    where
      late : (i : ℕ) → i ≤ n → (k : ℕ) → 64 ≤ k → k < 66 → byte_at (rows_of ws) i k ≡ 0
      late i a k l h =
          by_same k 64
          (λ o. ap (byte_at (rows_of ws) i) o ∙ (p i a).short)
          (λ o. let z : k ≡ 65 = omega arith in ap (byte_at (rows_of ws) i) z ∙ (p i a).padded 64 (omega arith) (p i a).short)

  group_same : (i j : ℕ) → i ≤ n → j ≤ n → said (rows_of ws) i ≡ said (rows_of ws) j → (k : ℕ) → k < 22 → rows_of ws i (64 + k) ≡ rows_of ws j (64 + k)
  group_same i j a b e k h =
      let one : (d : ℕ) → d < 3 → digit d (rows_of ws i (64 + k)) ≡ digit d (rows_of ws j (64 + k)) = λ d l. sym (byte_in ws i k d l) ∙ (bytes_same i j a b e (3 * k + d) (omega arith) ∙ byte_in ws j k d l) in
      digits_same (rows_of ws i (64 + k)) (rows_of ws j (64 + k)) (s.bytes i k a h) (s.bytes j k b h) (one 0 (omega arith)) (one 1 (omega arith)) (one 2 (omega arith))

  pub look_same : (w : Str) → Letters w → (i j : ℕ) → i ≤ n → j ≤ n → unpack (look (rows_of ws) i w) ≡ unpack (look (rows_of ws) j w) → look (rows_of ws) i w ≡ look (rows_of ws) j w
  unfolding said
  look_same [] t i j a b e = phones_ext (rows_of ws) (rows_of ws) i j (λ k l. group_same i j a b e k l)
  look_same (c ∷ w) t i j a b e =
      let x = s.earlier i c a t.1 in
      let y = s.earlier j c b t.1 in
      look_same w t.2 (rows_of ws i c) (rows_of ws j c) (omega arith) (omega arith) e

  -- no two states have the same endings with the same phones
  pub phones_differ : (i j : ℕ) → i ≤ n → j ≤ n → ((w : Str) → Letters w → unpack (look (rows_of ws) i w) ≡ unpack (look (rows_of ws) j w)) → i ≡ j
  phones_differ i j a b e = endings_differ (rows_of ws) n s i j a b (λ w t. look_same w t i j a b (e w t))
