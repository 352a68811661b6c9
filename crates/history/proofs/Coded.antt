-- Words read as bytes, one after the other.
-- Assumes nothing.
use Prim.Native.Nat.{ℕ, zero, suc, ◌+◌, ◌≤◌, ◌<◌, ◌%◌}
use mathlib.Core.Path.{◌≡◌, refl, sym, ap, ap₂, ◌∙◌}
use mathlib.Core.List.{List, [], ◌∷◌, ◌++◌, append-nil}
use native.Mathlib.Omega.{arith}
use native.Mathlib.Numerals.{add-one}
use lib.ListN.{length, drop, set, drop_of_length-le}
use lib.Seq.{get_or-drop}
use Rattle.rules.specs.Memory.{over}
use Rattle.rules.proofs.Memory.{over_length, over_snoc}
use Rattle.rule_bytes.specs.RuleBytes.{rule_size, Filled}
use Rattle.rule_bytes.proofs.Fields.{rule_filled}
use Rattle.history.specs.Code.{rule_word, byte_at, first_bytes, coded_rule}

bytes_length : (n : ℕ) (ws : List ℕ) → length (first_bytes n ws) ≡ n
unfolding first_bytes
bytes_length zero ws = refl
bytes_length (suc n) ws = ap suc (bytes_length n (drop 1 ws))

-- a coded rule has full arrays
pub coded_rule_filled : (ws : List ℕ) → Filled (coded_rule ws)
coded_rule_filled ws = rule_filled (first_bytes rule_size (drop rule_word ws)) (omega (arith, bytes_length rule_size (drop rule_word ws)))

byte_past : (k i : ℕ) (ws : List ℕ) → byte_at (drop k ws) i ≡ byte_at ws (k + i)
byte_past k i ws = ap (λ (x : ℕ). x % 256) (get_or-drop k ws i 0)

bytes_snoc : (n : ℕ) (ws : List ℕ) → first_bytes (suc n) ws ≡ first_bytes n ws ++ (byte_at ws n ∷ [])
unfolding first_bytes
bytes_snoc zero ws = refl
bytes_snoc (suc n) ws =
    let e : 1 + n ≡ suc n = omega arith in
    ap (λ (l : List ℕ). byte_at ws 0 ∷ l)
    (bytes_snoc n (drop 1 ws) ∙ ap (λ (x : ℕ). first_bytes n (drop 1 ws) ++ (x ∷ [])) (byte_past 1 n ws ∙ ap (byte_at ws) e))

-- the first i bytes of the rule in `code` are in memory that held `old`
pub record Filling (old code room : List ℕ) (i : ℕ) : Type 0 where
  pub few : i ≤ length old
  pub is : room ≡ over (first_bytes i (drop rule_word code)) old

module _ (old code : List ℕ) where
  pub begin : Filling old code old 0
  unfolding first_bytes
  begin = record { few = omega arith; is = refl }

  module _ (room : List ℕ) (i : ℕ) (f : Filling old code room i) where
    pub long : length room ≡ length old
    long =
        ap length f.is ∙ over_length (first_bytes i (drop rule_word code)) old (omega (arith, f.few, bytes_length i (drop rule_word code)))

    pub next : i < length old → (v : ℕ) → v ≡ byte_at code (rule_word + i) → Filling old code (set room i v) (i + 1)
    next h v e =
        record {
          few = omega arith;
          is =
              ap₂ (λ (r : List ℕ) (x : ℕ). set r i x) f.is (e ∙ sym (byte_past rule_word i code))
              ∙ (over_snoc (first_bytes i (drop rule_word code)) old i (byte_at (drop rule_word code) i) (bytes_length i (drop rule_word code)) h
              ∙ ap (λ (l : List ℕ). over l old) (sym (bytes_snoc i (drop rule_word code)) ∙ ap (λ (n : ℕ). first_bytes n (drop rule_word code)) (sym (add-one i))));
        }

    pub finished : length old ≤ i → room ≡ first_bytes (length old) (drop rule_word code)
    finished h =
        let n : i ≡ length old = omega (arith, f.few) in
        let l : List ℕ = first_bytes (length old) (drop rule_word code) in
        f.is ∙ (ap (λ (k : ℕ). over (first_bytes k (drop rule_word code)) old) n
        ∙ (ap (λ (r : List ℕ). l ++ r) (drop_of_length-le old {i = length l} (omega (arith, bytes_length (length old) (drop rule_word code)))) ∙ append-nil l))
