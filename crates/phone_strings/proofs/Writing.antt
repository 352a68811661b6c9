-- The bytes of groups written one after another.
-- Assumes nothing.
use mathlib.Core.Path.{◌≡◌, refl, sym, ap, ◌∙◌, subst}
use Prim.Native.Nat.{ℕ, ◌+◌, ◌-◌, ◌*◌, ◌/◌, ◌%◌, ◌≤◌, ◌<◌}
use native.Mathlib.Omega.{arith}
use mathlib.Core.List.{List}
use lib.ListN.{length, get_or, set}
use Rattle.automaton.specs.Automaton.{val_of}
use Rattle.automaton.proofs.Tests.{by_less}
use Rattle.states.specs.States.{Written}
use Rattle.states.proofs.Rows.{written_begin, written_next, written_end}
use Rattle.packing.specs.Packing.{digit}
use Rattle.phone_strings.specs.Groups.{group_bytes, byte_from}
use Rattle.phone_strings.proofs.Grouped.{byte_is}

-- u's bytes after v's
written_on : (v u : ℕ → ℕ) (at k s : ℕ) (o₀ o o' : List ℕ) → Written v at k o₀ o → Written u (at + k) s o o' → ((d : ℕ) → d < s → u d ≡ v (k + d)) → Written v at (k + s) o₀ o'
written_on v u at k s o₀ o o' a b e =
    record {
      done = λ j h. by_less j k
          (λ l. b.before (at + j) (omega arith) ∙ a.done j l)
          (λ l.
          let y : at + j ≡ at + k + (j - k) = omega arith in
          let z : k + (j - k) ≡ j = omega arith in
          ap (λ (x : ℕ). get_or o' x 0) y ∙ (b.done (j - k) (omega arith) ∙ (e (j - k) (omega arith) ∙ ap v z)));
      before = λ x h. b.before x (omega arith) ∙ a.before x h;
      after = λ x h. b.after x (omega arith) ∙ a.after x (omega arith);
      long = b.long ∙ a.long;
    }

-- byte d of the group in word i + k
from_in : (ws : List ℕ) (i k d : ℕ) → d < 3 → byte_from ws i (3 * k + d) ≡ digit d (val_of (get_or ws (i + k) 0))
unfolding byte_from
from_in ws i k d h = byte_is (λ k. val_of (get_or ws (i + k) 0)) (3 * k + d) k d (omega arith) (omega arith)

-- the first s bytes of group k after the groups before it
pub group_next : (ws : List ℕ) (i at k s v : ℕ) (o₀ o o' : List ℕ) → v ≡ val_of (get_or ws (i + k) 0) → s ≤ 3 → Written (byte_from ws i) at (3 * k) o₀ o → Written (group_bytes v) (at + 3 * k) s o o' → (m : ℕ) → 3 * k + s ≡ m → Written (byte_from ws i) at m o₀ o'
group_next ws i at k s v o₀ o o' e h a b m z =
    written_end (byte_from ws i) at (3 * k + s) m o₀ o' z
    (written_on (byte_from ws i) (group_bytes v) at (3 * k) s o₀ o o' a b (λ d l. ap (digit d) e ∙ sym (from_in ws i k d (omega arith))))

module _ (v at : ℕ) (o : List ℕ) where
  pub one_byte : at + 1 ≤ length o → Written (group_bytes v) at 1 o (set o at (v % 256))
  one_byte h =
      let z : at + 0 ≡ at = omega arith in
      subst (λ (x : ℕ). Written (group_bytes v) at 1 o (set o x (v % 256))) z (written_next (group_bytes v) at 0 o o (v % 256) (written_begin (group_bytes v) at o) (omega arith) refl)

  pub two_bytes : at + 2 ≤ length o → Written (group_bytes v) at 2 o (set (set o at (v % 256)) (at + 1) (v / 256 % 256))
  two_bytes h = written_next (group_bytes v) at 1 o (set o at (v % 256)) (v / 256 % 256) (one_byte (omega arith)) (omega arith) refl

  pub three_bytes : at + 3 ≤ length o → Written (group_bytes v) at 3 o (set (set (set o at (v % 256)) (at + 1) (v / 256 % 256)) (at + 2) (v / 65536))
  three_bytes h = written_next (group_bytes v) at 2 o (set (set o at (v % 256)) (at + 1) (v / 256 % 256)) (v / 65536) (two_bytes (omega arith)) (omega arith) refl
