-- The entry of a state: length, letters, phone count, phones.
-- Assumes nothing.
use mathlib.Core.Path.{◌≡◌, refl, sym, ap, ◌∙◌}
use Prim.Native.Nat.{ℕ, ◌+◌, ◌≤◌, ◌<◌}
use native.Mathlib.Omega.{arith}
use mathlib.Core.List.{List, [], ◌∷◌, ◌++◌, append_assoc}
use lib.ListN.{length, get_or, take, set, length-append}
use lib.Seq.{get_or-take, length-take-le}
use Rattle.automaton.specs.Automaton.{Str, rows_of}
use Rattle.automaton.specs.Listing.{entry_text, own_text}
use Rattle.packing.specs.Packing.{said, StateAsks}
use Rattle.phone_strings.specs.Packed.{Packed}
use Rattle.phone_strings.specs.Groups.{byte_from, HoldsPhones}
use Rattle.states.specs.States.{Written, copy_of}
use Rattle.readout.specs.Texts.{heading, Wrote, TextAsks}
use Rattle.readout.proofs.Appending.{wrote_none, wrote_is, wrote_at, wrote_append, wrote_one, wrote_copy, wrote_length}

own_none : (path p : Str) → length p ≡ 0 → own_text path p ≡ []
own_none path [] e = refl
own_none path (x ∷ p) e = absurd (let z : ⊥ = omega arith in z)

own_some : (path p : Str) → (length p ≡ 0 → ⊥) → own_text path p ≡ entry_text path p
own_some path [] ne = absurd (ne refl)
own_some path (x ∷ p) ne = refl

pub entry_length : (path p : Str) → length (entry_text path p) ≡ 2 + length path + length p
entry_length path p = let l = length-append path (length p ∷ p) in omega arith

-- ---- what stands before the phones

pub heading_writes : (path : Str) (depth count at : ℕ) → depth ≤ length path → (out o : List ℕ)
    → Written (copy_of path 0) (at + 1) depth (set out at depth) o
    → Wrote (heading (take depth path) count) at out (set o (at + 1 + depth) count) (at + 2 + depth)
heading_writes path depth count at h out o w =
    let t = take depth path in
    let k : length t ≡ depth = length-take-le depth path h in
    let s₁ : Wrote (depth ∷ []) at out (set out at depth) (at + 1) = wrote_one depth at out in
    let s₂ : Wrote t (at + 1) (set out at depth) o (at + 1 + depth) =
    wrote_copy t (copy_of path 0) (at + 1) depth (set out at depth) o w k
    (λ j l. get_or-take depth path j 0 l ∙ (let z : j ≡ 0 + j = omega arith in ap (λ (x : ℕ). get_or path x 0) z)) in
    let s₃ : Wrote (count ∷ []) (at + 1 + depth) o (set o (at + 1 + depth) count) (at + 1 + depth + 1) = wrote_one count (at + 1 + depth) o in
    let s₂₃ = wrote_append t (count ∷ []) (at + 1) (set out at depth) o (set o (at + 1 + depth) count) (at + 1 + depth) (at + 1 + depth + 1) s₂ s₃ in
    let s = wrote_append (depth ∷ []) (t ++ (count ∷ [])) at out (set out at depth) (set o (at + 1 + depth) count) (at + 1) (at + 1 + depth + 1) s₁ s₂₃ in
    let g : (depth ∷ []) ++ (t ++ (count ∷ [])) ≡ heading t count = ap (λ (x : ℕ). x ∷ (t ++ (count ∷ []))) (sym k) in
    let r : at + 1 + depth + 1 ≡ at + 2 + depth = omega arith in
    wrote_at (heading t count) at out (set o (at + 1 + depth) count) (at + 1 + depth + 1) (at + 2 + depth) r
    (wrote_is ((depth ∷ []) ++ (t ++ (count ∷ []))) (heading t count) at out (set o (at + 1 + depth) count) (at + 1 + depth + 1) g s)

entry-is : (path p : Str) (count : ℕ) → count ≡ length p → heading path count ++ p ≡ entry_text path p
entry-is path p count e =
    ap (λ (l : List ℕ). length path ∷ l) (append_assoc path (count ∷ []) p) ∙ ap (λ (x : ℕ). length path ∷ (path ++ (x ∷ p))) e

-- ---- the entry of a state whose phones are found

module _ (ws : List ℕ) (n q : ℕ) (path : Str) (depth at : ℕ) (a : TextAsks ws n q path depth 0 (own_text (take depth path) (said (rows_of ws) q)) at) where
  pub own_locates : StateAsks ws n q × Packed (rows_of ws) q
  own_locates = (a.state, a.packed q a.state.inside)

  module _ (i count : ℕ) (s : HoldsPhones ws q i count) where
    -- no name ends in the state
    pub own_nothing : count ≡ 0 → (out : List ℕ) → Wrote (own_text (take depth path) (said (rows_of ws) q)) at out out at
    own_nothing z out = wrote_is [] (own_text (take depth path) (said (rows_of ws) q)) at out out at (sym (own_none (take depth path) (said (rows_of ws) q) (sym s.count ∙ z))) (wrote_none at out)

    module _ (ne : count ≡ 0 → ⊥) where
      own_is : own_text (take depth path) (said (rows_of ws) q) ≡ entry_text (take depth path) (said (rows_of ws) q)
      own_is = own_some (take depth path) (said (rows_of ws) q) (λ z. ne (s.count ∙ z))

      own-end : at + 2 + depth + count ≡ at + length (own_text (take depth path) (said (rows_of ws) q))
      own-end =
          let x = entry_length (take depth path) (said (rows_of ws) q) in
          let y = ap length own_is in
          let d = a.deep in
          let l = a.letters in
          let k = length-take-le depth path (omega arith) in
          let e = s.count in
          omega arith

      pub own_measured : (out : List ℕ) → length out < at + 2 + depth + count → Wrote (own_text (take depth path) (said (rows_of ws) q)) at out out (at + 2 + depth + count)
      own_measured out h = wrote_length (own_text (take depth path) (said (rows_of ws) q)) at out (at + 2 + depth + count) own-end h

      pub own_writes : (out o out' : List ℕ) → Wrote (heading (take depth path) count) at out o (at + 2 + depth) → Written (byte_from ws i) (at + 2 + depth) count o out'
          → Wrote (own_text (take depth path) (said (rows_of ws) q)) at out out' (at + 2 + depth + count)
      own_writes out o out' h w =
          let p = said (rows_of ws) q in
          wrote_is (heading (take depth path) count ++ p) (own_text (take depth path) p) at out out' (at + 2 + depth + count) (entry-is (take depth path) p count s.count ∙ sym own_is)
          (wrote_append (heading (take depth path) count) p at out o out' (at + 2 + depth) (at + 2 + depth + count) h
          (wrote_copy p (byte_from ws i) (at + 2 + depth) count o out' w (sym s.count) s.same))
