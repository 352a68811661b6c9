-- Rows renumbered: what is said from a kept row stays, and the rows stay sound.
-- Assumes nothing.
use mathlib.Core.Path.{◌≡◌, sym, ap, ◌∙◌, subst}
use Prim.Native.Nat.{ℕ, suc, pred, ◌+◌, ◌-◌, ◌≤◌, ◌<◌}
use native.Mathlib.Omega.{arith}
use mathlib.Core.List.{[], ◌∷◌}
use Rattle.automaton.specs.Automaton.{Str, Rows, look, Letters, Sound, Needed}
use Rattle.automaton.proofs.Tests.{by_less, by_same}
use Rattle.automaton.proofs.Change.{phones_ext}

-- g's row i is f's row old i, its successors renumbered; the order is kept, and the successors of kept rows are kept
pub record Renumbered (f : Rows) (n : ℕ) (g : Rows) (m : ℕ) (old new : ℕ → ℕ) : Type 0 where
  pub inside : (i : ℕ) → i ≤ m → old i ≤ n
  pub first : old 0 ≡ 0
  pub rising : (i j : ℕ) → i < j → j ≤ m → old i < old j
  pub voices : (i k : ℕ) → i ≤ m → k < 22 → g i (64 + k) ≡ f (old i) (64 + k)
  pub turns : (i c : ℕ) → i ≤ m → c < 64 → g i c ≡ new (f (old i) c)
  pub within : (i c : ℕ) → i ≤ m → c < 64 → new (f (old i) c) ≤ m
  pub back : (i c : ℕ) → i ≤ m → c < 64 → old (new (f (old i) c)) ≡ f (old i) c

module _ (f : Rows) (n : ℕ) (g : Rows) (m : ℕ) (old new : ℕ → ℕ) (s : Sound f n) (r : Renumbered f n g m old new) where
  pub look_renumbered : (i : ℕ) → i ≤ m → (w : Str) → Letters w → look g i w ≡ look f (old i) w
  look_renumbered i h [] t = phones_ext g f i (old i) (λ k l. r.voices i k h l)
  look_renumbered i h (c ∷ w) t =
      ap (λ (v : ℕ). look g v w) (r.turns i c h t.1)
      ∙ (look_renumbered (new (f (old i) c)) (r.within i c h t.1) w t.2
      ∙ ap (λ (v : ℕ). look f v w) (r.back i c h t.1))

  injective : (i j : ℕ) → i ≤ m → j ≤ m → old i ≡ old j → i ≡ j
  injective i j a b e =
      by_less i j
      (λ l. let x = r.rising i j l b in absurd (omega arith))
      (λ l. by_less j i (λ k. let x = r.rising j i k a in absurd (omega arith)) (λ k. omega arith))

  zero_stays : (i c : ℕ) → i ≤ m → c < 64 → f (old i) c ≡ 0 → new (f (old i) c) ≡ 0
  zero_stays i c h l e = injective (new (f (old i) c)) 0 (r.within i c h l) (omega arith) (r.back i c h l ∙ (e ∙ sym r.first))

  less : (i j : ℕ) → i ≤ m → j ≤ m → old i < old j → i < j
  less i j a b l =
      by_less i j (λ k. k)
      (λ k. by_same i j
      (λ e. let x : old i ≡ old j = ap old e in absurd (omega arith))
      (λ ne. let x = r.rising j i (omega arith) a in absurd (omega arith)))

  low_eq : (i j c : ℕ) → i ≤ m → j ≤ m → c < 64 → g i c ≡ g j c → f (old i) c ≡ f (old j) c
  low_eq i j c a b l e =
      sym (r.back i c a l) ∙ (ap old (sym (r.turns i c a l) ∙ (e ∙ r.turns j c b l)) ∙ r.back j c b l)

  high_eq : (i j k : ℕ) → i ≤ m → j ≤ m → 64 ≤ k → k < 86 → g i k ≡ g j k → f (old i) k ≡ f (old j) k
  high_eq i j k a b h l e =
      let q : 64 + (k - 64) ≡ k = omega arith in
      subst (λ (x : ℕ). f (old i) x ≡ f (old j) x) q
      (sym (r.voices i (k - 64) a (omega arith)) ∙ (subst (λ (x : ℕ). g i x ≡ g j x) (sym q) e ∙ r.voices j (k - 64) b (omega arith)))

  blank_at : (k : ℕ) → k < 86 → g 0 k ≡ 0
  blank_at k l =
      by_less k 64
      (λ h.
      let z : f (old 0) k ≡ 0 = ap (λ (v : ℕ). f v k) r.first ∙ s.blank k l in
      r.turns 0 k (omega arith) h ∙ zero_stays 0 k (omega arith) h z)
      (λ h.
      let q : 64 + (k - 64) ≡ k = omega arith in
      subst (λ (x : ℕ). g 0 x ≡ 0) q
      (r.voices 0 (k - 64) (omega arith) (omega arith) ∙ (ap (λ (v : ℕ). f v (64 + (k - 64))) r.first ∙ s.blank (64 + (k - 64)) (omega arith))))

  earlier_at : (i c : ℕ) → i ≤ m → c < 64 → g i c ≤ pred i
  earlier_at i c h l =
      let x = s.earlier (old i) c (r.inside i h) l in
      let t = r.turns i c h l in
      by_same (f (old i) c) 0
      (λ z. let y = zero_stays i c h l z in omega arith)
      (λ z.
      let b = r.back i c h l in
      let y = less (new (f (old i) c)) i (r.within i c h l) h (omega arith) in omega arith)

  pub sound_renumbered : Sound g m
  sound_renumbered =
      record {
        blank = blank_at;
        unused = λ i h. r.turns i 0 h (omega arith) ∙ zero_stays i 0 h (omega arith) (s.unused (old i) (r.inside i h));
        earlier = earlier_at;
        padded = λ i h k l e. r.voices i (suc k) h l ∙ s.padded (old i) (r.inside i h) k l (sym (r.voices i k h (omega arith)) ∙ e);
        bytes = λ i k h l. let x = s.bytes (old i) k (r.inside i h) l in let e = r.voices i k h l in omega arith;
        apart = λ i j a b e. injective i j a b (s.apart (old i) (old j) (r.inside i a) (r.inside j b)
            (λ k l. by_less k 64 (λ h. low_eq i j k a b h (e k l)) (λ h. high_eq i j k a b h l (e k l))));
      }

  -- where each kept row below the last is a successor of a kept row, each state below the new start is needed
  pub needed_renumbered : ((i : ℕ) → 0 < i → i < m → (j : ℕ) × (c : ℕ) × (j ≤ m) × (c < 64) × (f (old j) c ≡ old i)) → Needed g m
  needed_renumbered p q z l =
      let x = p q z l in
      let j = x.0 in
      let c = x.1 in (
        j,
        c,
        x.2,
        x.3,
        r.turns j c x.2 x.3 ∙ injective (new (f (old j) c)) q (r.within j c x.2 x.3) (omega arith) (r.back j c x.2 x.3 ∙ x.4),
      )
