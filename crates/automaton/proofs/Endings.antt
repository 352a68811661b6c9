-- Sound rows are a minimal automaton: two states that say the same of every name are one; every state leads to a name; every needed state is reached.
-- Assumes nothing.
use mathlib.Core.Path.{◌≡◌, refl, sym, ap, ◌∙◌, subst}
use Prim.Native.Nat.{ℕ, zero, suc, ◌+◌, ◌-◌, ◌≤◌, ◌<◌}
use native.Mathlib.Nat.{le_of_suc-le-suc, not-suc-le-zero}
use native.Mathlib.Omega.{arith}
use mathlib.Core.List.{List, [], ◌∷◌, ◌++◌}
use Rattle.automaton.specs.Automaton.{Str, Rows, unless_zero, up_to, phones_at, end_state, look, Letters, Padded, Sound, Needed}
use Rattle.automaton.proofs.Tests.{by_less, by_same, by_nat, by_some}

-- ---- phones

never {ℓ} : {A : Type ℓ} → (◌≡◌ {A = ℕ} 0 1) → A
never z = absurd (omega arith)

heads : (x y : ℕ) (l m : List ℕ) → unless_zero x l ≡ unless_zero y m → x ≡ y
heads zero zero l m e = refl
heads zero (suc y) l m e = let z : ◌≡◌ {A = ℕ} 0 1 = cc in never z
heads (suc x) zero l m e = let z : ◌≡◌ {A = ℕ} 0 1 = cc in never z
heads (suc x) (suc y) l m e = cc

tails : (x : ℕ) (l m : List ℕ) → unless_zero (suc x) l ≡ unless_zero (suc x) m → l ≡ m
tails x l m e = cc

padded_tail : (n : ℕ) (g : ℕ → ℕ) → Padded (suc n) g → Padded n (λ k. g (suc k))
padded_tail n g p k l = p (suc k) (omega arith)

pub zeros : (n : ℕ) (g : ℕ → ℕ) → Padded n g → g 0 ≡ 0 → (k : ℕ) → k < n → g k ≡ 0
zeros n g p z zero l = z
zeros n g p z (suc k) l = p k l (zeros n g p z k (omega arith))

pub up_to_same : (n : ℕ) (g h : ℕ → ℕ) → Padded n g → Padded n h → up_to n g ≡ up_to n h → (k : ℕ) → k < n → g k ≡ h k
up_to_same zero g h a b e k l = absurd (not-suc-le-zero l)
up_to_same (suc n) g h a b e zero l = heads (g zero) (h zero) (up_to n (λ k. g (suc k))) (up_to n (λ k. h (suc k))) e
up_to_same (suc n) g h a b e (suc k) l =
    let u = up_to n (λ k. g (suc k)) in
    let v = up_to n (λ k. h (suc k)) in
    let t = heads (g zero) (h zero) u v e in
    by_nat (g zero)
    (λ z. zeros (suc n) g a z (suc k) l ∙ sym (zeros (suc n) h b (sym t ∙ z) (suc k) l))
    (λ y q. up_to_same n (λ k. g (suc k)) (λ k. h (suc k)) (padded_tail n g a) (padded_tail n h b)
    (tails y u v (ap (λ (x : ℕ). unless_zero x u) (sym q) ∙ (e ∙ ap (λ (x : ℕ). unless_zero x v) (sym t ∙ q)))) k (le_of_suc-le-suc l))

-- ---- minimality

module _ (f : Rows) (n : ℕ) (s : Sound f n) where
  phones_differ : (i j : ℕ) → i ≤ n → j ≤ n → phones_at f i ≡ phones_at f j → (k : ℕ) → k < 22 → f i (64 + k) ≡ f j (64 + k)
  unfolding phones_at
  phones_differ i j a b e k l = up_to_same 22 (λ k. f i (64 + k)) (λ k. f j (64 + k)) (s.padded i a) (s.padded j b) e k l

  high : (i j k : ℕ) → 64 ≤ k → f i (64 + (k - 64)) ≡ f j (64 + (k - 64)) → f i k ≡ f j k
  high i j k h e = let q : 64 + (k - 64) ≡ k = omega arith in ap (f i) (sym q) ∙ (e ∙ ap (f j) q)

  endings_within : (b i j : ℕ) → i + j < b → i ≤ n → j ≤ n → ((w : Str) → Letters w → look f i w ≡ look f j w) → i ≡ j
  endings_within zero i j h a e p = absurd (not-suc-le-zero h)
  endings_within (suc b) i j h a e p =
      s.apart i j a e (λ k l.
      by_less k 64
      (λ m. by_same k 0
      (λ z. ap (f i) z ∙ (s.unused i a ∙ (sym (s.unused j e) ∙ ap (f j) (sym z))))
      (λ z.
      let x = s.earlier i k a m in
      let y = s.earlier j k e m in
      by_same (i + j) 0
      (λ o. let g : i ≡ j = omega arith in ap (λ (v : ℕ). f v k) g)
      (λ o. endings_within b (f i k) (f j k) (omega arith) (omega arith) (omega arith) (λ w t. p (k ∷ w) (omega arith, m, t)))))
      (λ m. high i j k m (phones_differ i j a e (p [] tt) (k - 64) (omega arith))))

  -- no two states have the same endings with the same phones
  pub endings_differ : (i j : ℕ) → i ≤ n → j ≤ n → ((w : Str) → Letters w → look f i w ≡ look f j w) → i ≡ j
  endings_differ i j a b p = endings_within (suc (i + j)) i j (omega arith) a b p

  -- ---- every state but the blank one leads to a name

  phones_some : (q k : ℕ) → q ≤ n → k < 22 → 0 < f q (64 + k) → phones_at f q ≡ [] → ⊥
  unfolding phones_at
  phones_some q k a l h e =
      by_nat (f q (64 + 0))
      (λ z. let o = zeros 22 (λ k. f q (64 + k)) (s.padded q a) z k l in omega arith)
      (λ y o.
      let u = up_to 21 (λ k. f q (64 + suc k)) in
      let g : unless_zero (suc y) u ≡ [] = ap (λ (x : ℕ). unless_zero x u) (sym o) ∙ e in
      let z : ◌≡◌ {A = ℕ} 0 1 = cc in omega arith)

  leads_within : (b q : ℕ) → q < b → 0 < q → q ≤ n → (w : Str) × Letters w × (look f q w ≡ [] → ⊥)
  leads_within zero q h p a = absurd (not-suc-le-zero h)
  leads_within (suc b) q h p a =
      by_some 86 (f q)
      (λ all. let z : q ≡ 0 = s.apart q 0 a (omega arith) (λ k l. all k l ∙ sym (s.blank k l)) in absurd (omega arith))
      (λ k l o.
      by_less k 64
      (λ m. by_same k 0
      (λ z. let u = s.unused q a in let v : f q k ≡ f q 0 = ap (f q) z in absurd (omega arith))
      (λ z.
      let x = s.earlier q k a m in
      let r = leads_within b (f q k) (omega arith) o (omega arith) in
      (k ∷ r.0, (omega arith, m, r.1), r.2)))
      (λ m.
      let e : 64 + (k - 64) ≡ k = omega arith in
      ([], tt, phones_some q (k - 64) a (omega arith) (subst (λ (x : ℕ). 0 < f q x) (sym e) o))))

  pub leads : (q : ℕ) → 0 < q → q ≤ n → (w : Str) × Letters w × (look f q w ≡ [] → ⊥)
  leads q p a = leads_within (suc q) q (omega arith) p a

  -- ---- every needed state is reached from the start

  end_state_snoc : (q c : ℕ) (w : Str) → end_state f q (w ++ (c ∷ [])) ≡ f (end_state f q w) c
  end_state_snoc q c [] = refl
  end_state_snoc q c (d ∷ w) = end_state_snoc (f q d) c w

  letters_snoc : (c : ℕ) (w : Str) → 0 < c → c < 64 → Letters w → Letters (w ++ (c ∷ []))
  letters_snoc c [] p l t = (p, l, tt)
  letters_snoc c (d ∷ w) p l t = (t.0, t.1, letters_snoc c w p l t.2)

  reached_within : Needed f n → (b q : ℕ) → n - q < b → 0 < q → q ≤ n → (w : Str) × Letters w × (end_state f n w ≡ q)
  reached_within nd zero q h p a = absurd (not-suc-le-zero h)
  reached_within nd (suc b) q h p a =
      by_same q n
      (λ e. ([], tt, sym e))
      (λ e.
      let r = nd q p (omega arith) in
      let j = r.0 in
      let c = r.1 in
      let x = s.earlier j c r.2 r.3 in
      let o : f j c ≡ q = r.4 in
      let z : 0 < c = by_nat c (λ z. let u = s.unused j r.2 in let v : f j c ≡ f j 0 = ap (f j) z in absurd (omega arith)) (λ y g. omega arith) in
      let i = reached_within nd b j (omega arith) (omega arith) r.2 in
      (i.0 ++ (c ∷ []), letters_snoc c i.0 z r.3 i.1, end_state_snoc n c i.0 ∙ (ap (λ (v : ℕ). f v c) i.2 ∙ o)))

  pub reached : Needed f n → (q : ℕ) → 0 < q → q ≤ n → (w : Str) × Letters w × (end_state f n w ≡ q)
  reached nd q p a = reached_within nd (suc (n - q)) q (omega arith) p a
