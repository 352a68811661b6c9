-- A pair of digits, at the front of a line.
-- Assumes nothing.
use Rattle.std.proofs.Common.{◌≡◌, ℕ, suc, ◌+◌, ◌-◌, ◌*◌, ◌<◌, ◌≤◌, true, ltb, List, [], ◌∷◌, length, get_or, drop, sym, refl, ap, ◌∙◌, arith, length-drop, drop-cons, le-ltb, lt-ltb, eq-eqb, ne_eqb}
use Rattle.std.specs.Prelude.{Option, Some, None}
use Rattle.rules.proofs.Cases.{by_bool}
use Rattle.frames.specs.Lines.{value, after, read_line, pair_of, decoded}
use Rattle.frames.specs.Lines.Parsed.{Bad, Good}

-- ---- a pair of digits

no : {b : ℕ} → Some b ≡ None → ⊥
no e = let z : ◌≡◌ {A = ℕ} 0 1 = cc in omega arith

module _ (a b : ℕ) (s : List ℕ) where
  record Were (x : ℕ) : Type 0 where
    high : ltb (value a) 16 ≡ true
    low : ltb (value b) 16 ≡ true
    is : x ≡ 16 * value a + value b

  were : (x : ℕ) → Some x ≡ pair_of (a ∷ b ∷ s) → Were x
  were x e =
      by_bool (ltb (value a) 16)
      (λ p. by_bool (ltb (value b) 16) (λ q. let r : Some x ≡ Some (16 * value a + value b) = rw (p, q) at e in record { high = p; low = q; is = cc }) (λ q. absurd (no (rw (p, q) at e))))
      (λ p. absurd (no (rw p at e)))

module _ (x : ℕ) where
  pub read_pair : (l : List ℕ) → (get_or l 0 0 ≡ 10 → ⊥) → Some x ≡ pair_of l → read_line l ≡ after x (read_line (drop 2 l))
  read_pair [] h e = absurd (no e)
  read_pair (a ∷ []) h e = absurd (no e)
  read_pair (a ∷ b ∷ s) h e = let w = were a b s x e in rw (ne_eqb a 10 h, w.high, w.low, w.is)

  pub decoded_pair : (l : List ℕ) → (get_or l 0 0 ≡ 10 → ⊥) → Some x ≡ pair_of l → decoded l ≡ x ∷ decoded (drop 2 l)
  unfolding decoded
  decoded_pair [] h e = absurd (no e)
  decoded_pair (a ∷ []) h e = absurd (no e)
  decoded_pair (a ∷ b ∷ s) h e = let w = were a b s x e in rw (ne_eqb a 10 h, w.high, w.low, w.is)

  pub pair_room : (l : List ℕ) → Some x ≡ pair_of l → 2 ≤ length l
  pair_room [] e = absurd (no e)
  pair_room (a ∷ []) e = absurd (no e)
  pair_room (a ∷ b ∷ s) e = omega arith

pub read_unpaired : (l : List ℕ) → (get_or l 0 0 ≡ 10 → ⊥) → None ≡ pair_of l → read_line l ≡ Bad
read_unpaired [] h e = refl
read_unpaired (a ∷ []) h e = rw (ne_eqb a 10 h)
read_unpaired (a ∷ b ∷ s) h e =
    rw (ne_eqb a 10 h) (by_bool (ltb (value a) 16)
    (λ p. by_bool (ltb (value b) 16) (λ q. absurd (no (sym (rw (p, q) at e)))) (λ q. rw (p, q)))
    (λ p. rw p))

pub decoded_unpaired : (l : List ℕ) → (get_or l 0 0 ≡ 10 → ⊥) → None ≡ pair_of l → decoded l ≡ []
unfolding decoded
decoded_unpaired [] h e = refl
decoded_unpaired (a ∷ []) h e = refl
decoded_unpaired (a ∷ b ∷ s) h e =
    rw (ne_eqb a 10 h) (by_bool (ltb (value a) 16)
    (λ p. by_bool (ltb (value b) 16) (λ q. absurd (no (sym (rw (p, q) at e)))) (λ q. rw (p, q)))
    (λ p. rw p))

pub read_end : (l : List ℕ) → 0 < length l → get_or l 0 0 ≡ 10 → read_line l ≡ Good [] (drop 1 l)
read_end [] h e = absurd (omega arith)
read_end (a ∷ []) h e = rw (eq-eqb a 10 e)
read_end (a ∷ b ∷ s) h e = rw (eq-eqb a 10 e)

pub decoded_end : (l : List ℕ) → get_or l 0 0 ≡ 10 → decoded l ≡ []
unfolding decoded
decoded_end [] e = refl
decoded_end (a ∷ []) e = refl
decoded_end (a ∷ b ∷ s) e = rw (eq-eqb a 10 e)

pub pair_short : (s : List ℕ) (i : ℕ) → length s - i < 2 → ◌≡◌ {A = Option ℕ} None (pair_of (drop i s))
pair_short s i h = go (drop i s) (omega (arith, length-drop i s))
  where
    go : (l : List ℕ) → length l < 2 → ◌≡◌ {A = Option ℕ} None (pair_of l)
    go [] h = refl
    go (a ∷ []) h = refl
    go (a ∷ b ∷ l) h = absurd (omega arith)

module _ (s : List ℕ) (i : ℕ) (h : i + 1 < length s) where
  two : drop i s ≡ get_or s i 0 ∷ get_or s (i + 1) 0 ∷ drop (suc (i + 1)) s
  two =
      let e : suc i ≡ i + 1 = omega arith in
      drop-cons s i 0 (omega arith)
      ∙ ap (λ (l : List ℕ). get_or s i 0 ∷ l) (ap (λ (n : ℕ). drop n s) e ∙ drop-cons s (i + 1) 0 h)

  pub pair_high : 16 ≤ value (get_or s i 0) → ◌≡◌ {A = Option ℕ} None (pair_of (drop i s))
  pair_high a = rw (two, le-ltb _ _ a)

  module _ (a : value (get_or s i 0) < 16) where
    pub pair_low : 16 ≤ value (get_or s (i + 1) 0) → ◌≡◌ {A = Option ℕ} None (pair_of (drop i s))
    pair_low b = rw (two, lt-ltb _ _ a, le-ltb _ _ b)

    pub pair_found : value (get_or s (i + 1) 0) < 16
        → ◌≡◌ {A = Option ℕ} (Some (16 * value (get_or s i 0) + value (get_or s (i + 1) 0))) (pair_of (drop i s))
    pair_found b = rw (two, lt-ltb _ _ a, lt-ltb _ _ b)
