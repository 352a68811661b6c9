-- A chain of siblings with falling numbers: what is found in it, and that a new child leaves the other chains as they were.
-- Assumes nothing.
use mathlib.Core.Path.{◌≡◌, refl, sym, ap, ap₂, ◌∙◌}
use mathlib.Core.Logic.{◌≢◌, ◌⊎◌, inl, inr}
use Prim.Native.Nat.{ℕ, zero, suc, ◌+◌, ◌-◌, ◌≤◌, ◌<◌}
use native.Mathlib.Omega.{arith}
use native.Mathlib.Decide.{dec_le}
use mathlib.Core.Bool.{cond}
use lib.Dec.{eqb, eqb→eq}
use borrow.Author.Tests.{eqb-false, eq-eqb, ne_eqb}
use Rattle.rules.proofs.Cases.{by_bool}
use Rattle.tables.specs.Siblings.{seek, Falling, Siblings, LatestChild, Attached}
use Rattle.tables.proofs.Truth.{true_eq}

pub seek_zero : (k : ℕ) (next key : ℕ → ℕ) (c : ℕ) → seek k next key 0 c ≡ 0
unfolding seek
seek_zero zero next key c = refl
seek_zero (suc k) next key c = refl

lower : (next : ℕ → ℕ) (s r : ℕ) → r ≤ s → Falling next s → Falling next r
lower next s r h f k p l = f k p (omega arith)

seek_here : (k : ℕ) (next key : ℕ → ℕ) (s c : ℕ) → 0 < s → key s ≡ c → seek (suc k) next key s c ≡ s
unfolding seek
seek_here k next key s c p e = rw (ne_eqb s 0 (λ z. omega arith), eq-eqb (key s) c e)

seek_there : (k : ℕ) (next key : ℕ → ℕ) (s c : ℕ) → 0 < s → key s ≢ c → seek (suc k) next key s c ≡ seek k next key (next s) c
unfolding seek
seek_there k next key s c p e = rw (ne_eqb s 0 (λ z. omega arith), ne_eqb (key s) c e)

-- no more than s nodes can be looked at
seek_enough : (k : ℕ) (next key : ℕ → ℕ) (s c : ℕ) → Falling next s → s ≤ k → seek (suc k) next key s c ≡ seek k next key s c
seek_enough zero next key s c f l =
    let e : s ≡ 0 = omega arith in
    ap (λ (r : ℕ). seek 1 next key r c) e ∙ seek_zero 1 next key c ∙ sym (ap (λ (r : ℕ). seek 0 next key r c) e ∙ seek_zero 0 next key c)
seek_enough (suc k) next key s c f l =
    go (dec_le s 0) (λ p. let g = f s p (omega arith) in seek_enough k next key (next s) c (lower next s (next s) (omega arith) f) (omega arith))
  where
    go : Dec (s ≤ 0) → (0 < s → seek (suc k) next key (next s) c ≡ seek k next key (next s) c) → seek (suc (suc k)) next key s c ≡ seek (suc k) next key s c
    go (yes y) ih =
        let e : s ≡ 0 = omega arith in
        ap (λ (r : ℕ). seek (suc (suc k)) next key r c) e ∙ seek_zero (suc (suc k)) next key c ∙ sym (ap (λ (r : ℕ). seek (suc k) next key r c) e ∙ seek_zero (suc k) next key c)
    go (no y) ih =
        let p : 0 < s = omega arith in
        by_bool (eqb (key s) c)
        (λ b. let e = eqb→eq (key s) c (true_eq (eqb (key s) c) b) in seek_here (suc k) next key s c p e ∙ sym (seek_here k next key s c p e))
        (λ b. let e = eqb-false (key s) c b in seek_there (suc k) next key s c p e ∙ ih p ∙ sym (seek_there k next key s c p e))

agree_step : (k : ℕ) (next key next' key' : ℕ → ℕ) (s c : ℕ) → next' s ≡ next s → key' s ≡ key s
    → (0 < s → seek k next' key' (next s) c ≡ seek k next key (next s) c) → seek (suc k) next' key' s c ≡ seek (suc k) next key s c
unfolding seek
agree_step k next key next' key' zero c a b ih = refl
agree_step k next key next' key' (suc s) c a b ih =
    ap₂ (λ (x y : ℕ). cond (eqb (suc s) 0) 0 (cond (eqb x c) (suc s) (seek k next' key' y c))) b a
    ∙ ap (λ (r : ℕ). cond (eqb (suc s) 0) 0 (cond (eqb (key (suc s)) c) (suc s) r)) (ih (omega arith))

-- the chain is as it was where its nodes are
seek_agree : (k : ℕ) (next key next' key' : ℕ → ℕ) (s c : ℕ) → Falling next s → ((j : ℕ) → j ≤ s → next' j ≡ next j) → ((j : ℕ) → j ≤ s → key' j ≡ key j)
    → seek k next' key' s c ≡ seek k next key s c
unfolding seek
seek_agree zero next key next' key' s c f a b = refl
seek_agree (suc k) next key next' key' s c f a b = agree_step k next key next' key' s c (a s (omega arith)) (b s (omega arith))
    (λ p. let g = f s p (omega arith) in seek_agree k next key next' key' (next s) c (lower next s (next s) (omega arith) f) (λ j l. a j (omega arith)) (λ j l. b j (omega arith)))

-- what is found is no later than where the search begins
pub seek_le : (k : ℕ) (next key : ℕ → ℕ) (s c : ℕ) → Falling next s → seek k next key s c ≤ s
unfolding seek
seek_le zero next key s c f = omega arith
seek_le (suc k) next key s c f = go (dec_le s 0) (λ p. let g = f s p (omega arith) in seek_le k next key (next s) c (lower next s (next s) (omega arith) f))
  where
    go : Dec (s ≤ 0) → (0 < s → seek k next key (next s) c ≤ next s) → seek (suc k) next key s c ≤ s
    go (yes y) ih =
        let e : s ≡ 0 = omega arith in
        let z = ap (λ (r : ℕ). seek (suc k) next key r c) e ∙ seek_zero (suc k) next key c in omega arith
    go (no y) ih =
        let p : 0 < s = omega arith in
        let g = f s p (omega arith) in
        by_bool (eqb (key s) c)
        (λ b. let z = seek_here k next key s c p (eqb→eq (key s) c (true_eq (eqb (key s) c) b)) in omega arith)
        (λ b. let z = seek_there k next key s c p (eqb-false (key s) c b) in let i = ih p in omega arith)

-- ---- the search

-- the chain from k on gives what the whole one does
pub record Seeking (size : ℕ) (next key : ℕ → ℕ) (s c k : ℕ) : Type 0 where
  pub below : k ≤ s
  pub rest : seek size next key s c ≡ seek size next key k c

module _ (size : ℕ) (next key : ℕ → ℕ) (s c : ℕ) where
  pub begin : Seeking size next key s c s
  begin = record { below = omega arith; rest = refl }

  module _ (f : Falling next s) (room : s < size) (k : ℕ) (i : Seeking size next key s c k) where
    one_less : suc (size - 1) ≡ size
    one_less = omega arith

    pub hit : 0 < k → key k ≡ c → k ≡ seek size next key s c
    hit p e = sym (i.rest ∙ ap (λ (n : ℕ). seek n next key k c) (sym one_less) ∙ seek_here (size - 1) next key k c p e)

    pub miss : 0 < k → key k ≢ c → Seeking size next key s c (next k)
    miss p e =
        let g = f k p i.below in
        record {
          below = omega (arith, i.below);
          rest =
              i.rest ∙ ap (λ (n : ℕ). seek n next key k c) (sym one_less) ∙ seek_there (size - 1) next key k c p e
              ∙ sym (seek_enough (size - 1) next key (next k) c (lower next s (next k) (omega (arith, i.below)) f) (omega (arith, i.below)))
              ∙ ap (λ (n : ℕ). seek n next key (next k) c) one_less;
        }

    pub ended : k ≤ 0 → k ≡ seek size next key s c
    ended z =
        let e : k ≡ 0 = omega arith in
        e ∙ sym (i.rest ∙ ap (λ (r : ℕ). seek size next key r c) e ∙ seek_zero size next key c)

-- ---- a new child

pub siblings_fall : (first next : ℕ → ℕ) (n : ℕ) → Siblings first next n → (q : ℕ) → q < n → Falling next (first q)
siblings_fall first next n h q l s p m = h.falling s p (let g = h.heads q l in omega arith)

module _ (first next key first' next' key' : ℕ → ℕ) (q n c : ℕ) (l : q < n) (h : Siblings first next n) (a : LatestChild first next key first' next' key' q n c) where
  pub latest_siblings : Siblings first' next' (n + 1)
  latest_siblings = record { heads = λ k m. head k m (dec_le (suc k) n); falling = λ s p m. fall s p m (dec_le (suc s) n) }
    where
      head : (k : ℕ) → k < n + 1 → Dec (k < n) → first' k < n + 1
      head k m (yes y) =
          by_bool (eqb k q)
          (λ e. let f = ap first' (eqb→eq k q (true_eq (eqb k q) e)) ∙ a.parent in omega arith)
          (λ e. let f = a.firsts k y (eqb-false k q e) in let g = h.heads k y in omega arith)
      head k m (no y) =
          let e : k ≡ n = omega arith in
          let g = ap first' e ∙ a.childless in omega arith

      fall : (s : ℕ) → 0 < s → s < n + 1 → Dec (s < n) → next' s < s
      fall s p m (yes y) = let e = a.nexts s y in let g = h.falling s p y in omega arith
      fall s p m (no y) =
          let e : s ≡ n = omega arith in
          let f = ap next' e ∙ a.before in
          let g = h.heads q l in omega arith

  module _ (size : ℕ) (room : n < size) where
    abbrev look : ℕ → ℕ → ℕ
    look k e = seek size next key (first k) e

    abbrev look' : ℕ → ℕ → ℕ
    look' k e = seek size next' key' (first' k) e

    one_more : suc (size - 1) ≡ size
    one_more = omega arith

    same_chain : (k e : ℕ) → k < n → seek size next' key' (first k) e ≡ seek size next key (first k) e
    same_chain k e m =
        let g = h.heads k m in
        seek_agree size next key next' key' (first k) e (siblings_fall first next n h k m) (λ j o. a.nexts j (omega arith)) (λ j o. a.keys j (omega arith))

    -- from q, past the new node
    beside : (e : ℕ) → e ≢ c → look' q e ≡ look q e
    beside e d =
        let g = h.heads q l in
        ap₂ (λ (m s : ℕ). seek m next' key' s e) (sym one_more) a.parent
        ∙ seek_there (size - 1) next' key' n e (omega arith) (λ z. d (sym z ∙ a.under))
        ∙ ap (λ (s : ℕ). seek (size - 1) next' key' s e) a.before
        ∙ sym (seek_enough (size - 1) next' key' (first q) e (λ s p m. let f = siblings_fall first next n h q l s p m in let o = a.nexts s (omega arith) in omega arith) (omega arith))
        ∙ ap (λ (m : ℕ). seek m next' key' (first q) e) one_more
        ∙ same_chain q e l

    apart : (k e : ℕ) → k < n → k ≢ q → look' k e ≡ look k e
    apart k e m d = ap (λ (s : ℕ). seek size next' key' s e) (a.firsts k m d) ∙ same_chain k e m

    elsewhere : (k e : ℕ) → k < n → (k ≢ q) ⊎ (e ≢ c) → look' k e ≡ look k e
    elsewhere k e m (inl d) = apart k e m d
    elsewhere k e m (inr d) =
        by_bool (eqb k q)
        (λ b. let g : k ≡ q = eqb→eq k q (true_eq (eqb k q) b) in ap (λ (j : ℕ). look' j e) g ∙ beside e d ∙ sym (ap (λ (j : ℕ). look j e) g))
        (λ b. apart k e m (eqb-false k q b))

    pub latest_child : Attached look look' q n c
    latest_child =
        record {
          child = ap₂ (λ (m s : ℕ). seek m next' key' s c) (sym one_more) a.parent ∙ seek_here (size - 1) next' key' n c (omega arith) a.under;
          row = λ e. ap (λ (s : ℕ). seek size next' key' s e) a.childless ∙ seek_zero size next' key' e;
          other = elsewhere;
        }
