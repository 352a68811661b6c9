-- An automaton in which no two states are alike has the fewest states that say the same: no more of its rows are reached than any other has states.
-- Assumes nothing.
use mathlib.Core.Path.{◌≡◌, refl, sym, ap, ◌∙◌}
use Prim.Native.Nat.{ℕ, suc, ◌+◌, ◌≤◌, ◌<◌}
use native.Mathlib.Omega.{arith}
use mathlib.Core.List.{[], ◌∷◌, ◌++◌}
use Rattle.automaton.specs.Automaton.{Str, Rows, end_state, look, Letters, Sound}
use Rattle.automaton.proofs.Tests.{by_nat}
use Rattle.automaton.proofs.Endings.{endings_differ}
use Rattle.automaton.proofs.NameLengths.{blank_says}
use Rattle.compaction.specs.Compaction.{marked}
use Rattle.change.specs.Change.{Automaton}
use Rattle.change.proofs.Pigeonhole.{Related, pigeonhole}

-- ---- the state in which a name ends

pub end_inside : (f : Rows) (n : ℕ) → Sound f n → (q : ℕ) → q ≤ n → (w : Str) → Letters w → end_state f q w ≤ n
end_inside f n s q h [] t = h
end_inside f n s q h (c ∷ w) t = let x = s.earlier q c h t.1 in end_inside f n s (f q c) (omega arith) w t.2

-- a name ends where its rest ends from the state in which its front does
pub end_on : (f : Rows) (q : ℕ) (w v : Str) → end_state f q (w ++ v) ≡ end_state f (end_state f q w) v
end_on f q [] v = refl
end_on f q (c ∷ w) v = end_on f (f q c) w v

look_on : (f : Rows) (q : ℕ) (w v : Str) → look f q (w ++ v) ≡ look f (end_state f q w) v
look_on f q [] v = refl
look_on f q (c ∷ w) v = look_on f (f q c) w v

pub letters_on : (w v : Str) → Letters w → Letters v → Letters (w ++ v)
letters_on [] v t u = u
letters_on (c ∷ w) v t u = (t.0, t.1, letters_on w v t.2 u)

-- ---- against another automaton

module _ (f : Rows) (n k : ℕ) (s : Sound f n) (m : Str → Str) (says : (w : Str) → Letters w → look f n w ≡ m w) (a : Automaton m k) where
  other_inside : (q : ℕ) → q ≤ k → (w : Str) → Letters w → end_state a.next q w ≤ k
  other_inside q h [] t = h
  other_inside q h (c ∷ w) t = let l = t.1 in other_inside (a.next q c) (a.inside q c h t.0 (omega arith)) w t.2

  other_none : (w : Str) → Letters w → end_state a.next 0 w ≡ 0
  other_none [] t = refl
  other_none (c ∷ w) t = let l = t.1 in ap (λ (q : ℕ). end_state a.next q w) (a.ended c t.0 (omega arith)) ∙ other_none w t.2

  -- x says what y of the other automaton does
  abbrev Means : ℕ → ℕ → Type 0
  Means x y = (x ≤ n) × ((v : Str) → Letters v → look f x v ≡ a.phones (end_state a.next y v))

  once : (x z y : ℕ) → Means x y → Means z y → x ≡ z
  once x z y i j = endings_differ f n s x z i.0 j.0 (λ v l. i.1 v l ∙ sym (j.1 v l))

  -- each marked state is reached by some name
  abbrev Words : (ℕ → ℕ) → Type 0
  Words b = (x : ℕ) → 0 < x → x ≤ n → 0 < b x → (w : Str) × Letters w × (end_state f n w ≡ x)

  related : (b : ℕ → ℕ) → Words b → Related b (suc n) (suc k) Means
  related b i x h p =
      by_nat x
      (λ z. (
        0,
        (let l : 0 < suc k = omega arith in l),
        (
          (let l : x ≤ n = omega arith in l),
          λ v l. ap (λ (q : ℕ). look f q v) z ∙ (blank_says f s.blank v l ∙ sym (ap a.phones (other_none v l) ∙ a.none)),
        ),
      ))
      (λ y z.
      let r = i x (omega arith) (omega arith) p in
      let o = other_inside a.start a.last r.0 r.1 in (
        end_state a.next a.start r.0,
        (let l : end_state a.next a.start r.0 < suc k = omega arith in l),
        (
          (let l : x ≤ n = omega arith in l),
          λ v l.
              ap (λ (q : ℕ). look f q v) (sym r.2)
              ∙ (sym (look_on f n r.0 v)
              ∙ (says (r.0 ++ v) (letters_on r.0 v r.1 l)
              ∙ (sym (a.says (r.0 ++ v) (letters_on r.0 v r.1 l)) ∙ ap a.phones (end_on a.next a.start r.0 v)))),
        ),
      ))

  -- the marked states, and the blank one, are no more than the other automaton's and 0
  pub fewest : (b : ℕ → ℕ) → Words b → marked b (suc n) ≤ suc k
  fewest b i = pigeonhole b (suc n) (suc k) Means once (related b i)
