-- Laws of parts of the words: joined, moved, searched.
-- Assumes nothing.
use mathlib.Core.Path.{◌≡◌, refl, sym, ap, ap₂, ◌∙◌, subst}
use Prim.Native.Nat.{ℕ, zero, suc, ◌+◌, ◌-◌, ◌≤◌, ◌<◌}
use native.Mathlib.Omega.{arith}
use mathlib.Core.List.{List, [], ◌∷◌, ◌++◌, append_assoc}
use lib.ListN.{length, get_or, take, drop}
use lib.Seq.{drop-cons}
use Rattle.std.proofs.lemmas.List.{get_or-take, get_or-drop}
use Rattle.std.proofs.Common.{length-take, length-drop}
use Rattle.automaton.specs.Automaton.{key_of, at, part, Sorted}
use Rattle.automaton.proofs.Tests.{by_less, by_same}
use Rattle.states.specs.States.{lower, upper, past, Split, Valued, Skipped}
use Rattle.states.proofs.Cells.{lower_less, upper_less, past_same, past_other, at_here, at_there, at_upper, upper_sorted, sorted_none}

pub part_length : (ws : List ℕ) (a n : ℕ) → length (part ws a n) ≡ n
part_length ws a zero = refl
part_length ws a (suc n) = ap suc (part_length ws (suc a) n)

pub part_ext : (ws ws' : List ℕ) (a b n : ℕ) → ((j : ℕ) → j < n → get_or ws (a + j) 0 ≡ get_or ws' (b + j) 0) → part ws a n ≡ part ws' b n
part_ext ws ws' a b zero e = refl
part_ext ws ws' a b (suc n) e =
    let x : a + 0 ≡ a = omega arith in
    let y : b + 0 ≡ b = omega arith in
    ap₂ (λ (u : ℕ) (v : List ℕ). u ∷ v) (ap (λ (u : ℕ). get_or ws u 0) (sym x) ∙ (e 0 (omega arith) ∙ ap (λ (u : ℕ). get_or ws' u 0) y))
    (part_ext ws ws' (suc a) (suc b) n (λ j l.
    let g : suc a + j ≡ a + suc j = omega arith in
    let h : b + suc j ≡ suc b + j = omega arith in
    ap (λ (u : ℕ). get_or ws u 0) g ∙ (e (suc j) (omega arith) ∙ ap (λ (u : ℕ). get_or ws' u 0) h)))

-- a slice of the words is a part of them
pub part_slice : (ws : List ℕ) (a n : ℕ) → a + n ≤ length ws → take n (drop a ws) ≡ part ws a n
part_slice ws a zero h = refl
part_slice ws a (suc n) h = ap (take (suc n)) (drop-cons ws a 0 (omega arith)) ∙ ap (λ (l : List ℕ). get_or ws a 0 ∷ l) (part_slice ws (suc a) n (omega arith))

-- item i of a slice of the words, and its end
pub slice_at : (ws : List ℕ) (a e i : ℕ) → e ≤ length ws → i < length (take (e - a) (drop a ws)) → (get_or (take (e - a) (drop a ws)) i 0 ≡ get_or ws (a + i) 0) × (a + i < e)
slice_at ws a e i w h =
    let x = length-take (e - a) (drop a ws) in
    let y = length-drop a ws in
    (get_or-take (e - a) (drop a ws) i 0 (omega arith) ∙ get_or-drop a ws i 0, omega arith)

pub slice_end : (ws : List ℕ) (a e i : ℕ) → e ≤ length ws → length (take (e - a) (drop a ws)) ≤ i → e ≤ a + i
slice_end ws a e i w h =
    let x = length-take (e - a) (drop a ws) in
    let y = length-drop a ws in
    omega arith

pub part_get : (ws : List ℕ) (a n j : ℕ) → j < n → get_or (part ws a n) j 0 ≡ get_or ws (a + j) 0
part_get ws a zero j h = absurd (omega arith)
part_get ws a (suc n) zero h = let x : a ≡ a + 0 = omega arith in ap (λ (u : ℕ). get_or ws u 0) x
part_get ws a (suc n) (suc j) h =
    let g : suc a + j ≡ a + suc j = omega arith in
    part_get ws (suc a) n j (omega arith) ∙ ap (λ (u : ℕ). get_or ws u 0) g

pub part_join : (ws : List ℕ) (a m n k : ℕ) → k ≡ m + n → part ws a k ≡ part ws a m ++ part ws (a + m) n
part_join ws a zero n k e =
    let x : k ≡ n = omega arith in
    let y : a ≡ a + 0 = omega arith in
    ap₂ (part ws) y x
part_join ws a (suc m) n zero e = absurd (omega arith)
part_join ws a (suc m) n (suc k) e =
    let y : suc a + m ≡ a + suc m = omega arith in
    ap (λ (v : List ℕ). get_or ws a 0 ∷ v) (part_join ws (suc a) m n k (omega arith) ∙ ap (λ (v : ℕ). part ws (suc a) m ++ part ws v n) y)

pub part_cons : (ws : List ℕ) (i e : ℕ) → i < e → part ws i (e - i) ≡ get_or ws i 0 ∷ part ws (i + 1) (e - (i + 1))
part_cons ws i e h =
    let q : e - i ≡ suc (e - (i + 1)) = omega arith in
    let r : suc i ≡ i + 1 = omega arith in
    ap (part ws i) q ∙ ap (λ (t : ℕ). get_or ws i 0 ∷ part ws t (e - (i + 1))) r

pub part_none : (ws : List ℕ) (a n : ℕ) → n ≡ 0 → part ws a n ≡ []
part_none ws a n e = ap (part ws a) e

-- the cells a to i, then cell i, are the cells a to i + 1
pub part_snoc : (ws : List ℕ) (a i : ℕ) (l : List ℕ) → a ≤ i → part ws a (i - a) ++ (get_or ws i 0 ∷ l) ≡ part ws a (i + 1 - a) ++ l
part_snoc ws a i l h =
    let q : i + 1 - a ≡ (i - a) + 1 = omega arith in
    let r : a + (i - a) ≡ i = omega arith in
    let g : part ws a (i + 1 - a) ≡ part ws a (i - a) ++ (get_or ws i 0 ∷ []) =
    part_join ws a (i - a) 1 (i + 1 - a) q ∙ ap (λ (t : ℕ). part ws a (i - a) ++ (get_or ws t 0 ∷ [])) r in
    sym (ap (λ (t : List ℕ). t ++ l) g ∙ append_assoc (part ws a (i - a)) (get_or ws i 0 ∷ []) l)

-- ---- the first cell not below c

pub record Seeking (ws : List ℕ) (a e c i : ℕ) : Type 0 where
  pub least : a ≤ i
  pub most : i ≤ e
  pub low : lower c (part ws a (e - a)) ≡ part ws a (i - a) ++ lower c (part ws i (e - i))
  pub high : upper c (part ws a (e - a)) ≡ upper c (part ws i (e - i))

pub seek_next : (ws : List ℕ) (a e c i : ℕ) → Seeking ws a e c i → i < e → key_of (get_or ws i 0) < c → Seeking ws a e c (i + 1)
seek_next ws a e c i s h l =
    let lo = s.least in
    let g = part_cons ws i e h in
    record {
      least = omega arith;
      most = omega arith;
      low = s.low
          ∙ (ap (λ (t : List ℕ). part ws a (i - a) ++ lower c t) g
          ∙ (ap (λ (t : List ℕ). part ws a (i - a) ++ t) (lower_less c (get_or ws i 0) (part ws (i + 1) (e - (i + 1))) l)
          ∙ part_snoc ws a i (lower c (part ws (i + 1) (e - (i + 1)))) lo));
      high = s.high ∙ (ap (upper c) g ∙ upper_less c (get_or ws i 0) (part ws (i + 1) (e - (i + 1))) l);
    }

-- ---- what the first cell says

pub value_of : (ws : List ℕ) (a e c i r : ℕ) → Sorted 1 (part ws a (e - a)) → Split ws a e c i → Valued ws i e c r → r ≡ at (part ws a (e - a)) c
value_of ws a e c i r s p v =
    let up = at_upper c (part ws a (e - a)) c (omega arith) ∙ ap (λ (t : List ℕ). at t c) p.high in
    let so : Sorted c (part ws i (e - i)) = subst (Sorted c) p.high (upper_sorted c 1 (part ws a (e - a)) s) in
    by_less i e
    (λ h.
    let g = part_cons ws i e h in
    let sg : Sorted c (get_or ws i 0 ∷ part ws (i + 1) (e - (i + 1))) = subst (Sorted c) g so in
    by_same (key_of (get_or ws i 0)) c
    (λ q. v.same h q ∙ sym (up ∙ (ap (λ (t : List ℕ). at t c) g ∙ at_here (get_or ws i 0) (part ws (i + 1) (e - (i + 1))) c q)))
    (λ q.
    let lo = sg.0 in
    v.other h q ∙ sym (up ∙ (ap (λ (t : List ℕ). at t c) g ∙ (at_there (get_or ws i 0) (part ws (i + 1) (e - (i + 1))) c q
    ∙ sorted_none (suc (key_of (get_or ws i 0))) (part ws (i + 1) (e - (i + 1))) c sg.3 (omega arith))))))
    (λ h. v.none h ∙ sym (up ∙ ap (λ (t : List ℕ). at t c) (part_none ws i (e - i) (omega arith))))

pub skipped_end : (ws : List ℕ) (i e c : ℕ) → i ≤ e → e ≤ i → Skipped ws i e c i
skipped_end ws i e c h l =
    let g = part_none ws i (e - i) (omega arith) in
    record { least = omega arith; most = h; rest = ap (past c) g ∙ sym g }

pub skipped_other : (ws : List ℕ) (i e c : ℕ) → i < e → (key_of (get_or ws i 0) ≡ c → ⊥) → Skipped ws i e c i
skipped_other ws i e c h ne =
    let g = part_cons ws i e h in
    record { least = omega arith; most = omega arith; rest = ap (past c) g ∙ (past_other c (get_or ws i 0) (part ws (i + 1) (e - (i + 1))) ne ∙ sym g) }

pub skipped_same : (ws : List ℕ) (i e c : ℕ) → i < e → key_of (get_or ws i 0) ≡ c → Skipped ws i e c (i + 1)
skipped_same ws i e c h q =
    let g = part_cons ws i e h in
    record { least = omega arith; most = omega arith; rest = ap (past c) g ∙ past_same c (get_or ws i 0) (part ws (i + 1) (e - (i + 1))) q }
