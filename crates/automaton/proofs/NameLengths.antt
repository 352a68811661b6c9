-- How far the names from a state go: the blank state has none, and state q none of more than q letters.
-- Assumes nothing.
use mathlib.Core.Path.{◌≡◌, refl, ap, ap₂, ◌∙◌}
use Prim.Native.Nat.{ℕ, zero, suc, ◌+◌, ◌≤◌, ◌<◌}
use native.Mathlib.Omega.{arith}
use mathlib.Core.List.{List, [], ◌∷◌, ◌++◌, map, append-nil}
use native.Mathlib.Nat.{not-suc-le-zero, le_of_suc-le-suc}
use lib.ListN.{length}
use Rattle.automaton.specs.Automaton.{Str, Rows, unless_zero, up_to, phones_at, look, Letters, Sound}
use Rattle.automaton.specs.Listing.{each, own, names}
use Rattle.automaton.proofs.Tests.{by_same}

none_each : (g : ℕ → List Str) (c n : ℕ) → ((d : ℕ) → c ≤ d → d < c + n → g d ≡ []) → each g c n ≡ []
none_each g c zero e = refl
none_each g c (suc n) e = ap₂ (λ (a b : List Str). a ++ b) (e c (omega arith) (omega arith)) (none_each g (suc c) n (λ d a b. e d (omega arith) (omega arith)))

pub each_same : (g k : ℕ → List Str) (c n : ℕ) → ((d : ℕ) → c ≤ d → d < c + n → g d ≡ k d) → each g c n ≡ each k c n
each_same g k c zero e = refl
each_same g k c (suc n) e = ap₂ (λ (a b : List Str). a ++ b) (e c (omega arith) (omega arith)) (each_same g k (suc c) n (λ d a b. e d (omega arith) (omega arith)))

pub blank_says : (f : Rows) → ((k : ℕ) → k < 86 → f 0 k ≡ 0) → (w : Str) → Letters w → look f 0 w ≡ []
unfolding phones_at
blank_says f b [] t = ap (λ (x : ℕ). unless_zero x (up_to 21 (λ k. f 0 (64 + suc k)))) (b (64 + 0) (omega arith))
blank_says f b (c ∷ w) t = ap (λ (v : ℕ). look f v w) (b c (let l = t.1 in omega arith)) ∙ blank_says f b w t.2

-- a name from state q has at most q letters
pub long_says : (f : Rows) (n : ℕ) → Sound f n → (q : ℕ) → q ≤ n → (w : Str) → Letters w → q < length w → look f q w ≡ []
long_says f n s q h [] t l = absurd (not-suc-le-zero l)
long_says f n s q h (c ∷ w) t l =
    let x = s.earlier q c h t.1 in
    by_same (f q c) 0
    (λ e. ap (λ (v : ℕ). look f v w) e ∙ blank_says f s.blank w t.2)
    (λ ne. long_says f n s (f q c) (omega arith) w t.2 (omega arith))

-- ---- names of at most h letters are all names, where none is longer than k ≤ h

none_names : (h : ℕ) (m : Str → Str) → ((w : Str) → Letters w → m w ≡ []) → names h m ≡ []
unfolding names
none_names zero m a = ap own (a [] tt)
none_names (suc h) m a =
    ap₂ (λ (x y : List Str). x ++ y) (ap own (a [] tt))
    (none_each (λ c. map (λ (w : Str). c ∷ w) (names h (λ w. m (c ∷ w)))) 1 63 (λ d x y. ap (map (λ (w : Str). d ∷ w)) (none_names h (λ w. m (d ∷ w)) (λ w t. a (d ∷ w) (omega arith, omega arith, t)))))

pub names_more : (k h : ℕ) (m : Str → Str) → k ≤ h → ((w : Str) → Letters w → k < length w → m w ≡ []) → names h m ≡ names k m
unfolding names
names_more zero zero m l a = refl
names_more zero (suc h) m l a =
    ap (λ (y : List Str). own (m []) ++ y)
    (none_each (λ c. map (λ (w : Str). c ∷ w) (names h (λ w. m (c ∷ w)))) 1 63 (λ d x y. ap (map (λ (w : Str). d ∷ w)) (none_names h (λ w. m (d ∷ w)) (λ w t. a (d ∷ w) (omega arith, omega arith, t) (omega arith)))))
    ∙ append-nil (own (m []))
names_more (suc k) zero m l a = absurd (not-suc-le-zero l)
names_more (suc k) (suc h) m l a =
    ap (λ (y : List Str). own (m []) ++ y)
    (each_same (λ c. map (λ (w : Str). c ∷ w) (names h (λ w. m (c ∷ w)))) (λ c. map (λ (w : Str). c ∷ w) (names k (λ w. m (c ∷ w)))) 1 63
    (λ d x y. ap (map (λ (w : Str). d ∷ w)) (names_more k h (λ w. m (d ∷ w)) (le_of_suc-le-suc l) (λ w t u. a (d ∷ w) (omega arith, omega arith, t) (omega arith)))))
