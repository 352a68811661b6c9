-- The number of names from a state is that of its own name and of those from its successors.
-- Assumes nothing.
use mathlib.Core.Path.{◌≡◌, refl, sym, ap, ap₂, ◌∙◌}
use Prim.Native.Nat.{ℕ, zero, suc, ◌+◌, ◌≤◌, ◌<◌}
use native.Mathlib.Omega.{arith}
use mathlib.Core.List.{List, [], ◌∷◌, ◌++◌, map, append-nil, append_assoc}
use lib.ListN.{length, length-append, length-map}
use Rattle.automaton.specs.Automaton.{Str, Rows, unless_zero, up_to, phones_at, look, Letters, Sound}
use Rattle.automaton.specs.Listing.{each, own, names}
use Rattle.automaton.specs.Totals.{sum, total}
use Rattle.automaton.proofs.Tests.{by_nat, by_less}
use Rattle.automaton.proofs.NameLengths.{blank_says, long_says, names_more}

pub sum_ext : (g h : ℕ → ℕ) (k : ℕ) → ((c : ℕ) → 0 < c → c ≤ k → g c ≡ h c) → sum g k ≡ sum h k
unfolding sum
sum_ext g h zero e = refl
sum_ext g h (suc k) e = ap₂ ◌+◌ (sum_ext g h k (λ c a b. e c a (omega arith))) (e (suc k) (omega arith) (omega arith))

sum_none : (g : ℕ → ℕ) (k : ℕ) → ((c : ℕ) → 0 < c → c ≤ k → g c ≡ 0) → sum g k ≡ 0
unfolding sum
sum_none g zero e = refl
sum_none g (suc k) e = let a = sum_none g k (λ c a b. e c a (omega arith)) in let b = e (suc k) (omega arith) (omega arith) in omega arith

snoc : (g : ℕ → List Str) (c n : ℕ) → each g c (suc n) ≡ each g c n ++ g (c + n)
snoc g c zero = append-nil (g c) ∙ (let z : c ≡ c + 0 = omega arith in ap g z)
snoc g c (suc n) =
    ap (λ (a : List Str). g c ++ a) (snoc g (suc c) n)
    ∙ (sym (append_assoc (g c) (each g (suc c) n) (g (suc c + n)))
    ∙ (let z : suc c + n ≡ c + suc n = omega arith in ap (λ (x : ℕ). g c ++ each g (suc c) n ++ g x) z))

sum_each : (g : ℕ → List Str) (k : ℕ) → length (each g 1 k) ≡ sum (λ c. length (g c)) k
unfolding sum
sum_each g zero = refl
sum_each g (suc k) =
    let z : 1 + k ≡ suc k = omega arith in
    let a : length (each g 1 (suc k)) ≡ length (each g 1 k ++ g (1 + k)) = ap length (snoc g 1 k) in
    let b = length-append (each g 1 k) (g (1 + k)) in
    let d : length (g (1 + k)) ≡ length (g (suc k)) = ap (λ (x : ℕ). length (g x)) z in
    let i = sum_each g k in
    omega arith

pub total_blank : (f : Rows) (n : ℕ) → Sound f n → total f 0 ≡ 0
unfolding total names
total_blank f n s = ap (λ (p : Str). length (own p)) (blank_says f s.blank [] tt)

own_blank : (f : Rows) (n : ℕ) → Sound f n → length (own (phones_at f 0)) ≡ 0
own_blank f n s = ap (λ (p : Str). length (own p)) (blank_says f s.blank [] tt)

step : (f : Rows) (n : ℕ) → Sound f n → (p : ℕ) → suc p ≤ n → total f (suc p) ≡ length (own (phones_at f (suc p))) + sum (λ c. total f (f (suc p) c)) 63
unfolding total names
step f n s p h =
    let q = suc p in
    let g : ℕ → List Str = λ c. map (λ (w : Str). c ∷ w) (names p (look f (f q c))) in
    let a = length-append (own (phones_at f q)) (each g 1 63) in
    let b = sum_each g 63 in
    let d : sum (λ c. length (g c)) 63 ≡ sum (λ c. length (names (f q c) (look f (f q c)))) 63 =
    sum_ext (λ c. length (g c)) (λ c. length (names (f q c) (look f (f q c)))) 63
    (λ c z l.
    let e = s.earlier q c h (omega arith) in
    length-map (names p (look f (f q c))) (λ (w : Str). c ∷ w)
    ∙ ap length (names_more (f q c) p (look f (f q c)) (omega arith) (λ w t u. long_says f n s (f q c) (omega arith) w t u))) in
    omega arith

pub total_step : (f : Rows) (n : ℕ) → Sound f n → (q : ℕ) → q ≤ n → total f q ≡ length (own (phones_at f q)) + sum (λ c. total f (f q c)) 63
total_step f n s zero h =
    let a = total_blank f n s in
    let b = own_blank f n s in
    let d = sum_none (λ c. total f (f 0 c)) 63 (λ c z l. ap (total f) (s.blank c (omega arith)) ∙ total_blank f n s) in
    omega arith
total_step f n s (suc p) h = step f n s p h

-- the state's own name counts where the first phone is there
pub own_zero : (f : Rows) (q : ℕ) → f q (64 + 0) ≡ 0 → length (own (phones_at f q)) ≡ 0
unfolding phones_at
own_zero f q e = ap (λ (x : ℕ). length (own (unless_zero x (up_to 21 (λ k. f q (64 + suc k)))))) e

pub own_one : (f : Rows) (q : ℕ) → (f q (64 + 0) ≡ 0 → ⊥) → length (own (phones_at f q)) ≡ 1
unfolding phones_at
own_one f q ne = by_nat (f q (64 + 0)) (λ e. absurd (ne e)) (λ y e. ap (λ (x : ℕ). length (own (unless_zero x (up_to 21 (λ k. f q (64 + suc k)))))) e)

-- where no name is longer than 64 letters, the names of at most 64 letters are all
pub total_64 : (f : Rows) (n : ℕ) → Sound f n → ((w : Str) → Letters w → 64 < length w → look f n w ≡ []) → length (names 64 (look f n)) ≡ total f n
unfolding total
total_64 f n s a =
    by_less 64 n
    (λ l. sym (ap length (names_more 64 n (look f n) (omega arith) a)))
    (λ l. ap length (names_more n 64 (look f n) l (λ w t u. long_says f n s n (omega arith) w t u)))
