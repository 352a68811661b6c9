-- The phones of a state: bytes up to the first 0.
-- Assumes nothing.
use mathlib.Core.Path.{◌≡◌, refl, sym, ap, ◌∙◌, subst}
use Prim.Native.Nat.{ℕ, zero, suc, ◌+◌, ◌/◌, ◌%◌, ◌≤◌, ◌<◌}
use native.Mathlib.Nat.{not-suc-le-zero, le_of_suc-le-suc}
use native.Mathlib.Omega.{arith}
use mathlib.Core.List.{List}
use lib.ListN.{length, get_or}
use Rattle.automaton.specs.Automaton.{rows_of, unless_zero, up_to, phones_at, Padded, Sound}
use Rattle.automaton.proofs.Change.{up_to_ext}
use Rattle.automaton.proofs.Endings.{zeros}
use Rattle.automaton.proofs.Tests.{by_nat}
use Rattle.packing.specs.Packing.{digit, byte_of, unpack, byte_at, said, StateAsks}

-- k numbers above 0, then a 0 where there are more
up_to_length : (n : ℕ) (g : ℕ → ℕ) (k : ℕ) → k ≤ n → ((j : ℕ) → j < k → 0 < g j) → (k < n → g k ≡ 0) → length (up_to n g) ≡ k
up_to_length zero g zero h a e = refl
up_to_length zero g (suc k) h a e = absurd (not-suc-le-zero h)
up_to_length (suc n) g zero h a e = ap (λ (x : ℕ). length (unless_zero x (up_to n (λ k. g (suc k))))) (e (omega arith))
up_to_length (suc n) g (suc k) h a e =
    by_nat (g zero) (λ z. let p = a 0 (omega arith) in absurd (omega arith))
    (λ y z. ap (λ (x : ℕ). length (unless_zero x (up_to n (λ k. g (suc k))))) z
    ∙ ap suc (up_to_length n (λ k. g (suc k)) k (le_of_suc-le-suc h) (λ j l. a (suc j) (omega arith)) (λ l. e (omega arith))))

pub up_to_long : (n : ℕ) (g : ℕ → ℕ) → length (up_to n g) ≤ n
up_to_long zero g = omega arith
up_to_long (suc n) g =
    by_nat (g zero)
    (λ z. let e : length (up_to (suc n) g) ≡ 0 = ap (λ (x : ℕ). length (unless_zero x (up_to n (λ k. g (suc k))))) z in omega arith)
    (λ y z. let e : length (up_to (suc n) g) ≡ suc (length (up_to n (λ k. g (suc k)))) = ap (λ (x : ℕ). length (unless_zero x (up_to n (λ k. g (suc k))))) z in let i = up_to_long n (λ k. g (suc k)) in omega arith)

get_zero : (x : ℕ) (u : List ℕ) → 0 < length (unless_zero x u) → get_or (unless_zero x u) 0 0 ≡ x
get_zero zero u h = refl
get_zero (suc x) u h = refl

get_suc : (x : ℕ) (u : List ℕ) (k : ℕ) → suc k < length (unless_zero x u) → (k < length u) × (get_or (unless_zero x u) (suc k) 0 ≡ get_or u k 0)
get_suc zero u k h = absurd (not-suc-le-zero h)
get_suc (suc x) u k h = (le_of_suc-le-suc h, refl)

up_to_get : (n : ℕ) (g : ℕ → ℕ) (k : ℕ) → k < length (up_to n g) → get_or (up_to n g) k 0 ≡ g k
up_to_get zero g k h = absurd (not-suc-le-zero h)
up_to_get (suc n) g zero h = get_zero (g zero) (up_to n (λ k. g (suc k))) h
up_to_get (suc n) g (suc k) h =
    let r = get_suc (g zero) (up_to n (λ k. g (suc k))) k h in
    r.1 ∙ up_to_get n (λ k. g (suc k)) k r.0

cons_get : (n : ℕ) (g : ℕ → ℕ) → Padded (suc n) g → (y : ℕ) → g zero ≡ suc y → (k : ℕ) → k < suc n → ((j : ℕ) → j < n → get_or (up_to n (λ k. g (suc k))) j 0 ≡ g (suc j)) → get_or (unless_zero (suc y) (up_to n (λ k. g (suc k)))) k 0 ≡ g k
cons_get n g p y z zero h a = sym z
cons_get n g p y z (suc k) h a = a k (le_of_suc-le-suc h)

pub up_to_all : (n : ℕ) (g : ℕ → ℕ) → Padded n g → (k : ℕ) → k < n → get_or (up_to n g) k 0 ≡ g k
up_to_all zero g p k h = absurd (not-suc-le-zero h)
up_to_all (suc n) g p k h =
    by_nat (g zero)
    (λ z. ap (λ (x : ℕ). get_or (unless_zero x (up_to n (λ k. g (suc k)))) k 0) z ∙ sym (zeros (suc n) g p z k h))
    (λ y z. ap (λ (x : ℕ). get_or (unless_zero x (up_to n (λ k. g (suc k)))) k 0) z ∙ cons_get n g p y z k h (λ j l. up_to_all n (λ k. g (suc k)) (λ i o. p (suc i) (omega arith)) j l))

-- the phones are the bytes up to the first 0
pub said_is : (ws : List ℕ) (n q : ℕ) → Sound (rows_of ws) n → q ≤ n → said (rows_of ws) q ≡ up_to 64 (byte_at (rows_of ws) q)
unfolding said unpack phones_at byte_of byte_at
said_is ws n q s h =
    up_to_ext 64 (byte_of (up_to 22 (λ k. rows_of ws q (64 + k)))) (byte_at (rows_of ws) q)
    (λ k l. ap (digit (k % 3)) (up_to_all 22 (λ k. rows_of ws q (64 + k)) (s.padded q h) (k / 3) (omega arith)))

-- k bytes above 0, then a 0 where there are more, are k phones
pub said_length : (ws : List ℕ) (n q k : ℕ) → StateAsks ws n q → k ≤ 64 → ((j : ℕ) → j < k → 0 < byte_at (rows_of ws) q j) → (k < 64 → byte_at (rows_of ws) q k ≡ 0) → k ≡ length (said (rows_of ws) q)
said_length ws n q k s h a e = sym (ap length (said_is ws n q s.sound s.inside) ∙ up_to_length 64 (byte_at (rows_of ws) q) k h a e)

pub phones-long : (ws : List ℕ) (n q : ℕ) → StateAsks ws n q → length (said (rows_of ws) q) ≤ 64
phones-long ws n q s =
    let e : length (said (rows_of ws) q) ≡ length (up_to 64 (byte_at (rows_of ws) q)) = ap length (said_is ws n q s.sound s.inside) in
    let l = up_to_long 64 (byte_at (rows_of ws) q) in omega arith

pub phones_get : (ws : List ℕ) (n q k : ℕ) → StateAsks ws n q → k < length (said (rows_of ws) q) → get_or (said (rows_of ws) q) k 0 ≡ byte_at (rows_of ws) q k
phones_get ws n q k s h =
    let e = said_is ws n q s.sound s.inside in
    ap (λ (t : List ℕ). get_or t k 0) e ∙ up_to_get 64 (byte_at (rows_of ws) q) k (subst (λ (t : List ℕ). k < length t) e h)
