-- Memory that is all zero: the test of it, clearing it, and that it is then as it was.
-- Assumes nothing.
use mathlib.Core.Path.{◌≡◌, refl, sym, ap, ap₂, ◌∙◌}
use Prim.Native.Nat.{ℕ, zero, suc, ◌+◌, ◌≤◌, ◌<◌}
use native.Mathlib.Omega.{arith}
use native.Mathlib.Numerals.{add-one}
use mathlib.Core.Bool.{Bool, true, false, not, ◌&&◌, and-false, and-true, and_assoc}
use mathlib.Core.List.{List, [], ◌∷◌}
use lib.Dec.{leb, eqb, eqb→eq}
use lib.ListN.{length, get_or, take, drop, replicate}
use lib.Seq.{drop-cons, ext_get_or, drop-length}
use Rattle.std.proofs.lemmas.List.{get_or-replicate, length-replicate}
use borrow.Author.Tests.{le-leb, lt-leb, leb-true, not-true, not-false}
use Rattle.rules.proofs.Cases.{and_l, and_r}
use Rattle.tables.proofs.Truth.{true_eq}
use Rattle.sheet.specs.Zeros.{all_are, first_are, all_zero, zeros, AllZero}

-- ---- the test

module _ {A : Type 0} (e : A → A → Bool) (z : A) where
  pub begins-short : (n : ℕ) (s : List A) → length s < n → false ≡ first_are e z n s
  begins-short n s h = sym (ap (λ (b : Bool). b && all_are e z (take n s)) (lt-leb n (length s) h))

  pub begins-as : (n : ℕ) (s : List A) → n ≤ length s → first_are e z n s ≡ all_are e z (take n s)
  begins-as n s room = ap (λ (b : Bool). b && all_are e z (take n s)) (le-leb n (length s) room)

  -- what was seen of u and the rest decide the whole
  abbrev pub Seen : List A → ℕ → Bool → Type 0
  Seen u i so_far = all_are e z u ≡ (so_far && all_are e z (drop i u))

  module _ (u : List A) (i : ℕ) (b : Bool) (seen : Seen u i b) where
    -- the next element, x
    seen-next : i < length u → (x : A) → x ≡ get_or u i x → (t : Bool) → e x z ≡ t → (c : Bool) → c ≡ (b && t) → Seen u (i + 1) c
    seen-next h x is t te c ce =
        seen
        ∙ (ap (λ (y : Bool). b && y) (ap (all_are e z) (drop-cons u i x h) ∙ ap₂ (λ (y : Bool) (k : ℕ). y && all_are e z (drop k u)) (ap (λ (y : A). e y z) (sym is) ∙ te) (sym (add-one i)))
        ∙ (sym (and_assoc b t (all_are e z (drop (i + 1) u))) ∙ ap (λ (y : Bool). y && all_are e z (drop (i + 1) u)) (sym ce)))

    pub seen-other : i < length u → (x : A) → x ≡ get_or u i x → true ≡ not (e x z) → (c : Bool) → c ≡ false → Seen u (i + 1) c
    seen-other h x is q c ce = seen-next h x is false (not-true (e x z) (sym q)) c (ce ∙ sym (and-false b))

    pub seen-same : i < length u → (x : A) → x ≡ get_or u i x → false ≡ not (e x z) → (c : Bool) → c ≡ b → Seen u (i + 1) c
    seen-same h x is q c ce = seen-next h x is true (not-false (e x z) (sym q)) c (ce ∙ sym (and-true b))

    pub seen-all : i ≡ length u → b ≡ all_are e z u
    seen-all h = sym (seen ∙ (ap (λ (x : Bool). b && x) (ap (λ (k : ℕ). all_are e z (drop k u)) h ∙ ap (all_are e z) (drop-length u)) ∙ and-true b))

-- ---- what it tells

past : (s : List ℕ) (k : ℕ) → length s ≤ k → get_or s k 0 ≡ 0
past [] zero h = refl
past [] (suc k) h = refl
past (x ∷ s) zero h = absurd (omega arith)
past (x ∷ s) (suc k) h = past s k (omega arith)

all_at : (s : List ℕ) (k : ℕ) → all_zero s ≡ true → get_or s k 0 ≡ 0
all_at [] k h = past [] k (omega arith)
all_at (x ∷ s) zero h = eqb→eq x 0 (true_eq (eqb x 0) (and_l (eqb x 0) (all_zero s) h))
all_at (x ∷ s) (suc k) h = all_at s k (and_r (eqb x 0) (all_zero s) h)

pub zeros-room : (n : ℕ) (s : List ℕ) → zeros n s ≡ true → n ≤ length s
zeros-room n s h = leb-true n (length s) (and_l (leb n (length s)) _ h)

pub zeros-all : (n : ℕ) (s : List ℕ) → zeros n s ≡ true → AllZero (take n s)
zeros-all n s h = record { each = λ k. all_at (take n s) k (and_r (leb n (length s)) _ h) }

-- zero memory, worked in and filled with zero, is as it was
pub restored : (s₀ s s' : List ℕ) → AllZero s₀ → length s ≡ length s₀ → ◌≡◌ {A = List ℕ} s' (replicate (length s) 0) → s' ≡ s₀
restored s₀ s s' z e c =
    let l : length s' ≡ length s = ap length c ∙ length-replicate (length s) 0 in
    ext_get_or 0 s' s₀ (l ∙ e) (λ k h. ap (λ (x : List ℕ). get_or x k 0) c ∙ (get_or-replicate (length s) k 0 0 (omega arith) ∙ sym (z.each k)))
