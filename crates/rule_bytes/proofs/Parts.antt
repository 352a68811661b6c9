-- Parts of a list: those within its front depend on the front alone, and a list is its parts one after the other.
-- Assumes nothing.
use Prim.Native.Nat.{ℕ, zero, suc, ◌+◌, ◌≤◌, ◌<◌}
use mathlib.Core.Path.{◌≡◌, sym, ap, ◌∙◌}
use mathlib.Core.List.{List, [], ◌∷◌, ◌++◌}
use native.Mathlib.Omega.{arith}
use lib.ListN.{get_or, take, drop}
use lib.Seq.{get_or-take, take-nil, take-take, take-add, drop-drop}

take_drop : (n m : ℕ) (l : List ℕ) → take m (drop n l) ≡ drop n (take (n + m) l)
take_drop zero m l = let e : 0 + m ≡ m = omega arith in ap (λ (k : ℕ). take k l) (sym e)
take_drop (suc n) m [] = take-nil m ∙ sym (ap (drop (suc n)) (take-nil (suc n + m)))
take_drop (suc n) m (x ∷ l) =
    let e : suc n + m ≡ suc (n + m) = omega arith in
    take_drop n m l ∙ ap (λ (k : ℕ). drop (suc n) (take k (x ∷ l))) (sym e)

-- lists with the same first N elements have the same parts within them
module _ (N : ℕ) (z d : List ℕ) (e : take N z ≡ take N d) where
  pub front_same : (n : ℕ) → n ≤ N → take n z ≡ take n d
  front_same n h = sym (take-take n N z h) ∙ (ap (take n) e ∙ take-take n N d h)

  pub part_same : (n m : ℕ) → n + m ≤ N → take m (drop n z) ≡ take m (drop n d)
  part_same n m h = take_drop n m z ∙ (ap (drop n) (front_same (n + m) h) ∙ sym (take_drop n m d))

  pub byte_same : (k : ℕ) → k < N → get_or z k 0 ≡ get_or d k 0
  byte_same k h = sym (get_or-take N z k 0 h) ∙ (ap (λ (l : List ℕ). get_or l k 0) e ∙ get_or-take N d k 0 h)

-- the first elements of a list, in four parts
pub in_four : (a b c d : ℕ) (t : List ℕ)
    → take (a + (b + (c + d))) t ≡ take a t ++ (take b (drop a t) ++ (take c (drop (a + b) t) ++ take d (drop (a + b + c) t)))
in_four a b c d t =
    take-add a (b + (c + d)) t
    ∙ ap (λ (q : List ℕ). take a t ++ q)
    (take-add b (c + d) (drop a t)
    ∙ ap (λ (q : List ℕ). take b (drop a t) ++ q)
    (ap (take (c + d)) (drop-drop b a t)
    ∙ (take-add c d (drop (a + b) t) ∙ ap (λ (q : List ℕ). take c (drop (a + b) t) ++ take d q) (drop-drop c (a + b) t))))
