-- The pattern of the literal rule at a place: how it is laid, how many symbols it has, and that each has an entry in a row.
-- Assumes nothing.
use mathlib.Core.Path.{◌≡◌, sym, ap, ap₂, ◌∙◌, subst}
use Prim.Native.Nat.{ℕ, zero, suc, ◌+◌, ◌-◌, ◌≤◌, ◌<◌}
use native.Mathlib.Omega.{arith}
use native.Mathlib.Decide.{dec_le}
use mathlib.Core.Bool.{Bool, true, false}
use mathlib.Core.List.{List, [], ◌∷◌, ◌++◌, reverse, reverse_aux, reverse-cons, append-nil, append_assoc}
use lib.ListN.{length, get_or, take, drop, length-append, length-reverse, get_or-append}
use lib.Seq.{get_or_at, get_or-append-add, drop-drop, take_all, paste}
use Rattle.rules.specs.Limits.{max_context, max_target, max_pattern}
use borrow.Rule.Slice.PartMut.{mid_of, put_mid}
use Rattle.rules.specs.Memory.{over, over_at}
use Rattle.rules.proofs.Memory.{over_tail}
use Rattle.classes.specs.Classes.{Classes}
use Rattle.classes.specs.Expansion.{size}
use Rattle.classes.specs.Ordinal.{choice_at}
use Rattle.classes.proofs.Ordinal.{choice_long}
use Rattle.image.specs.Image.{valid, total_of}
use Rattle.image.proofs.Literals.{LiteralShaped, total_is, literals_shaped}
use Rattle.fitting.specs.Fitting.{Str}
use Rattle.tables.specs.Words.{row_size}
use Rattle.side.specs.Wrote.{Wrote}
use Rattle.side.proofs.Writing.{both, copied}
use Rattle.literals.specs.Places.{literal_entry}
use Rattle.patterns.specs.Sides.{Put, pattern_in}

-- ---- strings that are reversed

pub get_d_reverse : (l : Str) (k : ℕ) → k < length l → get_or (reverse l) k 0 ≡ get_or l (length l - 1 - k) 0
get_d_reverse [] k h = absurd (omega arith)
get_d_reverse (x ∷ l) k h = ap (λ (w : Str). get_or w k 0) (reverse-cons x l) ∙ go (dec_le (suc k) (length l)) (get_d_reverse l k)
  where
    go : Dec (k < length l) → (k < length l → get_or (reverse l) k 0 ≡ get_or l (length l - 1 - k) 0) → get_or (reverse l ++ (x ∷ [])) k 0 ≡ get_or (x ∷ l) (suc (length l) - 1 - k) 0
    go (yes y) ih =
        let e : suc (length l) - 1 - k ≡ suc (length l - 1 - k) = omega arith in
        get_or-append (reverse l) (x ∷ []) 0 k (omega (arith, length-reverse l)) ∙ ih y ∙ sym (ap (λ (j : ℕ). get_or (x ∷ l) j 0) e)
    go (no y) ih =
        let e : suc (length l) - 1 - k ≡ 0 = omega arith in
        get_or_at (reverse l) x [] 0 k (length-reverse l ∙ (let q : length l ≡ k = omega arith in q)) ∙ sym (ap (λ (j : ℕ). get_or (x ∷ l) j 0) e)

reverse_append : (s t : Str) → reverse (s ++ t) ≡ reverse t ++ reverse s
reverse_append [] t = sym (append-nil (reverse t))
reverse_append (x ∷ s) t =
    reverse-cons x (s ++ t) ∙ ap (λ (w : Str). w ++ (x ∷ [])) (reverse_append s t) ∙ append_assoc (reverse t) (reverse s) (x ∷ [])
    ∙ ap (λ (w : Str). reverse t ++ w) (sym (reverse-cons x s))

-- t reversed, then s reversed, is s and t joined, then reversed
joined : {xs ys zs : List ℕ} {a : ℕ} (s t : Str) → Wrote xs a (length t) (λ k. get_or (reverse t) k 0) ys → Wrote ys (a + length t) (length s) (λ k. get_or (reverse s) k 0) zs
    → Wrote xs a (length t + length s) (λ k. get_or (reverse (s ++ t)) k 0) zs
joined s t v w = both _ v w low high
  where
    low : (k : ℕ) → k < length t → get_or (reverse t) k 0 ≡ get_or (reverse (s ++ t)) k 0
    low k h = sym (ap (λ (x : Str). get_or x k 0) (reverse_append s t) ∙ get_or-append (reverse t) (reverse s) 0 k (omega (arith, length-reverse t)))

    high : (k : ℕ) → k < length s → get_or (reverse s) k 0 ≡ get_or (reverse (s ++ t)) (length t + k) 0
    high k h =
        sym (ap (λ (x : Str). get_or x (length t + k) 0) (reverse_append s t)
        ∙ ap (λ (j : ℕ). get_or (reverse t ++ reverse s) (j + k) 0) (sym (length-reverse t)) ∙ get_or-append-add (reverse t) (reverse s) k 0)

joined_length : (s t : Str) → length (reverse (s ++ t)) ≡ length t + length s
joined_length s t = omega (arith, length-reverse (s ++ t), length-append s t)

-- ---- symbols that have an entry in a row

abbrev Low : Str → Type 0
Low s = (k : ℕ) → get_or s k 0 < row_size

low_cons : (c : ℕ) (s : Str) → c < row_size → Low s → Low (c ∷ s)
low_cons c s a b zero = a
low_cons c s a b (suc k) = b k

low_append : (s t : Str) → Low s → Low t → Low (s ++ t)
low_append [] t a b k = b k
low_append (c ∷ s) t a b zero = a zero
low_append (c ∷ s) t a b (suc k) = low_append s t (λ j. a (suc j)) b k

low_reverse : (s t : Str) → Low s → Low t → Low (reverse_aux s t)
low_reverse [] t a b = b
low_reverse (c ∷ s) t a b = low_reverse s (c ∷ t) (λ j. a (suc j)) (low_cons c t (a zero) b)

-- ---- the pattern of a literal rule

-- s laid over memory
over_paste : (a : ℕ) (s xs : List ℕ) → over_at a s xs ≡ paste xs a s (length s)
over_paste a s xs =
    ap (λ (w : List ℕ). take a xs ++ (s ++ w)) (drop-drop (length s) a xs)
    ∙ (sym (append_assoc (take a xs) s (drop (a + length s) xs)) ∙ ap (λ (w : List ℕ). take a xs ++ w ++ drop (a + length s) xs) (sym (take_all (length s) s (omega arith))))

pub put_over : (xs : List ℕ) (a : ℕ) (s : Str) (n : ℕ) → n ≡ length s → a + length s ≤ length xs → (ys : List ℕ) → ys ≡ over_at a s xs → Put xs a s n ys
put_over xs a s n e h ys f =
    (e, subst (λ (m : ℕ). Wrote xs a m (λ k. get_or s k 0) ys) (sym e) (copied xs a s h ys (f ∙ over_paste a s xs)))

-- the choice of a run that a call has laid over memory from a on
pub put-choice : (k : Classes) (s : Str) → 1 ≤ size k s → (xs : List ℕ) (a : ℕ) → a + length s ≤ length xs → (q j : ℕ) → q ≡ j
    → (z : List ℕ) → z ≡ over (choice_at k s q) (mid_of a (length xs - a) xs) → Put xs a (choice_at k s j) (length s) (put_mid a (length xs - a) xs z)
put-choice k s ok xs a h q j e z f =
    put_over xs a (choice_at k s j) (length s) (sym (choice_long k s j ok)) (omega (arith, choice_long k s j ok)) _
    (over_tail (choice_at k s j) xs z a (f ∙ ap (λ (n : ℕ). over (choice_at k s n) (mid_of a (length xs - a) xs)) e))

-- t reversed, which has m symbols, then s reversed
pub put_both : {xs ys zs : List ℕ} {a : ℕ} (s t : Str) (m : ℕ) → m ≡ length t → Wrote xs a m (λ k. get_or (reverse t) k 0) ys
    → Wrote ys (a + m) (length s) (λ k. get_or (reverse s) k 0) zs → Put xs a (reverse (s ++ t)) (m + length s) zs
put_both {xs} {ys} {zs} {a} s t m e v w =
    let n : m + length s ≡ length t + length s = ap (λ (x : ℕ). x + length s) e in (
      n ∙ sym (joined_length s t),
      subst (λ (x : ℕ). Wrote xs a x (λ k. get_or (reverse (s ++ t)) k 0) zs) (sym n)
          (joined s t (subst (λ (x : ℕ). Wrote xs a x (λ k. get_or (reverse t) k 0) ys) e v) (subst (λ (x : ℕ). Wrote ys (a + x) (length s) (λ k. get_or (reverse s) k 0) zs) e w)),
    )

-- what is laid is the pattern of the literal rule at p
module _ {xs ys : List ℕ} {a n : ℕ} (d : List ℕ) (right : Bool) (p : ℕ) where
  pub put-left : right ≡ false → (s : Str) → s ≡ (literal_entry d p).rule.left → Put xs a s n ys → Put xs a (pattern_in d right p) n ys
  put-left e s f = subst (λ (x : Str). Put xs a x n ys) (f ∙ ap (λ (b : Bool). pattern_in d b p) (sym e))

  pub put_right : right ≡ true → (s t : Str) → s ≡ (literal_entry d p).rule.target → t ≡ (literal_entry d p).rule.right → Put xs a (reverse (s ++ t)) n ys
      → Put xs a (pattern_in d right p) n ys
  put_right e s t f g = subst (λ (x : Str). Put xs a x n ys) (ap₂ (λ (x y : Str). reverse (x ++ y)) f g ∙ ap (λ (b : Bool). pattern_in d b p) (sym e))

module _ (d : List ℕ) (ok : valid d ≡ true) (p : ℕ) (h : p < total_of d) where
  shape : LiteralShaped (literal_entry d p).rule
  shape = literals_shaped d ok p (omega (arith, total_is d ok))

  pub left-most : length (literal_entry d p).rule.left ≤ max_context
  left-most = shape.left-most

  pub target-most : length (literal_entry d p).rule.target ≤ max_target
  target-most = shape.target-most

  pub right-most : length (literal_entry d p).rule.right ≤ max_context
  right-most = shape.right-most

  -- how many symbols the patterns of both sides have
  pub long : (right : Bool) → length (pattern_in d right p) ≤ max_pattern
  long true = omega (arith, joined_length (literal_entry d p).rule.target (literal_entry d p).rule.right, target-most, right-most)
  long false = omega (arith, left-most)

  pub both_long : length (pattern_in d false p) + length (pattern_in d true p)
      ≡ length (literal_entry d p).rule.left + length (literal_entry d p).rule.target + length (literal_entry d p).rule.right
  both_long = omega (arith, joined_length (literal_entry d p).rule.target (literal_entry d p).rule.right)

  pub small : (right : Bool) → Low (pattern_in d right p)
  small false = shape.left-symbols
  small true = low_reverse ((literal_entry d p).rule.target ++ (literal_entry d p).rule.right) [] (low_append (literal_entry d p).rule.target (literal_entry d p).rule.right shape.target-symbols shape.right-symbols) (λ k. omega arith)
