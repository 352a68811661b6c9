-- Literal rules by their ordinals, in mixed radix: the letters of choice j, literal rule j of a rule, and where a literal rule comes from.
--     choice-cons      choice j of x ∷ s: letter (j / size s) % n of the n that x stands for, then choice j of s
--     choice-symbol    its symbol i: letter (j / size of what follows i) % n
--     literal-at       literal rule j
--     origin-literal   the literal rule at place p of an expansion, by its origin
-- Assumes nothing.
use Prim.Native.Nat.{ℕ, zero, suc, ◌+◌, ◌-◌, ◌*◌, ◌/◌, ◌%◌, ◌≤◌, ◌<◌}
use mathlib.Core.Path.{◌≡◌, refl, sym, ap, ap₂, ◌∙◌, subst}
use mathlib.Core.List.{List, [], ◌∷◌, ◌++◌, append_assoc}
use native.Mathlib.Nat.{div-add-mod', mod-lt, mod-eq_of_lt, div-eq_of_lt-le, mul-add-mod_self_right, mul-le-mul_right}
use native.Mathlib.Omega.{arith}
use borrow.Author.Tests.{ltb-true, ltb-false}
use lib.Dec.{ltb}
use lib.ListN.{length, get_or, drop, length-append, get_or-append}
use lib.Seq.{get_or-append-add}
use Rattle.rules.proofs.Cases.{by_bool}
use Rattle.rules.specs.Shape.{Production, Entry}
use Rattle.classes.specs.Classes.{Classes, letters}
use Rattle.classes.specs.Expansion.{choices, size, within, literals, literal_count, under, literal_entries, expand, literal_total}
use Rattle.classes.specs.Ordinal.{choice_at, literal_at, Origin, origin, origin_run, origins, Literal}
use Rattle.classes.proofs.Grid.{row_in, grid_at, get_map}
use Rattle.classes.proofs.Counts.{length_choices, literals_long, entries_long, product_pos}

-- ---- a number in mixed radix

module _ (j n s : ℕ) (hn : 0 < n) (hs : 0 < s) where
  -- j = u (n s) + (v s + r), with v below n and r below s
  low_part : j / s % n * s + j % s < n * s
  low_part =
      let v = mod-lt (j / s) hn in
      let r = mod-lt j hs in
      let m = mul-le-mul_right {m = suc (j / s % n)} {n = n} s v in
      omega arith

  whole : j ≡ j / s / n * (n * s) + (j / s % n * s + j % s)
  whole =
      let a = div-add-mod' j s in
      let b = div-add-mod' (j / s) n in
      let c : j / s * s ≡ (j / s / n * n + j / s % n) * s = ap (λ (q : ℕ). q * s) (sym b) in
      let d : (j / s / n * n + j / s % n) * s ≡ j / s / n * (n * s) + j / s % n * s = omega arith in
      omega arith

  low_is : j % (n * s) ≡ j / s % n * s + j % s
  low_is =
      ap (λ (q : ℕ). q % (n * s)) whole
      ∙ (mul-add-mod_self_right (j / s / n) (n * s) (j / s % n * s + j % s) ∙ mod-eq_of_lt low_part)

  pub high_digit : j % (n * s) / s ≡ j / s % n
  high_digit =
      ap (λ (q : ℕ). q / s) low_is
      ∙ div-eq_of_lt-le s (omega arith) (let r = mod-lt j hs in omega arith)

  pub low_digits : j % (n * s) % s ≡ j % s
  low_digits =
      ap (λ (q : ℕ). q % s) low_is
      ∙ (mul-add-mod_self_right (j / s % n) s (j % s) ∙ mod-eq_of_lt (mod-lt j hs))

-- ---- choices

module _ (k : Classes) where
  pub choice_cons : (x : ℕ) (s : List ℕ) (j : ℕ) → 0 < size k (x ∷ s)
      → choice_at k (x ∷ s) j ≡ get_or (letters k x) (j / size k s % length (letters k x)) 0 ∷ choice_at k s j
  choice_cons x s j h =
      let p = product_pos (length (letters k x)) (size k s) h in
      let l = length_choices k s in
      let b : j % size k (x ∷ s) < length (letters k x) * length (choices k s) = rw l (mod-lt j h) in
      grid_at (λ (a : ℕ) (w : List ℕ). a ∷ w) 0 [] [] (letters k x) (choices k s) (j % size k (x ∷ s)) b
      ∙ ap₂ (λ (u v : ℕ). get_or (letters k x) u 0 ∷ get_or (choices k s) v [])
      (ap (λ (n : ℕ). j % size k (x ∷ s) / n) l ∙ high_digit j (length (letters k x)) (size k s) p.0 p.1)
      (ap (λ (n : ℕ). j % size k (x ∷ s) % n) l ∙ low_digits j (length (letters k x)) (size k s) p.0 p.1)

  pub size_tail : (x : ℕ) (s : List ℕ) → 0 < size k (x ∷ s) → 0 < size k s
  size_tail x s h = (product_pos (length (letters k x)) (size k s) h).1

  pub choice_none : (j : ℕ) → choice_at k [] j ≡ []
  choice_none j = let e : j % 1 ≡ 0 = omega arith in rw e

  pub choice_symbol : (s : List ℕ) (j i : ℕ) → 0 < size k s → i < length s
      → get_or (choice_at k s j) i 0 ≡ get_or (letters k (get_or s i 0)) (j / size k (drop (suc i) s) % length (letters k (get_or s i 0))) 0
  choice_symbol [] j i h g = absurd (omega arith)
  choice_symbol (x ∷ s) j zero h g = ap (λ (w : List ℕ). get_or w 0 0) (choice_cons x s j h)
  choice_symbol (x ∷ s) j (suc i) h g =
      ap (λ (w : List ℕ). get_or w (suc i) 0) (choice_cons x s j h) ∙ choice_symbol s j i (size_tail x s h) (omega arith)

  pub choice_long : (s : List ℕ) (j : ℕ) → 0 < size k s → length (choice_at k s j) ≡ length s
  choice_long [] j h = ap length (choice_none j)
  choice_long (x ∷ s) j h = ap length (choice_cons x s j h) ∙ ap suc (choice_long s j (size_tail x s h))

  -- what follows i of a choice is the choice of what follows i
  pub choice_drop : (i : ℕ) (s : List ℕ) (j : ℕ) → 0 < size k s → i ≤ length s → drop i (choice_at k s j) ≡ choice_at k (drop i s) j
  choice_drop zero s j h g = refl
  choice_drop (suc i) [] j h g = absurd (omega arith)
  choice_drop (suc i) (x ∷ s) j h g = ap (drop (suc i)) (choice_cons x s j h) ∙ choice_drop i s j (size_tail x s h) (omega arith)

  -- each symbol of a string that has a choice stands for a letter
  pub size_at : (s : List ℕ) (i : ℕ) → 0 < size k s → i < length s → 1 ≤ length (letters k (get_or s i 0))
  size_at [] i h g = absurd (omega arith)
  size_at (x ∷ s) zero h g = (product_pos (length (letters k x)) (size k s) h).0
  size_at (x ∷ s) (suc i) h g = size_at s i (size_tail x s h) (omega arith)

  pub size_drop : (s : List ℕ) (i : ℕ) → 0 < size k s → 0 < size k (drop i s)
  size_drop s zero h = h
  size_drop [] (suc i) h = h
  size_drop (x ∷ s) (suc i) h = size_drop s i (size_tail x s h)

  -- literal rule j of a rule
  pub literal-at : (r : Production) (j : ℕ) (none : Production) → j < literal_count k r → get_or (literals k r) j none ≡ literal_at k r j
  literal-at r j none h =
      let la = length_choices k r.left in
      let lb = length_choices k r.right in
      let b : j < length (choices k r.left) * length (choices k r.right) = rw (la, lb) h in
      let q : j / size k r.right < size k r.left = subst (λ (n : ℕ). j / n < size k r.left) lb (subst (λ (n : ℕ). j / length (choices k r.right) < n) la (row_in (within r) [] [] none (choices k r.left) (choices k r.right) j b)) in
      grid_at (within r) [] [] none (choices k r.left) (choices k r.right) j b
      ∙ ap₂ (λ (u v : ℕ). within r (get_or (choices k r.left) u []) (get_or (choices k r.right) v []))
      (ap (λ (n : ℕ). j / n) lb ∙ sym (mod-eq_of_lt q))
      (ap (λ (n : ℕ). j % n) lb)

-- ---- origins

pub length_run : (q j n : ℕ) → length (origin_run q j n) ≡ n
length_run q j zero = refl
length_run q j (suc n) = ap suc (length_run q (suc j) n)

pub run_at : (q j n i : ℕ) (d : Origin) → i < n → get_or (origin_run q j n) i d ≡ origin q (j + i)
run_at q j zero i d h = absurd (omega arith)
run_at q j (suc n) zero d h = let e : j + zero ≡ j = omega arith in rw e
run_at q j (suc n) (suc i) d h =
    run_at q (suc j) n i d (omega arith) ∙ (let e : suc j + i ≡ j + suc i = omega arith in ap (origin q) e)

-- one more
pub run_next : (q j n : ℕ) → origin_run q j (n + 1) ≡ origin_run q j n ++ (origin q (j + n) ∷ [])
run_next q j zero = let e : j ≡ j + zero = omega arith in ap (λ (i : ℕ). origin q i ∷ []) e
run_next q j (suc n) =
    let e : suc n + 1 ≡ suc (n + 1) = omega arith in
    let g : suc j + n ≡ j + suc n = omega arith in
    ap (origin_run q j) e ∙ ap (λ (w : List Origin). origin q j ∷ w) (run_next q (suc j) n ∙ ap (λ (i : ℕ). origin_run q (suc j) n ++ (origin q i ∷ [])) g)

pub length_origins : (k : Classes) (q : ℕ) (l : List Entry) → length (origins k q l) ≡ literal_total k l
length_origins k q [] = refl
length_origins k q (e ∷ l) =
    length-append (origin_run q 0 (literal_count k e.rule)) (origins k (suc q) l)
    ∙ ap₂ ◌+◌ (length_run q 0 (literal_count k e.rule)) (length_origins k (suc q) l)

pub origins_append : (k : Classes) (q : ℕ) (l m : List Entry) → origins k q (l ++ m) ≡ origins k q l ++ origins k (q + length l) m
origins_append k q [] m = let e : q ≡ q + 0 = omega arith in ap (λ (n : ℕ). origins k n m) e
origins_append k q (x ∷ l) m =
    let e : suc q + length l ≡ q + suc (length l) = omega arith in
    ap (λ (w : List Origin). origin_run q 0 (literal_count k x.rule) ++ w) (origins_append k (suc q) l m ∙ ap (λ (n : ℕ). origins k (suc q) l ++ origins k n m) e)
    ∙ sym (append_assoc (origin_run q 0 (literal_count k x.rule)) (origins k (suc q) l) (origins k (q + suc (length l)) m))

-- what an origin says of a list whose first rule has place q, and of a literal rule x
pub record From (k : Classes) (none : Entry) (q : ℕ) (l : List Entry) (o : Origin) (x : Entry) : Type 0 where
  pub from : q ≤ o.place
  pub inside : o.place - q < length l
  pub below : o.ordinal < literal_count k (get_or l (o.place - q) none).rule
  pub literal : x ≡ under (get_or l (o.place - q) none).number (literal_at k (get_or l (o.place - q) none).rule o.ordinal)

from_head : (k : Classes) (none : Entry) (q : ℕ) (e : Entry) (l : List Entry) (p : ℕ) → p < literal_count k e.rule
    → From k none q (e ∷ l) (origin q p) (get_or (literal_entries k e) p none)
from_head k none q e l p h =
    let z : q - q ≡ 0 = omega arith in
    let x = none.rule in
    let g : get_or (literal_entries k e) p none ≡ under e.number (literal_at k e.rule p) =
    get_map (under e.number) (literals k e.rule) p x none (let n = literals_long k e.rule in omega arith) ∙ ap (under e.number) (literal-at k e.rule p x h) in
    record {
      from = omega arith;
      inside = omega arith;
      below = rw z h;
      literal = rw z g;
    }

from_later : (k : Classes) (none : Entry) (q : ℕ) (e : Entry) (l : List Entry) (o : Origin) (x : Entry) → From k none (suc q) l o x → From k none q (e ∷ l) o x
from_later k none q e l o x h =
    let f = h.from in
    let i = h.inside in
    let z : o.place - q ≡ suc (o.place - suc q) = omega arith in
    record {
      from = omega arith;
      inside = omega arith;
      below = rw z h.below;
      literal = rw z h.literal;
    }

origin_from : (k : Classes) (none : Entry) (d : Origin) (q : ℕ) (l : List Entry) (p : ℕ) → p < literal_total k l → From k none q l (get_or (origins k q l) p d) (get_or (expand k l) p none)
origin_from k none d q [] p h = absurd (omega arith)
origin_from k none d q (e ∷ l) p h =
    by_bool (ltb p (literal_count k e.rule))
    (λ t.
    let u = ltb-true p (literal_count k e.rule) t in
    let a : get_or (origins k q (e ∷ l)) p d ≡ origin q p =
    get_or-append (origin_run q 0 (literal_count k e.rule)) (origins k (suc q) l) d p (omega (arith, length_run q 0 (literal_count k e.rule))) ∙ (run_at q 0 (literal_count k e.rule) p d u ∙ (let z : 0 + p ≡ p = omega arith in ap (origin q) z)) in
    let b : get_or (expand k (e ∷ l)) p none ≡ get_or (literal_entries k e) p none =
    get_or-append (literal_entries k e) (expand k l) none p (omega (arith, entries_long k e)) in
    subst (λ (s : Origin). From k none q (e ∷ l) s (get_or (expand k (e ∷ l)) p none)) (sym a)
    (subst (λ (x : Entry). From k none q (e ∷ l) (origin q p) x) (sym b) (from_head k none q e l p u)))
    (λ t.
    let u = ltb-false p (literal_count k e.rule) t in
    let v : p ≡ length (origin_run q 0 (literal_count k e.rule)) + (p - literal_count k e.rule) = omega (arith, length_run q 0 (literal_count k e.rule)) in
    let w : p ≡ length (literal_entries k e) + (p - literal_count k e.rule) = omega (arith, entries_long k e) in
    let a : get_or (origins k q (e ∷ l)) p d ≡ get_or (origins k (suc q) l) (p - literal_count k e.rule) d =
    ap (λ (i : ℕ). get_or (origins k q (e ∷ l)) i d) v ∙ get_or-append-add (origin_run q 0 (literal_count k e.rule)) (origins k (suc q) l) (p - literal_count k e.rule) d in
    let b : get_or (expand k (e ∷ l)) p none ≡ get_or (expand k l) (p - literal_count k e.rule) none =
    ap (λ (i : ℕ). get_or (expand k (e ∷ l)) i none) w ∙ get_or-append-add (literal_entries k e) (expand k l) (p - literal_count k e.rule) none in
    subst (λ (s : Origin). From k none q (e ∷ l) s (get_or (expand k (e ∷ l)) p none)) (sym a)
    (subst (λ (x : Entry). From k none q (e ∷ l) (get_or (origins k (suc q) l) (p - literal_count k e.rule) d) x) (sym b)
    (from_later k none q e l (get_or (origins k (suc q) l) (p - literal_count k e.rule) d) (get_or (expand k l) (p - literal_count k e.rule) none)
    (origin_from k none d (suc q) l (p - literal_count k e.rule) (omega arith)))))

pub origin_literal : (k : Classes) (none : Entry) (d : Origin) (l : List Entry) (p : ℕ) → p < literal_total k l
    → Literal k none l (get_or (origins k 0 l) p d) (get_or (expand k l) p none)
origin_literal k none d l p h =
    let f = origin_from k none d 0 l p h in
    let o = get_or (origins k 0 l) p d in
    let z : (get_or (origins k 0 l) p d).place - 0 ≡ (get_or (origins k 0 l) p d).place = omega arith in
    record {
      inside = subst (λ (n : ℕ). n < length l) z f.inside;
      below = subst (λ (n : ℕ). o.ordinal < literal_count k (get_or l n none).rule) z f.below;
      literal = f.literal ∙ ap (λ (n : ℕ). under (get_or l n none).number (literal_at k (get_or l n none).rule o.ordinal)) z;
    }
