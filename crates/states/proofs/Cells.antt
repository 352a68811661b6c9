-- Laws of cells in rising places: what they say of a place, one place changed, the phones changed, when two rows are alike.
-- Assumes nothing.
use mathlib.Core.Path.{◌≡◌, refl, sym, ap, ap₂, ◌∙◌, subst}
use Prim.Native.Nat.{ℕ, zero, suc, ◌+◌, ◌≤◌, ◌<◌}
use native.Mathlib.Omega.{arith}
use mathlib.Core.Bool.{Bool, cond}
use mathlib.Core.List.{List, [], ◌∷◌, ◌++◌, append-nil}
use lib.Dec.{eqb}
use lib.ListN.{length, get_or}
use borrow.Author.Tests.{eq-eqb, ne_eqb, lt-ltb, le-ltb}
use Rattle.automaton.specs.Automaton.{key_of, val_of, cell_of, at, Sorted}
use Rattle.automaton.proofs.Tests.{by_less, by_same}
use Rattle.states.specs.States.{lower, upper, past, one, with_successor, groups, with_phones}

-- ---- one cell

pub key_cell : (k v : ℕ) → v < 16777216 → key_of (cell_of k v) ≡ k
unfolding key_of cell_of
key_cell k v b = omega arith

pub val_cell : (k v : ℕ) → v < 16777216 → val_of (cell_of k v) ≡ v
unfolding val_of cell_of
val_cell k v b = omega arith

pub val_small : (x : ℕ) → val_of x < 16777216
unfolding val_of
val_small x = omega arith

pub val_self : (x : ℕ) → x < 16777216 → val_of x ≡ x
unfolding val_of
val_self x h = omega arith

pub cell_is : (x : ℕ) → x ≡ cell_of (key_of x) (val_of x)
unfolding key_of val_of cell_of
cell_is x = omega arith

-- ---- the first cell

pub at_here : (x : ℕ) (l : List ℕ) (k : ℕ) → key_of x ≡ k → at (x ∷ l) k ≡ val_of x
at_here x l k e = ap (λ (t : Bool). cond t (val_of x) (at l k)) (eq-eqb (key_of x) k e)

pub at_there : (x : ℕ) (l : List ℕ) (k : ℕ) → (key_of x ≡ k → ⊥) → at (x ∷ l) k ≡ at l k
at_there x l k ne = ap (λ (t : Bool). cond t (val_of x) (at l k)) (ne_eqb (key_of x) k ne)

pub lower_less : (c x : ℕ) (l : List ℕ) → key_of x < c → lower c (x ∷ l) ≡ x ∷ lower c l
lower_less c x l h = ap (λ (t : Bool). cond t (x ∷ lower c l) []) (lt-ltb (key_of x) c h)

pub lower_stop : (c x : ℕ) (l : List ℕ) → c ≤ key_of x → lower c (x ∷ l) ≡ []
lower_stop c x l h = ap (λ (t : Bool). cond t (x ∷ lower c l) []) (le-ltb (key_of x) c h)

pub upper_less : (c x : ℕ) (l : List ℕ) → key_of x < c → upper c (x ∷ l) ≡ upper c l
upper_less c x l h = ap (λ (t : Bool). cond t (upper c l) (x ∷ l)) (lt-ltb (key_of x) c h)

pub upper_stop : (c x : ℕ) (l : List ℕ) → c ≤ key_of x → upper c (x ∷ l) ≡ x ∷ l
upper_stop c x l h = ap (λ (t : Bool). cond t (upper c l) (x ∷ l)) (le-ltb (key_of x) c h)

pub past_same : (c x : ℕ) (l : List ℕ) → key_of x ≡ c → past c (x ∷ l) ≡ l
past_same c x l e = ap (λ (t : Bool). cond t l (x ∷ l)) (eq-eqb (key_of x) c e)

pub past_other : (c x : ℕ) (l : List ℕ) → (key_of x ≡ c → ⊥) → past c (x ∷ l) ≡ x ∷ l
past_other c x l ne = ap (λ (t : Bool). cond t l (x ∷ l)) (ne_eqb (key_of x) c ne)

-- ---- rising places

pub sorted_none : (lo : ℕ) (l : List ℕ) (k : ℕ) → Sorted lo l → k < lo → at l k ≡ 0
sorted_none lo [] k s h = refl
sorted_none lo (x ∷ l) k s h =
    let a = s.0 in
    at_there x l k (λ e. omega arith) ∙ sorted_none (suc (key_of x)) l k s.3 (omega arith)

pub sorted_weaken : (lo hi : ℕ) (l : List ℕ) → Sorted hi l → lo ≤ hi → Sorted lo l
sorted_weaken lo hi [] s h = tt
sorted_weaken lo hi (x ∷ l) s h = let a = s.0 in (omega arith, s.1, s.2, s.3)

pub sorted_length : (lo : ℕ) (l : List ℕ) → Sorted lo l → lo ≤ 86 → lo + length l ≤ 86
sorted_length lo [] s h = omega arith
sorted_length lo (x ∷ l) s h =
    let a = s.0 in
    let b = s.1 in
    let i = sorted_length (suc (key_of x)) l s.3 (omega arith) in
    omega arith

pub upper_sorted : (c lo : ℕ) (l : List ℕ) → Sorted lo l → Sorted c (upper c l)
upper_sorted c lo [] s = tt
upper_sorted c lo (x ∷ l) s =
    by_less (key_of x) c
    (λ h. subst (Sorted c) (sym (upper_less c x l h)) (upper_sorted c (suc (key_of x)) l s.3))
    (λ h. subst (Sorted c) (sym (upper_stop c x l h)) (h, s.1, s.2, s.3))

pub past_sorted : (c : ℕ) (l : List ℕ) → Sorted c l → Sorted (suc c) (past c l)
past_sorted c [] s = tt
past_sorted c (x ∷ l) s =
    let a = s.0 in
    by_same (key_of x) c
    (λ e. subst (Sorted (suc c)) (sym (past_same c x l e)) (subst (λ (t : ℕ). Sorted (suc t) l) e s.3))
    (λ ne. subst (Sorted (suc c)) (sym (past_other c x l ne)) ((let z : suc c ≤ key_of x = omega arith in z), s.1, s.2, s.3))

pub lower_join : (lo c : ℕ) (l m : List ℕ) → Sorted lo l → lo ≤ c → Sorted c m → Sorted lo (lower c l ++ m)
lower_join lo c [] m s h t = sorted_weaken lo c m t h
lower_join lo c (x ∷ l) m s h t =
    by_less (key_of x) c
    (λ g. subst (λ (v : List ℕ). Sorted lo (v ++ m)) (sym (lower_less c x l g)) (s.0, s.1, s.2, lower_join (suc (key_of x)) c l m s.3 (omega arith) t))
    (λ g. subst (λ (v : List ℕ). Sorted lo (v ++ m)) (sym (lower_stop c x l g)) (sorted_weaken lo c m t h))

-- ---- the cells below c, then others

pub halves : (c : ℕ) (l : List ℕ) → lower c l ++ upper c l ≡ l
halves c [] = refl
halves c (x ∷ l) =
    by_less (key_of x) c
    (λ g. ap₂ (λ (u v : List ℕ). u ++ v) (lower_less c x l g) (upper_less c x l g) ∙ ap (λ (v : List ℕ). x ∷ v) (halves c l))
    (λ g. ap₂ (λ (u v : List ℕ). u ++ v) (lower_stop c x l g) (upper_stop c x l g))

pub at_same : (l m o : List ℕ) (k : ℕ) → at m k ≡ at o k → at (l ++ m) k ≡ at (l ++ o) k
at_same [] m o k e = e
at_same (x ∷ l) m o k e = ap (λ (v : ℕ). cond (eqb (key_of x) k) (val_of x) v) (at_same l m o k e)

pub at_past : (c : ℕ) (l m : List ℕ) (k : ℕ) → c ≤ k → at (lower c l ++ m) k ≡ at m k
at_past c [] m k h = refl
at_past c (x ∷ l) m k h =
    by_less (key_of x) c
    (λ g. ap (λ (v : List ℕ). at (v ++ m) k) (lower_less c x l g) ∙ (at_there x (lower c l ++ m) k (λ e. omega arith) ∙ at_past c l m k h))
    (λ g. ap (λ (v : List ℕ). at (v ++ m) k) (lower_stop c x l g))

pub at_upper : (c : ℕ) (l : List ℕ) (k : ℕ) → c ≤ k → at l k ≡ at (upper c l) k
at_upper c l k h = ap (λ (v : List ℕ). at v k) (sym (halves c l)) ∙ at_past c l (upper c l) k h

-- ---- one place changed

one_other : (c r : ℕ) (m : List ℕ) (k : ℕ) → r < 16777216 → (k ≡ c → ⊥) → at (one c r ++ m) k ≡ at m k
one_other c zero m k h ne = refl
one_other c (suc r) m k h ne = let e = key_cell c (suc r) h in at_there (cell_of c (suc r)) m k (λ g. ne (sym g ∙ e))

past_at : (c : ℕ) (l : List ℕ) (k : ℕ) → (k ≡ c → ⊥) → at (past c l) k ≡ at l k
past_at c [] k ne = refl
past_at c (x ∷ l) k ne =
    by_same (key_of x) c
    (λ e. ap (λ (v : List ℕ). at v k) (past_same c x l e) ∙ sym (at_there x l k (λ g. ne (sym g ∙ e))))
    (λ o. ap (λ (v : List ℕ). at v k) (past_other c x l o))

pub with_successor_other : (c r : ℕ) (l : List ℕ) (k : ℕ) → r < 16777216 → (k ≡ c → ⊥) → at (with_successor c r l) k ≡ at l k
unfolding with_successor
with_successor_other c r l k h ne =
    at_same (lower c l) (one c r ++ past c (upper c l)) (upper c l) k (one_other c r (past c (upper c l)) k h ne ∙ past_at c (upper c l) k ne)
    ∙ ap (λ (v : List ℕ). at v k) (halves c l)

one_there : (c r : ℕ) (m : List ℕ) → r < 16777216 → Sorted (suc c) m → at (one c r ++ m) c ≡ r
one_there c zero m h s = sorted_none (suc c) m c s (omega arith)
one_there c (suc r) m h s = at_here (cell_of c (suc r)) m c (key_cell c (suc r) h) ∙ val_cell c (suc r) h

pub with_successor_there : (c r lo : ℕ) (l : List ℕ) → r < 16777216 → Sorted lo l → at (with_successor c r l) c ≡ r
unfolding with_successor
with_successor_there c r lo l h s =
    at_past c l (one c r ++ past c (upper c l)) c (omega arith)
    ∙ one_there c r (past c (upper c l)) h (past_sorted c (upper c l) (upper_sorted c lo l s))

one_sorted : (c r : ℕ) (m : List ℕ) → r < 16777216 → c < 86 → Sorted (suc c) m → Sorted c (one c r ++ m)
one_sorted c zero m h l s = sorted_weaken c (suc c) m s (omega arith)
one_sorted c (suc r) m h l s =
    let e = key_cell c (suc r) h in
    let v = val_cell c (suc r) h in
    (omega arith, omega arith, omega arith, subst (λ (t : ℕ). Sorted (suc t) m) (sym e) s)

pub with_successor_sorted : (c r : ℕ) (l : List ℕ) → r < 16777216 → 0 < c → c < 86 → Sorted 1 l → Sorted 1 (with_successor c r l)
unfolding with_successor
with_successor_sorted c r l h z b s =
    lower_join 1 c l (one c r ++ past c (upper c l)) s (omega arith)
    (one_sorted c r (past c (upper c l)) h b (past_sorted c (upper c l) (upper_sorted c 1 l s)))

-- ---- the phones changed

pub groups_length : (b : ℕ) (p : List ℕ) → length (groups b p) ≡ length p
groups_length b [] = refl
groups_length b (x ∷ p) = ap suc (groups_length (suc b) p)

pub groups_at : (b : ℕ) (p : List ℕ) (k : ℕ) → at (groups b p) (b + k) ≡ val_of (get_or p k 0)
groups_at b [] k = sym (val_self 0 (omega arith))
groups_at b (x ∷ p) zero =
    let h = val_small x in
    at_here (cell_of b (val_of x)) (groups (suc b) p) (b + zero) (key_cell b (val_of x) h ∙ (let z : b ≡ b + zero = omega arith in z)) ∙ val_cell b (val_of x) h
groups_at b (x ∷ p) (suc k) =
    let h = val_small x in
    let e = key_cell b (val_of x) h in
    at_there (cell_of b (val_of x)) (groups (suc b) p) (b + suc k) (λ g. omega arith)
    ∙ (ap (at (groups (suc b) p)) (let z : b + suc k ≡ suc b + k = omega arith in z) ∙ groups_at (suc b) p k)

pub groups_sorted : (b : ℕ) (p : List ℕ) → b + length p ≤ 86 → ((k : ℕ) → k < length p → 0 < val_of (get_or p k 0)) → Sorted b (groups b p)
groups_sorted b [] h a = tt
groups_sorted b (x ∷ p) h a =
    let s = val_small x in
    let e = key_cell b (val_of x) s in
    let v = val_cell b (val_of x) s in
    let z = a 0 (omega arith) in
    (omega arith, omega arith, omega arith, subst (λ (t : ℕ). Sorted (suc t) (groups (suc b) p)) (sym e) (groups_sorted (suc b) p (omega arith) (λ k l. a (suc k) (omega arith))))

pub with_phones_sorted : (p l : List ℕ) → length p ≤ 22 → ((k : ℕ) → k < length p → 0 < val_of (get_or p k 0)) → Sorted 1 l → Sorted 1 (with_phones p l)
unfolding with_phones
with_phones_sorted p l h a s = lower_join 1 64 l (groups 64 p) s (omega arith) (groups_sorted 64 p (omega arith) a)

pub with_phones_there : (p l : List ℕ) (k : ℕ) → at (with_phones p l) (64 + k) ≡ val_of (get_or p k 0)
unfolding with_phones
with_phones_there p l k = at_past 64 l (groups 64 p) (64 + k) (omega arith) ∙ groups_at 64 p k

pub with_phones_other : (p l : List ℕ) (k : ℕ) → length p ≤ 22 → ((k : ℕ) → k < length p → 0 < val_of (get_or p k 0)) → Sorted 1 l → k < 64 → at (with_phones p l) k ≡ at l k
unfolding with_phones
with_phones_other p l k h a s b =
    at_same (lower 64 l) (groups 64 p) (upper 64 l) k
    (sorted_none 64 (groups 64 p) k (groups_sorted 64 p (omega arith) a) b ∙ sym (sorted_none 64 (upper 64 l) k (upper_sorted 64 1 l s) b))
    ∙ ap (λ (v : List ℕ). at v k) (halves 64 l)

-- ---- cells that say the same are the same

pub same-cells : (lo : ℕ) (l m : List ℕ) → Sorted lo l → Sorted lo m → ((k : ℕ) → k < 86 → at l k ≡ at m k) → l ≡ m
same-cells lo [] [] s t e = refl
same-cells lo [] (y ∷ m) s t e =
    let g = e (key_of y) t.1 in
    let h = at_here y m (key_of y) refl in
    let z = t.2 in absurd (omega arith)
same-cells lo (x ∷ l) [] s t e =
    let g = e (key_of x) s.1 in
    let h = at_here x l (key_of x) refl in
    let z = s.2 in absurd (omega arith)
same-cells lo (x ∷ l) (y ∷ m) s t e =
    let sx = at_here x l (key_of x) refl in
    let sy = at_here y m (key_of y) refl in
    let ex = e (key_of x) s.1 in
    let ey = e (key_of y) t.1 in
    let px = s.2 in
    let py = t.2 in
    by_less (key_of x) (key_of y)
    (λ h. let z = sorted_none (key_of y) (y ∷ m) (key_of x) (sorted_weaken (key_of y) (key_of y) (y ∷ m) ((let w : key_of y ≤ key_of y = omega arith in w), t.1, t.2, t.3) (omega arith)) h in absurd (omega arith))
    (λ h. by_same (key_of x) (key_of y)
    (λ q.
    let v : val_of x ≡ val_of y = sym sx ∙ (ex ∙ at_here y m (key_of x) (sym q)) in
    let xy : x ≡ y = cell_is x ∙ (ap₂ cell_of q v ∙ sym (cell_is y)) in
    ap₂ (λ (a : ℕ) (b : List ℕ). a ∷ b) xy
    (same-cells (suc (key_of x)) l m s.3 (subst (λ (a : ℕ). Sorted (suc a) m) (sym q) t.3)
    (λ k b. by_same k (key_of x)
    (λ o. sorted_none (suc (key_of x)) l k s.3 (omega arith) ∙ sym (sorted_none (suc (key_of y)) m k t.3 (omega arith)))
    (λ o. sym (at_there x l k (λ g. o (sym g))) ∙ (e k b ∙ at_there y m k (λ g. o (sym g ∙ sym q)))))))
    (λ q.
    let z = sorted_none (key_of x) (x ∷ l) (key_of y) ((let w : key_of x ≤ key_of x = omega arith in w), s.1, s.2, s.3) (omega arith) in absurd (omega arith)))

pub lower_short : (lo c : ℕ) (l : List ℕ) → Sorted lo l → lo ≤ c → lo + length (lower c l) ≤ c
lower_short lo c [] s h = omega arith
lower_short lo c (x ∷ l) s h =
    let a = s.0 in
    by_less (key_of x) c
    (λ g.
    let e : length (lower c (x ∷ l)) ≡ suc (length (lower c l)) = ap length (lower_less c x l g) in
    let i = lower_short (suc (key_of x)) c l s.3 (omega arith) in
    omega arith)
    (λ g. let e : length (lower c (x ∷ l)) ≡ 0 = ap length (lower_stop c x l g) in omega arith)

-- ---- each cell says what stands at its place

pub key_after : (lo : ℕ) (l : List ℕ) → Sorted lo l → (j : ℕ) → j < length l → lo ≤ key_of (get_or l j 0)
key_after lo [] s j h = absurd (omega arith)
key_after lo (x ∷ l) s zero h = s.0
key_after lo (x ∷ l) s (suc j) h = let a = s.0 in let i = key_after (suc (key_of x)) l s.3 j (omega arith) in omega arith

pub at_cell : (lo : ℕ) (l : List ℕ) → Sorted lo l → (j : ℕ) → j < length l → at l (key_of (get_or l j 0)) ≡ val_of (get_or l j 0)
at_cell lo [] s j h = absurd (omega arith)
at_cell lo (x ∷ l) s zero h = at_here x l (key_of x) refl
at_cell lo (x ∷ l) s (suc j) h =
    let k = key_after (suc (key_of x)) l s.3 j (omega arith) in
    at_there x l (key_of (get_or l j 0)) (λ e. omega arith) ∙ at_cell (suc (key_of x)) l s.3 j (omega arith)

-- where something stands at a place, a cell says so
pub cell_for : (l : List ℕ) (c : ℕ) → 0 < at l c → (j : ℕ) × (j < length l) × (key_of (get_or l j 0) ≡ c) × (val_of (get_or l j 0) ≡ at l c)
cell_for [] c h = absurd (omega arith)
cell_for (x ∷ l) c h =
    by_same (key_of x) c
    (λ e. (0, (let z : 0 < suc (length l) = omega arith in z), e, sym (at_here x l c e)))
    (λ ne.
    let t = at_there x l c ne in
    let r = cell_for l c (let z : 0 < at l c = omega arith in z) in
    let b = r.1 in
    (suc r.0, (let z : suc r.0 < suc (length l) = omega arith in z), r.2, r.3 ∙ sym t))

below_cons : (c x : ℕ) (l : List ℕ) → key_of x < c → ((j : ℕ) → j < length l → key_of (get_or l j 0) < c) → (j : ℕ) → j < length (x ∷ l) → key_of (get_or (x ∷ l) j 0) < c
below_cons c x l g a zero h = g
below_cons c x l g a (suc j) h = a j (omega arith)

pub lower_below : (c : ℕ) (l : List ℕ) (j : ℕ) → j < length (lower c l) → key_of (get_or (lower c l) j 0) < c
lower_below c [] j h = absurd (omega arith)
lower_below c (x ∷ l) j h =
    by_less (key_of x) c
    (λ g. subst (λ (t : List ℕ). key_of (get_or t j 0) < c) (sym (lower_less c x l g))
    (below_cons c x (lower c l) g (lower_below c l) j (subst (λ (t : List ℕ). j < length t) (lower_less c x l g) h)))
    (λ g. let e : length (lower c (x ∷ l)) ≡ 0 = ap length (lower_stop c x l g) in absurd (omega arith))

pub lower_sorted : (c lo : ℕ) (l : List ℕ) → Sorted lo l → lo ≤ c → Sorted lo (lower c l)
lower_sorted c lo l s h = subst (Sorted lo) (append-nil (lower c l)) (lower_join lo c l [] s h tt)

pub at_lower : (c lo : ℕ) (l : List ℕ) (k : ℕ) → Sorted lo l → k < c → at (lower c l) k ≡ at l k
at_lower c lo l k s h =
    ap (λ (t : List ℕ). at t k) (sym (append-nil (lower c l)))
    ∙ (at_same (lower c l) [] (upper c l) k (sym (sorted_none c (upper c l) k (upper_sorted c lo l s) h))
    ∙ ap (λ (t : List ℕ). at t k) (halves c l))

pub cell_some : (lo : ℕ) (l : List ℕ) → Sorted lo l → (j : ℕ) → j < length l → (0 < val_of (get_or l j 0)) × (key_of (get_or l j 0) < 86)
cell_some lo [] s j h = absurd (omega arith)
cell_some lo (x ∷ l) s zero h = (s.2, s.1)
cell_some lo (x ∷ l) s (suc j) h = cell_some (suc (key_of x)) l s.3 j (omega arith)
