-- The read-out gives every listed name once and no other, in letter order; and a change of one name changes the number of names by what that name counted before and after.
-- Assumes nothing.
use mathlib.Core.Path.{◌≡◌, refl, sym, ap, ap₂, ◌∙◌, subst, fun_ext}
use mathlib.Core.Logic.{◌⊎◌, ⊎_elim}
use Prim.Native.Nat.{ℕ, zero, suc, ◌+◌, ◌≤◌, ◌<◌}
use native.Mathlib.Nat.{not-suc-le-zero, le_of_suc-le-suc}
use native.Mathlib.Omega.{arith}
use mathlib.Core.Bool.{Bool, cond, ◌&&◌}
use mathlib.Core.List.Memᴰ
use mathlib.Core.List.{List, [], ◌∷◌, ◌++◌, map, append_assoc, append-nil, Memᴰ}
use lib.ListN.{length, length-append, length-map}
use borrow.Author.Tests.{eq-eqb, ne_eqb}
use Rattle.automaton.specs.Automaton.{Str, Rows, phones_at, look, Letters, same, changed}
use Rattle.automaton.specs.Listing.{each, own, names, entry_text, own_text, readout, entries, AllAfter, Rising}
use Rattle.automaton.proofs.Tests.{by_same}

-- ---- members

own_in : (p : Str) → (p ≡ [] → ⊥) → Memᴰ [] (own p)
own_in [] ne = absurd (ne refl)
own_in (x ∷ p) ne = Memᴰ.head refl

own_only : (p w : Str) → Memᴰ w (own p) → (w ≡ []) × (p ≡ [] → ⊥)
own_only [] w h = absurd (Memᴰ.not-nil h)
own_only (x ∷ p) w h = (Memᴰ.eq_of_singleton h, λ e. let z : ◌≡◌ {A = ℕ} 0 1 = cc in omega arith)

map_in : (c : ℕ) (w : Str) (l : List Str) → Memᴰ w l → Memᴰ (c ∷ w) (map (λ (v : Str). c ∷ v) l)
map_in c w [] h = absurd (Memᴰ.not-nil h)
map_in c w (x ∷ l) h =
    ⊎_elim (λ e. Memᴰ.head (ap (λ (v : Str). c ∷ v) e)) (λ t. Memᴰ.tail (map_in c w l t)) (Memᴰ.cases_cons h)

map_only : (c : ℕ) (x : Str) (l : List Str) → Memᴰ x (map (λ (v : Str). c ∷ v) l) → (w : Str) × (x ≡ c ∷ w) × Memᴰ w l
map_only c x [] h = absurd (Memᴰ.not-nil h)
map_only c x (y ∷ l) h =
    ⊎_elim (λ e. (y, e, Memᴰ.head refl))
    (λ t. let r = map_only c x l t in (r.0, r.1, Memᴰ.tail r.2)) (Memᴰ.cases_cons h)

each_in : (g : ℕ → List Str) (x : Str) (d c n : ℕ) → c ≤ d → d < c + n → Memᴰ x (g d) → Memᴰ x (each g c n)
each_in g x d c zero a b h = absurd (let z : ⊥ = omega arith in z)
each_in g x d c (suc n) a b h =
    by_same d c
    (λ e. Memᴰ.append_left (each g (suc c) n) (subst (λ (k : ℕ). Memᴰ x (g k)) e h))
    (λ ne. Memᴰ.append_right (g c) (each_in g x d (suc c) n (omega arith) (omega arith) h))

each_only : (g : ℕ → List Str) (x : Str) (c n : ℕ) → Memᴰ x (each g c n) → (d : ℕ) × (c ≤ d) × (d < c + n) × Memᴰ x (g d)
each_only g x c zero h = absurd (Memᴰ.not-nil h)
each_only g x c (suc n) h =
    ⊎_elim (λ t. (c, (let z : c ≤ c = omega arith in z), (let z : c < c + suc n = omega arith in z), t))
    (λ t. let r = each_only g x (suc c) n t in let a = r.1 in let b = r.2 in
    (r.0, (let z : c ≤ r.0 = omega arith in z), (let z : r.0 < c + suc n = omega arith in z), r.3)) (Memᴰ.append_cases (g c) h)

-- a listed name of at most h letters is among the names
pub listed_in : (h : ℕ) (m : Str → Str) (w : Str) → Letters w → length w ≤ h → (m w ≡ [] → ⊥) → Memᴰ w (names h m)
unfolding names
listed_in zero m [] t l ne = own_in (m []) ne
listed_in zero m (c ∷ w) t l ne = absurd (not-suc-le-zero l)
listed_in (suc h) m [] t l ne = Memᴰ.append_left (each (λ c. map (λ (w : Str). c ∷ w) (names h (λ w. m (c ∷ w)))) 1 63) (own_in (m []) ne)
listed_in (suc h) m (c ∷ w) t l ne =
    let z = t.0 in
    let y = t.1 in
    Memᴰ.append_right (own (m [])) (each_in (λ c. map (λ (w : Str). c ∷ w) (names h (λ w. m (c ∷ w)))) (c ∷ w) c 1 63 (omega arith) (omega arith)
    (map_in c w (names h (λ w. m (c ∷ w))) (listed_in h (λ w. m (c ∷ w)) w t.2 (le_of_suc-le-suc l) ne)))

-- and no other name is
pub listed_only : (h : ℕ) (m : Str → Str) (w : Str) → Memᴰ w (names h m) → Letters w × (length w ≤ h) × (m w ≡ [] → ⊥)
unfolding names
listed_only zero m w x =
    let r = own_only (m []) w x in
    subst (λ (v : Str). Letters v × (length v ≤ 0) × (m v ≡ [] → ⊥)) (sym r.0) (tt, omega arith, r.1)
listed_only (suc h) m w x =
    ⊎_elim
    (λ t. let r = own_only (m []) w t in subst (λ (v : Str). Letters v × (length v ≤ suc h) × (m v ≡ [] → ⊥)) (sym r.0) (tt, omega arith, r.1))
    (λ t.
    let r = each_only (λ c. map (λ (w : Str). c ∷ w) (names h (λ w. m (c ∷ w)))) w 1 63 t in
    let c = r.0 in
    let a = r.1 in
    let b = r.2 in
    let s = map_only c w (names h (λ w. m (c ∷ w))) r.3 in
    let i = listed_only h (λ w. m (c ∷ w)) s.0 s.2 in
    let l = i.1 in
    subst (λ (v : Str). Letters v × (length v ≤ suc h) × (m v ≡ [] → ⊥)) (sym s.1) ((omega arith, omega arith, i.0), omega arith, i.2))
    (Memᴰ.append_cases (own (m [])) x)

-- ---- order

-- every name of the list begins with a letter from k on
abbrev Heads : ℕ → List Str → Type 0
Heads k [] = Unit {0}
Heads k ([] ∷ l) = ⊥
Heads k ((x ∷ w) ∷ l) = (k ≤ x) × Heads k l

heads_less : (j k : ℕ) (l : List Str) → j ≤ k → Heads k l → Heads j l
heads_less j k [] h t = tt
heads_less j k ([] ∷ l) h t = t
heads_less j k ((x ∷ w) ∷ l) h t = let a = t.0 in (omega arith, heads_less j k l h t.1)

heads_map : (c : ℕ) (l a : List Str) → Heads c a → Heads c (map (λ (v : Str). c ∷ v) l ++ a)
heads_map c [] a t = t
heads_map c (w ∷ l) a t = (omega arith, heads_map c l a t)

after_heads : (c : ℕ) (w : Str) (l : List Str) → Heads (suc c) l → AllAfter (c ∷ w) l
after_heads c w [] t = tt
after_heads c w ([] ∷ l) t = absurd t
after_heads c w ((x ∷ v) ∷ l) t = (◌⊎◌.inl t.0, after_heads c w l t.1)

after_empty : (l : List Str) → Heads 1 l → AllAfter [] l
after_empty [] t = tt
after_empty ([] ∷ l) t = absurd t
after_empty ((x ∷ v) ∷ l) t = (tt, after_empty l t.1)

after_map : (c : ℕ) (w : Str) (l a : List Str) → AllAfter w l → AllAfter (c ∷ w) a → AllAfter (c ∷ w) (map (λ (v : Str). c ∷ v) l ++ a)
after_map c w [] a t u = u
after_map c w (x ∷ l) a t u = (◌⊎◌.inr (refl, t.0), after_map c w l a t.1 u)

rising_map : (c : ℕ) (l a : List Str) → Rising l → Heads (suc c) a → Rising a → Rising (map (λ (v : Str). c ∷ v) l ++ a)
rising_map c [] a t u r = r
rising_map c (w ∷ l) a t u r = (after_map c w l a t.0 (after_heads c w a u), rising_map c l a t.1 u r)

heads_each : (g : ℕ → List Str) (c n : ℕ) → Heads c (each (λ d. map (λ (v : Str). d ∷ v) (g d)) c n)
heads_each g c zero = tt
heads_each g c (suc n) = heads_map c (g c) (each (λ d. map (λ (v : Str). d ∷ v) (g d)) (suc c) n) (heads_less c (suc c) (each (λ d. map (λ (v : Str). d ∷ v) (g d)) (suc c) n) (omega arith) (heads_each g (suc c) n))

rising_each : (g : ℕ → List Str) → ((d : ℕ) → Rising (g d)) → (c n : ℕ) → Rising (each (λ d. map (λ (v : Str). d ∷ v) (g d)) c n)
rising_each g r c zero = tt
rising_each g r c (suc n) = rising_map c (g c) (each (λ d. map (λ (v : Str). d ∷ v) (g d)) (suc c) n) (r c) (heads_each g (suc c) n) (rising_each g r (suc c) n)

rising_own : (p : Str) (l : List Str) → Heads 1 l → Rising l → Rising (own p ++ l)
rising_own [] l t r = r
rising_own (x ∷ p) l t r = (after_empty l t, r)

-- each name once, in letter order, a name before its continuations
pub rising : (h : ℕ) (m : Str → Str) → Rising (names h m)
unfolding names
rising zero m = subst Rising (append-nil (own (m []))) (rising_own (m []) [] tt tt)
rising (suc h) m =
    rising_own (m []) (each (λ c. map (λ (w : Str). c ∷ w) (names h (λ w. m (c ∷ w)))) 1 63)
    (heads_each (λ c. names h (λ w. m (c ∷ w))) 1 63)
    (rising_each (λ c. names h (λ w. m (c ∷ w))) (λ d. rising h (λ w. m (d ∷ w))) 1 63)

-- ---- the text

each_ext : {A : Type 0} (g k : ℕ → List A) (c n : ℕ) → ((d : ℕ) → g d ≡ k d) → each g c n ≡ each k c n
each_ext g k c zero e = refl
each_ext {A} g k c (suc n) e = ap₂ (λ (a b : List A). a ++ b) (e c) (each_ext g k (suc c) n e)

entries_append : (path : Str) (m : Str → Str) (a b : List Str) → entries path m (a ++ b) ≡ entries path m a ++ entries path m b
entries_append path m [] b = refl
entries_append path m (w ∷ a) b = ap (λ (t : List ℕ). entry_text (path ++ w) (m w) ++ t) (entries_append path m a b) ∙ sym (append_assoc (entry_text (path ++ w) (m w)) (entries path m a) (entries path m b))

entries_each : (path : Str) (m : Str → Str) (g : ℕ → List Str) (c n : ℕ) → entries path m (each g c n) ≡ each (λ d. entries path m (g d)) c n
entries_each path m g c zero = refl
entries_each path m g c (suc n) = entries_append path m (g c) (each g (suc c) n) ∙ ap (λ (t : List ℕ). entries path m (g c) ++ t) (entries_each path m g (suc c) n)

entries_map : (path : Str) (m : Str → Str) (c : ℕ) (l : List Str) → entries path m (map (λ (w : Str). c ∷ w) l) ≡ entries (path ++ (c ∷ [])) (λ w. m (c ∷ w)) l
entries_map path m c [] = refl
entries_map path m c (w ∷ l) =
    ap₂ (λ (t : Str) (u : List ℕ). entry_text t (m (c ∷ w)) ++ u) (sym (append_assoc path (c ∷ []) w)) (entries_map path m c l)

own-text : (path : Str) (m : Str → Str) (p : Str) → m [] ≡ p → entries path m (own p) ≡ own_text path p
own-text path m [] e = refl
own-text path m (x ∷ p) e = append-nil (entry_text (path ++ []) (m [])) ∙ ap₂ entry_text (append-nil path) e

-- the descent writes the entries of the listed names
pub readout_is : (u : Str → Str) (f : Rows) (h q : ℕ) (path : Str) → readout u f h q path ≡ entries path (λ w. u (look f q w)) (names h (λ w. u (look f q w)))
unfolding readout names
readout_is u f zero q path = sym (own-text path (λ w. u (look f q w)) (u (phones_at f q)) refl)
readout_is u f (suc h) q path =
    let m : Str → Str = λ w. u (look f q w) in
    let g : ℕ → List Str = λ c. map (λ (w : Str). c ∷ w) (names h (λ w. m (c ∷ w))) in
    ap₂ (λ (a b : List ℕ). a ++ b) (sym (own-text path m (u (phones_at f q)) refl))
    (each_ext (λ c. readout u f h (f q c) (path ++ (c ∷ []))) (λ c. entries path m (g c)) 1 63
    (λ c. readout_is u f h (f q c) (path ++ (c ∷ [])) ∙ sym (entries_map path m c (names h (λ w. m (c ∷ w)))))
    ∙ sym (entries_each path m g 1 63))
    ∙ sym (entries_append path m (own (m [])) (each g 1 63))

-- ---- the number of names

each_count : (g k : ℕ → List Str) (d x y : ℕ) → length (g d) + x ≡ length (k d) + y → ((c : ℕ) → (c ≡ d → ⊥) → g c ≡ k c)
    → (c n : ℕ) → c ≤ d → d < c + n → length (each g c n) + x ≡ length (each k c n) + y
each_count g k d x y e o c zero a b = absurd (let z : ⊥ = omega arith in z)
each_count g k d x y e o c (suc n) a b =
    let lg = length-append (g c) (each g (suc c) n) in
    let lk = length-append (k c) (each k (suc c) n) in
    by_same c d
    (λ q.
    let r : (i j : ℕ) → d < i → each g i j ≡ each k i j = above in
    let u : length (each g (suc c) n) ≡ length (each k (suc c) n) = ap length (r (suc c) n (omega arith)) in
    let v : length (g c) ≡ length (g d) = ap (λ (i : ℕ). length (g i)) q in
    let w : length (k c) ≡ length (k d) = ap (λ (i : ℕ). length (k i)) q in
    omega arith)
    (λ ne.
    let u : length (g c) ≡ length (k c) = ap length (o c ne) in
    let i = each_count g k d x y e o (suc c) n (omega arith) (omega arith) in
    omega arith)
  where
    above : (i j : ℕ) → d < i → each g i j ≡ each k i j
    above i zero h = refl
    above i (suc j) h = ap₂ (λ (a b : List Str). a ++ b) (o i (λ q. absurd (let z : ⊥ = omega arith in z))) (above (suc i) j (omega arith))

-- with phones p for the name, there are as many names, less the one it was, and the one it is
pub count_changed : (h : ℕ) (name p : Str) (m : Str → Str) → Letters name → length name ≤ h
    → length (names h (changed name p m)) + length (own (m name)) ≡ length (names h m) + length (own p)
unfolding names
count_changed zero [] p m t l = omega arith
count_changed zero (c ∷ name) p m t l = absurd (not-suc-le-zero l)
count_changed (suc h) [] p m t l =
    let g : ℕ → List Str = λ c. map (λ (w : Str). c ∷ w) (names h (λ w. m (c ∷ w))) in
    let a = length-append (own p) (each g 1 63) in
    let b = length-append (own (m [])) (each g 1 63) in
    omega arith
count_changed (suc h) (c ∷ name) p m t l =
    let m' = changed (c ∷ name) p m in
    let g : ℕ → List Str = λ d. map (λ (w : Str). d ∷ w) (names h (λ w. m' (d ∷ w))) in
    let k : ℕ → List Str = λ d. map (λ (w : Str). d ∷ w) (names h (λ w. m (d ∷ w))) in
    let z = t.0 in
    let y = t.1 in
    let i = count_changed h name p (λ w. m (c ∷ w)) t.2 (le_of_suc-le-suc l) in
    let at_c : names h (λ w. m' (c ∷ w)) ≡ names h (changed name p (λ w. m (c ∷ w))) =
    ap (names h) (fun_ext (λ w. ap (λ (b : Bool). cond (b && same w name) p (m (c ∷ w))) (eq-eqb c c refl))) in
    let lg : length (g c) ≡ length (names h (λ w. m' (c ∷ w))) = length-map (names h (λ w. m' (c ∷ w))) (λ (w : Str). c ∷ w) in
    let lk : length (k c) ≡ length (names h (λ w. m (c ∷ w))) = length-map (names h (λ w. m (c ∷ w))) (λ (w : Str). c ∷ w) in
    let lc : length (names h (λ w. m' (c ∷ w))) ≡ length (names h (changed name p (λ w. m (c ∷ w)))) = ap length at_c in
    let e : length (g c) + length (own (m (c ∷ name))) ≡ length (k c) + length (own p) = omega arith in
    let s = each_count g k c (length (own (m (c ∷ name)))) (length (own p)) e
    (λ d ne. ap (λ (v : List Str). map (λ (w : Str). d ∷ w) v)
    (ap (names h) (fun_ext (λ w. ap (λ (b : Bool). cond (b && same w name) p (m (d ∷ w))) (ne_eqb d c ne)))))
    1 63 (omega arith) (omega arith) in
    let a = length-append (own (m [])) (each g 1 63) in
    let b = length-append (own (m [])) (each k 1 63) in
    omega arith
