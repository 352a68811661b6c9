-- The test of refusal 17 decides the claim `IsList`, clause by clause.
-- Assumes nothing.
use mathlib.Core.Path.{◌≡◌, refl, sym, subst}
use mathlib.Core.Logic.{◌⊎◌, ⊎_elim}
use Prim.Native.Nat.{ℕ, suc, ◌≤◌, ◌<◌}
use native.Mathlib.Omega.{arith}
use mathlib.Core.Bool.{Bool, true, cond, not, ◌&&◌, ◌||◌}
use mathlib.Core.List.Memᴰ
use mathlib.Core.List.{List, [], ◌∷◌, Memᴰ}
use lib.Dec.{eqb, leb, ltb}
use lib.ListN.{length, get_or}
use borrow.Author.Tests.{ltb-true, ltb-false}
use Rattle.rules.specs.Limits.{max_name, max_listed, max_states}
use Rattle.automaton.specs.Automaton.{Str, Rows, key_of, val_of, cells_of, rows_of, phones_at, look, Alike, Sound, Needed}
use Rattle.automaton.specs.Listing.{none?, names}
use Rattle.automaton.proofs.Tests.{by_bool, by_less, by_same}
use Rattle.automaton.proofs.Listing.{listed_in, listed_only}
use Rattle.automaton.proofs.NameLengths.{long_says}
use Rattle.packing.specs.Packing.{byte_at}
use Rattle.measures.specs.Measures.{Short}
use Rattle.phone_strings.specs.Packed.{Packed, AllPacked}
use Rattle.minimality.specs.Judging.{Decides, Rising, Offsets, CellGood, Good, RowsGood, Apart, Listed}
use Rattle.minimality.proofs.Good.{cell_turn, laid_of, sound_of, offsets_fail, rows_fail}
use Rattle.minimality.proofs.Scan.{decided, refuted}
use Rattle.exceptions.specs.Layout.{list_size, words_of, start_of, names_in}
use Rattle.exceptions.specs.Judging.{IsList, all_to, some_to, offsets_good, cells_good, alike, leads_to, phones_good, all_short, listed, is_list}
use Rattle.exceptions.proofs.Deciding.{affirmed, answer_yes, stable, decides_eq, decides_le, decides_lt, decides_and, decides_or, decides_implies, decides_all, Some, decides_some}

-- ---- where the cells lie

offsets_decides : (ws : List ℕ) (n : ℕ) → Decides (Offsets ws n) (offsets_good ws n)
offsets_decides ws n =
    decides_and (get_or ws 0 0 ≡ 4200) (Offsets ws n) _ _ (decides_eq (get_or ws 0 0) 4200) (λ o. o.start)
    (λ a. decides_and (get_or ws 1 0 ≡ 4200) (Offsets ws n) _ _ (decides_eq (get_or ws 1 0) 4200) (λ o. o.blank)
    (λ b. decides_and (get_or ws (suc n) 0 ≤ length ws) (Offsets ws n) _ _ (decides_le (get_or ws (suc n) 0) (length ws)) (λ o. o.inside)
    (λ i. decided (Rising ws n) (Offsets ws n) _ (λ r. record { start = a; blank = b; inside = i; rising = r }) (λ o. o.rising)
    (decides_all (λ q. get_or ws q 0 ≤ get_or ws (suc q) 0) (λ q. leb (get_or ws q 0) (get_or ws (suc q) 0)) (λ q. decides_le (get_or ws q 0) (get_or ws (suc q) 0)) n))))

-- ---- the cells of a row

-- what may stand in the cell: a successor, or phones
value_decides : (q lo x : ℕ) → lo ≤ key_of x → key_of x < 86 → 0 < val_of x → Decides (CellGood q lo x) (cond (ltb (key_of x) 64) (ltb (val_of x) q) (eqb (key_of x) 64 || eqb (key_of x) lo))
value_decides q lo x a b v =
    by_bool (ltb (key_of x) 64)
    (λ e. subst (λ (t : Bool). Decides (CellGood q lo x) (cond t (ltb (val_of x) q) (eqb (key_of x) 64 || eqb (key_of x) lo))) (sym e)
    (cell_turn q lo x (key_of x) (val_of x) refl refl a v (ltb-true (key_of x) 64 e)))
    (λ e.
    let h = ltb-false (key_of x) 64 e in
    subst (λ (t : Bool). Decides (CellGood q lo x) (cond t (ltb (val_of x) q) (eqb (key_of x) 64 || eqb (key_of x) lo))) (sym e)
    (decided ((key_of x ≡ 64) ⊎ (key_of x ≡ lo)) (CellGood q lo x) (eqb (key_of x) 64 || eqb (key_of x) lo)
    (λ s. record { low = a; high = b; some = v; earlier = λ z. absurd (omega arith); after = λ z. ⊎_elim (λ k. absurd (omega arith)) (λ k. k) s })
    (λ g. by_same (key_of x) 64 (λ k. ◌⊎◌.inl k) (λ ne. ◌⊎◌.inr (g.after (omega arith))))
    (decides_or (key_of x ≡ 64) (key_of x ≡ lo) _ _ (decides_eq (key_of x) 64) (decides_eq (key_of x) lo))))

cells_decide : (q lo : ℕ) (l : List ℕ) → Decides (Good q lo l) (cells_good q lo l)
cells_decide q lo [] = affirmed (Good q lo []) tt
cells_decide q lo (x ∷ l) =
    decides_and (lo ≤ key_of x) (Good q lo (x ∷ l)) _ _ (decides_le lo (key_of x)) (λ g. g.0.low)
    (λ a. decides_and (key_of x < 86) (Good q lo (x ∷ l)) _ _ (decides_lt (key_of x) 86) (λ g. g.0.high)
    (λ b. decides_and (0 < val_of x) (Good q lo (x ∷ l)) _ _ (decides_lt 0 (val_of x)) (λ g. g.0.some)
    (λ v. decides_and (CellGood q lo x) (Good q lo (x ∷ l)) _ _ (value_decides q lo x a b v) (λ g. g.0)
    (λ c. decided (Good q (suc (key_of x)) l) (Good q lo (x ∷ l)) _ (λ g. (c, g)) (λ g. g.1) (cells_decide q (suc (key_of x)) l)))))

rows_decide : (ws : List ℕ) (n : ℕ) → Decides (RowsGood ws n) (all_to n (λ q. cells_good q 1 (cells_of ws q)))
rows_decide ws n = decides_all (λ q. Good q 1 (cells_of ws q)) (λ q. cells_good q 1 (cells_of ws q)) (λ q. cells_decide q 1 (cells_of ws q)) n

-- ---- no two states alike

alike_decides : (f : Rows) (i j : ℕ) → Decides (Alike f i j) (alike f i j)
alike_decides f i j =
    decided ((k : ℕ) → k ≤ 85 → f i k ≡ f j k) (Alike f i j) (alike f i j) (λ a k h. a k (omega arith)) (λ a k h. a k (omega arith))
    (decides_all (λ k. f i k ≡ f j k) (λ k. eqb (f i k) (f j k)) (λ k. decides_eq (f i k) (f j k)) 85)

apart_decides : (f : Rows) (n : ℕ) → Decides (Apart f n) (all_to n (λ i. all_to n (λ j. not (alike f i j) || eqb i j)))
apart_decides f n =
    decided ((i : ℕ) → i ≤ n → (j : ℕ) → j ≤ n → Alike f i j → i ≡ j) (Apart f n) (all_to n (λ i. all_to n (λ j. not (alike f i j) || eqb i j)))
    (λ a i j h g. a i h j g) (λ a i h j g. a i j h g)
    (decides_all (λ i. (j : ℕ) → j ≤ n → Alike f i j → i ≡ j) (λ i. all_to n (λ j. not (alike f i j) || eqb i j))
    (λ i. decides_all (λ j. Alike f i j → i ≡ j) (λ j. not (alike f i j) || eqb i j)
    (λ j. decides_implies (Alike f i j) (i ≡ j) (alike f i j) (eqb i j) (alike_decides f i j) (decides_eq i j)) n) n)

-- ---- every state needed

abbrev Leads : Rows → ℕ → ℕ → Type 0
Leads f n x = Some (λ j. Some (λ c. f j c ≡ x) 63) n

leads_decides : (f : Rows) (n x : ℕ) → Decides (Leads f n x) (leads_to f n x)
leads_decides f n x =
    decides_some (λ j. Some (λ c. f j c ≡ x) 63) (λ j. some_to 63 (λ c. eqb (f j c) x))
    (λ j. decides_some (λ c. f j c ≡ x) (λ c. eqb (f j c) x) (λ c. decides_eq (f j c) x) 63) n

abbrev Wanted : Rows → ℕ → ℕ → Type 0
Wanted f n x = (x ≡ 0) ⊎ ((x ≡ n) ⊎ Leads f n x)

needed_decides : (f : Rows) (n : ℕ) → Decides (Needed f n) (all_to n (λ x. eqb x 0 || (eqb x n || leads_to f n x)))
needed_decides f n =
    decided ((x : ℕ) → x ≤ n → Wanted f n x) (Needed f n) (all_to n (λ x. eqb x 0 || (eqb x n || leads_to f n x)))
    (λ a q z l. ⊎_elim (λ e. absurd (omega arith)) (λ s. ⊎_elim (λ e. absurd (omega arith)) (λ t. let c = t.2 in let h = c.1 in (t.0, c.0, t.1, (let w : c.0 < 64 = omega arith in w), c.2)) s) (a q (omega arith)))
    (λ a x h. by_same x 0 (λ e. ◌⊎◌.inl e) (λ nz. ◌⊎◌.inr (by_same x n (λ e. ◌⊎◌.inl e) (λ nn. ◌⊎◌.inr (let s = a x (omega arith) (omega arith) in let l = s.3 in (s.0, s.2, (s.1, (let w : s.1 ≤ 63 = omega arith in w), s.4)))))))
    (decides_all (Wanted f n) (λ x. eqb x 0 || (eqb x n || leads_to f n x))
    (λ x. decides_or (x ≡ 0) ((x ≡ n) ⊎ Leads f n x) (eqb x 0) (eqb x n || leads_to f n x) (decides_eq x 0)
    (decides_or (x ≡ n) (Leads f n x) (eqb x n) (leads_to f n x) (decides_eq x n) (leads_decides f n x))) n)

-- ---- the phones of a state

phones_decide : (f : Rows) (q : ℕ) → Decides (Packed f q) (phones_good f q)
phones_decide f q =
    decides_and (byte_at f q 64 ≡ 0) (Packed f q) _ _ (decides_eq (byte_at f q 64) 0) (λ p. p.short)
    (λ s. decided ((k : ℕ) → k ≤ 64 → byte_at f q k ≡ 0 → byte_at f q (suc k) ≡ 0) (Packed f q) _
    (λ a. record { padded = λ k h z. a k (omega arith) z; short = s }) (λ p k h z. p.padded k (omega arith) z)
    (decides_all (λ k. byte_at f q k ≡ 0 → byte_at f q (suc k) ≡ 0) (λ k. not (eqb (byte_at f q k) 0) || eqb (byte_at f q (suc k)) 0)
    (λ k. decides_implies (byte_at f q k ≡ 0) (byte_at f q (suc k) ≡ 0) _ _ (decides_eq (byte_at f q k) 0) (decides_eq (byte_at f q (suc k)) 0)) 64))

all_packed_decides : (f : Rows) (n : ℕ) → Decides (AllPacked f n) (all_to n (phones_good f))
all_packed_decides f n = decides_all (Packed f) (phones_good f) (phones_decide f) n

-- ---- the letters of a name

abbrev NoneLong : List Str → Type 0
NoneLong l = (w : Str) → Memᴰ w l → length w ≤ max_name

none_long_decides : (l : List Str) → Decides (NoneLong l) (all_short l)
none_long_decides [] = affirmed (NoneLong []) (λ w m. absurd (Memᴰ.not-nil m))
none_long_decides (v ∷ l) =
    decides_and (length v ≤ max_name) (NoneLong (v ∷ l)) _ _ (decides_le (length v) max_name) (λ a. a v (Memᴰ.head refl))
    (λ h. decided (NoneLong l) (NoneLong (v ∷ l)) (all_short l)
    (λ a w m. ⊎_elim (λ e. subst (λ (u : Str). length u ≤ max_name) (sym e) h) (λ t. a w t) (Memᴰ.cases_cons m))
    (λ a w m. a w (Memᴰ.tail m)) (none_long_decides l))

short_decides : (f : Rows) (n : ℕ) → Sound f n → Decides (Short f n) (all_short (names n (look f n)))
short_decides f n s =
    decided (NoneLong (names n (look f n))) (Short f n) (all_short (names n (look f n)))
    (λ a w t ne. a w (listed_in n (look f n) w t (by_less n (length w) (λ h. absurd (ne (long_says f n s n (omega arith) w t h))) (λ h. h)) ne))
    (λ a w m. let r = listed_only n (look f n) w m in a w r.0 r.2)
    (none_long_decides (names n (look f n)))

pub nothing_decides : (p : Str) → Decides (p ≡ []) (none? p)
nothing_decides [] = affirmed (◌≡◌ {A = Str} [] []) refl
nothing_decides (x ∷ p) = refuted (x ∷ p ≡ []) (λ e. let z : ◌≡◌ {A = ℕ} 0 1 = cc in omega arith)

-- ---- the whole

module _ (ws : List ℕ) (l : IsList ws) where
  automaton_of : Listed ws (start_of ws)
  automaton_of = record { laid = l.laid; sound = l.sound; needed = l.needed }

  few_of : start_of ws < 4180
  few_of = let h = l.states in omega arith

  pub offsets_of : Offsets ws (start_of ws)
  offsets_of = stable (Offsets ws (start_of ws)) _ (offsets_decides ws (start_of ws)) (λ x. (offsets_fail ws (start_of ws) few_of x).no refl automaton_of)

  pub rows-of : RowsGood ws (start_of ws)
  rows-of = stable (RowsGood ws (start_of ws)) _ (rows_decide ws (start_of ws)) (λ x. (rows_fail ws (start_of ws) few_of x).no refl automaton_of)

-- the clauses after those of the automaton
rest_decides : (ws : List ℕ) → start_of ws ≤ max_states → Listed ws (start_of ws)
    → Decides (IsList ws) (all_to (start_of ws) (phones_good (rows_of ws))
    && (leb (names_in ws) max_listed && (all_short (names (start_of ws) (look (rows_of ws) (start_of ws))) && none? (phones_at (rows_of ws) (start_of ws)))))
rest_decides ws few a =
    decides_and (AllPacked (rows_of ws) (start_of ws)) (IsList ws) _ _ (all_packed_decides (rows_of ws) (start_of ws)) (λ l. l.phones)
    (λ p. decides_and (names_in ws ≤ max_listed) (IsList ws) _ _ (decides_le (names_in ws) max_listed) (λ l. l.names)
    (λ c. decides_and (Short (rows_of ws) (start_of ws)) (IsList ws) _ _ (short_decides (rows_of ws) (start_of ws) a.sound) (λ l. l.letters)
    (λ s. decided (phones_at (rows_of ws) (start_of ws) ≡ []) (IsList ws) _
    (λ e. record { states = few; laid = a.laid; sound = a.sound; needed = a.needed; phones = p; names = c; letters = s; lettered = e })
    (λ l. l.lettered) (nothing_decides (phones_at (rows_of ws) (start_of ws))))))

pub listed_decides : (ws : List ℕ) → Decides (IsList ws) (listed ws (start_of ws))
unfolding listed
listed_decides ws =
    decides_and (start_of ws ≤ max_states) (IsList ws) _ _ (decides_le (start_of ws) max_states) (λ l. l.states)
    (λ few. decides_and (Offsets ws (start_of ws)) (IsList ws) _ _ (offsets_decides ws (start_of ws)) (offsets_of ws)
    (λ o. decides_and (RowsGood ws (start_of ws)) (IsList ws) _ _ (rows_decide ws (start_of ws)) (rows-of ws)
    (λ g. decides_and (Apart (rows_of ws) (start_of ws)) (IsList ws) _ _ (apart_decides (rows_of ws) (start_of ws)) (λ l. l.sound.apart)
    (λ a. decides_and (Needed (rows_of ws) (start_of ws)) (IsList ws) _ _ (needed_decides (rows_of ws) (start_of ws)) (λ l. l.needed)
    (λ nd. let f : start_of ws < 4180 = omega arith in
    rest_decides ws few (record { laid = laid_of ws (start_of ws) f o g; sound = sound_of ws (start_of ws) f o g a; needed = nd }))))))

-- ---- a lent list

pub list_decides : (list : List ℕ) → Decides ((list_size ≤ length list) × IsList (words_of list)) (is_list list)
unfolding is_list
list_decides list =
    decides_and (list_size ≤ length list) ((list_size ≤ length list) × IsList (words_of list)) _ _ (decides_le list_size (length list)) (λ p. p.0)
    (λ h. decided (IsList (words_of list)) ((list_size ≤ length list) × IsList (words_of list)) _ (λ l. (h, l)) (λ p. p.1) (listed_decides (words_of list)))

pub list_long : (list : List ℕ) → is_list list ≡ true → list_size ≤ length list
list_long list e = ((list_decides list).yes e).0

pub list_facts : (list : List ℕ) → is_list list ≡ true → IsList (words_of list)
list_facts list e = ((list_decides list).yes e).1

pub facts_list : (list : List ℕ) → list_size ≤ length list → IsList (words_of list) → is_list list ≡ true
facts_list list h l = answer_yes ((list_size ≤ length list) × IsList (words_of list)) (is_list list) (list_decides list) (h, l)
