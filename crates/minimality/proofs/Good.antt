-- Cells judged one after another, and what good rows are.
-- Assumes nothing.
use mathlib.Core.Path.{◌≡◌, refl, sym, ap, ap₂, ◌∙◌, subst}
use Prim.Native.Nat.{ℕ, zero, suc, pred, ◌+◌, ◌-◌, ◌≤◌, ◌<◌}
use native.Mathlib.Omega.{arith}
use mathlib.Core.Bool.{Bool, true, false}
use mathlib.Core.List.{List, [], ◌∷◌}
use lib.Dec.{ltb, eqb}
use lib.ListN.{length, get_or, take, drop}
use Rattle.std.specs.Ordering.{is_le, nat_cmp}
use Rattle.std.specs.List.{IsAllAdjacentAnswer}
use Rattle.std.proofs.Common.{length-take}
use Rattle.std.proofs.lemmas.List.{get_or-take}
use Rattle.std.proofs.lemmas.List.Sorted.{non_decreasing_from_is_sorted}
use Rattle.std.proofs.lemmas.Map.Keys.{le_from_is_le}
use borrow.Author.Tests.{ltb-true, ltb-false, eqb-true, eqb-false}
use Rattle.automaton.specs.Automaton.{key_of, val_of, at, part, cells_of, rows_of, Sorted, Laid, Sound, Needed}
use Rattle.automaton.proofs.Tests.{by_less, by_same, clash}
use Rattle.states.proofs.Cells.{at_here, at_there, val_small, sorted_none, same-cells}
use Rattle.states.proofs.Parts.{part_slice, part_none, part_length}
use Rattle.minimality.specs.Judging.{Decides, Rising, Offsets, CellGood, Good, RowsGood, Apart, Listed}
use Rattle.minimality.proofs.Scan.{AllTo, all_next, decided, refuted}

-- ---- one cell

pub cell_low : (q lo x k : ℕ) → k ≡ key_of x → k < lo → Decides (CellGood q lo x) false
cell_low q lo x k e h = refuted (CellGood q lo x) (λ g. let l = g.low in omega arith)

pub cell_high : (q lo x k : ℕ) → k ≡ key_of x → 86 ≤ k → Decides (CellGood q lo x) false
cell_high q lo x k e h = refuted (CellGood q lo x) (λ g. let l = g.high in omega arith)

pub cell_none : (q lo x v : ℕ) → v ≡ val_of x → v ≡ 0 → Decides (CellGood q lo x) false
cell_none q lo x v e h = refuted (CellGood q lo x) (λ g. let l = g.some in omega arith)

pub cell_turn : (q lo x k v : ℕ) → k ≡ key_of x → v ≡ val_of x → lo ≤ k → 0 < v → k < 64 → Decides (CellGood q lo x) (ltb v q)
cell_turn q lo x k v e g a b h =
    record {
      yes = λ t. let l = ltb-true v q t in record { low = omega arith; high = omega arith; some = omega arith; earlier = λ z. omega arith; after = λ z. absurd (omega arith) };
      no = λ t p. let l = ltb-false v q t in let y = p.earlier (omega arith) in omega arith;
    }

pub cell_voice : (q lo x k v : ℕ) → k ≡ key_of x → v ≡ val_of x → lo ≤ k → 0 < v → k ≡ 64 → Decides (CellGood q lo x) true
cell_voice q lo x k v e g a b h =
    record {
      yes = λ t. record { low = omega arith; high = omega arith; some = omega arith; earlier = λ z. absurd (omega arith); after = λ z. absurd (omega arith) };
      no = λ t p. clash refl t;
    }

pub cell_next : (q lo x k v : ℕ) → k ≡ key_of x → v ≡ val_of x → lo ≤ k → k < 86 → 0 < v → 64 < k → Decides (CellGood q lo x) (eqb k lo)
cell_next q lo x k v e g a d b h =
    record {
      yes = λ t. let l = eqb-true k lo t in record { low = omega arith; high = omega arith; some = omega arith; earlier = λ z. absurd (omega arith); after = λ z. omega arith };
      no = λ t p. let y = p.after (omega arith) in eqb-false k lo t (omega arith);
    }

-- ---- the cells of a row

pub record Going (l : List ℕ) (q lo i : ℕ) : Type 0 where
  pub small : lo ≤ 86
  pub to : Good q lo (drop i l) → Good q 1 l
  pub back : Good q 1 l → Good q lo (drop i l)

-- ---- good rows are sorted and sound

good_sorted : (q lo : ℕ) (l : List ℕ) → Good q lo l → Sorted lo l
good_sorted q lo [] g = tt
good_sorted q lo (x ∷ l) g = (g.0.low, g.0.high, g.0.some, good_sorted q (suc (key_of x)) l g.1)

good_earlier : (q lo : ℕ) (l : List ℕ) (c : ℕ) → Good q lo l → c < 64 → at l c ≤ pred q
good_earlier q lo [] c g h = omega arith
good_earlier q lo (x ∷ l) c g h =
    by_same (key_of x) c
    (λ e. let t = at_here x l c e in let y = g.0.earlier (omega arith) in omega arith)
    (λ ne. let t = at_there x l c ne in let i = good_earlier q (suc (key_of x)) l c g.1 h in omega arith)

-- nothing at a place of phones, then nothing at the next
good_padded : (q lo : ℕ) (l : List ℕ) (c : ℕ) → Good q lo l → 64 ≤ c → lo ≤ c → at l c ≡ 0 → at l (suc c) ≡ 0
good_padded q lo [] c g h o z = refl
good_padded q lo (x ∷ l) c g h o z =
    let s = good_sorted q lo (x ∷ l) g in
    let v = g.0.some in
    let lw = g.0.low in
    by_same (key_of x) c
    (λ e. let t = at_here x l c e in absurd (omega arith))
    (λ ne. by_same (key_of x) (suc c)
    (λ e. let a = g.0.after (omega arith) in absurd (omega arith))
    (λ no.
    let t = at_there x l c ne in
    at_there x l (suc c) no ∙ by_less (key_of x) c
    (λ u. good_padded q (suc (key_of x)) l c g.1 h (omega arith) (sym t ∙ z))
    (λ u. sorted_none (suc (key_of x)) l (suc c) s.3 (omega arith))))

at_small : (l : List ℕ) (c : ℕ) → at l c < 16777216
at_small [] c = omega arith
at_small (x ∷ l) c =
    by_same (key_of x) c
    (λ e. let t = at_here x l c e in let v = val_small x in omega arith)
    (λ ne. let t = at_there x l c ne in let i = at_small l c in omega arith)

-- ---- sorted and sound rows are good

module _ (q : ℕ) (L : List ℕ) (early : (c : ℕ) → c < 64 → at L c ≤ pred q) (pad : (c : ℕ) → 64 ≤ c → suc c < 86 → at L c ≡ 0 → at L (suc c) ≡ 0) where
  -- the cells from place lo on are good where those of L say the same there, and nothing stands at place lo - 1 of L but what came before
  good_from : (lo : ℕ) (l : List ℕ) → Sorted lo l → ((c : ℕ) → lo ≤ c → at l c ≡ at L c) → Good q lo l
  good_from lo [] s a = tt
  good_from lo (x ∷ l) s a =
      let here : at L (key_of x) ≡ val_of x = sym (a (key_of x) s.0) ∙ at_here x l (key_of x) refl in
      let lw = s.0 in
      let hg = s.1 in
      let v = s.2 in (
        record {
          low = s.0;
          high = s.1;
          some = s.2;
          earlier = λ h. let e = early (key_of x) h in omega arith;
          after = λ h. by_same (key_of x) lo (λ e. e)
              (λ ne.
              let z : suc (key_of x - 1) ≡ key_of x = omega arith in
              let none : at L (key_of x - 1) ≡ 0 = sym (a (key_of x - 1) (omega arith)) ∙ sorted_none (key_of x) (x ∷ l) (key_of x - 1) ((let w : key_of x ≤ key_of x = omega arith in w), s.1, s.2, s.3) (omega arith) in
              let p = pad (key_of x - 1) (omega arith) (omega arith) none in
              let g : at L (suc (key_of x - 1)) ≡ at L (key_of x) = ap (at L) z in absurd (omega arith));
        },
        good_from (suc (key_of x)) l s.3 (λ c h. sym (at_there x l c (λ e. omega arith)) ∙ a c (omega arith)),
      )

-- ---- the whole

blank_start : (ws : List ℕ) (n : ℕ) → Laid ws n → Sound (rows_of ws) n → get_or ws 1 0 ≡ 4200
unfolding rows_of cells_of
blank_start ws n l s =
    let e : part ws (get_or ws 0 0) (get_or ws 1 0 - get_or ws 0 0) ≡ [] = same-cells 1 (part ws (get_or ws 0 0) (get_or ws 1 0 - get_or ws 0 0)) [] (l.sorted 0 (omega arith)) tt (λ k h. s.blank k h) in
    let p = part_length ws (get_or ws 0 0) (get_or ws 1 0 - get_or ws 0 0) in
    let z : length (part ws (get_or ws 0 0) (get_or ws 1 0 - get_or ws 0 0)) ≡ 0 = ap length e in
    let a = l.start in
    let b = l.ends 0 (omega arith) in
    omega arith

module _ (ws : List ℕ) (n : ℕ) (few : n < 4180) where
  pub laid_of : Offsets ws n → RowsGood ws n → Laid ws n
  laid_of o g = record { few = omega arith; start = o.start; ends = o.rising; inside = o.inside; sorted = λ q h. good_sorted q 1 (cells_of ws q) (g q h) }

  pub blank_of : Offsets ws n → (k : ℕ) → rows_of ws 0 k ≡ 0
  unfolding rows_of cells_of
  blank_of o k =
      let a = o.start in
      let b = o.blank in
      let z : get_or ws 1 0 - get_or ws 0 0 ≡ 0 = omega arith in
      ap (λ (t : List ℕ). at t k) (part_none ws (get_or ws 0 0) (get_or ws 1 0 - get_or ws 0 0) z)

  pub sound_of : Offsets ws n → RowsGood ws n → Apart (rows_of ws) n → Sound (rows_of ws) n
  unfolding rows_of
  sound_of o g p =
      record {
        blank = λ k h. blank_of o k;
        unused = λ q h. sorted_none 1 (cells_of ws q) 0 (good_sorted q 1 (cells_of ws q) (g q h)) (omega arith);
        earlier = λ q c h l. good_earlier q 1 (cells_of ws q) c (g q h) l;
        padded = λ q h k l z. let w : 64 + suc k ≡ suc (64 + k) = omega arith in ap (at (cells_of ws q)) w ∙ good_padded q 1 (cells_of ws q) (64 + k) (g q h) (omega arith) (omega arith) z;
        bytes = λ q k h l. at_small (cells_of ws q) (64 + k);
        apart = p;
      }

  offsets_of : Listed ws n → Offsets ws n
  offsets_of l =
      record { start = l.laid.start; blank = blank_start ws n l.laid l.sound; inside = l.laid.inside; rising = l.laid.ends }

  rows-of : Listed ws n → RowsGood ws n
  unfolding rows_of
  rows-of l q h =
      good_from q (cells_of ws q) (λ c b. l.sound.earlier q c h b)
      (λ c b d z.
      let y : 64 + (c - 64) ≡ c = omega arith in
      let w : 64 + suc (c - 64) ≡ suc c = omega arith in
      sym (ap (at (cells_of ws q)) w) ∙ l.sound.padded q h (c - 64) (omega arith) (ap (at (cells_of ws q)) y ∙ z))
      1 (cells_of ws q) (l.laid.sorted q h) (λ c b. refl)

  pub offsets_fail : (Offsets ws n → ⊥) → Decides (Listed ws n) false
  offsets_fail x = refuted (Listed ws n) (λ l. x (offsets_of l))

  pub rows_fail : (RowsGood ws n → ⊥) → Decides (Listed ws n) false
  rows_fail x = refuted (Listed ws n) (λ l. x (rows-of l))

  pub apart_fails : (Apart (rows_of ws) n → ⊥) → Decides (Listed ws n) false
  apart_fails x = refuted (Listed ws n) (λ l. x l.sound.apart)

  pub listed_decided : (r : Bool) → Offsets ws n → RowsGood ws n → Apart (rows_of ws) n → Decides (Needed (rows_of ws) n) r → Decides (Listed ws n) r
  listed_decided r o g p d = decided (Needed (rows_of ws) n) (Listed ws n) r (λ x. record { laid = laid_of o g; sound = sound_of o g p; needed = x }) (λ x. x.needed) d

pub offsets_no_start : (ws : List ℕ) (n : ℕ) → (get_or ws 0 0 ≡ 4200 → ⊥) → Decides (Offsets ws n) false
offsets_no_start ws n x = refuted (Offsets ws n) (λ o. x o.start)

pub offsets_no_blank : (ws : List ℕ) (n : ℕ) → (get_or ws 1 0 ≡ 4200 → ⊥) → Decides (Offsets ws n) false
offsets_no_blank ws n x = refuted (Offsets ws n) (λ o. x o.blank)

pub offsets_no_end : (ws : List ℕ) (n e : ℕ) → e ≡ get_or ws (n + 1) 0 → length ws < e → Decides (Offsets ws n) false
offsets_no_end ws n e q h =
    let z : n + 1 ≡ suc n = omega arith in
    let y : get_or ws (n + 1) 0 ≡ get_or ws (suc n) 0 = ap (λ (t : ℕ). get_or ws t 0) z in
    refuted (Offsets ws n) (λ o. let i = o.inside in omega arith)

pub offsets_decided : (ws : List ℕ) (n e : ℕ) (r : Bool) → get_or ws 0 0 ≡ 4200 → get_or ws 1 0 ≡ 4200 → e ≡ get_or ws (n + 1) 0 → e ≤ length ws → Decides (Rising ws n) r → Decides (Offsets ws n) r
offsets_decided ws n e r a b q h d =
    let z : n + 1 ≡ suc n = omega arith in
    let y : get_or ws (n + 1) 0 ≡ get_or ws (suc n) 0 = ap (λ (t : ℕ). get_or ws t 0) z in
    decided (Rising ws n) (Offsets ws n) r (λ x. record { start = a; blank = b; inside = omega arith; rising = x }) (λ x. x.rising) d

-- ---- where the cells lie

next-is : (ws : List ℕ) (q : ℕ) → get_or ws (q + 1) 0 ≡ get_or ws (suc q) 0
next-is ws q = let z : q + 1 ≡ suc q = omega arith in ap (λ (t : ℕ). get_or ws t 0) z

-- what `is_sorted` answers for the first n + 2 words
pub rising_of : (ws : List ℕ) (n : ℕ) (r : Bool) → n + 1 < length ws → IsAllAdjacentAnswer (λ x y b. is_le (nat_cmp x y) ≡ b) (take (n + 2) ws) r → Decides (Rising ws n) r
rising_of ws n true h a =
    let t = length-take (n + 2) ws in
    record {
      yes = λ e q l.
          let x = get_or-take (n + 2) ws q 0 (omega arith) in
          let y = get_or-take (n + 2) ws (q + 1) 0 (omega arith) in
          let z = next-is ws q in
          let g : get_or (take (n + 2) ws) q 0 ≤ get_or (take (n + 2) ws) (q + 1) 0 = le_from_is_le _ _ (a q 0 (omega arith)) in
          omega arith;
      no = λ e. clash refl e;
    }
rising_of ws n false h a =
    let t = length-take (n + 2) ws in
    let m = non_decreasing_from_is_sorted (take (n + 2) ws) false a in
    let l = m.1 in
    let x = get_or-take (n + 2) ws m.0 0 (omega arith) in
    let y = get_or-take (n + 2) ws (m.0 + 1) 0 (omega arith) in
    let z = next-is ws m.0 in
    let g = m.2 0 in
    refuted (Rising ws n) (λ p. let u = p m.0 (omega arith) in omega arith)

-- the rows one after another
abbrev pub RowGood : List ℕ → ℕ → Type 0
RowGood ws q = Good q 1 (cells_of ws q)

pub row_is : (ws : List ℕ) (q a e : ℕ) → (a ≤ e) × (e ≤ length ws) → a ≡ get_or ws q 0 → e ≡ get_or ws (q + 1) 0 → cells_of ws q ≡ take (e - a) (drop a ws)
unfolding cells_of
row_is ws q a e h x y = ap₂ (λ (u v : ℕ). part ws u (v - u)) (sym x) (sym (y ∙ next-is ws q)) ∙ sym (part_slice ws a (e - a) (omega arith))

climbs : (ws : List ℕ) (n : ℕ) → Offsets ws n → (p d : ℕ) → p + d ≤ suc n → get_or ws p 0 ≤ get_or ws (p + d) 0
climbs ws n o p zero h = let z : p ≡ p + 0 = omega arith in let y : get_or ws p 0 ≡ get_or ws (p + 0) 0 = ap (λ (t : ℕ). get_or ws t 0) z in omega arith
climbs ws n o p (suc d) h =
    let i = climbs ws n o p d (omega arith) in
    let s = o.rising (p + d) (omega arith) in
    let z : suc (p + d) ≡ p + suc d = omega arith in
    let y : get_or ws (suc (p + d)) 0 ≡ get_or ws (p + suc d) 0 = ap (λ (t : ℕ). get_or ws t 0) z in
    omega arith

pub row_fits : (ws : List ℕ) (n q a e : ℕ) → Offsets ws n → q ≤ n → a ≡ get_or ws q 0 → e ≡ get_or ws (q + 1) 0 → (a ≤ e) × (e ≤ length ws)
row_fits ws n q a e o h x y =
    let r = o.rising q h in
    let z = next-is ws q in
    let i = o.inside in
    let c = climbs ws n o (suc q) (n - q) (omega arith) in
    let w : suc q + (n - q) ≡ suc n = omega arith in
    let g : get_or ws (suc q + (n - q)) 0 ≡ get_or ws (suc n) 0 = ap (λ (t : ℕ). get_or ws t 0) w in
    (omega arith, omega arith)

pub rows_next : (ws : List ℕ) (q a e : ℕ) → (a ≤ e) × (e ≤ length ws) → AllTo (RowGood ws) q → a ≡ get_or ws q 0 → e ≡ get_or ws (q + 1) 0
    → Good q 1 (take (e - a) (drop a ws)) → AllTo (RowGood ws) (q + 1)
rows_next ws q a e h al x y g = all_next (RowGood ws) q al (subst (Good q 1) (sym (row_is ws q a e h x y)) g)

pub rows_no : (ws : List ℕ) (n q a e : ℕ) → (a ≤ e) × (e ≤ length ws) → q ≤ n → a ≡ get_or ws q 0 → e ≡ get_or ws (q + 1) 0
    → (Good q 1 (take (e - a) (drop a ws)) → ⊥) → Decides (RowsGood ws n) false
rows_no ws n q a e f h x y ne = refuted (RowsGood ws n) (λ r. ne (subst (Good q 1) (row_is ws q a e f x y) (r q h)))

pub rows_yes : (ws : List ℕ) (n q : ℕ) → AllTo (RowGood ws) q → n < q → Decides (RowsGood ws n) true
rows_yes ws n q a h = record { yes = λ e x l. a x (omega arith); no = λ e p. clash refl e }
