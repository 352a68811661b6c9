-- The longest name, measured state after state.
-- Assumes nothing.
use mathlib.Core.Path.{◌≡◌, refl, sym, ap, ◌∙◌, subst}
use Prim.Native.Nat.{ℕ, zero, suc, ◌+◌, ◌-◌, ◌≤◌, ◌<◌, min, max}
use native.Mathlib.Omega.{arith}
use mathlib.Core.List.{List, [], ◌∷◌}
use lib.ListN.{length, get_or}
use Rattle.automaton.specs.Automaton.{Str, Rows, key_of, val_of, rows_of, look, Letters}
use Rattle.automaton.proofs.Tests.{by_same, by_less}
use Rattle.automaton.proofs.Endings.{leads}
use Rattle.automaton.proofs.NameLengths.{blank_says}
use Rattle.states.specs.States.{Placing, Split}
use Rattle.measures.proofs.Cursors.{Cursor, cursor_at, cursor_begin, cursor_end}
use Rattle.measures.specs.Measures.{Longest, Depth, DeepAsks, Short, Under}

-- the names that go on with one of the first k letters
pub record Measuring (f : Rows) (q k v : ℕ) : Type 0 where
  pub depth : ℕ
  pub within : k ≤ 63
  pub small : v ≤ 66
  pub capped : min 65 v ≡ min 65 depth
  pub most : (c : ℕ) (w : Str) → 0 < c → c ≤ k → Letters w → (look f (f q c) w ≡ [] → ⊥) → suc (length w) ≤ depth
  pub some : 0 < depth → (c : ℕ) × (w : Str) × (0 < c) × (c ≤ k) × Letters w × (look f (f q c) w ≡ [] → ⊥) × (suc (length w) ≡ depth)

-- the larger of two capped depths is the capped larger depth
max_right : (a b : ℕ) → a < b → max a b ≡ b
max_right a b h = omega arith

max_left : (a b : ℕ) → b ≤ a → max a b ≡ a
max_left a b h = omega arith

one_more : (r D : ℕ) → r ≡ min 65 D + 1 → min 65 r ≡ min 65 (suc D)
one_more r D e = omega arith

old_larger : (v d r D : ℕ) → min 65 v ≡ min 65 d → r ≡ min 65 D + 1 → v < r → suc D ≤ d → min 65 r ≡ min 65 d
old_larger v d r D e g h l = omega arith

new_larger : (v d r D : ℕ) → min 65 v ≡ min 65 d → r ≡ min 65 D + 1 → r ≤ v → d < suc D → min 65 v ≡ min 65 (suc D)
new_larger v d r D e g h l = omega arith

capped_max : (v d r D : ℕ) → min 65 v ≡ min 65 d → r ≡ min 65 D + 1 → min 65 (max v r) ≡ min 65 (max d (suc D))
capped_max v d r D e g =
    by_less v r
    (λ h. ap (min 65) (max_right v r h)
    ∙ by_less d (suc D)
    (λ l. one_more r D g ∙ ap (min 65) (sym (max_right d (suc D) l)))
    (λ l. old_larger v d r D e g h l ∙ ap (min 65) (sym (max_left d (suc D) l))))
    (λ h. ap (min 65) (max_left v r h)
    ∙ by_less d (suc D)
    (λ l. new_larger v d r D e g h l ∙ ap (min 65) (sym (max_right d (suc D) l)))
    (λ l. e ∙ ap (min 65) (sym (max_left d (suc D) l))))

small_max : (v r v' D : ℕ) → v ≤ 66 → r ≡ min 65 D + 1 → v' ≡ max v r → v' ≤ 66
small_max v r v' D h e g = omega arith

pub measuring_begin : (f : Rows) (q : ℕ) → Measuring f q 0 0
measuring_begin f q =
    record { depth = 0; within = omega arith; small = omega arith; capped = refl; most = λ c w a b. absurd (omega arith); some = λ h. absurd (omega arith) }

module _ (ws : List ℕ) (n q : ℕ) (depths : List ℕ) (a : DeepAsks ws n q depths) where
  pub deep_look : (k x : ℕ) → k < 63 → x ≡ rows_of ws q (k + 1) → x < length depths
  deep_look k x h e = let y = a.sound.earlier q (k + 1) a.inside (omega arith) in let i = a.inside in let r = a.room in omega arith

  module _ (k v : ℕ) (h : k < 63) (m : Measuring (rows_of ws) q k v) (x r v' : ℕ) (e : x ≡ rows_of ws q (k + 1)) (u : Under depths x r) (l : v' ≡ max v r) where
    f : Rows
    f = rows_of ws

    skip : x ≡ 0 → Measuring (rows_of ws) q (k + 1) v'
    skip z =
        let b = u.none z in
        let d = l in
        let sm = m.small in
        let cp = m.capped in
        record {
          depth = m.depth;
          within = omega arith;
          small = omega arith;
          capped = omega arith;
          most = λ c w p g t s.
              by_same c (k + 1)
              (λ i.
              let y : rows_of ws q c ≡ 0 = ap (rows_of ws q) i ∙ (sym e ∙ z) in
              absurd (s (ap (λ (j : ℕ). look (rows_of ws) j w) y ∙ blank_says (rows_of ws) a.sound.blank w t)))
              (λ ne. m.most c w p (omega arith) t s);
          some = λ p. let s = m.some p in let g = s.3 in (s.0, s.1, s.2, (let o : s.0 ≤ k + 1 = omega arith in o), s.4, s.5, s.6);
        }

    take : (x ≡ 0 → ⊥) → Measuring (rows_of ws) q (k + 1) v'
    take ne =
        let y = a.sound.earlier q (k + 1) a.inside (omega arith) in
        let dp = a.measured x (omega arith) in
        let b = u.some ne in
        let d = l in
        let g₁ : r ≡ min 65 dp.depth + 1 = b ∙ ap (λ (j : ℕ). j + 1) dp.capped in
        record {
          depth = max m.depth (suc dp.depth);
          within = omega arith;
          small = small_max v r v' dp.depth m.small g₁ l;
          capped = ap (min 65) l ∙ capped_max v m.depth r dp.depth m.capped g₁;
          most = λ c w p g t s.
              by_same c (k + 1)
              (λ i.
              let z : rows_of ws q c ≡ x = ap (rows_of ws q) i ∙ sym e in
              let o = dp.longest.most w t (subst (λ (j : ℕ). look (rows_of ws) j w ≡ [] → ⊥) z s) in omega arith)
              (λ nc. let o = m.most c w p (omega arith) t s in omega arith);
          some = λ p.
              by_less dp.depth m.depth
              (λ g. let s = m.some (omega arith) in let t = s.3 in let o = s.6 in
              (s.0, s.1, s.2, (let z : s.0 ≤ k + 1 = omega arith in z), s.4, s.5, (let z : suc (length s.1) ≡ max m.depth (suc dp.depth) = omega arith in z)))
              (λ g. let s = dp.longest.some (omega arith) in let o = s.3 in (
                k + 1,
                s.0,
                (let z : 0 < k + 1 = omega arith in z),
                (let z : k + 1 ≤ k + 1 = omega arith in z),
                s.1,
                subst (λ (j : ℕ). look (rows_of ws) j s.0 ≡ [] → ⊥) e s.2,
                (let z : suc (length s.0) ≡ max m.depth (suc dp.depth) = omega arith in z),
              ));
        }

    pub measuring_next : Measuring (rows_of ws) q (k + 1) v'
    measuring_next = by_same x 0 skip take

  long_of : (k v : ℕ) → 63 ≤ k → (m : Measuring (rows_of ws) q k v) → Longest (rows_of ws) q m.depth
  long_of k v h m =
      let wi = m.within in
      record {
        most = λ w t s. most_of w t s;
        some = λ p.
            by_same m.depth 0
            (λ z. let s = leads (rows_of ws) n a.sound q p a.inside in let b = most_of s.0 s.1 s.2 in (s.0, s.1, s.2, (let o : length s.0 ≡ m.depth = omega arith in o)))
            (λ ne. let s = m.some (omega arith) in let l = s.3 in (s.0 ∷ s.1, (s.2, (let o : s.0 < 64 = omega arith in o), s.4), s.5, s.6));
      }
    where
      most_of : (w : Str) → Letters w → (look (rows_of ws) q w ≡ [] → ⊥) → length w ≤ m.depth
      most_of [] t s = omega arith
      most_of (c ∷ w) t s = let l = t.1 in let b = m.within in m.most c w t.0 (omega arith) t.2 s

  pub depth_capped : (k v r : ℕ) → 63 ≤ k → Measuring (rows_of ws) q k v → r ≡ min v 65 → Depth (rows_of ws) q r
  depth_capped k v r h m e = let c = m.capped in record { depth = m.depth; longest = long_of k v h m; capped = omega arith }

-- ---- cell after cell

pub record Deepening (ws : List ℕ) (q a e i v : ℕ) : Type 0 where
  pub upto : ℕ
  pub cursor : Cursor ws q a e upto i
  pub measuring : Measuring (rows_of ws) q upto v

pub deepening_begin : (ws : List ℕ) (n q a to e : ℕ) → Placing ws n q a to → Split ws a to 64 e → Deepening ws q a e a 0
deepening_begin ws n q a to e p u = record { upto = 0; cursor = cursor_begin ws n q a to e p u; measuring = measuring_begin (rows_of ws) q }

module _ (ws : List ℕ) (n q : ℕ) (depths : List ℕ) (k : DeepAsks ws n q depths) where
  measuring_skip : (j d v : ℕ) → j + d ≤ 63 → ((c : ℕ) → j < c → c ≤ j + d → rows_of ws q c ≡ 0) → Measuring (rows_of ws) q j v → Measuring (rows_of ws) q (j + d) v
  measuring_skip j zero v h z m = let e : j ≡ j + 0 = omega arith in subst (λ (t : ℕ). Measuring (rows_of ws) q t v) e m
  measuring_skip j (suc d) v h z m =
      let i = measuring_skip j d v (omega arith) (λ c u w. z c u (omega arith)) m in
      let e : j + d + 1 ≡ j + suc d = omega arith in
      subst (λ (t : ℕ). Measuring (rows_of ws) q t v) e
      (measuring_next ws n q depths k (j + d) v (omega arith) i 0 0 v (sym (z (j + d + 1) (omega arith) (omega arith)))
      (record { none = λ o. refl; some = λ o. absurd (o refl) }) (omega arith))

  module _ (a e i v : ℕ) (g : Deepening ws q a e i v) (h : i < e) (x : ℕ) (xe : x ≡ val_of (get_or ws i 0)) where
    turn_is : x ≡ rows_of ws q (key_of (get_or ws i 0) - 1 + 1)
    turn_is =
        let c = cursor_at ws q a e g.upto i g.cursor h in
        let lo = c.low in
        let z : key_of (get_or ws i 0) ≡ key_of (get_or ws i 0) - 1 + 1 = omega arith in
        xe ∙ (sym c.turn ∙ ap (rows_of ws q) z)

    pub depth_fits : x < length depths
    depth_fits = let c = cursor_at ws q a e g.upto i g.cursor h in let lo = c.low in let hi = c.high in deep_look ws n q depths k (key_of (get_or ws i 0) - 1) x (omega arith) turn_is

    pub deepening_next : (r v' : ℕ) → Under depths x r → v' ≡ max v r → Deepening ws q a e (i + 1) v'
    deepening_next r v' u l =
        let c = cursor_at ws q a e g.upto i g.cursor h in
        let lo = c.low in
        let hi = c.high in
        let y : g.upto + (key_of (get_or ws i 0) - 1 - g.upto) ≡ key_of (get_or ws i 0) - 1 = omega arith in
        let z : key_of (get_or ws i 0) - 1 + 1 ≡ key_of (get_or ws i 0) = omega arith in
        let m = subst (λ (t : ℕ). Measuring (rows_of ws) q t v) y
        (measuring_skip g.upto (key_of (get_or ws i 0) - 1 - g.upto) v (omega arith) (λ d u w. c.none d u (omega arith)) g.measuring) in
        record {
          upto = key_of (get_or ws i 0);
          cursor = c.next;
          measuring = subst (λ (t : ℕ). Measuring (rows_of ws) q t v') z (measuring_next ws n q depths k (key_of (get_or ws i 0) - 1) v (omega arith) m x r v' turn_is u l);
        }

  pub deepening_end : (a e i v : ℕ) → Deepening ws q a e i v → e ≤ i → Measuring (rows_of ws) q 63 v
  deepening_end a e i v g h =
      let z = cursor_end ws q a e g.upto i g.cursor h in
      let b = g.cursor.small in
      let y : g.upto + (63 - g.upto) ≡ 63 = omega arith in
      subst (λ (t : ℕ). Measuring (rows_of ws) q t v) y (measuring_skip g.upto (63 - g.upto) v (omega arith) (λ d u w. z d u (omega arith)) g.measuring)

-- ---- state after state

abbrev pub Measured : List ℕ → ℕ → List ℕ → Type 0
Measured ws q depths = (x : ℕ) → x < q → Depth (rows_of ws) x (get_or depths x 0)

-- a depth of at most 64 is just what short names are
pub short_yes : (f : Rows) (n r : ℕ) → Depth f n r → r ≤ 64 → Short f n
short_yes f n r d h w t s = let c = d.capped in let m = d.longest.most w t s in omega arith

pub short_no : (f : Rows) (n r : ℕ) → Depth f n r → 64 < r → 0 < n → Short f n → ⊥
short_no f n r d h p sh = let c = d.capped in let s = d.longest.some p in let b = sh s.0 s.1 s.2 in let e = s.3 in omega arith
