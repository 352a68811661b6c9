-- Laws of the count as it is made.
-- Assumes nothing.
use mathlib.Core.Path.{◌≡◌, sym, ap, ◌∙◌, subst}
use Prim.Native.Nat.{ℕ, zero, suc, ◌+◌, ◌-◌, ◌*◌, ◌≤◌, ◌<◌, min}
use native.Mathlib.Numerals.{add-one}
use native.Mathlib.Omega.{arith}
use mathlib.Core.List.{List}
use lib.ListN.{length, get_or}
use Rattle.automaton.specs.Automaton.{Rows, key_of, val_of, rows_of, phones_at}
use Rattle.automaton.specs.Listing.{own}
use lib.Dec.{ltb}
use borrow.Author.Tests.{lt-ltb, le-ltb}
use mir.Val.{bool_byte}
use Rattle.automaton.specs.Totals.{sum, total}
use Rattle.automaton.proofs.Tests.{by_same, by_less}
use Rattle.automaton.proofs.Totals.{total_blank, total_step, own_zero, own_one}
use Rattle.states.specs.States.{Placing, Split}
use Rattle.measures.proofs.Cursors.{Cursor, cursor_at, cursor_begin, cursor_end, phones_left, phones_none}
use Rattle.measures.specs.Measures.{Looked, CountAsks}

sum_next : (g : ℕ → ℕ) (k : ℕ) → sum g (k + 1) ≡ sum g k + g (k + 1)
unfolding sum
sum_next g k = ap (sum g) (add-one k) ∙ ap (λ (x : ℕ). sum g k + g x) (sym (add-one k))

-- the own name and the names under the first k letters are counted, up to 1,001
pub record Adding (f : Rows) (q k s : ℕ) : Type 0 where
  pub within : k ≤ 63
  pub small : s ≤ 1 + 1001 * k
  pub right : min 1001 s ≡ min 1001 (length (own (phones_at f q)) + sum (λ c. total f (f q c)) k)

pub adding_begin : (ws : List ℕ) (n q : ℕ) (counts : List ℕ) (a e to s : ℕ) → CountAsks ws n q counts → Placing ws n q a to → Split ws a to 64 e → s ≡ bool_byte (ltb e to) → Adding (rows_of ws) q 0 s
unfolding sum
adding_begin ws n q counts a e to s k p u c =
    let f = rows_of ws in
    by_less e to
    (λ h. let x : s ≡ 1 = c ∙ ap bool_byte (lt-ltb e to h) in let b = own_one f q (phones_left ws n q a to e k.sound k.inside p u h) in record { within = omega arith; small = omega arith; right = omega arith })
    (λ h. let x : s ≡ 0 = c ∙ ap bool_byte (le-ltb e to h) in let b = own_zero f q (phones_none ws n q a to e p u h) in record { within = omega arith; small = omega arith; right = omega arith })

-- nothing stands at the places passed over
pub adding_skip : (ws : List ℕ) (n q : ℕ) (counts : List ℕ) (k d s : ℕ) → CountAsks ws n q counts → k + d ≤ 63 → ((c : ℕ) → k < c → c ≤ k + d → rows_of ws q c ≡ 0) → Adding (rows_of ws) q k s → Adding (rows_of ws) q (k + d) s
adding_skip ws n q counts k zero s a h z g = let e : k ≡ k + 0 = omega arith in subst (λ (t : ℕ). Adding (rows_of ws) q t s) e g
adding_skip ws n q counts k (suc d) s a h z g =
    let i = adding_skip ws n q counts k d s a (omega arith) (λ c u v. z c u (omega arith)) g in
    let e : k + d + 1 ≡ k + suc d = omega arith in
    let t : total (rows_of ws) (rows_of ws q (k + d + 1)) ≡ 0 = ap (total (rows_of ws)) (z (k + d + 1) (omega arith) (omega arith)) ∙ total_blank (rows_of ws) n a.sound in
    let y = sum_next (λ c. total (rows_of ws) (rows_of ws q c)) (k + d) in
    let m = i.small in
    let w = i.right in
    subst (λ (t : ℕ). Adding (rows_of ws) q t s) e (record { within = omega arith; small = omega arith; right = omega arith })

-- the count looked up is that of the successor
looked_is : (ws : List ℕ) (n q : ℕ) (counts : List ℕ) (c x r : ℕ) → CountAsks ws n q counts → c < 64 → x ≡ rows_of ws q c → Looked counts x r → r ≡ min 1001 (total (rows_of ws) (rows_of ws q c))
looked_is ws n q counts c x r a l e o =
    let f = rows_of ws in
    let y = a.sound.earlier q c a.inside l in
    by_same x 0
    (λ z.
    let t : total f (f q c) ≡ 0 = ap (total f) (sym e ∙ z) ∙ total_blank f n a.sound in
    let b = o.none z in omega arith)
    (λ ne. o.some ne ∙ (a.counted x (omega arith) ∙ ap (λ (v : ℕ). min 1001 (total f v)) e))

pub adding_next : (ws : List ℕ) (n q : ℕ) (counts : List ℕ) (k s x r : ℕ) → CountAsks ws n q counts → k < 63 → Adding (rows_of ws) q k s → x ≡ rows_of ws q (k + 1) → Looked counts x r → Adding (rows_of ws) q (k + 1) (s + r)
adding_next ws n q counts k s x r a h d e o =
    let f = rows_of ws in
    let l = looked_is ws n q counts (k + 1) x r a (omega arith) e o in
    let m = d.small in
    let w = d.right in
    let z = sum_next (λ c. total f (f q c)) k in
    record { within = omega arith; small = omega arith; right = omega arith }

pub look_fits : (ws : List ℕ) (n q : ℕ) (counts : List ℕ) (k x : ℕ) → CountAsks ws n q counts → k < 63 → x ≡ rows_of ws q (k + 1) → x < length counts
look_fits ws n q counts k x a h e =
    let y = a.sound.earlier q (k + 1) a.inside (omega arith) in
    let i = a.inside in
    let r = a.room in
    omega arith

pub adding_end : (ws : List ℕ) (n q : ℕ) (counts : List ℕ) (k s : ℕ) → CountAsks ws n q counts → 63 ≤ k → Adding (rows_of ws) q k s → min 1001 s ≡ min 1001 (total (rows_of ws) q)
adding_end ws n q counts k s a h d =
    let f = rows_of ws in
    let w = d.within in
    let i : k ≡ 63 = omega arith in
    let t = total_step f n a.sound q a.inside in
    d.right ∙ (ap (λ (j : ℕ). min 1001 (length (own (phones_at f q)) + sum (λ c. total f (f q c)) j)) i ∙ ap (min 1001) (sym t))

-- the cells before i are counted
pub record Counting (ws : List ℕ) (q a e i s : ℕ) : Type 0 where
  pub upto : ℕ
  pub cursor : Cursor ws q a e upto i
  pub adding : Adding (rows_of ws) q upto s

module _ (ws : List ℕ) (n q : ℕ) (counts : List ℕ) (k : CountAsks ws n q counts) (a e i s : ℕ) (g : Counting ws q a e i s) (h : i < e) (x : ℕ) (xe : x ≡ val_of (get_or ws i 0)) where
  at_key : Adding (rows_of ws) q (key_of (get_or ws i 0) - 1) s
  at_key =
      let c = cursor_at ws q a e g.upto i g.cursor h in
      let lo = c.low in
      let hi = c.high in
      let z : g.upto + (key_of (get_or ws i 0) - 1 - g.upto) ≡ key_of (get_or ws i 0) - 1 = omega arith in
      subst (λ (t : ℕ). Adding (rows_of ws) q t s) z
      (adding_skip ws n q counts g.upto (key_of (get_or ws i 0) - 1 - g.upto) s k (omega arith) (λ d u v. c.none d u (omega arith)) g.adding)

  turn_is : x ≡ rows_of ws q (key_of (get_or ws i 0) - 1 + 1)
  turn_is =
      let c = cursor_at ws q a e g.upto i g.cursor h in
      let lo = c.low in
      let z : key_of (get_or ws i 0) ≡ key_of (get_or ws i 0) - 1 + 1 = omega arith in
      xe ∙ (sym c.turn ∙ ap (rows_of ws q) z)

  pub count_fits : x < length counts
  count_fits = let c = cursor_at ws q a e g.upto i g.cursor h in let lo = c.low in let hi = c.high in look_fits ws n q counts (key_of (get_or ws i 0) - 1) x k (omega arith) turn_is

  pub counting-next : (r : ℕ) → Looked counts x r → Counting ws q a e (i + 1) (s + r)
  counting-next r o =
      let c = cursor_at ws q a e g.upto i g.cursor h in
      let lo = c.low in
      let hi = c.high in
      let z : key_of (get_or ws i 0) - 1 + 1 ≡ key_of (get_or ws i 0) = omega arith in
      record {
        upto = key_of (get_or ws i 0);
        cursor = c.next;
        adding = subst (λ (t : ℕ). Adding (rows_of ws) q t (s + r)) z (adding_next ws n q counts (key_of (get_or ws i 0) - 1) s x r k (omega arith) at_key turn_is o);
      }

pub counting-begin : (ws : List ℕ) (n q : ℕ) (counts : List ℕ) (a e to s : ℕ) → CountAsks ws n q counts → Placing ws n q a to → Split ws a to 64 e → s ≡ bool_byte (ltb e to) → Counting ws q a e a s
counting-begin ws n q counts a e to s k p u c = record { upto = 0; cursor = cursor_begin ws n q a to e p u; adding = adding_begin ws n q counts a e to s k p u c }

pub counting_end : (ws : List ℕ) (n q : ℕ) (counts : List ℕ) (a e i s : ℕ) → CountAsks ws n q counts → Counting ws q a e i s → e ≤ i → min 1001 s ≡ min 1001 (total (rows_of ws) q)
counting_end ws n q counts a e i s k g h =
    let z = cursor_end ws q a e g.upto i g.cursor h in
    let b = g.cursor.small in
    let y : g.upto + (63 - g.upto) ≡ 63 = omega arith in
    adding_end ws n q counts 63 s k (omega arith)
    (subst (λ (t : ℕ). Adding (rows_of ws) q t s) y (adding_skip ws n q counts g.upto (63 - g.upto) s k (omega arith) (λ d u v. z d u (omega arith)) g.adding))
