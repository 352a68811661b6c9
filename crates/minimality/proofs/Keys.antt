-- Laws of keys and chains.
-- Assumes nothing.
use mathlib.Core.Path.{◌≡◌, refl, sym, ap, ◌∙◌, subst}
use Prim.Native.Nat.{ℕ, suc, ◌+◌, ◌-◌, ◌*◌, ◌%◌, ◌≤◌, ◌<◌}
use native.Mathlib.Nat.{not-suc-le-zero}
use native.Mathlib.Omega.{arith}
use mathlib.Core.Bool.{true, false}
use mathlib.Core.List.{List, [], ◌∷◌}
use lib.ListN.{length, get_or, set, take, drop}
use lib.Seq.{get_or-set_same, get_or-set_other}
use Rattle.automaton.specs.Automaton.{cells_of, rows_of, Laid, Alike}
use Rattle.automaton.proofs.Tests.{by_less, by_same, clash}
use Rattle.states.specs.States.{Written, Placing}
use Rattle.states.proofs.Rows.{begins_rise}
use Rattle.states.proofs.Cells.{same-cells}
use Rattle.states.proofs.Parts.{part_slice}
use Rattle.minimality.specs.Judging.{Decides}
use Rattle.minimality.proofs.Scan.{AllTo, all_next, refuted}
use Rattle.minimality.specs.Chains.{hash, key_of, Fresh, LastWith, Linked, Headed}
use Rattle.compaction.specs.Compaction.{zero_of}

-- the rest, from h, has the key of the whole
pub record Hashing (l : List ℕ) (h i : ℕ) : Type 0 where
  pub small : h < 4093
  pub rest : key_of l ≡ hash h (drop i l)

pub hash_begin : (l : List ℕ) → Hashing l 0 0
unfolding key_of
hash_begin l = record { small = omega arith; rest = refl }

hash_below : (h : ℕ) (l : List ℕ) → h < 4093 → hash h l < 4093
hash_below h [] b = b
hash_below h (x ∷ l) b = hash_below ((h * 31 + x) % 4093) l (omega arith)

pub key_below : (l : List ℕ) → key_of l < 4093
unfolding key_of
key_below l = hash_below 0 l (omega arith)

key_alike : (ws : List ℕ) (t j : ℕ) → Laid ws t → j < t → Alike (rows_of ws) j t → key_of (cells_of ws j) ≡ key_of (cells_of ws t)
unfolding rows_of
key_alike ws t j l h a = ap key_of (same-cells 1 (cells_of ws j) (cells_of ws t) (l.sorted j (omega arith)) (l.sorted t (omega arith)) (λ k b. a k b))

-- ---- the walk along a chain: rows from i on are no match, and what is left of the chain starts at i
pub record Walking (ws : List ℕ) (t i : ℕ) : Type 0 where
  pub within : i ≤ t
  pub same : 0 < i → key_of (cells_of ws (i - 1)) ≡ key_of (cells_of ws t)
  pub passed : (j : ℕ) → j < t → key_of (cells_of ws j) ≡ key_of (cells_of ws t) → i ≤ j → Alike (rows_of ws) j t → ⊥

pub walk_next : (ws : List ℕ) (t i : ℕ) (links : List ℕ) → Linked ws t links → Walking ws t i → 0 < i → (Alike (rows_of ws) (i - 1) t → ⊥) → (x : ℕ) → x ≡ get_or links (i - 1) 0 → Walking ws t x
walk_next ws t i links ln w p ne x e =
    let b = w.within in
    let l = ln (i - 1) (omega arith) in
    let lw = l.within in
    record {
      within = omega arith;
      same = λ h. ap (λ (v : ℕ). key_of (cells_of ws (v - 1))) e ∙ (l.same (omega arith) ∙ w.same p);
      passed = λ j a k c y.
          by_same j (i - 1)
          (λ q. ne (subst (λ (v : ℕ). Alike (rows_of ws) v t) q y))
          (λ q. by_less j i
          (λ h. let d = l.all j (omega arith) (k ∙ sym (w.same p)) in absurd (omega arith))
          (λ h. w.passed j a k h y));
    }

pub walk_no : (ws : List ℕ) (t i : ℕ) → Walking ws t i → 0 < i → Alike (rows_of ws) (i - 1) t → Decides (Fresh ws t) false
walk_no ws t i w p a = let b = w.within in refuted (Fresh ws t) (λ x. x (i - 1) (omega arith) a)

pub walk_yes : (ws : List ℕ) (t i : ℕ) → Laid ws t → Walking ws t i → i ≡ 0 → Decides (Fresh ws t) true
walk_yes ws t i la w z = record { yes = λ e j l x. w.passed j l (key_alike ws t j la (omega arith) x) (omega arith) x; no = λ e p. clash refl e }

-- ---- heads and links

pub record Chaining (ws : List ℕ) (n t : ℕ) (heads links : List ℕ) : Type 0 where
  pub within : t ≤ n + 1
  pub fresh : AllTo (Fresh ws) t
  pub headed : Headed ws t heads
  pub linked : Linked ws t links

pub chain_begin : (ws : List ℕ) (n : ℕ) (m₀ heads links : List ℕ) → Written zero_of 0 4093 m₀ heads → Chaining ws n 0 heads links
chain_begin ws n m₀ heads links w =
    record {
      within = omega arith;
      fresh = λ j l. absurd (not-suc-le-zero l);
      headed = λ h l.
          let e : 0 + h ≡ h = omega arith in
          let z : get_or heads h 0 ≡ 0 = ap (λ (v : ℕ). get_or heads v 0) (sym e) ∙ w.done h l in
          record { within = omega arith; same = λ p. absurd (omega arith); all = λ j a. absurd (not-suc-le-zero a) };
      linked = λ i l. absurd (not-suc-le-zero l);
    }

module _ (ws : List ℕ) (n t : ℕ) (heads links : List ℕ) (c : Chaining ws n t heads links) (h from : ℕ) (hk : h ≡ key_of (cells_of ws t)) (fr : from ≡ get_or heads h 0) where
  pub chain_start : LastWith ws t (key_of (cells_of ws t)) from
  chain_start =
      let b = key_below (cells_of ws t) in
      let l = c.headed h (omega arith) in
      subst (λ (v : ℕ). LastWith ws t v from) hk (subst (λ (v : ℕ). LastWith ws t h v) (sym fr) l)

  pub chain_next : t ≤ n → Fresh ws t → t < length links → h < length heads → Chaining ws n (t + 1) (set heads h (t + 1)) (set links t from)
  chain_next tn new lt lh =
      let keep : (i : ℕ) → (i ≡ t → ⊥) → get_or (set links t from) i 0 ≡ get_or links i 0 = λ i ne. get_or-set_other links t i from 0 ne in
      let here : get_or (set links t from) t 0 ≡ from = get_or-set_same links t from 0 lt in
      let hhere : get_or (set heads h (t + 1)) h 0 ≡ t + 1 = get_or-set_same heads h (t + 1) 0 lh in
      record {
        within = omega arith;
        fresh = all_next (Fresh ws) t c.fresh new;
        headed = λ g l.
            by_same g h
            (λ e.
            subst (λ (v : ℕ). LastWith ws (t + 1) g v) (sym (ap (λ (v : ℕ). get_or (set heads h (t + 1)) v 0) e ∙ hhere))
            (record {
              within = omega arith;
              same = λ p. let q : t + 1 - 1 ≡ t = omega arith in ap (λ (v : ℕ). key_of (cells_of ws v)) q ∙ (sym hk ∙ sym e);
              all = λ j a b. omega arith;
            }))
            (λ ne.
            let o = c.headed g l in
            subst (λ (v : ℕ). LastWith ws (t + 1) g v) (sym (get_or-set_other heads h g (t + 1) 0 ne))
            (record {
              within = let w = o.within in omega arith;
              same = o.same;
              all = λ j a b. o.all j (by_same j t (λ q. absurd (ne (sym b ∙ (ap (λ (v : ℕ). key_of (cells_of ws v)) q ∙ sym hk)))) (λ q. omega arith)) b;
            }));
        linked = λ i l.
            by_same i t
            (λ e.
            subst (λ (v : ℕ). LastWith ws v (key_of (cells_of ws v)) (get_or (set links t from) v 0)) (sym e)
            (subst (λ (v : ℕ). LastWith ws t (key_of (cells_of ws t)) v) (sym here) chain_start))
            (λ ne. subst (λ (v : ℕ). LastWith ws i (key_of (cells_of ws i)) v) (sym (keep i ne)) (c.linked i (omega arith)));
      }

pub laid_upto : (ws : List ℕ) (n m : ℕ) → Laid ws n → m ≤ n → Laid ws m
laid_upto ws n m l h =
    let e = begins_rise ws n (suc m) (suc n) l (omega arith) (omega arith) in
    let i = l.inside in
    let f = l.few in
    record { few = omega arith; start = l.start; ends = λ q g. l.ends q (omega arith); inside = omega arith; sorted = λ q g. l.sorted q (omega arith) }

pub key-of : (ws : List ℕ) (n q a e r : ℕ) → Placing ws n q a e → r ≡ key_of (take (e - a) (drop a ws)) → r ≡ key_of (cells_of ws q)
key-of ws n q a e r p h =
    let o = p.order in
    let w = p.within in
    h ∙ ap key_of (part_slice ws a (e - a) (omega arith) ∙ sym p.cells)
