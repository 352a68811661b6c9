-- The descent: from a state to its successors, letter after letter.
-- Assumes nothing.
use mathlib.Core.Path.{◌≡◌, refl, sym, ap, ap₂, ◌∙◌}
use Prim.Native.Nat.{ℕ, zero, suc, ◌+◌, ◌-◌, ◌≤◌, ◌<◌}
use native.Mathlib.Nat.{not-suc-le-zero, le_of_suc-le-suc}
use native.Mathlib.Numerals.{add-one}
use native.Mathlib.Omega.{arith}
use mathlib.Core.List.{List, [], ◌∷◌, ◌++◌, append_assoc, append-nil}
use lib.ListN.{length, get_or, take, set, length-append, length-set}
use lib.Seq.{take-suc-set, take-set-le, take-take}
use Rattle.automaton.specs.Automaton.{Str, Rows, key_of, val_of, rows_of, unless_zero, up_to, phones_at, Sound}
use Rattle.automaton.specs.Listing.{each, own_text, readout}
use Rattle.automaton.proofs.Tests.{by_same}
use Rattle.packing.specs.Packing.{unpack, said}
use Rattle.states.specs.States.{Placing, Split}
use Rattle.measures.proofs.Cursors.{Cursor, Here, cursor_at, cursor_begin, cursor_end}
use Rattle.exceptions.proofs.States.{unpack_none}
use Rattle.readout.specs.Texts.{Wrote, TextAsks, TextGives, under}
use Rattle.readout.proofs.Appending.{wrote_none, wrote_is, wrote_append}

-- ---- what is joined letter after letter

each_none : {A : Type 0} (g : ℕ → List A) (c n : ℕ) → ((d : ℕ) → c ≤ d → d < c + n → g d ≡ []) → each g c n ≡ []
each_none g c zero e = refl
each_none {A} g c (suc n) e = ap₂ (λ (a b : List A). a ++ b) (e c (omega arith) (omega arith)) (each_none g (suc c) n (λ d a b. e d (omega arith) (omega arith)))

each_snoc : {A : Type 0} (g : ℕ → List A) (c n : ℕ) → each g c (suc n) ≡ each g c n ++ g (c + n)
each_snoc g c zero = append-nil (g c) ∙ (let z : c ≡ c + 0 = omega arith in ap g z)
each_snoc {A} g c (suc n) =
    ap (λ (a : List A). g c ++ a) (each_snoc g (suc c) n)
    ∙ (sym (append_assoc (g c) (each g (suc c) n) (g (suc c + n)))
    ∙ (let z : suc c + n ≡ c + suc n = omega arith in ap (λ (x : ℕ). g c ++ each g (suc c) n ++ g x) z))

-- nothing stands at the d letters after the first k
each_skip : {A : Type 0} (g : ℕ → List A) (c k d : ℕ) → ((x : ℕ) → c + k ≤ x → x < c + k + d → g x ≡ []) → each g c (k + d) ≡ each g c k
each_skip g c k zero z = let e : k + 0 ≡ k = omega arith in ap (each g c) e
each_skip {A} g c k (suc d) z =
    let e : k + suc d ≡ suc (k + d) = omega arith in
    ap (each g c) e
    ∙ (each_snoc g c (k + d)
    ∙ (ap₂ (λ (a b : List A). a ++ b) (each_skip g c k d (λ x u v. z x u (omega arith))) (z (c + (k + d)) (omega arith) (omega arith)) ∙ append-nil (each g c k)))

each_part : {A : Type 0} (g : ℕ → List A) (c k n : ℕ) → k < n → length (each g c k) + length (g (c + k)) ≤ length (each g c n)
each_part g c k zero h = absurd (not-suc-le-zero h)
each_part g c zero (suc n) h =
    let l = length-append (g c) (each g (suc c) n) in
    let z : c + 0 ≡ c = omega arith in
    let e : length (g (c + 0)) ≡ length (g c) = ap (λ (x : ℕ). length (g x)) z in
    omega arith
each_part g c (suc k) (suc n) h =
    let l = length-append (g c) (each g (suc c) n) in
    let m = length-append (g c) (each g (suc c) k) in
    let z : c + suc k ≡ suc c + k = omega arith in
    let e : length (g (c + suc k)) ≡ length (g (suc c + k)) = ap (λ (x : ℕ). length (g x)) z in
    let i = each_part g (suc c) k n (le_of_suc-le-suc h) in
    omega arith

-- ---- nothing is written of the blank state

blank_phones : (f : Rows) (n : ℕ) → Sound f n → unpack (phones_at f 0) ≡ []
unfolding phones_at
blank_phones f n s = ap (λ (x : ℕ). unpack (unless_zero x (up_to 21 (λ k. f 0 (64 + suc k))))) (s.blank (64 + 0) (omega arith)) ∙ unpack_none

blank_readout : (f : Rows) (n : ℕ) → Sound f n → (h : ℕ) (path : Str) → readout unpack f h 0 path ≡ []
unfolding readout
blank_readout f n s zero path = ap (own_text path) (blank_phones f n s)
blank_readout f n s (suc h) path =
    ap₂ (λ (a b : List ℕ). a ++ b) (ap (own_text path) (blank_phones f n s))
    (each_none (λ c. readout unpack f h (f 0 c) (path ++ (c ∷ []))) 1 63
    (λ d a b. ap (λ (x : ℕ). readout unpack f h x (path ++ (d ∷ []))) (s.blank d (omega arith)) ∙ blank_readout f n s h (path ++ (d ∷ []))))

under_none : (f : Rows) (n : ℕ) → Sound f n → (h q : ℕ) (path : Str) (c : ℕ) → f q c ≡ 0 → under f h q path c ≡ []
under_none f n s h q path c z = ap (λ (v : ℕ). readout unpack f h v (path ++ (c ∷ []))) z ∙ blank_readout f n s h (path ++ (c ∷ []))

-- ---- the own entry, then the longer names

readout_none : (f : Rows) (left q : ℕ) (path : Str) → left ≡ 0 → readout unpack f left q path ≡ own_text path (said f q)
unfolding readout said
readout_none f left q path e = ap (λ (h : ℕ). readout unpack f h q path) e

readout_step : (f : Rows) (h q : ℕ) (path : Str) → readout unpack f (suc h) q path ≡ own_text path (said f q) ++ each (under f h q path) 1 63
unfolding readout said
readout_step f h q path = refl

readout_more : (f : Rows) (left q : ℕ) (path : Str) → (left ≡ 0 → ⊥) → readout unpack f left q path ≡ own_text path (said f q) ++ each (under f (left - 1) q path) 1 63
readout_more f left q path ne =
    let e : left ≡ suc (left - 1) = omega arith in
    ap (λ (h : ℕ). readout unpack f h q path) e ∙ readout_step f (left - 1) q path

module _ (ws : List ℕ) (n q : ℕ) (path : Str) (depth left at : ℕ) (a : TextAsks ws n q path depth left (readout unpack (rows_of ws) left q (take depth path)) at) where
  pub from_own : TextAsks ws n q path depth 0 (own_text (take depth path) (said (rows_of ws) q)) at
  from_own =
      let d = a.deep in
      let w = a.few in
      let o = own_text (take depth path) (said (rows_of ws) q) in
      record {
        state = a.state;
        packed = a.packed;
        deep = omega arith;
        letters = a.letters;
        few = by_same left 0
            (λ e. let x : length (readout unpack (rows_of ws) left q (take depth path)) ≡ length o = ap length (readout_none (rows_of ws) left q (take depth path) e) in omega arith)
            (λ ne.
            let g = each (under (rows_of ws) (left - 1) q (take depth path)) 1 63 in
            let x : length (readout unpack (rows_of ws) left q (take depth path)) ≡ length (o ++ g) = ap length (readout_more (rows_of ws) left q (take depth path) ne) in
            let y = length-append o g in
            omega arith);
      }

  module _ (out₀ out : List ℕ) (to : ℕ) (w : Wrote (own_text (take depth path) (said (rows_of ws) q)) at out₀ out to) where
    pub from_none : left ≡ 0 → TextGives (readout unpack (rows_of ws) left q (take depth path)) at out₀ out to depth path path
    from_none e =
        record {
          wrote = wrote_is (own_text (take depth path) (said (rows_of ws) q)) (readout unpack (rows_of ws) left q (take depth path)) at out₀ out to (sym (readout_none (rows_of ws) left q (take depth path) e)) w;
          kept = refl;
          long = refl;
        }

    module _ (ne : left ≡ 0 → ⊥) where
      pub from_under : (0 < left) × TextAsks ws n q path depth left (each (under (rows_of ws) (left - 1) q (take depth path)) 1 63) to
      from_under =
          let o = own_text (take depth path) (said (rows_of ws) q) in
          let g = each (under (rows_of ws) (left - 1) q (take depth path)) 1 63 in
          let x : length (readout unpack (rows_of ws) left q (take depth path)) ≡ length (o ++ g) = ap length (readout_more (rows_of ws) left q (take depth path) ne) in
          let y = length-append o g in
          let b = a.few in
          let z = w.next in
          (omega arith, record { state = a.state; packed = a.packed; deep = a.deep; letters = a.letters; few = omega arith })

      pub from_all : (out' : List ℕ) (r : ℕ) (path' : Str) → TextGives (each (under (rows_of ws) (left - 1) q (take depth path)) 1 63) to out out' r depth path path'
          → TextGives (readout unpack (rows_of ws) left q (take depth path)) at out₀ out' r depth path path'
      from_all out' r path' u =
          let o = own_text (take depth path) (said (rows_of ws) q) in
          let g = each (under (rows_of ws) (left - 1) q (take depth path)) 1 63 in
          record {
            wrote = wrote_is (o ++ g) (readout unpack (rows_of ws) left q (take depth path)) at out₀ out' r (sym (readout_more (rows_of ws) left q (take depth path) ne)) (wrote_append o g at out₀ out out' to r w u.wrote);
            kept = u.kept;
            long = u.long;
          }

-- ---- one successor after another

-- the entries of the names that go on with the letters of the cells a to i are written
pub record Descending (ws : List ℕ) (q : ℕ) (path₀ : Str) (depth left : ℕ) (out₀ : List ℕ) (at a e i : ℕ) (path : Str) (out : List ℕ) (to : ℕ) : Type 0 where
  pub upto : ℕ
  pub cursor : Cursor ws q a e upto i
  pub gives : TextGives (each (under (rows_of ws) (left - 1) q (take depth path₀)) 1 upto) at out₀ out to depth path₀ path

module _ (ws : List ℕ) (n q : ℕ) (path₀ : Str) (depth left : ℕ) (out₀ : List ℕ) (at : ℕ) (more : 0 < left) (k : TextAsks ws n q path₀ depth left (each (under (rows_of ws) (left - 1) q (take depth path₀)) 1 63) at) where
  pub descending_begin : (a to e : ℕ) → Placing ws n q a to → Split ws a to 64 e → Descending ws q path₀ depth left out₀ at a e a path₀ out₀ at
  descending_begin a to e p s = record { upto = 0; cursor = cursor_begin ws n q a to e p s; gives = record { wrote = wrote_none at out₀; kept = refl; long = refl } }

  module _ (a e i : ℕ) (path : Str) (out : List ℕ) (to : ℕ) (d : Descending ws q path₀ depth left out₀ at a e i path out to) where
    pub descending_end : e ≤ i → TextGives (each (under (rows_of ws) (left - 1) q (take depth path₀)) 1 63) at out₀ out to depth path₀ path
    descending_end h =
        let g = under (rows_of ws) (left - 1) q (take depth path₀) in
        let b = d.cursor.small in
        let z = cursor_end ws q a e d.upto i d.cursor h in
        let y : d.upto + (63 - d.upto) ≡ 63 = omega arith in
        let s : each g 1 d.upto ≡ each g 1 63 =
        sym (each_skip g 1 d.upto (63 - d.upto) (λ c x l. under_none (rows_of ws) n k.state.sound (left - 1) q (take depth path₀) c (z c (omega arith) (omega arith)))) ∙ ap (each g 1) y in
        record { wrote = wrote_is (each g 1 d.upto) (each g 1 63) at out₀ out to s d.gives.wrote; kept = d.gives.kept; long = d.gives.long }

    module _ (h : i < e) where
      here : Here ws q a e d.upto i
      here = cursor_at ws q a e d.upto i d.cursor h

      pub step_fits : (depth < length path) × (depth + 1 ≤ 64)
      step_fits =
          let l = k.letters in
          let p = k.deep in
          let g = d.gives.long in
          (omega arith, omega arith)

      -- the letters before this one lead nowhere
      skipped : each (under (rows_of ws) (left - 1) q (take depth path₀)) 1 d.upto ≡ each (under (rows_of ws) (left - 1) q (take depth path₀)) 1 (key_of (get_or ws i 0) - 1)
      skipped =
          let g = under (rows_of ws) (left - 1) q (take depth path₀) in
          let lo = here.low in
          let hi = here.high in
          let y : d.upto + (key_of (get_or ws i 0) - 1 - d.upto) ≡ key_of (get_or ws i 0) - 1 = omega arith in
          sym (each_skip g 1 d.upto (key_of (get_or ws i 0) - 1 - d.upto) (λ x u v. under_none (rows_of ws) n k.state.sound (left - 1) q (take depth path₀) x (here.none x (omega arith) (omega arith)))) ∙ ap (each g 1) y

      module _ (b x : ℕ) (be : b ≡ key_of (get_or ws i 0)) (xe : x ≡ val_of (get_or ws i 0)) where
        step_text : readout unpack (rows_of ws) (left - 1) x (take (depth + 1) (set path depth b)) ≡ under (rows_of ws) (left - 1) q (take depth path₀) (key_of (get_or ws i 0))
        step_text =
            let e₁ : x ≡ rows_of ws q (key_of (get_or ws i 0)) = xe ∙ sym here.turn in
            let e₂ : take (depth + 1) (set path depth b) ≡ take depth path₀ ++ (key_of (get_or ws i 0) ∷ []) =
            ap (λ (v : ℕ). take v (set path depth b)) (add-one depth)
            ∙ (take-suc-set path depth b step_fits.0 ∙ ap₂ (λ (s : Str) (v : ℕ). s ++ (v ∷ [])) d.gives.kept be) in
            ap₂ (λ (v : ℕ) (s : Str). readout unpack (rows_of ws) (left - 1) v s) e₁ e₂

        pub step_asks : TextAsks ws n x (set path depth b) (depth + 1) (left - 1) (readout unpack (rows_of ws) (left - 1) x (take (depth + 1) (set path depth b))) to
        step_asks =
            let g = under (rows_of ws) (left - 1) q (take depth path₀) in
            let lo = here.low in
            let hi = here.high in
            let s = k.state in
            let i₀ = s.inside in
            let y = s.sound.earlier q (key_of (get_or ws i 0)) s.inside hi in
            let tu = here.turn in
            let p = k.deep in
            let l = k.letters in
            let ll = d.gives.long in
            let ls = length-set path depth b in
            let fw = k.few in
            let nx = d.gives.wrote.next in
            let j : 1 + (key_of (get_or ws i 0) - 1) ≡ key_of (get_or ws i 0) = omega arith in
            let pt = each_part g 1 (key_of (get_or ws i 0) - 1) 63 (omega arith) in
            let e₁ : length (g (1 + (key_of (get_or ws i 0) - 1))) ≡ length (g (key_of (get_or ws i 0))) = ap (λ (v : ℕ). length (g v)) j in
            let e₂ : length (each g 1 d.upto) ≡ length (each g 1 (key_of (get_or ws i 0) - 1)) = ap length skipped in
            let e₃ : length (readout unpack (rows_of ws) (left - 1) x (take (depth + 1) (set path depth b))) ≡ length (g (key_of (get_or ws i 0))) = ap length step_text in
            record {
              state = record { sound = s.sound; states = s.states; laid = s.laid; inside = omega arith };
              packed = k.packed;
              deep = omega arith;
              letters = omega arith;
              few = omega arith;
            }

        pub descending_next : (out' : List ℕ) (r : ℕ) (path'' : Str)
            → TextGives (readout unpack (rows_of ws) (left - 1) x (take (depth + 1) (set path depth b))) to out out' r (depth + 1) (set path depth b) path''
            → Descending ws q path₀ depth left out₀ at a e (i + 1) path'' out' r
        descending_next out' r path'' u =
            let g = under (rows_of ws) (left - 1) q (take depth path₀) in
            let lo = here.low in
            let le : depth ≤ depth + 1 = omega arith in
            let j : 1 + (key_of (get_or ws i 0) - 1) ≡ key_of (get_or ws i 0) = omega arith in
            let j' : suc (key_of (get_or ws i 0) - 1) ≡ key_of (get_or ws i 0) = omega arith in
            let s : each g 1 d.upto ++ g (key_of (get_or ws i 0)) ≡ each g 1 (key_of (get_or ws i 0)) =
            ap₂ (λ (v w : List ℕ). v ++ w) skipped (ap g (sym j)) ∙ (sym (each_snoc g 1 (key_of (get_or ws i 0) - 1)) ∙ ap (each g 1) j') in
            record {
              upto = key_of (get_or ws i 0);
              cursor = here.next;
              gives = record {
                wrote = wrote_is (each g 1 d.upto ++ g (key_of (get_or ws i 0))) (each g 1 (key_of (get_or ws i 0))) at out₀ out' r s
                    (wrote_append (each g 1 d.upto) (g (key_of (get_or ws i 0))) at out₀ out out' to r d.gives.wrote
                    (wrote_is (readout unpack (rows_of ws) (left - 1) x (take (depth + 1) (set path depth b))) (g (key_of (get_or ws i 0))) to out out' r step_text u.wrote));
                kept = sym (take-take depth (depth + 1) path'' le) ∙ (ap (take depth) u.kept ∙ (take-take depth (depth + 1) (set path depth b) le ∙ (take-set-le depth path depth b (omega arith) ∙ d.gives.kept)));
                long = u.long ∙ (length-set path depth b ∙ d.gives.long);
              };
            }
