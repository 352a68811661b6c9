-- A pattern is followed along the nodes of the patterns before it.
-- Assumes nothing.
use mathlib.Core.Path.{◌≡◌, refl, sym, ap, ap₂, ◌∙◌, subst}
use Prim.Native.Nat.{ℕ, zero, suc, ◌+◌, ◌*◌, ◌≤◌, ◌<◌}
use native.Mathlib.Omega.{arith}
use native.Mathlib.Nat.{suc-ne-zero}
use mathlib.Core.Bool.{true, false, and-true}
use mathlib.Core.List.{List, [], ◌∷◌, ◌++◌}
use lib.Dec.{eqb}
use lib.ListN.{length, get_or, take, drop}
use lib.Seq.{drop-cons, take-suc, length-take-le}
use Rattle.rules.proofs.Cases.{by_bool}
use Rattle.fitting.specs.Fitting.{Str, starts}
use Rattle.tables.specs.States.{states, numbered, starts_any}
use Rattle.tables.specs.Words.{row_size}
use Rattle.rules.specs.Limits.{max_pattern}
use Rattle.side.specs.Patterns.{pattern_at, patterns_of, Patterns}
use Rattle.side.proofs.Inserting.{patterns_length, patterns_less, pattern_length, pattern_symbol, symbol_small}
use Rattle.side.proofs.Parts.{patterns_at}
use Rattle.count.specs.Chains.{at, child_of, Linked, Chains}
use Rattle.count.specs.Tree.{nodes, node_at, has_symbol, next_node, first_with, Tree, Followed}
use Rattle.count.proofs.Starts.{first_lt, any_node}
use Rattle.count.proofs.Branching.{tree_branches}
use Rattle.tables.specs.Siblings.{Falling}
use Rattle.count.proofs.Attaching.{chain_linked}

-- ---- one node

drop_none : (m : ℕ) (w : Str) → length w ≤ m → drop m w ≡ []
drop_none zero [] h = refl
drop_none zero (x ∷ w) h = absurd (omega arith)
drop_none (suc m) [] h = refl
drop_none (suc m) (x ∷ w) h = drop_none m w (omega arith)

pub symbol-none : (ps ls : List ℕ) (q m c : ℕ) → q ≡ 0 → false ≡ has_symbol (node_at ps ls q) m c
symbol-none ps ls q m c e =
    sym (ap (λ (k : ℕ). has_symbol (node_at ps ls k) m c) e ∙ ap (λ (w : Str). starts (c ∷ []) w) (drop_none m [] (omega arith)))

-- node q is pattern i
module _ (ps ls : List ℕ) (q : ℕ) (ok : Patterns ps ls q) (m c i : ℕ) (e : q ≡ suc i) where
  node_is : has_symbol (node_at ps ls q) m c ≡ has_symbol (pattern_at ps ls i) m c
  node_is = ap (λ (k : ℕ). has_symbol (node_at ps ls k) m c) e

  node_length : length (pattern_at ps ls i) ≡ get_or ls i 0
  node_length = pattern_length ps ls q ok i (omega arith)

  pub symbol-past : get_or ls i 0 ≤ m → false ≡ has_symbol (node_at ps ls q) m c
  symbol-past h = sym (node_is ∙ ap (λ (w : Str). starts (c ∷ []) w) (drop_none m (pattern_at ps ls i) (omega (arith, node_length))))

  pub symbol-at : m < get_or ls i 0 → eqb c (get_or ps (max_pattern * i + m) 0) ≡ has_symbol (node_at ps ls q) m c
  symbol-at h =
      let w = pattern_at ps ls i in
      sym (node_is ∙ ap (λ (v : Str). starts (c ∷ []) v) (drop-cons w m 0 (omega (arith, node_length)))
      ∙ and-true (eqb c (get_or w m 0)) ∙ ap (eqb c) (pattern_symbol ps ls q ok i (omega arith) m h))

-- w is a copy of the head of q's chain
pub may-seek : (fi nx ky : List ℕ) (q w : ℕ) → Linked fi nx ky q → w ≡ get_or fi q 0 → (w < length nx) × (w < length ky) × Falling (at nx) w
may-seek fi nx ky q w l e =
    (omega (arith, l.nexts), omega (arith, l.keys), λ k p h. l.falling k p (omega arith))

-- ---- along the nodes

module _ (pats : List Str) (p : Str) where
  -- the first m symbols of p start node q, and no node before it
  pub record Following (q m : ℕ) : Type 0 where
    pub reached : m ≤ length p
    pub has : starts_any (take m p) (nodes pats) ≡ true
    pub node : q ≡ first_with (take m p) (nodes pats)

  pub begin : Following 0 0
  begin = record { reached = omega arith; has = refl; node = refl }

some_node : (pats : List Str) (s : Str) (c : ℕ) → first_with (s ++ (c ∷ [])) (nodes pats) ≡ 0 → ⊥
some_node pats [] c e = suc-ne-zero _ e
some_node pats (x ∷ s) c e = suc-ne-zero _ e

module _ (ps ls : List ℕ) (i : ℕ) (ok : Patterns ps ls (i + 1)) where
  abbrev pats : List Str
  pats = patterns_of ps ls i

  abbrev p : Str
  p = pattern_at ps ls i

  pub p_length : length p ≡ get_or ls i 0
  p_length = pattern_length ps ls (i + 1) ok i (omega arith)

  pub nodes_length : length (nodes pats) ≡ i + 1
  nodes_length = omega (arith, patterns_length ps ls i)

  string_is : (q : ℕ) → q < i + 1 → node_at ps ls q ≡ get_or (nodes pats) q []
  string_is zero h = refl
  string_is (suc k) h = sym (patterns_at ps ls i k (omega arith))

  module _ (fi nx ky : List ℕ) (ch : Chains fi nx ky (i + 1)) (tree : Tree pats (child_of fi nx ky)) where
    module _ (q m : ℕ) (f : Following pats p q m) where
      pub node_lt : q < i + 1
      node_lt = omega (arith, f.node, first_lt (take m p) (nodes pats) f.has, nodes_length)

      -- p ends
      pub ended : get_or ls i 0 ≤ m → (n : ℕ) → m ≡ n → Followed pats p (record { node = q; depth = n })
      ended h n e =
          subst (λ (d : ℕ). Followed pats p (record { node = q; depth = d })) e
          (record {
            reached = f.reached;
            has = any_node pats (take m p) ∙ f.has;
            node = f.node;
            most = λ l. absurd (omega (arith, p_length));
          })

      module _ (h : m < get_or ls i 0) (c : ℕ) (is : c ≡ get_or ps (max_pattern * i + m) 0) where
        small : c < row_size
        small = rw is (symbol_small ps ls (i + 1) ok i (omega arith) m h)

        pub asks : (Patterns ps ls q) × (m < max_pattern) × (c < row_size) × (Linked fi nx ky q)
        asks = (
          patterns_less ps ls q (i + 1) (omega (arith, node_lt)) ok,
          omega (arith, ok.short i (omega arith)),
          small,
          chain_linked fi nx ky (i + 1) ch q node_lt,
        )

        more : take m p ++ (c ∷ []) ≡ take (suc m) p
        more =
            ap (λ (k : ℕ). take m p ++ (k ∷ [])) (is ∙ sym (pattern_symbol ps ls (i + 1) ok i (omega arith) m h))
            ∙ sym (take-suc p m 0 (omega (arith, p_length)))

        module _ (r : ℕ) (e : r ≡ next_node (node_at ps ls q) (child_of fi nx ky) q m c) where
          m_is : m ≡ length (take m p)
          m_is = sym (length-take-le m p f.reached)

          leads : r ≡ next_node (get_or (nodes pats) (first_with (take m p) (nodes pats)) []) (child_of fi nx ky) (first_with (take m p) (nodes pats)) (length (take m p)) c
          leads =
              e ∙ ap (λ (w : Str). next_node w (child_of fi nx ky) q m c) (string_is q node_lt)
              ∙ ap₂ (λ (k n : ℕ). next_node (get_or (nodes pats) k []) (child_of fi nx ky) k n c) f.node m_is

          found : starts_any (take m p ++ (c ∷ [])) (nodes pats) ≡ true → r ≡ first_with (take m p ++ (c ∷ [])) (nodes pats)
          found a = leads ∙ tree_branches pats (child_of fi nx ky) tree (take m p) c f.has small ∙ rw a

          lost : starts_any (take m p ++ (c ∷ [])) (nodes pats) ≡ false → r ≡ 0
          lost a = leads ∙ tree_branches pats (child_of fi nx ky) tree (take m p) c f.has small ∙ rw a

          -- p follows node r
          pub next : (r ≡ 0 → ⊥) → Following pats p r (m + 1)
          next d =
              let s : m + 1 ≡ suc m = omega arith in
              by_bool (starts_any (take m p ++ (c ∷ [])) (nodes pats))
              (λ a. record {
                reached = omega (arith, p_length);
                has = ap (λ (k : ℕ). starts_any (take k p) (nodes pats)) s ∙ ap (λ (w : Str). starts_any w (nodes pats)) (sym more) ∙ a;
                node = found a ∙ ap (λ (w : Str). first_with w (nodes pats)) more ∙ ap (λ (k : ℕ). first_with (take k p) (nodes pats)) (sym s);
              })
              (λ a. absurd (d (lost a)))

          -- p leaves node q
          pub stopped : r ≡ 0 → Followed pats p (record { node = q; depth = m })
          stopped z =
              let s : m + 1 ≡ suc m = omega arith in
              record {
                reached = f.reached;
                has = any_node pats (take m p) ∙ f.has;
                node = f.node;
                most = λ l. ap (λ (k : ℕ). numbered (states pats) (take k p)) s ∙ any_node pats (take (suc m) p) ∙ ap (λ (w : Str). starts_any w (nodes pats)) (sym more)
                    ∙ by_bool (starts_any (take m p ++ (c ∷ [])) (nodes pats)) (λ a. absurd (some_node pats (take m p) c (sym (found a) ∙ z))) (λ a. a);
              }
