-- The tree of one pattern more: a pattern that starts a node changes nothing, and another one becomes a child of the last node that it follows.
-- Assumes nothing.
use mathlib.Core.Path.{◌≡◌, refl, sym, ap, ap₂, ◌∙◌, subst₂}
use mathlib.Core.Logic.{◌≢◌, ◌⊎◌, inl, inr}
use Prim.Native.Nat.{ℕ, suc, ◌+◌, ◌≤◌, ◌<◌}
use native.Mathlib.Omega.{arith}
use native.Mathlib.Decide.{dec_le}
use mathlib.Core.Bool.{Bool, true, false, cond}
use mathlib.Core.List.{List, [], ◌∷◌, ◌++◌}
use lib.Dec.{eqb, eqb→eq}
use lib.ListN.{length, get_or, take, length-append, get_or-append}
use lib.Seq.{get_or_at, take-suc, length-take-le}
use borrow.Author.Tests.{eqb-false}
use Rattle.rules.proofs.Cases.{by_bool}
use Rattle.fitting.specs.Fitting.{Str, starts}
use Rattle.tables.specs.States.{starts_any}
use Rattle.tables.specs.Words.{row_size}
use Rattle.tables.proofs.Truth.{clash, contra, true_eq}
use Rattle.side.proofs.Prefixes.{take_starts}
use Rattle.tables.specs.Siblings.{Attached}
use Rattle.count.specs.Tree.{key_of, nodes, has_symbol, next_node, first_with, Tree}
use Rattle.count.proofs.Starts.{starts_trans, nested, same_prefix, starts_snoc, starts_more, any_snoc, any_trans, any_at, first_lt, first_is, first_old, first_new, any_node}

-- where c leads from the first of the strings ws that s starts
abbrev step_to : List Str → (ℕ → ℕ → ℕ) → Str → ℕ → ℕ
step_to ws look s c = next_node (get_or ws (first_with s ws) []) look (first_with s ws) (length s) c

-- the first of them that x starts, or 0
abbrev target : List Str → Str → ℕ
target ws x = cond (starts_any x ws) (first_with x ws) 0

-- `Tree` over the strings of the nodes
abbrev pub Branches : List Str → (ℕ → ℕ → ℕ) → Type 0
Branches ws look = (s : Str) (c : ℕ) → starts_any s ws ≡ true → c < row_size → step_to ws look s c ≡ target ws (s ++ (c ∷ []))

pub tree_branches : (pats : List Str) (look : ℕ → ℕ → ℕ) → Tree pats look → Branches (nodes pats) look
tree_branches pats look t s c a l =
    t.child s c (any_node pats s ∙ a) l ∙ rw (any_node pats (s ++ (c ∷ [])))

pub branches_tree : (pats : List Str) (look : ℕ → ℕ → ℕ) → Branches (nodes pats) look → Tree pats look
branches_tree pats look t =
    record { child = λ s c a l. t s c (sym (any_node pats s) ∙ a) l ∙ rw (any_node pats (s ++ (c ∷ []))) }

module _ (ws : List Str) (p : Str) (look look' : ℕ → ℕ → ℕ) (t : Branches ws look) where
  abbrev ws' : List Str
  ws' = ws ++ (p ∷ [])

  -- from a node that was there
  kept : (s : Str) (c : ℕ) → starts_any s ws ≡ true → look' (first_with s ws) (key_of (length s) c) ≡ look (first_with s ws) (key_of (length s) c) → step_to ws' look' s c ≡ step_to ws look s c
  kept s c a e =
      let q = first_with s ws in
      ap (λ (k : ℕ). next_node (get_or ws' k []) look' k (length s) c) (first_old s ws p a)
      ∙ ap₂ (λ (w : Str) (k : ℕ). cond (has_symbol w (length s) c) q k) (get_or-append ws (p ∷ []) [] q (first_lt s ws a)) e

  -- a string that p starts with is none that is new
  target_kept : (x : Str) → (starts_any x ws ≡ false → starts x p ≡ false) → target ws x ≡ target ws' x
  target_kept x f =
      by_bool (starts_any x ws)
      (λ a. rw (any_snoc x ws p, a, first_old x ws p a))
      (λ a. rw (any_snoc x ws p, a, f a))

  -- ---- p starts a node

  pub branches_same : starts_any p ws ≡ true → ((k e : ℕ) → k < length ws → look' k e ≡ look k e) → Branches ws' look'
  branches_same h same s c a l =
      let old : (x : Str) → starts_any x ws ≡ false → starts x p ≡ false = λ x b. contra (λ z. any_trans x p ws z h) b in
      let b : starts_any s ws ≡ true =
      by_bool (starts_any s ws) (λ z. z) (λ z. clash a (any_snoc s ws p ∙ rw (z, old s z))) in
      kept s c b (same (first_with s ws) (key_of (length s) c) (first_lt s ws b)) ∙ t s c b l ∙ target_kept (s ++ (c ∷ [])) (old (s ++ (c ∷ [])))

  -- ---- p has one symbol more, and maybe others after it

  module _ (m : ℕ) (h : m < length p) (small : get_or p m 0 < row_size) (has : starts_any (take m p) ws ≡ true) (not : starts_any (take (suc m) p) ws ≡ false)
      (new : Attached look look' (first_with (take m p) ws) (length ws) (key_of m (get_or p m 0))) where
    abbrev u : Str
    u = take m p

    abbrev d : ℕ
    d = get_or p m 0

    u_length : length u ≡ m
    u_length = length-take-le m p (omega arith)

    more : take (suc m) p ≡ u ++ (d ∷ [])
    more = take-suc p m 0 h

    more_length : length (take (suc m) p) ≡ suc m
    more_length = length-take-le (suc m) p h

    -- a string that starts p and no node has more than m symbols
    longer : (x : Str) → starts x p ≡ true → starts_any x ws ≡ false → m < length x
    longer x a b = go (dec_le (length x) m)
      where
        go : Dec (length x ≤ m) → m < length x
        go (yes y) = clash (any_trans x u ws (nested x u p a (take_starts m p) (omega (arith, u_length))) has) b
        go (no y) = omega arith

    -- a string that starts p and a node has no more than m symbols
    shorter : (s : Str) → starts s p ≡ true → starts_any s ws ≡ true → length s ≤ m
    shorter s a b = go (dec_le (length s) m)
      where
        go : Dec (length s ≤ m) → length s ≤ m
        go (yes y) = y
        go (no y) = clash (any_trans (take (suc m) p) s ws (nested (take (suc m) p) s p (take_starts (suc m) p) a (omega (arith, more_length))) b) not

    -- where p leaves its last node
    here : step_to ws' look' u d ≡ target ws' (u ++ (d ∷ []))
    here =
        let q = first_with u ws in
        let w = get_or ws q [] in
        let a : starts_any (u ++ (d ∷ [])) ws ≡ false = ap (λ (x : Str). starts_any x ws) (sym more) ∙ not in
        let b : starts (u ++ (d ∷ [])) p ≡ true = ap (λ (x : Str). starts x p) (sym more) ∙ take_starts (suc m) p in
        let r : has_symbol w (length u) d ≡ false = sym (starts_more u d w (first_is u ws has)) ∙ any_at (u ++ (d ∷ [])) ws q (first_lt u ws has) a in
        let g : get_or ws' q [] ≡ w = get_or-append ws (p ∷ []) [] q (first_lt u ws has) in
        let i : next_node w look' q (length u) d ≡ length ws = rw r (ap (λ (k : ℕ). look' q (key_of k d)) u_length ∙ new.child) in
        let j : target ws' (u ++ (d ∷ [])) ≡ length ws = rw (any_snoc (u ++ (d ∷ [])) ws p, a, b) (first_new (u ++ (d ∷ [])) ws p a b) in
        ap (λ (k : ℕ). next_node (get_or ws' k []) look' k (length u) d) (first_old u ws p has)
        ∙ ap (λ (x : Str). next_node x look' q (length u) d) g
        ∙ i
        ∙ sym j

    -- a string of a node leads to a new one only there
    leaves : (s : Str) (c : ℕ) → starts_any s ws ≡ true → starts_any (s ++ (c ∷ [])) ws ≡ false → starts (s ++ (c ∷ [])) p ≡ true → (s ≡ u) × (c ≡ d)
    leaves s c a b z =
        let x = s ++ (c ∷ []) in
        let n : length x ≡ length s + 1 = length-append s (c ∷ []) in
        let v = starts_trans s x p (starts_snoc s c) z in
        let e : length s ≡ m = omega (arith, longer x z b, shorter s v a) in
        let f : x ≡ take (suc m) p = same_prefix x (take (suc m) p) p z (take_starts (suc m) p) (omega (arith, more_length)) in (
          same_prefix s u p v (take_starts m p) (e ∙ sym u_length),
          sym (get_or_at s c [] 0 m e) ∙ ap (λ (y : Str). get_or y m 0) (f ∙ more) ∙ get_or_at u d [] 0 m u_length,
        )

    apart : (s : Str) (c : ℕ) → (first_with s ws ≢ first_with u ws) ⊎ (key_of (length s) c ≢ key_of m d) → (s ≡ u) × (c ≡ d) → ⊥
    apart s c (inl f) e = f (ap (λ (y : Str). first_with y ws) e.0)
    apart s c (inr f) e = f (ap₂ key_of (ap length e.0 ∙ u_length) e.1)

    -- from a node that was there, but not from where p leaves it
    there : (s : Str) (c : ℕ) → starts_any s ws ≡ true → c < row_size → (first_with s ws ≢ first_with u ws) ⊎ (key_of (length s) c ≢ key_of m d) → step_to ws' look' s c ≡ target ws' (s ++ (c ∷ []))
    there s c a l o =
        let x = s ++ (c ∷ []) in
        kept s c a (new.other (first_with s ws) (key_of (length s) c) (first_lt s ws a) o) ∙ t s c a l
        ∙ target_kept x (λ b. by_bool (starts x p) (λ z. absurd (apart s c o (leaves s c a b z))) (λ z. z))

    old_string : (s : Str) (c : ℕ) → starts_any s ws ≡ true → c < row_size → step_to ws' look' s c ≡ target ws' (s ++ (c ∷ []))
    old_string s c a l =
        by_bool (eqb (first_with s ws) (first_with u ws))
        (λ v. by_bool (eqb (key_of (length s) c) (key_of m d))
        (λ w.
        let q = eqb→eq (first_with s ws) (first_with u ws) (true_eq (eqb (first_with s ws) (first_with u ws)) v) in
        let k = eqb→eq (key_of (length s) c) (key_of m d) (true_eq (eqb (key_of (length s) c) (key_of m d)) w) in
        let e : length s ≡ m = omega arith in
        let f : c ≡ d = omega arith in
        let g : s ≡ u = same_prefix s u (get_or ws (first_with u ws) []) (ap (λ (j : ℕ). starts s (get_or ws j [])) (sym q) ∙ first_is s ws a) (first_is u ws has) (e ∙ sym u_length) in
        subst₂ (λ (y : Str) (j : ℕ). step_to ws' look' y j ≡ target ws' (y ++ (j ∷ []))) (sym g) (sym f) here)
        (λ w. there s c a l (inr (eqb-false (key_of (length s) c) (key_of m d) w))))
        (λ v. there s c a l (inl (eqb-false (first_with s ws) (first_with u ws) v)))

    -- along p
    new_string : (s : Str) (c : ℕ) → starts_any s ws ≡ false → starts s p ≡ true → step_to ws' look' s c ≡ target ws' (s ++ (c ∷ []))
    new_string s c a v =
        let x = s ++ (c ∷ []) in
        let b : starts_any x ws ≡ false = contra (λ z. any_trans s x ws (starts_snoc s c) z) a in
        ap (λ (k : ℕ). next_node (get_or ws' k []) look' k (length s) c) (first_new s ws p a v)
        ∙ ap (λ (w : Str). next_node w look' (length ws) (length s) c) (get_or_at ws p [] [] (length ws) refl)
        ∙ ap₂ (λ (w : Bool) (k : ℕ). cond w (length ws) k) (sym (starts_more s c p v)) (new.row (key_of (length s) c))
        ∙ by_bool (starts x p)
        (λ z. rw (any_snoc x ws p, b, z) (sym (first_new x ws p b z)))
        (λ z. rw (any_snoc x ws p, b, z))

    pub branches_more : Branches ws' look'
    branches_more s c a l =
        by_bool (starts_any s ws)
        (λ b. old_string s c b l)
        (λ b. new_string s c b (sym (any_snoc s ws p ∙ rw b) ∙ a))
