-- Every marked row is reached by a name, so that no automaton of at most 4,096 states says the same where more rows are marked.
-- Assumes nothing.
use mathlib.Core.Path.{◌≡◌, sym, ap, ◌∙◌}
use Prim.Native.Nat.{ℕ, zero, suc, ◌+◌, ◌-◌, ◌≤◌, ◌<◌}
use native.Mathlib.Nat.{not-suc-le-zero}
use native.Mathlib.Omega.{arith}
use mathlib.Core.List.{List, [], ◌∷◌, ◌++◌}
use lib.ListN.{get_or}
use Rattle.rules.specs.Limits.{max_states}
use Rattle.automaton.specs.Automaton.{Str, Rows, rows_of, end_state, look, Letters, Sound}
use Rattle.automaton.proofs.Tests.{by_same, by_nat}
use Rattle.compaction.specs.Compaction.{Under, Spread, marked}
use Rattle.change.specs.Steps.{Crowded}
use Rattle.change.proofs.Fewest.{end_on, letters_on, fewest}

-- a name leads from the start to row x
abbrev WordTo : Rows → ℕ → ℕ → Type 0
WordTo f n x = (w : Str) × Letters w × (end_state f n w ≡ x)

-- one letter more
longer : (f : Rows) (n j c x : ℕ) → WordTo f n j → 0 < c → c < 64 → f j c ≡ x → WordTo f n x
longer f n j c x (w, t, e) p l g = (w ++ (c ∷ []), letters_on w (c ∷ []) t (p, l, tt), end_on f n w (c ∷ []) ∙ (ap (λ (v : ℕ). f v c) e ∙ g))

module _ (ws m : List ℕ) (top : ℕ) (s : Sound (rows_of ws) top) (sp : Spread ws top 0 m) where
  some_letter : (j c : ℕ) → j ≤ top → 0 < rows_of ws j c → 0 < c
  some_letter j c h o = by_nat c (λ z. let u = s.unused j h in let v : rows_of ws j c ≡ rows_of ws j 0 = ap (rows_of ws j) z in absurd (omega arith)) (λ y g. omega arith)

  from_before : (x : ℕ) → 0 < x → ((j : ℕ) × (j ≤ top) × (0 < get_or m j 0) × Under ws j x) → ((j : ℕ) → x < j → j ≤ top → 0 < get_or m j 0 → WordTo (rows_of ws) top j) → WordTo (rows_of ws) top x
  from_before x p (j, k, i, (c, d, g)) a =
      let y = s.earlier j c k d in
      longer (rows_of ws) top j c x (a j (omega arith) k i) (some_letter j c k (omega arith)) d g

  word_within : (b x : ℕ) → top - x < b → 0 < x → x ≤ top → 0 < get_or m x 0 → WordTo (rows_of ws) top x
  word_within zero x h p l o = absurd (not-suc-le-zero h)
  word_within (suc b) x h p l o =
      by_same x top
      (λ e. ([], tt, sym e))
      (λ e. from_before x p (sp.why x p (omega arith) o) (λ j y k i. word_within b j (omega arith) (omega arith) k i))

  pub crowded : suc max_states < marked (λ x. get_or m x 0) (suc top) → (M : Str → Str) → ((w : Str) → Letters w → look (rows_of ws) top w ≡ M w) → Crowded M
  crowded h M a k l b =
      let e = fewest (rows_of ws) top k s M a b (λ x. get_or m x 0) (λ x p o q. word_within (suc (top - x)) x (omega arith) p o q) in
      omega arith
