-- Setting a class that no rule of a list uses changes none of its literal rules: tables, sets, places and readings stay.
-- Assumes nothing.
use Prim.Native.Nat.{ℕ, suc, ◌+◌, ◌*◌}
use mathlib.Core.Path.{◌≡◌, refl, sym, ap, ap₂, ◌∙◌}
use mathlib.Core.List.{List, [], ◌∷◌, ◌++◌, map}
use mathlib.Core.Bool.{Bool, false, cond}
use lib.Dec.{eqb, ltb, leb}
use lib.ListN.{length}
use Rattle.rules.proofs.Cases.{or_l, or_r}
use Rattle.rules.specs.Shape.{Production, Entry}
use Rattle.classes.specs.Classes.{Classes, is_in, letters, defined}
use Rattle.classes.specs.Expansion.{grid, choices, size, within, literals, literal_count, under, expand, literal_total}
use Rattle.classes.specs.Ordinal.{Origin, origin_run, origins}
use Rattle.classes.specs.Setting.{with_class, rule_uses, list_uses}
use Rattle.classes.proofs.Counts.{defined_count}

module _ (k : Classes) (c : ℕ) (l : List ℕ) where
  letters_kept : (x : ℕ) → eqb x c ≡ false → letters (with_class k c l) x ≡ letters k x
  letters_kept x e = ap (λ (b : Bool). cond (ltb x 64) (x ∷ []) (cond b l (k x))) e

  pub choices_kept : (s : List ℕ) → is_in c s ≡ false → choices (with_class k c l) s ≡ choices k s
  choices_kept [] e = refl
  choices_kept (x ∷ s) e =
      ap₂ (λ (u : List ℕ) (v : List (List ℕ)). grid (λ (a : ℕ) (w : List ℕ). a ∷ w) u v) (letters_kept x (or_l (eqb x c) (is_in c s) e)) (choices_kept s (or_r (eqb x c) (is_in c s) e))

  pub size_kept : (s : List ℕ) → is_in c s ≡ false → size (with_class k c l) s ≡ size k s
  size_kept [] e = refl
  size_kept (x ∷ s) e = ap₂ (λ (u : List ℕ) (v : ℕ). length u * v) (letters_kept x (or_l (eqb x c) (is_in c s) e)) (size_kept s (or_r (eqb x c) (is_in c s) e))

  pub count_kept : (r : Production) → rule_uses c r ≡ false → literal_count (with_class k c l) r ≡ literal_count k r
  count_kept r e =
      ap₂ ◌*◌ (size_kept r.left (or_l (is_in c r.left) (is_in c r.right) e)) (size_kept r.right (or_r (is_in c r.left) (is_in c r.right) e))

  pub defined_kept : (r : Production) → rule_uses c r ≡ false → defined (with_class k c l) r ≡ defined k r
  defined_kept r e = defined_count (with_class k c l) r ∙ (ap (leb 1) (count_kept r e) ∙ sym (defined_count k r))

  pub literals_kept : (r : Production) → rule_uses c r ≡ false → literals (with_class k c l) r ≡ literals k r
  literals_kept r e =
      ap₂ (λ (u v : List (List ℕ)). grid (within r) u v) (choices_kept r.left (or_l (is_in c r.left) (is_in c r.right) e)) (choices_kept r.right (or_r (is_in c r.left) (is_in c r.right) e))

  pub expand_kept : (rules : List Entry) → list_uses c rules ≡ false → expand (with_class k c l) rules ≡ expand k rules
  expand_kept [] e = refl
  expand_kept (x ∷ xs) e =
      ap₂ (λ (u : List Production) (v : List Entry). map (under x.number) u ++ v) (literals_kept x.rule (or_l (rule_uses c x.rule) (list_uses c xs) e)) (expand_kept xs (or_r (rule_uses c x.rule) (list_uses c xs) e))

  pub total_kept : (rules : List Entry) → list_uses c rules ≡ false → literal_total (with_class k c l) rules ≡ literal_total k rules
  total_kept [] e = refl
  total_kept (x ∷ xs) e =
      ap₂ ◌+◌ (count_kept x.rule (or_l (rule_uses c x.rule) (list_uses c xs) e)) (total_kept xs (or_r (rule_uses c x.rule) (list_uses c xs) e))

  -- where they come from too
  pub origins_kept : (q : ℕ) (rules : List Entry) → list_uses c rules ≡ false → origins (with_class k c l) q rules ≡ origins k q rules
  origins_kept q [] e = refl
  origins_kept q (x ∷ xs) e =
      ap₂ (λ (n : ℕ) (v : List Origin). origin_run q 0 n ++ v) (count_kept x.rule (or_l (rule_uses c x.rule) (list_uses c xs) e)) (origins_kept (suc q) xs (or_r (rule_uses c x.rule) (list_uses c xs) e))
