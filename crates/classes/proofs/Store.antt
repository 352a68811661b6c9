-- A choice as a function stores it, from its end.
-- Assumes nothing.
use Prim.Native.Nat.{ℕ, suc, ◌-◌, ◌/◌, ◌%◌, ◌≤◌, ◌<◌}
use mathlib.Core.Path.{◌≡◌, sym, ap, ◌∙◌, subst}
use mathlib.Core.List.{List, [], ◌∷◌, ◌++◌, append_assoc}
use native.Mathlib.Nat.{div-one, div-div-eq-div-mul, mul_comm}
use native.Mathlib.Omega.{arith}
use lib.ListN.{length, get_or, take, drop, set, length-append, length-drop, drop_of_length-le, take-append-drop}
use lib.Seq.{drop-cons, take-suc, set_at, length-take-le}
use Rattle.rules.specs.Memory.{over}
use Rattle.classes.specs.Classes.{Classes, letters}
use Rattle.classes.specs.Expansion.{size}
use Rattle.classes.specs.Ordinal.{choice_at}
use Rattle.classes.proofs.Ordinal.{choice_cons, choice_none, choice_long, size_at, size_drop}

-- the symbols from i on are stored

abbrev pub choice_from : Classes → List ℕ → ℕ → List ℕ → ℕ → List ℕ
choice_from k run j out i = take i out ++ (choice_at k (drop i run) j ++ drop (length run) out)

module _ (k : Classes) (run : List ℕ) (ok : 1 ≤ size k run) (j : ℕ) (out : List ℕ) (room : length run ≤ length out) where
  abbrev tail_of : ℕ → List ℕ
  tail_of i = choice_at k (drop i run) j

  abbrev filled : ℕ → List ℕ
  filled i = choice_from k run j out i

  pub fill-begin : out ≡ filled (length run)
  fill-begin =
      let e = drop_of_length-le run {i = length run} (omega arith) in
      sym (ap (λ (w : List ℕ). take (length run) out ++ (choice_at k w j ++ drop (length run) out)) e
      ∙ (ap (λ (w : List ℕ). take (length run) out ++ (w ++ drop (length run) out)) (choice_none k j) ∙ take-append-drop (length run) out))

  pub quotient_begin : j ≡ j / size k (drop (length run) run)
  quotient_begin = sym (ap (λ (s : List ℕ). j / size k s) (drop_of_length-le run {i = length run} (omega arith)) ∙ div-one j)

  module _ (i : ℕ) (h : 0 < i) (g : i ≤ length run) where
    front : drop (i - 1) run ≡ get_or run (i - 1) 0 ∷ drop i run
    front = drop-cons run (i - 1) 0 (omega arith) ∙ (let s : suc (i - 1) ≡ i = omega arith in ap (λ (n : ℕ). get_or run (i - 1) 0 ∷ drop n run) s)

    pub symbol_some : 1 ≤ length (letters k (get_or run (i - 1) 0))
    symbol_some = size_at k run (i - 1) ok (omega arith)

    module _ (q : ℕ) (e : q ≡ j / size k (drop i run)) where
      pub quotient_next : (r : ℕ) → r ≡ q / length (letters k (get_or run (i - 1) 0)) → r ≡ j / size k (drop (i - 1) run)
      quotient_next r er =
          let n = length (letters k (get_or run (i - 1) 0)) in
          er ∙ (ap (λ (x : ℕ). x / n) e
          ∙ (div-div-eq-div-mul j (size k (drop i run)) n
          ∙ (ap (λ (x : ℕ). j / x) (mul_comm (size k (drop i run)) n) ∙ ap (λ (s : List ℕ). j / size k s) (sym front))))

      tail_next : (y : ℕ) → y ≡ get_or (letters k (get_or run (i - 1) 0)) (q % length (letters k (get_or run (i - 1) 0))) 0 → y ∷ tail_of i ≡ tail_of (i - 1)
      tail_next y ey =
          let n = length (letters k (get_or run (i - 1) 0)) in
          let z : 1 ≤ size k (get_or run (i - 1) 0 ∷ drop i run) = subst (λ (x : List ℕ). 1 ≤ size k x) front (size_drop k run (i - 1) ok) in
          ap (λ (x : ℕ). x ∷ tail_of i) (ey ∙ ap (λ (x : ℕ). get_or (letters k (get_or run (i - 1) 0)) (x % n) 0) e)
          ∙ (sym (choice_cons k (get_or run (i - 1) 0) (drop i run) j z) ∙ ap (λ (x : List ℕ). choice_at k x j) (sym front))

      pub fill-next : (s : List ℕ) → s ≡ filled i → (y : ℕ) → y ≡ get_or (letters k (get_or run (i - 1) 0)) (q % length (letters k (get_or run (i - 1) 0))) 0
          → set s (i - 1) y ≡ filled (i - 1)
      fill-next s es y ey =
          let u : suc (i - 1) ≡ i = omega arith in
          let a : take i out ≡ take (i - 1) out ++ (get_or out (i - 1) 0 ∷ []) = ap (λ (n : ℕ). take n out) (sym u) ∙ take-suc out (i - 1) 0 (omega arith) in
          let b : filled i ≡ take (i - 1) out ++ (get_or out (i - 1) 0 ∷ (tail_of i ++ drop (length run) out)) =
          ap (λ (w : List ℕ). w ++ (tail_of i ++ drop (length run) out)) a ∙ append_assoc (take (i - 1) out) (get_or out (i - 1) 0 ∷ []) (tail_of i ++ drop (length run) out) in
          ap (λ (w : List ℕ). set w (i - 1) y) (es ∙ b)
          ∙ (set_at (take (i - 1) out) (get_or out (i - 1) 0) (tail_of i ++ drop (length run) out) y (i - 1) (length-take-le (i - 1) out (omega arith))
          ∙ ap (λ (w : List ℕ). take (i - 1) out ++ (w ++ drop (length run) out)) (tail_next y ey))

  pub filled_long : (i : ℕ) → i ≤ length run → length (filled i) ≡ length out
  filled_long i h =
      let c = choice_long k (drop i run) j (size_drop k run i ok) in
      omega (arith, length-append (take i out) (tail_of i ++ drop (length run) out), length-append (tail_of i) (drop (length run) out), length-take-le i out (omega arith), c, length-drop i run, length-drop (length run) out)

  pub fill_end : filled 0 ≡ over (choice_at k run j) out
  fill_end = ap (λ (n : ℕ). choice_at k run j ++ drop n out) (sym (choice_long k run j ok))
