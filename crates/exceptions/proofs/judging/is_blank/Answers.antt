-- `exceptions::judging::is_blank` meets its contract.
-- Assumes nothing.
-- the tests, one after another
use mathlib.Core.Path.{◌≡◌, sym, ◌∙◌}
use Prim.Native.Nat.{ℕ}
use native.Mathlib.Omega.{arith}
use mathlib.Core.Bool.{false}
use mathlib.Core.List.{List}
use borrow.Author.Rules.{rules}
use borrow.Author.Tests.{eq-eqb, ne_eqb}
use lib.Dec.{eqb}
use lib.ListN.{get_or}
use Rattle.exceptions.specs.Layout.{start_of}
use Rattle.exceptions.specs.Judging.{blank}
use Rattle.exceptions.proofs.Sizes.{size_is}
use Rattle.exceptions.proofs.judging.is_blank.Goals as goal

other-start : (ws : List ℕ) → (start_of ws ≡ 0 → ⊥) → false ≡ blank ws
unfolding blank
other-start ws ne = rw (ne_eqb (start_of ws) 0 ne)

other_place : (ws : List ℕ) → start_of ws ≡ 0 → (get_or ws 0 0 ≡ 4200 → ⊥) → false ≡ blank ws
unfolding blank
other_place ws e ne = rw (eq-eqb (start_of ws) 0 e) (rw (ne_eqb (get_or ws 0 0) 4200 ne))

last-test : (ws : List ℕ) → start_of ws ≡ 0 → get_or ws 0 0 ≡ 4200 → eqb (get_or ws 1 0) 4200 ≡ blank ws
unfolding blank
last-test ws e f = rw (eq-eqb (start_of ws) 0 e) (rw (eq-eqb (get_or ws 0 0) 4200 f))

pub returns-then-start_of-ne0 : goal.returns-then-start_of-ne0
returns-then-start_of-ne0 c = other-start _ (λ e. c.if-start_of-ne0.true (c.start_of.ensures ∙ e))

pub bounds-words-0 : goal.bounds-words-0
bounds-words-0 c = omega (arith, size_is)

pub returns-then-words-ne-FIRST_CELL : goal.returns-then-words-ne-FIRST_CELL
returns-then-words-ne-FIRST_CELL c = other_place _ (sym c.start_of.ensures ∙ c.if-start_of-ne0.false) c.if-words-ne-FIRST_CELL.true

pub bounds-words-1 : goal.bounds-words-1
bounds-words-1 c = omega (arith, size_is)

pub returns : goal.returns
returns c = last-test _ (sym c.start_of.ensures ∙ c.if-start_of-ne0.false) c.if-words-ne-FIRST_CELL.false
