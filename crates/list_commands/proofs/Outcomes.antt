-- The outcome of each command, by what its calls gave.
-- Assumes nothing.
use Prim.Native.Nat.{ℕ, ◌≤◌}
use mathlib.Core.Path.{◌≡◌, refl, sym, ◌∙◌}
use mathlib.Core.List.{List}
use mathlib.Core.Bool.{true, false, true≢false}
use lib.Dec.{eqb}
use lib.ListN.{length}
use borrow.Author.Tests.{eq-eqb, ne_eqb}
use Rattle.rules.specs.Memory.{over}
use Rattle.rules.specs.Refusals.{Reply, Report}
use Rattle.exceptions.specs.Calls.{emptying, emptied}
use Rattle.change.specs.Change.{Change, Changed}
use Rattle.command_parts.specs.Fields.{four, lent_of}
use Rattle.command_parts.specs.Answers.{leaving, malformed_line, done_line, Answered}
use Rattle.command_parts.proofs.Replies.{Gives, answered_not}
use Rattle.list_commands.specs.ListCommands.{change_line, Changes, add_sized, addition, Adds, empty_line, empty_effect, emptied_by, read_out_line, read_out_in, read_out_by, lent_line, lent_after, Carried}
use Rattle.list_commands.proofs.Lines.{gives_malformed, gives_done}

-- ---- 20, 21 and 24

changes : (c : Change) (list after : List ℕ) (r : Reply) → Changed c list after r → Changes c list (leaving (change_line r after) after)
changes c list after r h = record { reply = r; change = h; answer = refl }

module _ (f list : List ℕ) (len : ℕ) (out out' : List ℕ) where
  pub added_not : add_sized f ≡ false → len ≡ 15 → out' ≡ over malformed_line out → Carried (Adds f list) list len out out'
  added_not p l h =
      let g = gives_malformed len out out' l h in
      record {
        line = malformed_line;
        meets = record { sized = λ e. absurd (true≢false (sym e ∙ p)); short = λ e. refl };
        many = g.0;
        bytes = g.1;
      }

  pub cleared_not : (length f ≡ 1 → ⊥) → len ≡ 15 → out' ≡ over malformed_line out → Answered (emptied_by f list) list len out out'
  unfolding emptied_by
  cleared_not p l h = answered_not (eqb (length f) 1) (empty_effect (emptied list)) list out out' len (ne_eqb (length f) 1 p) l h

  module _ (after : List ℕ) (r : Reply) where
    pub added : add_sized f ≡ true → Changed (addition f) list after r → Gives (change_line r after) len out out' → Carried (Adds f list) after len out out'
    added p h g =
        record {
          line = change_line r after;
          meets = record { sized = λ e. changes (addition f) list after r h; short = λ e. absurd (true≢false (sym p ∙ e)) };
          many = g.0;
          bytes = g.1;
        }

    pub changed : (c : Change) → Changed c list after r → Gives (change_line r after) len out out' → Carried (Changes c list) after len out out'
    changed c h g = record { line = change_line r after; meets = changes c list after r h; many = g.0; bytes = g.1 }

    pub cleared : length f ≡ 1 → emptying r after ≡ emptied list → Gives (empty_line r) len out out' → Answered (emptied_by f list) after len out out'
    unfolding emptied_by
    cleared p e g = rw (eq-eqb (length f) 1 p, ← e) (record { left = refl; many = g.0; bytes = g.1 })

-- ---- 22

module _ (f list text : List ℕ) (len : ℕ) (out out' : List ℕ) where
  pub read_not : (length f ≡ 5 → ⊥) → len ≡ 15 → out' ≡ over malformed_line out → Answered (read_out_by f list text) text len out out'
  unfolding read_out_by
  read_not p l h =
      answered_not (eqb (length f) 5) (read_out_in (lent_of (four 1 f) (length text)) list text) text out out' len (ne_eqb (length f) 5 p) l h

  pub read : (n i : ℕ) (r : Report) (after : List ℕ) → length f ≡ 5 → n ≡ lent_of i (length text) → i ≡ four 1 f
      → leaving (read_out_line r) after ≡ read_out_in n list text → Gives (read_out_line r) len out out' → Answered (read_out_by f list text) after len out out'
  unfolding read_out_by
  read n i r after p en ei e g = rw (eq-eqb (length f) 5 p, ← ei, ← en, ← e) (record { left = refl; many = g.0; bytes = g.1 })

-- ---- 25

-- how many units are lent, and what is answered
abbrev Lends : List ℕ → ℕ → ℕ → ℕ → ℕ → List ℕ → List ℕ → Type 0
Lends f there lent n len out out' = (n ≡ lent_after f there lent) × ((n ≤ there) × Gives (lent_line f) len out out')

module _ (f : List ℕ) (there lent len : ℕ) (out out' : List ℕ) where
  pub lent_not : (length f ≡ 5 → ⊥) → lent ≤ there → len ≡ 15 → out' ≡ over malformed_line out → Lends f there lent lent len out out'
  unfolding lent_after lent_line
  lent_not p w l h = rw (ne_eqb (length f) 5 p) (refl, (w, gives_malformed len out out' l h))

  pub lent_so : (n i : ℕ) → length f ≡ 5 → n ≡ lent_of i there → i ≡ four 1 f → n ≤ there → len ≡ 5 → out' ≡ over done_line out → Lends f there lent n len out out'
  unfolding lent_after lent_line
  lent_so n i p en ei w l h = rw (eq-eqb (length f) 5 p, ← ei, ← en) (refl, (w, gives_done len out out' l h))
