-- The edits of document 01's ledger and of document 02's requests 5 and 6: their refusals in order, and the state after them. Places count from 0.
-- Assumes nothing.
use Rattle.std.specs.Prelude.{cond, ℕ, suc, ◌+◌, List, [], ◌∷◌, length, leb, ltb, eqb}
use Rattle.rules.specs.Limits.{max_rules, max_number, max_edits}
use Rattle.rules.specs.Shape.{shape, view}
use Rattle.rules.specs.Refusals.{Reply, accepted, declined}
use Rattle.rules.specs.declared.Rule.{Rule}
use Rattle.rules.specs.declared.Numbered.{Numbered}
use Rattle.classes.specs.Classes.{defined}
use Rattle.classes.specs.Expansion.{literal_count, literal_total}
use Rattle.classes.specs.Setting.{with_class, settable}
use Rattle.image.specs.State.{Ledger, rules_of, relist, insert_at, remove_at, relocated}

pub data Edit : Type 0 where
  Add : Rule → ℕ → Edit
  Drop : ℕ → Edit
  Move : ℕ → ℕ → Edit
  -- a class symbol and its letters
  SetClass : ℕ → List ℕ → Edit

-- the place of the rule numbered n, or the length where there is none
abbrev pub place_of : ℕ → List Numbered → ℕ
place_of n [] = 0
place_of n (x ∷ l) = cond (eqb x.number n) 0 (suc (place_of n l))

-- 23, the last check of every addition, drop and move: the edit count is spent
abbrev pub countable : Ledger → Reply
countable g = cond (ltb g.edits max_edits) accepted (declined 23 0)

-- the answer of an edit: Add 6, 20 (a class that it uses is undefined), 7, 21 (more than 512 literal rules after it), 10, 23; Drop 8, 23; Move
-- 8, 7 (against the remaining list), 23; SetClass 20
unfoldable pub judged : Ledger → Edit → Reply
judged g (Add r p) =
    cond (shape (view r))
    (cond (defined g.classes (view r))
    (cond (leb p (length g.list))
    (cond (leb (literal_count g.classes (view r) + literal_total g.classes (rules_of g)) max_rules)
    (cond (ltb g.last max_number) (countable g) (declined 10 0))
    (declined 21 0))
    (declined 7 0))
    (declined 20 0))
    (declined 6 0)
judged g (Drop n) = cond (ltb (place_of n g.list) (length g.list)) (countable g) (declined 8 0)
judged g (Move n p) =
    cond (ltb (place_of n g.list) (length g.list))
    (cond (leb p (length (remove_at (place_of n g.list) g.list))) (countable g) (declined 7 0))
    (declined 8 0)
judged g (SetClass c l) = cond (settable (rules_of g) c l) accepted (declined 20 0)

-- the state after an accepted edit: additions, drops and moves are counted, by `relist`
abbrev pub applied : Ledger → Edit → Ledger
applied g (Add r p) = relist g (insert_at p (record { number = g.last + 1; rule = r }) g.list) (g.last + 1)
applied g (Drop n) = relist g (remove_at (place_of n g.list) g.list) g.last
applied g (Move n p) = relist g (relocated (place_of n g.list) p g.list) g.last
applied g (SetClass c l) = record { list = g.list; last = g.last; classes = with_class g.classes c l; edits = g.edits }

-- the state after an edit that was answered so: a refused one changes nothing
abbrev pub after_by : Reply → Ledger → Edit → Ledger
after_by accepted g e = applied g e
after_by (declined n p) g e = g

abbrev pub after : Ledger → Edit → Ledger
after g e = after_by (judged g e) g e

-- the state and the answers of a list of edits, taken in turn
abbrev pub after_all : Ledger → List Edit → Ledger
after_all g [] = g
after_all g (e ∷ es) = after_all (after g e) es

abbrev pub answers_all : Ledger → List Edit → List Reply
answers_all g [] = []
answers_all g (e ∷ es) = judged g e ∷ answers_all (after g e) es

-- the numbers that the accepted additions among the edits got, in turn: the `last` after each
abbrev pub issued_by : Reply → Edit → ℕ → List ℕ → List ℕ
issued_by accepted (Add r p) n l = n ∷ l
issued_by accepted (Drop m) n l = l
issued_by accepted (Move m p) n l = l
issued_by accepted (SetClass c m) n l = l
issued_by (declined x y) e n l = l

abbrev pub issued : Ledger → List Edit → List ℕ
issued g [] = []
issued g (e ∷ es) = issued_by (judged g e) e (after g e).last (issued (after g e) es)

-- how many of the edits are accepted additions, drops and moves
abbrev pub counted_by : Reply → Edit → ℕ
counted_by accepted (Add r p) = 1
counted_by accepted (Drop n) = 1
counted_by accepted (Move n p) = 1
counted_by accepted (SetClass c l) = 0
counted_by (declined x y) e = 0

abbrev pub counted : Ledger → List Edit → ℕ
counted g [] = 0
counted g (e ∷ es) = counted_by (judged g e) e + counted (after g e) es
