-- `exceptions::judging::names_counted` meets its contract: words that are judged a list are what counting asks for.
-- Assumes nothing.
use mathlib.Core.Path.{◌≡◌, sym, subst}
use Prim.Native.Nat.{ℕ}
use native.Mathlib.Omega.{arith}
use mathlib.Core.Bool.{Bool}
use mathlib.Core.List.{List}
use borrow.Author.Rules.{rules}
use Rattle.minimality.specs.Judging.{Decides}
use Rattle.minimality.proofs.Scan.{holds}
use Rattle.exceptions.specs.Layout.{start_of}
use Rattle.exceptions.specs.Judging.{IsList, listed}
use Rattle.exceptions.proofs.Decided.{listed_decides}
use Rattle.exceptions.proofs.Judged.{no_names, names_found, list_counts}
use Rattle.exceptions.proofs.judging.names_counted.Goals as goal

judged : (ws : List ℕ) (r : Bool) → r ≡ listed ws (start_of ws) → Decides (IsList ws) r
judged ws r e = subst (Decides (IsList ws)) (sym e) (listed_decides ws)

pub returns-then-not-words_listed : goal.returns-then-not-words_listed
returns-then-not-words_listed c = no_names _ _ (judged c.args.words.now c.words_listed.result c.words_listed.ensures) c.if-not-words_listed.true-raw

pub count_names-requires : goal.count_names-requires
count_names-requires c = list_counts _ _ _ (holds _ _ (judged c.args.words.now c.words_listed.result c.words_listed.ensures) c.if-not-words_listed.false-raw) c.start_of.ensures (omega arith)

pub returns : goal.returns
returns c = names_found _ _ _ _ (judged c.args.words.now c.words_listed.result c.words_listed.ensures) c.if-not-words_listed.false-raw c.start_of.ensures c.count_names.ensures
