-- `exceptions::look_up` meets its contract.
-- Assumes nothing.
use Rattle.exceptions.specs.Layout.{phones_for}
use Rattle.exceptions.specs.Calls.{looked_up}
use Rattle.exceptions.proofs.Sizes.{size_is, words_are}
use Rattle.exceptions.proofs.Names.{sound_letters}
use Rattle.exceptions.proofs.Decided.{list_long}
use Rattle.exceptions.proofs.Looking.{list_words}
use mathlib.Core.Path.{sym, ap, ◌∙◌}
use mathlib.Core.List.{List}
use Prim.Native.Nat.{ℕ}
use lib.Seq.{length-take-le}
use native.Mathlib.Omega.{arith}
use borrow.Author.Rules.{rules}
use Rattle.exceptions.proofs.look_up.Goals as goal

pub slice_bounds-look_up_words-end : goal.slice_bounds-look_up_words-end
slice_bounds-look_up_words-end c = sym (length-take-le 35886 c.args.list.now (let l = list_long _ c.requires.0 in omega (arith, size_is)))

pub look_up_words-requires : goal.look_up_words-requires
look_up_words-requires c = ((list_words c.args.list.now c.requires.0).0, (list_words c.args.list.now c.requires.0).1, sound_letters _ c.requires.1)

pub returns : goal.returns
returns c = c.look_up_words.ensures ∙ ap (λ (w : List ℕ). looked_up (phones_for w c.args.name.now) c.args.phones.now) (words_are _)
