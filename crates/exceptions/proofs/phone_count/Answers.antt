-- `exceptions::phone_count` meets its contract.
-- Assumes nothing.
use lib.ListN.{length}
use Prim.Native.Nat.{ℕ}
use mathlib.Core.List.{List}
use Rattle.exceptions.specs.Layout.{phones_ending}
use mathlib.Core.Path.{sym, ap, ◌∙◌}
use native.Mathlib.Omega.{arith}
use lib.Seq.{length-take-le}
use Rattle.exceptions.proofs.Decided.{list_long}
use Rattle.exceptions.proofs.Sizes.{size_is, words_are}
use Rattle.exceptions.proofs.Looking.{list_state}
use Rattle.exceptions.proofs.phone_count.Goals as goal

pub slice_bounds-located-end : goal.slice_bounds-located-end
slice_bounds-located-end c = sym (length-take-le 35886 c.args.list.now (let l = list_long _ c.requires.lent in omega (arith, size_is)))

pub located-found-requires : goal.located-found-requires
located-found-requires c = list_state c.args.list.now c.args.q c.requires

pub returns : goal.returns
returns c = (c.located-found.ensures.count ∙ ap (λ (ws : List ℕ). length (phones_ending ws c.args.q)) (words_are c.args.list.now), c.located-found.ensures.few)
