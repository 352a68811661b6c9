-- `exceptions::write_phones` meets its contract.
-- Assumes nothing.
use lib.ListN.{length}
use Prim.Native.Nat.{ℕ, ◌+◌, ◌≤◌}
use mathlib.Core.List.{List}
use Rattle.exceptions.specs.Layout.{phones_ending}
use mathlib.Core.Path.{sym, ap, ◌∙◌, subst}
use native.Mathlib.Omega.{arith}
use lib.Seq.{length-take-le, paste}
use Rattle.exceptions.proofs.Decided.{list_long}
use Rattle.exceptions.proofs.Sizes.{size_is, words_are}
use Rattle.exceptions.proofs.Looking.{list_state}
use borrow.Author.Rules.{rules}
use Rattle.exceptions.proofs.write_phones.Goals as goal

pub slice_bounds-write_phones_words-end : goal.slice_bounds-write_phones_words-end
slice_bounds-write_phones_words-end c = sym (length-take-le 35886 c.args.list.now (let l = list_long _ c.requires.0.lent in omega (arith, size_is)))

pub write_phones_words-requires : goal.write_phones_words-requires
write_phones_words-requires c = (list_state c.args.list.now c.args.q c.requires.0, subst (λ (ws : List ℕ). c.args.at + length (phones_ending ws c.args.q) ≤ length c.args.phones.now) (sym (words_are c.args.list.now)) c.requires.1)

pub returns : goal.returns
returns c = let e = words_are c.args.list.now in
    record {
      count = c.write_phones_words.ensures.count ∙ ap (λ (ws : List ℕ). length (phones_ending ws c.args.q)) e;
      phones = c.write_phones_words.ensures.phones ∙ ap (λ (ws : List ℕ). paste c.args.phones.now c.args.at (phones_ending ws c.args.q) (length (phones_ending ws c.args.q))) e;
    }
