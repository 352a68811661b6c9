-- `reading::read_name` meets its contract: the image's test, the list's, then the name's reading.
-- Assumes nothing.
use mathlib.Core.Path.{◌≡◌, sym, ap, ◌∙◌, subst}
use mathlib.Core.List.{List}
use mathlib.Core.Bool.{true}
use Prim.Native.Nat.{ℕ}
use Rattle.image.specs.Image.{valid}
use Rattle.exceptions.specs.Judging.{listing_of}
use Rattle.speech.specs.Speech.{plain_said}
use Rattle.reading.proofs.Plain.{said_invalid, said_none}
use Rattle.reading.proofs.read_name.Goals as goal

pub returns-in_default : goal.returns-in_default
returns-in_default c = let a = c.args in
    said_invalid a.image.now _ a.name.now a.phones.now a.numbers.now c.in_default.ensures

pub returns-then-not-is_list : goal.returns-then-not-is_list
returns-then-not-is_list c = let a = c.args in
    said_none a.image.now a.list.now a.name.now a.phones.now a.numbers.now (subst (λ (d : List ℕ). valid d ≡ true) c.in-Some.ensures c.in-Some.rules.sound) (sym c.is_list.ensures ∙ c.if-not-is_list.true)

pub read_known-requires : goal.read_known-requires
read_known-requires c = sym c.is_list.ensures ∙ c.if-not-is_list.false

pub returns : goal.returns
returns c = let a = c.args in
    c.read_known.ensures ∙ ap (λ (d : List ℕ). plain_said d (listing_of a.list.now) a.name.now a.phones.now a.numbers.now) c.in-Some.ensures
