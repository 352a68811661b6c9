-- `speech::phones_fit` meets its contract: as many as parts can have are enough, or they are counted.
-- Assumes nothing.
use Prim.Native.Nat.{ℕ}
use mathlib.Core.Path.{refl, sym, ap}
use native.Mathlib.Omega.{arith}
use borrow.Author.Tests.{le-leb}
use lib.Dec.{leb}
use lib.ListN.{length}
use Rattle.rules.specs.Limits.{max_phones, max_listed_phones}
use Rattle.image.proofs.Entries.{entry_shaped}
use Rattle.speech.specs.Places.{part_at}
use Rattle.speech.proofs.Written.{rule_phones, part_most}
use Rattle.speech.proofs.Counted.{phones_few, only_rules}
use Rattle.speech.proofs.phones_fit.Goals as goal

pub returns-then-parts-room : goal.returns-then-parts-room
returns-then-parts-room c = let a = c.args in
    let h = c.requires in
    sym (le-leb _ a.room (omega (arith, phones_few max_listed_phones (part_at a.rules.bytes.now a.list.now) a.parts.now (λ k u. part_most a.rules.bytes.now a.list.now a.rules.sound _ (h.1 k u)))))

pub returns-then-rules_among-parts : goal.returns-then-rules_among-parts
returns-then-rules_among-parts c = let a = c.args in
    let h = c.requires in
    sym (le-leb _ a.room (omega (
      arith,
      phones_few max_phones (part_at a.rules.bytes.now a.list.now) a.parts.now (λ k u.
          let r = only_rules a.parts.now (omega (arith, c.rules_among.ensures, c.if-rules_among-parts.true)) k u in
          omega (arith, ap length (rule_phones a.rules.bytes.now a.list.now _ _ refl r), (entry_shaped a.rules.bytes.now a.rules.sound _ ((h.1 k u).rule r)).phones-most)),
    )))

pub returns : goal.returns
returns c = ap (λ (n : ℕ). leb n c.args.room) c.phone_count.ensures
