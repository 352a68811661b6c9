-- `image::put_rule` meets its contract: its number, then its bytes.
-- Assumes nothing.
use mathlib.Core.Path.{◌≡◌}
use native.Mathlib.Omega.{arith}
use lib.ListN.{length}
use Rattle.rules.specs.Limits.{max_context, max_target, max_phones}
use Rattle.image.proofs.Bytes.{slot_stored}
use borrow.Author.Rules.{rules}
use Rattle.image.proofs.put_rule.Goals as goal

pub returns : goal.returns
returns c = let r = c.args.x.rule in
    let a : length r.left ≡ max_context = search rules in
    let b : length r.target ≡ max_target = search rules in
    let d : length r.right ≡ max_context = search rules in
    let e : length r.phones ≡ max_phones = search rules in
    slot_stored c.args.image.now _ _ c.args.place c.args.x (omega arith) (a, (b, (d, e))) c.put_number.ensures c.put_rule.ensures
