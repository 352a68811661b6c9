-- `compaction::count_marks` meets its contract: the marks passed are counted.
-- Assumes nothing.
use Rattle.std.proofs.Common.{◌≡◌, ℕ, suc, take, rules, count_by, nat_eq}
use mathlib.Core.Bool.{not}
use Rattle.compaction.proofs.Counts.{marked_count}
use mathlib.Core.Path.{◌∙◌}
use Rattle.compaction.proofs.count_marks.Goals as goal

pub returns : goal.returns
returns c =
    let e : c.count.result ≡ count_by (λ (x : ℕ). not (nat_eq x 0)) (take (suc c.args.top) c.args.marks.now) = search rules in
    e ∙ marked_count c.args.marks.now (suc c.args.top) c.requires
