-- `file::writing::write_ruleset` meets its contract: the head, then the classes, then the rules.
-- Assumes nothing.
use native.Mathlib.Omega.{arith}
use Rattle.image.proofs.Lent.{masks-size}
use Rattle.image.proofs.Tests.{valid_long, valid_count}
use Rattle.file.proofs.FileBytes.{head_room, headed_room, classed_room, ruleset_written}
use Rattle.file.proofs.writing.write_ruleset.Goals as goal

pub write_head-requires : goal.write_head-requires
write_head-requires c = let v = valid_count c.args.rules.bytes.now c.args.rules.sound in (omega arith, omega (arith, head_room c.args.rules.bytes.now))

pub write_classes-at-requires : goal.write_classes-at-requires
write_classes-at-requires c = let a = c.args in let p = c.requires in let n = masks-size a.rules.bytes.now (valid_long a.rules.bytes.now a.rules.sound) _ c.masks.ensures in (omega arith, (c.digit_pairs-pairs.ensures, headed_room a.rules.bytes.now a.out.now p c.rule_count-count.result c.last_issued-last.result c.rule_count-count.ensures c.last_issued-last.ensures _ c.write_head.ensures _ c.masks.ensures))

pub write_rules-requires : goal.write_rules-requires
write_rules-requires c = let a = c.args in let p = c.requires in (c.digit_pairs-pairs.ensures, classed_room a.rules.bytes.now a.out.now p c.rule_count-count.result c.last_issued-last.result c.rule_count-count.ensures c.last_issued-last.ensures _ c.write_head.ensures _ c.masks.ensures _ c.write_classes-at.result c.write_classes-at.ensures.bytes c.write_classes-at.ensures.next)

pub returns : goal.returns
returns c = let a = c.args in let p = c.requires in ruleset_written a.rules.bytes.now a.out.now p c.rule_count-count.result c.last_issued-last.result c.rule_count-count.ensures c.last_issued-last.ensures _ c.write_head.ensures _ c.masks.ensures _ c.write_classes-at.result c.write_classes-at.ensures.bytes c.write_classes-at.ensures.next _ c.write_rules.ensures
