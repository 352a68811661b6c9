-- `file::writing::file_size` meets its contract. The loop's invariant: the sizes of the lines so far are added up.
-- Assumes nothing.
use Prim.Native.Nat.{◌+◌}
use native.Mathlib.Omega.{arith}
use lib.ListN.{length}
use Rattle.image.specs.Image.{classes_of}
use Rattle.image.proofs.Lent.{masks-size}
use Rattle.image.proofs.Tests.{valid_long, valid_count}
use Rattle.file_format.specs.Layout.{head_line_size}
use Rattle.file_format.specs.File.{class_lines}
use Rattle.file.proofs.FileBytes.{sized_start, sized_next, sized_end, classes_few}
use Rattle.file.proofs.writing.file_size.Goals as goal

pub classes_size-n-requires : goal.classes_size-n-requires
classes_size-n-requires c = let n = masks-size c.args.rules.bytes.now (valid_long c.args.rules.bytes.now c.args.rules.sound) _ c.masks.ensures in omega arith

pub loop-i-init : goal.loop-i-init
loop-i-init c = sized_start c.args.rules.bytes.now _ c.masks.ensures c.classes_size-n.result c.classes_size-n.ensures.0

pub rule_size-n-requires : goal.rule_size-n-requires
rule_size-n-requires c = omega arith

pub overflow_add-n-in-loop-i : goal.overflow_add-n-in-loop-i
overflow_add-n-in-loop-i c = let v = valid_count c.args.rules.bytes.now c.args.rules.sound in let k = classes_few c.args.rules.bytes.now c.args.rules.sound in omega (arith, c.loop-i.invariant.small)

pub loop-i-preserved : goal.loop-i-preserved
loop-i-preserved c = let l = c.loop-i in sized_next c.args.rules.bytes.now l.i (omega arith) (head_line_size + length (class_lines (classes_of c.args.rules.bytes.now))) l.n c.rule_size-n.result l.invariant c.rule_size-n.ensures.0 c.rule_size-n.ensures.1

pub returns : goal.returns
returns c = let l = c.loop-i in sized_end c.args.rules.bytes.now l.n l.i l.invariant (omega arith)
