-- `file::write_file` meets its contract: the refusals in turn, then the file.
-- Assumes nothing.
use Prim.Native.Nat.{ℕ}
use mathlib.Core.List.{List}
use mathlib.Core.Path.{ap, ◌∙◌}
use native.Mathlib.Omega.{arith}
use Rattle.file.specs.Loading.{filed}
use Rattle.file.proofs.FileBytes.{write_none, write_room, write_done}
use Rattle.file.proofs.write_file.Goals as goal

pub returns-in_default : goal.returns-in_default
returns-in_default c = write_none c.args.image.now c.args.out.now c.in_default.ensures

pub returns-then-out-needed : goal.returns-then-out-needed
returns-then-out-needed c = let r = c.in-Some.rules in
    write_room r.bytes.now c.args.out.now r.sound c.file_size-needed.result c.file_size-needed.ensures c.if-out-needed.true ∙ ap (λ (d : List ℕ). filed d c.args.out.now) c.in-Some.ensures

pub write_ruleset-requires : goal.write_ruleset-requires
write_ruleset-requires c = omega arith

pub returns : goal.returns
returns c = let r = c.in-Some.rules in
    write_done r.bytes.now c.args.out.now r.sound c.file_size-needed.result c.file_size-needed.ensures c.if-out-needed.false _ c.write_ruleset.ensures ∙ ap (λ (d : List ℕ). filed d c.args.out.now) c.in-Some.ensures
