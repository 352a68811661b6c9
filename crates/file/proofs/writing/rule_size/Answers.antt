-- `file::writing::rule_size` meets its contract.
-- Assumes nothing.
use native.Mathlib.Omega.{arith}
use Rattle.image.specs.Image.{entry_at}
use Rattle.file.proofs.RuleBytes.{Fields, all_short, size_is}
use Rattle.file.proofs.writing.rule_size.Goals as goal

pub overflow_add-result : goal.overflow_add-result
overflow_add-result c = let a = c.args in
    let h = c.requires in
    let f : Fields (entry_at a.rules.bytes.now a.place) _ _ _ _ = record { left = c.left_at-left.ensures; target = c.target_at-target.ensures; right = c.right_at-right.ensures; phones = c.phones_at-phones.ensures } in
    omega (arith, all_short a.rules.bytes.now a.rules.sound a.place h _ _ _ _ f)

pub overflow_add-result-2 : goal.overflow_add-result-2
overflow_add-result-2 c = let a = c.args in
    let h = c.requires in
    let f : Fields (entry_at a.rules.bytes.now a.place) _ _ _ _ = record { left = c.left_at-left.ensures; target = c.target_at-target.ensures; right = c.right_at-right.ensures; phones = c.phones_at-phones.ensures } in
    omega (arith, all_short a.rules.bytes.now a.rules.sound a.place h _ _ _ _ f)

pub overflow_add-result-3 : goal.overflow_add-result-3
overflow_add-result-3 c = let a = c.args in
    let h = c.requires in
    let f : Fields (entry_at a.rules.bytes.now a.place) _ _ _ _ = record { left = c.left_at-left.ensures; target = c.target_at-target.ensures; right = c.right_at-right.ensures; phones = c.phones_at-phones.ensures } in
    omega (arith, all_short a.rules.bytes.now a.rules.sound a.place h _ _ _ _ f)

pub overflow_mul-result : goal.overflow_mul-result
overflow_mul-result c = let a = c.args in
    let h = c.requires in
    let f : Fields (entry_at a.rules.bytes.now a.place) _ _ _ _ = record { left = c.left_at-left.ensures; target = c.target_at-target.ensures; right = c.right_at-right.ensures; phones = c.phones_at-phones.ensures } in
    omega (arith, all_short a.rules.bytes.now a.rules.sound a.place h _ _ _ _ f)

pub overflow_add-result-4 : goal.overflow_add-result-4
overflow_add-result-4 c = let a = c.args in
    let h = c.requires in
    let f : Fields (entry_at a.rules.bytes.now a.place) _ _ _ _ = record { left = c.left_at-left.ensures; target = c.target_at-target.ensures; right = c.right_at-right.ensures; phones = c.phones_at-phones.ensures } in
    omega (arith, all_short a.rules.bytes.now a.rules.sound a.place h _ _ _ _ f)

pub returns : goal.returns
returns c = let a = c.args in
    let h = c.requires in
    let f : Fields (entry_at a.rules.bytes.now a.place) _ _ _ _ = record { left = c.left_at-left.ensures; target = c.target_at-target.ensures; right = c.right_at-right.ensures; phones = c.phones_at-phones.ensures } in
    size_is a.rules.bytes.now a.rules.sound a.place h _ _ _ _ f _ (omega arith)
