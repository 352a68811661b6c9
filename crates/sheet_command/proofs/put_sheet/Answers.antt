-- `sheet_command::put_sheet` meets its contract: the cases of its answer.
-- Assumes nothing.
use mathlib.Core.Path.{ap}
use native.Mathlib.Omega.{arith}
use Rattle.rules.specs.Refusals.{reply_of}
use Rattle.sheet.specs.Sheet.{sheet_said}
use Rattle.sheet_command.proofs.Sheets.{put_accepted, put_refused}
use Rattle.sheet_command.proofs.put_sheet.Goals as goal

pub overflow_add-result : goal.overflow_add-result
overflow_add-result c = let h = c.requires in
    omega (arith, c.sheet_line-at.ensures.len, c.name_lines-lines.ensures.short, h.1, h.2, h.4.few)

pub returns-in-Ok : goal.returns-in-Ok
returns-in-Ok c = let names = c.name_lines-lines in
    let first = c.sheet_line-at in
    let a = c.args in
    let s = sheet_said a.said a.replies.now a.phones.now a.numbers.now in
    put_accepted s a.contested a.out.now (ap reply_of c.in-Ok.is) first.result _ _ names.result first.ensures.len first.ensures.bytes names.ensures

pub returns-in-Err : goal.returns-in-Err
returns-in-Err c = let e = c.walk_refusal-len.ensures in
    let a = c.args in
    let s = sheet_said a.said a.replies.now a.phones.now a.numbers.now in
    put_refused s a.contested a.out.now _ _ (ap reply_of c.in-Err.is) _ _ e.len e.bytes
