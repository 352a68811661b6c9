-- `sheet_command::sheet_command` meets its contract: a frame of 13 bytes or more is a sheet, a shorter one is malformed.
-- Assumes nothing.
use Prim.Native.Nat.{ℕ}
use native.Mathlib.Omega.{arith}
use lib.Dec.{leb}
use lib.ListN.{length, length-replicate}
use borrow.Author.Tests.{le-leb, lt-leb}
use Rattle.command_parts.proofs.Replies.{speech_not}
use Rattle.sheet_command.specs.SheetCommand.{tree_words, kept_words, reply_numbers, sheet_by}
use Rattle.sheet_command.proofs.Sheets.{same_presentable, sheet-answered}
use Rattle.sheet_command.proofs.sheet_command.Goals as goal

pub returns-then-f-lt13 : goal.returns-then-f-lt13
unfolding sheet_by
returns-then-f-lt13 c = let a = c.args in
    let e = c.malformed.ensures in
    speech_not (leb 13 (length a.f.now)) _ a.phones.now a.numbers.now a.contested.now a.out.now _ _
    (lt-leb 13 (length a.f.now) c.if-f-lt13.true) e.len e.bytes

pub put_sheet-put-requires : goal.put_sheet-put-requires
put_sheet-put-requires c = let p = c.speak_lent-said in
    let h = c.requires in (
      omega (arith, p.auto.replies, length-replicate {A = ℕ} 1280 0),
      omega (arith, h.0),
      omega (arith, h.1),
      omega (arith, h.2),
      same_presentable _ _ _ _ _ p.auto.phones p.auto.numbers p.ensures.presentable,
    )

pub returns : goal.returns
unfolding sheet_by tree_words kept_words reply_numbers
returns c = let put = c.put_sheet-put in
    let p = c.speak_lent-said in
    let a = c.args in
    sheet-answered (leb 13 (length a.f.now)) a.phones.now a.numbers.now a.contested.now (le-leb 13 (length a.f.now) c.if-f-lt13.false) _ _ p.ensures.said put.result a.out.now _ put.ensures
