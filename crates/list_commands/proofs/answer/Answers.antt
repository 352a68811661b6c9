-- `list_commands::answer` meets its contract: 25 sets how many units are lent, every other command leaves that.
-- Assumes nothing.
use native.Mathlib.Omega.{arith}
use borrow.Author.Tests.{ne_eqb}
use borrow.Author.Rules.{rules}
use lib.ListN.{get_or}
use Rattle.command_parts.proofs.Replies.{within}
use Rattle.list_commands.specs.ListCommands.{lent_line}
use Rattle.list_commands.proofs.Frames.{has_kind}
use Rattle.list_commands.proofs.Given.{by_lend}
use Rattle.list_commands.proofs.answer.Goals as goal

pub bounds-f-0 : goal.bounds-f-0
bounds-f-0 c = omega (arith, has_kind c.args.f.now c.requires.0)

pub returns-then-f-eq37 : goal.returns-then-f-eq37
returns-then-f-eq37 c = let a = c.args in
    let r = c.lend_command in
    record {
      replied = by_lend a.f.now a.list.now a.lent a.text.now _ a.out.now _ _ c.if-f-eq37.true r.ensures.lent (r.ensures.len, r.ensures.bytes);
      within = (within (lent_line a.f.now) _ a.out.now _ r.ensures.len r.ensures.bytes, r.ensures.within);
    }

pub answer_kept-len-requires : goal.answer_kept-len-requires
answer_kept-len-requires c = let a = c.args in (c.requires.0, (ne_eqb (get_or a.f.now 0 0) 37 c.if-f-eq37.false, (c.requires.1.0, c.requires.1.1)))

pub returns : goal.returns
returns c = let a = c.args in
    let r = c.answer_kept-len.ensures in
    record {
      replied = r;
      within = (within r.line _ a.out.now _ r.many r.bytes, omega arith);
    }
