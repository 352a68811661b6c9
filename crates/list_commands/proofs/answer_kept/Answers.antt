-- `list_commands::answer_kept` meets its contract: each command is answered by its own function.
-- Assumes nothing.
use mathlib.Core.Path.{sym}
use native.Mathlib.Omega.{arith}
use borrow.Author.Tests.{eqb-false}
use borrow.Author.Rules.{rules}
use lib.Seq.{length-take-le}
use Rattle.list_commands.proofs.Frames.{has_kind, last_kind}
use Rattle.list_commands.proofs.Given.{by_add, by_remove, by_read, by_show, by_clear, by_store}
use Rattle.list_commands.proofs.answer_kept.Goals as goal

pub bounds-f-0 : goal.bounds-f-0
bounds-f-0 c = omega (arith, has_kind c.args.f.now c.requires.0)

pub slice_bounds-add_command-end-in-32 : goal.slice_bounds-add_command-end-in-32
slice_bounds-add_command-end-in-32 c = sym (length-take-le c.args.lent c.args.list.now c.requires.1.1.0)

pub slice_bounds-remove_command-end-in-33 : goal.slice_bounds-remove_command-end-in-33
slice_bounds-remove_command-end-in-33 c = sym (length-take-le c.args.lent c.args.list.now c.requires.1.1.0)

pub remove_command-requires : goal.remove_command-requires
remove_command-requires c = (has_kind c.args.f.now c.requires.0, omega arith)

pub slice_bounds-read_out_command-end-in-34 : goal.slice_bounds-read_out_command-end-in-34
slice_bounds-read_out_command-end-in-34 c = sym (length-take-le c.args.lent c.args.list.now c.requires.1.1.0)

pub slice_bounds-clear_command-end-in-36 : goal.slice_bounds-clear_command-end-in-36
slice_bounds-clear_command-end-in-36 c = sym (length-take-le c.args.lent c.args.list.now c.requires.1.1.0)

pub returns-in-32 : goal.returns-in-32
returns-in-32 c = let a = c.args in
    by_add a.f.now a.list.now a.lent a.text.now _ a.out.now _ _ c.in-32.is c.add_command.ensures

pub returns-in-33 : goal.returns-in-33
returns-in-33 c = let a = c.args in
    by_remove a.f.now a.list.now a.lent a.text.now _ a.out.now _ _ c.in-33.is c.remove_command.ensures

pub returns-in-34 : goal.returns-in-34
returns-in-34 c = let a = c.args in
    by_read a.f.now a.list.now a.lent a.text.now _ a.out.now _ _ c.in-34.is c.read_out_command.ensures

pub returns-in-35 : goal.returns-in-35
returns-in-35 c = let a = c.args in
    by_show a.f.now a.list.now a.lent a.text.now _ a.out.now _ c.in-35.is (c.show_command.ensures.len, c.show_command.ensures.bytes)

pub returns-in-36 : goal.returns-in-36
returns-in-36 c = let a = c.args in
    by_clear a.f.now a.list.now a.lent a.text.now _ a.out.now _ _ c.in-36.is c.clear_command.ensures

pub returns-in_default : goal.returns-in_default
returns-in_default c = let a = c.args in
    let n = c.in_default.in_default-own.rest in
    by_store a.f.now a.list.now a.lent a.text.now _ a.out.now _ _ (last_kind a.f.now c.requires.0 n.0.0.0.0.1 n.0.0.0.1 n.0.0.1 n.0.1 n.1 (eqb-false _ 37 c.requires.1.0)) c.store_command.ensures
