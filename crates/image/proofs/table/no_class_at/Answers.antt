-- `image::table::no_class_at` meets its contract.
-- Assumes nothing.
use mathlib.Core.Path.{sym}
use native.Mathlib.Omega.{arith}
use borrow.Author.Tests.{le-ltb}
use Rattle.rules.specs.Limits.{max_context}
use Rattle.image.proofs.ClassFree.{class_among, none_of_four}
use Rattle.image.proofs.table.no_class_at.Goals as goal

pub returns-then-s-at-ge-FIRST_CLASS : goal.returns-then-s-at-ge-FIRST_CLASS
returns-then-s-at-ge-FIRST_CLASS c = rw (le-ltb _ _ c.if-s-at-ge-FIRST_CLASS.true)

pub returns-then-s-at-ge-FIRST_CLASS-2 : goal.returns-then-s-at-ge-FIRST_CLASS-2
returns-then-s-at-ge-FIRST_CLASS-2 c = sym (class_among max_context c.args.at c.args.s.now 1 (omega arith) c.if-s-at-ge-FIRST_CLASS-2.true)

pub returns-then-s-at-ge-FIRST_CLASS-3 : goal.returns-then-s-at-ge-FIRST_CLASS-3
returns-then-s-at-ge-FIRST_CLASS-3 c = sym (class_among max_context c.args.at c.args.s.now 2 (omega arith) c.if-s-at-ge-FIRST_CLASS-3.true)

pub returns-then-s-at-ge-FIRST_CLASS-4 : goal.returns-then-s-at-ge-FIRST_CLASS-4
returns-then-s-at-ge-FIRST_CLASS-4 c = sym (class_among max_context c.args.at c.args.s.now 3 (omega arith) c.if-s-at-ge-FIRST_CLASS-4.true)

pub returns : goal.returns
returns c = none_of_four c.args.s.now c.args.at (omega (arith, c.if-s-at-ge-FIRST_CLASS.false)) (omega (arith, c.if-s-at-ge-FIRST_CLASS-2.false)) (omega (arith, c.if-s-at-ge-FIRST_CLASS-3.false)) (omega (arith, c.if-s-at-ge-FIRST_CLASS-4.false))
