-- `sheet_lines::name_lines` meets its contract. The loop's invariant: the lines so far and those to come are the lines of all names.
-- Assumes nothing.
use Prim.Native.Nat.{◌*◌}
use mathlib.Core.Path.{ap}
use native.Mathlib.Omega.{arith}
use lib.ListN.{length, length-drop}
use Rattle.many_names.specs.Many.{reply_size}
use Rattle.rules.proofs.Memory.{tail_is}
use Rattle.sheet_lines.proofs.Printing.{begin, next, printing_length, printing_room, printing_printable, printed_all}
use borrow.Author.Rules.{rules}
use Rattle.sheet_lines.proofs.name_lines.Goals as goal

pub loop-k-init : goal.loop-k-init
loop-k-init c = let a = c.args in
    begin a.names a.replies.now a.phones.now a.numbers.now a.contested a.out.now c.requires.4

pub offset_bounds-replies-k : goal.offset_bounds-replies-k
offset_bounds-replies-k c = let i = c.loop-k.invariant in omega (arith, i.all, c.requires.0)

pub slice_bounds-name_line-count : goal.slice_bounds-name_line-count
slice_bounds-name_line-count c = let i = c.loop-k.invariant in omega (arith, i.all, c.requires.0)

pub slice_bounds-name_line-count-in-loop-k : goal.slice_bounds-name_line-count-in-loop-k
slice_bounds-name_line-count-in-loop-k c = c.loop-k.invariant.said_in

pub offset_bounds-numbers-numbered : goal.offset_bounds-numbers-numbered
offset_bounds-numbers-numbered c = omega (arith, c.loop-k.invariant.numbered-in)

pub slice_bounds-name_line-count-in-loop-k-2 : goal.slice_bounds-name_line-count-in-loop-k-2
slice_bounds-name_line-count-in-loop-k-2 c = c.loop-k.invariant.numbered-in

pub slice_bounds-name_line-count-in-loop-k-3 : goal.slice_bounds-name_line-count-in-loop-k-3
slice_bounds-name_line-count-in-loop-k-3 c = let a = c.args in
    let l = c.loop-k in
    omega (arith, printing_room a.names a.replies.now a.phones.now a.numbers.now a.contested a.out.now c.requires.3 l.k l.said l.numbered l.last l.at l.out l.invariant)

pub slice_bounds-name_line-start-in-loop-k-3 : goal.slice_bounds-name_line-start-in-loop-k-3
slice_bounds-name_line-start-in-loop-k-3 c = let a = c.args in
    let l = c.loop-k in
    let h = printing_room a.names a.replies.now a.phones.now a.numbers.now a.contested a.out.now c.requires.3 l.k l.said l.numbered l.last l.at l.out l.invariant in
    search rules

pub slice_bounds-name_line-end-in-loop-k-3 : goal.slice_bounds-name_line-end-in-loop-k-3
slice_bounds-name_line-end-in-loop-k-3 c = let a = c.args in
    let l = c.loop-k in
    let h = printing_room a.names a.replies.now a.phones.now a.numbers.now a.contested a.out.now c.requires.3 l.k l.said l.numbered l.last l.at l.out l.invariant in
    search rules

pub name_line-line-requires : goal.name_line-line-requires
name_line-line-requires c = let a = c.args in
    let l = c.loop-k in
    let i = l.invariant in (
      omega (arith, ap length (tail_is (reply_size * l.k) a.replies.now), length-drop (reply_size * l.k) a.replies.now, c.requires.0, c.loop-k-test.true),
      omega (arith, ap length (tail_is l.said a.phones.now), length-drop l.said a.phones.now, c.requires.1),
      omega (arith, ap length (tail_is l.numbered a.numbers.now), length-drop l.numbered a.numbers.now, c.requires.2),
      omega (arith, ap length (tail_is l.at l.out), length-drop l.at l.out, printing_room a.names a.replies.now a.phones.now a.numbers.now a.contested a.out.now c.requires.3 l.k l.said l.numbered l.last l.at l.out l.invariant),
      printing_printable a.names a.replies.now a.phones.now a.numbers.now a.contested a.out.now c.requires.3 l.k l.said l.numbered l.last l.at l.out l.invariant c.loop-k-test.true,
    )

pub overflow_add-at : goal.overflow_add-at
overflow_add-at c = let a = c.args in
    let l = c.loop-k in
    let x = c.name_line-line in
    let i = next a.names a.replies.now a.phones.now a.numbers.now a.contested a.out.now c.requires.3 l.k l.said l.numbered l.last l.at l.out l.invariant x.result _ x.ensures c.loop-k-test.true in
    omega (arith, i.short, i.said_in, i.numbered-in, i.all, c.requires.3)

pub overflow_add-said : goal.overflow_add-said
overflow_add-said c = let a = c.args in
    let l = c.loop-k in
    let x = c.name_line-line in
    let i = next a.names a.replies.now a.phones.now a.numbers.now a.contested a.out.now c.requires.3 l.k l.said l.numbered l.last l.at l.out l.invariant x.result _ x.ensures c.loop-k-test.true in
    omega (arith, i.said_in, c.requires.1)

pub overflow_add-numbered : goal.overflow_add-numbered
overflow_add-numbered c = let a = c.args in
    let l = c.loop-k in
    let x = c.name_line-line in
    let i = next a.names a.replies.now a.phones.now a.numbers.now a.contested a.out.now c.requires.3 l.k l.said l.numbered l.last l.at l.out l.invariant x.result _ x.ensures c.loop-k-test.true in
    omega (arith, i.numbered-in, c.requires.2)

pub loop-k-preserved : goal.loop-k-preserved
loop-k-preserved c = let a = c.args in
    let l = c.loop-k in
    let x = c.name_line-line in
    next a.names a.replies.now a.phones.now a.numbers.now a.contested a.out.now c.requires.3 l.k l.said l.numbered l.last l.at l.out l.invariant x.result _ x.ensures c.loop-k-test.true

pub shape_of-out : goal.shape_of-out
shape_of-out c = let a = c.args in
    let l = c.loop-k in
    printing_length a.names a.replies.now a.phones.now a.numbers.now a.contested a.out.now c.requires.3 l.k l.said l.numbered l.last l.at _ l.invariant

pub returns : goal.returns
returns c = let a = c.args in
    let l = c.loop-k in
    printed_all a.names a.replies.now a.phones.now a.numbers.now a.contested a.out.now l.k l.said l.numbered l.last l.at _ l.invariant c.loop-k-test.false
