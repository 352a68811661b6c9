-- `table_reading::lowest_of_all` meets its contract. The loop's invariant: the lowest place from word j on is the lowest from word k on, and word k has one
-- unless all words are passed.
-- Assumes nothing.
use mathlib.Core.Path.{◌≡◌, refl, sym, ap, ◌∙◌}
use Prim.Native.Nat.{◌+◌, ◌-◌}
use native.Mathlib.Omega.{arith}
use lib.Count.{trailing_le}
use Rattle.tables.specs.Words.{set_size}
use Rattle.tables.specs.SetWords.{meet_word}
use Rattle.tables.proofs.SetWords.{from_found, from_next, from_end}
use Rattle.table_reading.specs.Letters.{found_of}
use Rattle.table_reading.proofs.lowest_of_all.Invariants.{lowest_at}
use Rattle.table_reading.proofs.lowest_of_all.Goals as goal

pub loop-j-init : goal.loop-j-init
loop-j-init c = (omega arith, refl, λ h. absurd (omega arith))

-- word j - 1 has a place
pub loop-j-preserved-then-x-lt64 : goal.loop-j-preserved-then-x-lt64
loop-j-preserved-then-x-lt64 c = (omega (arith, c.loop-j.invariant.0), refl, λ h. c.if-x-lt64.true)

-- it has none
pub loop-j-preserved : goal.loop-j-preserved
loop-j-preserved c = let a = meet_word c.args.sets.now c.args.s c.args.t in
    let l = c.loop-j in
    let e : l.j - 1 + 1 ≡ l.j = omega arith in
    (omega (arith, l.invariant.0), from_next a (l.j - 1) set_size (omega (arith, l.invariant.0)) (omega arith) ∙ (ap (lowest_at a) e ∙ l.invariant.1), l.invariant.2)

pub overflow_cast-z : goal.overflow_cast-z
overflow_cast-z c = omega (arith, trailing_le 64 (meet_word c.args.sets.now c.args.s c.args.t c.loop-j.k))

pub overflow_add-result : goal.overflow_add-result
overflow_add-result c = omega (arith, c.loop-j.invariant.2 c.if-k-lt-SET.true)

pub returns-then-k-lt-SET : goal.returns-then-k-lt-SET
returns-then-k-lt-SET c = let a = meet_word c.args.sets.now c.args.s c.args.t in
    let l = c.loop-j in
    let z : 0 ≡ l.j = omega arith in
    ap found_of (sym (ap (lowest_at a) z ∙ (l.invariant.1 ∙ from_found a l.k set_size c.if-k-lt-SET.true (l.invariant.2 c.if-k-lt-SET.true))))

pub returns : goal.returns
returns c = let a = meet_word c.args.sets.now c.args.s c.args.t in
    let l = c.loop-j in
    let z : 0 ≡ l.j = omega arith in
    ap found_of (sym (ap (lowest_at a) z ∙ (l.invariant.1 ∙ from_end a l.k set_size (omega arith))))
