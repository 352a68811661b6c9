-- `build::build_counted` meets its contract: what is needed is known before a lent word is written; then both sides are filled.
-- Assumes nothing.
use native.Mathlib.Omega.{arith}
use Rattle.build.proofs.Whole.{few_words, few_sets, enough}
use Rattle.build.proofs.build_counted.Goals as goal

pub count_side-l-requires : goal.count_side-l-requires
count_side-l-requires c = c.requires

pub count_side-r-requires : goal.count_side-r-requires
count_side-r-requires c = (c.requires.0, c.count_side-l.ensures.scratch)

pub overflow_add-needed : goal.overflow_add-needed
overflow_add-needed c = omega (arith, c.count_side-r.ensures.few, c.count_side-l.ensures.few)

pub overflow_mul-needed : goal.overflow_mul-needed
overflow_mul-needed c = omega (arith, c.count_side-r.ensures.few, c.count_side-l.ensures.few)

pub overflow_add-needed-2 : goal.overflow_add-needed-2
overflow_add-needed-2 c = omega (arith, c.count_side-r.ensures.few, c.count_side-l.ensures.few)

pub overflow_add-places : goal.overflow_add-places
overflow_add-places c = omega (arith, c.count_side-r.ensures.few, c.count_side-l.ensures.few)

pub overflow_mul-places : goal.overflow_mul-places
overflow_mul-places c = omega (arith, c.count_side-r.ensures.few, c.count_side-l.ensures.few)

pub returns-then-words-needed : goal.returns-then-words-needed
returns-then-words-needed c = few_words _ _ _ c.count_side-l.ensures.is c.count_side-r.ensures.is _ _ c.if-words-needed.true

pub returns-then-sets-places : goal.returns-then-sets-places
returns-then-sets-places c = few_sets _ _ _ c.count_side-l.ensures.is c.count_side-r.ensures.is _ _ (omega (arith, c.if-words-needed.false)) c.if-sets-places.true

pub fill-requires : goal.fill-requires
fill-requires c = let a = c.count_side-l.ensures in
    let b = c.count_side-r.ensures in
    (c.requires.0, omega (arith, a.is, b.is, c.if-words-needed.false), omega (arith, a.is, b.is, c.if-sets-places.false), b.scratch)

pub returns : goal.returns
returns c = let a = c.count_side-l.ensures in
    let b = c.count_side-r.ensures in
    let f = c.fill.ensures in
    enough _ c.args.words.now c.args.sets.now (omega (arith, a.is, b.is, c.if-words-needed.false)) (omega (arith, a.is, b.is, c.if-sets-places.false)) _ _ f.words f.sets
