-- `speech::put_phones` meets its contract.
-- Assumes nothing.
use mathlib.Core.Path.{◌≡◌}
use native.Mathlib.Omega.{arith}
use borrow.Author.Rules.{rules}
use lib.ListN.{length, length-set}
use lib.Seq.{paste-zero}
use Rattle.speech.proofs.Stored.{whole, one_put, two_put, three_put, four_put}
use Rattle.speech.proofs.put_phones.Goals as goal

pub returns-then-said-eq0 : goal.returns-then-said-eq0
returns-then-said-eq0 c = whole c.args.phones.now c.args.said.now c.args.at _ 0 (paste-zero c.args.phones.now c.args.at c.args.said.now) c.if-said-eq0.true

pub returns-then-said-eq1 : goal.returns-then-said-eq1
returns-then-said-eq1 c = let n : length c.args.said.now ≡ 1 = c.if-said-eq1.true in
    whole c.args.phones.now c.args.said.now c.args.at _ 1 (one_put c.args.phones.now c.args.said.now c.args.at (omega arith) c.requires.1) n

pub bounds-phones-at-2 : goal.bounds-phones-at-2
bounds-phones-at-2 c = simp length-set (omega arith)

pub returns-then-said-eq2 : goal.returns-then-said-eq2
returns-then-said-eq2 c = let n : length c.args.said.now ≡ 2 = c.if-said-eq2.true in
    whole c.args.phones.now c.args.said.now c.args.at _ 2 (two_put c.args.phones.now c.args.said.now c.args.at (omega arith) c.requires.1) n

pub bounds-phones-at-3 : goal.bounds-phones-at-3
bounds-phones-at-3 c = simp length-set (omega arith)

pub returns-then-said-eq3 : goal.returns-then-said-eq3
returns-then-said-eq3 c = let n : length c.args.said.now ≡ 3 = c.if-said-eq3.true in
    whole c.args.phones.now c.args.said.now c.args.at _ 3 (three_put c.args.phones.now c.args.said.now c.args.at (omega arith) c.requires.1) n

pub bounds-phones-at-4 : goal.bounds-phones-at-4
bounds-phones-at-4 c = simp length-set (omega arith)

pub returns : goal.returns
returns c = let n : length c.args.said.now ≡ 4 = omega (arith, c.requires.0, c.if-said-eq3.false, c.if-said-eq2.false, c.if-said-eq1.false, c.if-said-eq0.false) in
    whole c.args.phones.now c.args.said.now c.args.at _ 4 (four_put c.args.phones.now c.args.said.now c.args.at (omega arith) c.requires.1) n
