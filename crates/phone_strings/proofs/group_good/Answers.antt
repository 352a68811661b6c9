-- `phone_strings::group_good` meets its contract.
-- Assumes nothing.
use Rattle.phone_strings.proofs.Grouped.{good_first, good_one, good_second, good_long, good_two, good_three}
use borrow.Author.Rules.{rules}
use Rattle.phone_strings.proofs.group_good.Goals as goal

pub returns-then-v-eq0 : goal.returns-then-v-eq0
returns-then-v-eq0 c = good_first _ _ _ c.if-v-eq0.true

pub returns-then-v-lt256 : goal.returns-then-v-lt256
returns-then-v-lt256 c = good_one _ _ _ c.if-v-eq0.false c.if-v-lt256.true

pub returns-then-v-eq0-2 : goal.returns-then-v-eq0-2
returns-then-v-eq0-2 c = good_second _ _ _ c.if-v-lt256.false c.if-v-eq0-2.true

pub returns-then-k-eq21 : goal.returns-then-k-eq21
returns-then-k-eq21 c = good_long _ _ _ c.if-v-lt256.false c.if-k-eq21.true

pub returns-then-v-lt65536 : goal.returns-then-v-lt65536
returns-then-v-lt65536 c = good_two _ _ _ c.if-v-eq0.false c.if-v-eq0-2.false c.if-k-eq21.false c.if-v-lt65536.true

pub returns : goal.returns
returns c = good_three _ _ _ c.if-v-eq0.false c.if-v-eq0-2.false c.if-k-eq21.false c.if-v-lt65536.false
