-- `states::append_with_phones` meets its contract.
-- Assumes nothing.
use Rattle.states.proofs.Rows.{voice_fits, with_phones_appended}
use native.Mathlib.Omega.{arith}
use borrow.Author.Rules.{rules}
use Rattle.states.proofs.append_with_phones.Goals as goal

pub write_groups-requires : goal.write_groups-requires
write_groups-requires c = (c.requires.1, (voice_fits _ _ _ c.args.groups.now c.requires.0 c.requires.1 _ _ c.lowered-s.ensures).0)

pub bounds-words-n : goal.bounds-words-n
bounds-words-n c = let k = voice_fits _ _ _ c.args.groups.now c.requires.0 c.requires.1 _ _ c.lowered-s.ensures in let z = k.1 in omega arith

pub shape_of-words : goal.shape_of-words
shape_of-words c = (with_phones_appended _ _ _ c.args.groups.now c.requires.0 c.requires.1 _ _ c.lowered-s.ensures _ c.write_groups.ensures).long

pub returns : goal.returns
returns c = with_phones_appended _ _ _ c.args.groups.now c.requires.0 c.requires.1 _ _ c.lowered-s.ensures _ c.write_groups.ensures
