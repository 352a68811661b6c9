-- `file::loading::store_file` meets its contract: the head, the rules, the classes, then the table of all.
-- Assumes nothing.
use mathlib.Core.Path.{refl}
use native.Mathlib.Omega.{arith}
use Rattle.file.proofs.FirstLine.{head_sound, head_within}
use Rattle.file.proofs.FileStored.{file_classes, file_few, file_within, file_rules, headed-length, stored_room, masks_length, file_sound, file_stored}
use Rattle.file.proofs.loading.store_file.Goals as goal

pub unreachable-requires : goal.unreachable-requires
unreachable-requires c = head_sound c.args.file.now c.requires.1 _ c.read_head.ensures c.in_default.not-Ok

pub read_classes-requires : goal.read_classes-requires
read_classes-requires c = let h = c.in-Ok in (head_within c.args.file.now h.head h.ensures, refl)

pub unreachable-requires-in_default-read_classes : goal.unreachable-requires-in_default-read_classes
unreachable-requires-in_default-read_classes c = let h = c.in-Ok in file_classes c.args.file.now c.requires.1 h.head h.ensures _ c.read_classes.ensures.end c.in_default-read_classes.not-Ok

pub put_head-requires : goal.put_head-requires
put_head-requires c = let a = c.args in let p = c.requires in let h = c.in-Ok in let n = file_few a.file.now p.1 h.head h.ensures in (omega arith, p.0)

pub store_rules-requires : goal.store_rules-requires
store_rules-requires c = let a = c.args in let p = c.requires in let h = c.in-Ok in let r = c.in-Ok-read_classes in (file_few a.file.now p.1 h.head h.ensures, (file_within a.file.now p.1 h.head h.ensures r.at r.ensures.end, (omega (arith, p.0, headed-length a.file.now p.1 h.head h.ensures a.image.now p.0 _ c.put_head.ensures), (p.1, file_rules a.file.now p.1 h.head h.ensures r.at r.ensures.end))))

pub put_classes-requires : goal.put_classes-requires
put_classes-requires c = let a = c.args in let p = c.requires in let h = c.in-Ok in (stored_room a.file.now p.1 h.head h.ensures a.image.now p.0 _ _ c.put_head.ensures c.store_rules.ensures, masks_length a.file.now p.1 h.head h.ensures a.image.now p.0 _ _ c.put_head.ensures c.store_rules.ensures _ c.read_classes.ensures.classes)

pub settle-requires : goal.settle-requires
settle-requires c = let a = c.args in let p = c.requires in let h = c.in-Ok in file_sound a.file.now p.1 h.head h.ensures a.image.now p.0 _ _ c.put_head.ensures c.store_rules.ensures _ c.read_classes.ensures.classes _ c.put_classes.ensures

pub returns : goal.returns
returns c = let a = c.args in let p = c.requires in let h = c.in-Ok in file_stored a.file.now p.1 h.head h.ensures a.image.now p.0 _ _ c.put_head.ensures c.store_rules.ensures _ c.read_classes.ensures.classes _ c.put_classes.ensures _ c.settle.ensures
