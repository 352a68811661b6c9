-- `commands::answer` meets its contract: each command is answered by its own function.
-- Assumes nothing.
use native.Mathlib.Omega.{arith}
use Rattle.commands.proofs.Dispatch.{by_none, by_add, by_drop, by_move, by_read, by_write, by_build, by_walk, by_plain, by_store_word, by_store_set, by_show_words, by_show_sets, by_show_phones, by_show_numbers, by_force, by_clear, by_show_contested, by_class, by_show_edits, by_recount, by_sheet, by_other}
use Rattle.commands.proofs.answer.Goals as goal

pub returns-in_default : goal.returns-in_default
returns-in_default c = let a = c.args in
    let told = by_none a.f.now a.file.now a.list.now a.image.now a.words.now a.sets.now a.phones.now a.numbers.now a.contested.now _ a.out.now _ c.malformed.ensures.len c.malformed.ensures.bytes (omega arith) in
    record {
      replied = told.0;
      within = told.1;
    }

pub returns-in-16 : goal.returns-in-16
returns-in-16 c = let a = c.args in
    let told = by_add a.f.now a.file.now a.list.now a.image.now a.words.now a.sets.now a.phones.now a.numbers.now a.contested.now _ a.out.now _ _ c.in-16.is c.add_command.ensures in
    record {
      replied = told.0;
      within = told.1;
    }

pub returns-in-17 : goal.returns-in-17
returns-in-17 c = let a = c.args in
    let told = by_drop a.f.now a.file.now a.list.now a.image.now a.words.now a.sets.now a.phones.now a.numbers.now a.contested.now _ a.out.now _ _ c.in-17.is c.drop_command.ensures in
    record {
      replied = told.0;
      within = told.1;
    }

pub returns-in-18 : goal.returns-in-18
returns-in-18 c = let a = c.args in
    let told = by_move a.f.now a.file.now a.list.now a.image.now a.words.now a.sets.now a.phones.now a.numbers.now a.contested.now _ a.out.now _ _ c.in-18.is c.move_command.ensures in
    record {
      replied = told.0;
      within = told.1;
    }

pub returns-in-19 : goal.returns-in-19
returns-in-19 c = let a = c.args in
    let told = by_read a.f.now a.file.now a.list.now a.image.now a.words.now a.sets.now a.phones.now a.numbers.now a.contested.now _ a.out.now _ _ c.in-19.is c.read_command.ensures in
    record {
      replied = told.0;
      within = told.1;
    }

pub returns-in-20 : goal.returns-in-20
returns-in-20 c = let a = c.args in
    let told = by_write a.f.now a.file.now a.list.now a.image.now a.words.now a.sets.now a.phones.now a.numbers.now a.contested.now _ a.out.now _ c.in-20.is (c.write_command.ensures.len, c.write_command.ensures.bytes) in
    record {
      replied = told.0;
      within = told.1;
    }

pub returns-in-21 : goal.returns-in-21
returns-in-21 c = let a = c.args in
    let told = by_build a.f.now a.file.now a.list.now a.image.now a.words.now a.sets.now a.phones.now a.numbers.now a.contested.now _ a.out.now _ _ _ c.in-21.is c.build_command.ensures in
    record {
      replied = told.0;
      within = told.1;
    }

pub returns-in-22 : goal.returns-in-22
returns-in-22 c = let a = c.args in
    let told = by_walk a.f.now a.file.now a.list.now a.image.now a.words.now a.sets.now a.phones.now a.numbers.now a.contested.now _ a.out.now _ _ _ _ c.in-22.is c.walk_command.ensures in
    record {
      replied = told.0;
      within = told.1;
    }

pub returns-in-23 : goal.returns-in-23
returns-in-23 c = let a = c.args in
    let told = by_plain a.f.now a.file.now a.list.now a.image.now a.words.now a.sets.now a.phones.now a.numbers.now a.contested.now _ a.out.now _ _ _ _ c.in-23.is c.plain_command.ensures in
    record {
      replied = told.0;
      within = told.1;
    }

pub returns-in-24 : goal.returns-in-24
returns-in-24 c = let a = c.args in
    let told = by_store_word a.f.now a.file.now a.list.now a.image.now a.words.now a.sets.now a.phones.now a.numbers.now a.contested.now _ a.out.now _ _ c.in-24.is c.store_word.ensures in
    record {
      replied = told.0;
      within = told.1;
    }

pub returns-in-25 : goal.returns-in-25
returns-in-25 c = let a = c.args in
    let told = by_store_set a.f.now a.file.now a.list.now a.image.now a.words.now a.sets.now a.phones.now a.numbers.now a.contested.now _ a.out.now _ _ c.in-25.is c.store_set.ensures in
    record {
      replied = told.0;
      within = told.1;
    }

pub returns-in-26 : goal.returns-in-26
returns-in-26 c = let a = c.args in
    let told = by_show_words a.f.now a.file.now a.list.now a.image.now a.words.now a.sets.now a.phones.now a.numbers.now a.contested.now _ a.out.now _ c.in-26.is (c.show_words.ensures.len, c.show_words.ensures.bytes) in
    record {
      replied = told.0;
      within = told.1;
    }

pub returns-in-27 : goal.returns-in-27
returns-in-27 c = let a = c.args in
    let told = by_show_sets a.f.now a.file.now a.list.now a.image.now a.words.now a.sets.now a.phones.now a.numbers.now a.contested.now _ a.out.now _ c.in-27.is (c.show_sets.ensures.len, c.show_sets.ensures.bytes) in
    record {
      replied = told.0;
      within = told.1;
    }

pub returns-in-28 : goal.returns-in-28
returns-in-28 c = let a = c.args in
    let told = by_show_phones a.f.now a.file.now a.list.now a.image.now a.words.now a.sets.now a.phones.now a.numbers.now a.contested.now _ a.out.now _ c.in-28.is (c.show_phones.ensures.len, c.show_phones.ensures.bytes) in
    record {
      replied = told.0;
      within = told.1;
    }

pub returns-in-29 : goal.returns-in-29
returns-in-29 c = let a = c.args in
    let told = by_show_numbers a.f.now a.file.now a.list.now a.image.now a.words.now a.sets.now a.phones.now a.numbers.now a.contested.now _ a.out.now _ c.in-29.is (c.show_numbers.ensures.len, c.show_numbers.ensures.bytes) in
    record {
      replied = told.0;
      within = told.1;
    }

pub returns-in-30 : goal.returns-in-30
returns-in-30 c = let a = c.args in
    let told = by_force a.f.now a.file.now a.list.now a.image.now a.words.now a.sets.now a.phones.now a.numbers.now a.contested.now _ a.out.now _ _ c.in-30.is c.force_command.ensures in
    record {
      replied = told.0;
      within = told.1;
    }

pub returns-in-31 : goal.returns-in-31
returns-in-31 c = let a = c.args in
    let told = by_clear a.f.now a.file.now a.list.now a.image.now a.words.now a.sets.now a.phones.now a.numbers.now a.contested.now _ a.out.now _ _ c.in-31.is c.clear_command.ensures in
    record {
      replied = told.0;
      within = told.1;
    }

pub returns-in-39 : goal.returns-in-39
returns-in-39 c = let a = c.args in
    let told = by_show_contested a.f.now a.file.now a.list.now a.image.now a.words.now a.sets.now a.phones.now a.numbers.now a.contested.now _ a.out.now _ c.in-39.is (c.show_contested.ensures.len, c.show_contested.ensures.bytes) in
    record {
      replied = told.0;
      within = told.1;
    }

pub returns-in-40 : goal.returns-in-40
returns-in-40 c = let a = c.args in
    let told = by_class a.f.now a.file.now a.list.now a.image.now a.words.now a.sets.now a.phones.now a.numbers.now a.contested.now _ a.out.now _ _ c.in-40.is c.class_command.ensures in
    record {
      replied = told.0;
      within = told.1;
    }

pub returns-in-41 : goal.returns-in-41
returns-in-41 c = let a = c.args in
    let told = by_show_edits a.f.now a.file.now a.list.now a.image.now a.words.now a.sets.now a.phones.now a.numbers.now a.contested.now _ a.out.now _ c.in-41.is (c.show_edits.ensures.len, c.show_edits.ensures.bytes) in
    record {
      replied = told.0;
      within = told.1;
    }

pub returns-in-42 : goal.returns-in-42
returns-in-42 c = let a = c.args in
    let told = by_recount a.f.now a.file.now a.list.now a.image.now a.words.now a.sets.now a.phones.now a.numbers.now a.contested.now _ a.out.now _ _ c.in-42.is c.recount_command.ensures in
    record {
      replied = told.0;
      within = told.1;
    }

pub returns-in-43 : goal.returns-in-43
returns-in-43 c = let a = c.args in
    let told = by_sheet a.f.now a.file.now a.list.now a.image.now a.words.now a.sets.now a.phones.now a.numbers.now a.contested.now _ a.out.now _ _ _ _ c.in-43.is c.sheet_command.ensures in
    record {
      replied = told.0;
      within = told.1;
    }

pub returns-in_default-kind : goal.returns-in_default-kind
returns-in_default-kind c = let a = c.args in
    let told = by_other a.f.now a.file.now a.list.now a.image.now a.words.now a.sets.now a.phones.now a.numbers.now a.contested.now _ a.out.now _ c.malformed-in_default-kind.ensures.len c.malformed-in_default-kind.ensures.bytes c.in_default-kind.in_default-kind-own.rest in
    record {
      replied = told.0;
      within = told.1;
    }
