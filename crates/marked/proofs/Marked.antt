-- The marked examples M1 to M12 of document 01, as one equation of two lists, by computation; and names of several words likewise.
-- Assumes nothing.
use mathlib.Core.Path.{◌≡◌, refl}
use mathlib.Core.List.{map}
use Rattle.rules.specs.Names.{judged_name}
use Rattle.fitting.specs.Reading.{plain}
use Rattle.speech.specs.Words.{words_in}
use Rattle.numbers.specs.Bits.{bit}
use Rattle.tables.specs.Words.{pack, built_words, built_sets}
use Rattle.tables.specs.Walk.{lowest, how_many, places, walk, usable, judged_tables, count_after, walk_word, walk_through}
use Rattle.marked.specs.Marked.{answer, questions, answers, several_words, several_answers}

pub marked : map answer questions ≡ answers
unfolding judged_name words_in plain bit pack built_words built_sets lowest how_many places walk usable judged_tables count_after walk_word walk_through
marked = refl

pub several : map answer several_words ≡ several_answers
unfolding judged_name words_in plain bit pack built_words built_sets lowest how_many places walk usable judged_tables count_after walk_word walk_through
several = refl
