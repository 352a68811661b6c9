-- The six rules of document 01 and its marked examples M1 to M12, as one list of questions with one list of answers; with how many letters of each
-- name are contested (document 02, request 4).
-- Letters: k is 0B, n 0E, e 05, a 01, b 02; 0 is the word boundary #.
-- Assumes nothing.
use Rattle.std.specs.Prelude.{ℕ, ◌+◌, ◌*◌, List, [], ◌∷◌, map, get_or}
use Rattle.rules.specs.Shape.{Entry}
use Rattle.classes.specs.Classes.{no_classes}
use Rattle.classes.specs.Expansion.{expand}
use Rattle.exceptions.specs.Judging.{no_list}
use Rattle.fitting.specs.Fitting.{Str}
use Rattle.speech.specs.Speech.{Outcome, speaks, declines, steps_of, answered, judged_for, phones_of, numbers_of, contested_of, plain_words}
use Rattle.tables.specs.States.{states}
use Rattle.tables.specs.Tables.{right_pattern}
use Rattle.tables.specs.Words.{set_size, right_sets, Compiled, compiled_from, right_of, built_words, built_sets}
use Rattle.tables.specs.Walk.{walk_through}

abbrev numbered_rule : ℕ → Str → Str → Str → Str → Entry
numbered_rule number left target right phones =
    record { number = number; rule = record { left = left; target = target; right = right; phones = phones } }

-- 1 #[k]n gives nothing; 2 [k] 6B; 3 [e]# nothing; 4 [ee] 69; 5 [e] 65; 6 [n] 6E
abbrev pub six_rules : List Entry
six_rules =
    numbered_rule 1 (0 ∷ []) (0x0b ∷ []) (0x0e ∷ []) []
    ∷ numbered_rule 2 [] (0x0b ∷ []) [] (0x6b ∷ [])
    ∷ numbered_rule 3 [] (0x05 ∷ []) (0 ∷ []) []
    ∷ numbered_rule 4 [] (0x05 ∷ 0x05 ∷ []) [] (0x69 ∷ [])
    ∷ numbered_rule 5 [] (0x05 ∷ []) [] (0x65 ∷ [])
    ∷ numbered_rule 6 [] (0x0e ∷ []) [] (0x6e ∷ [])
    ∷ []

-- their literal rules: the six themselves, with no class defined
abbrev pub literal_rules : List Entry
literal_rules = expand no_classes six_rules

-- the compiled ruleset of the words and set words that a build of the six rules writes
abbrev pub compiled : Compiled
compiled = compiled_from (built_words 0 literal_rules) (built_sets literal_rules)

-- ---- what is asked

pub data Question : Type 0 where
  -- of a name, with no list: its plain reading, its walk through the compiled ruleset, and the walk's steps
  spoken : Str → Question
  -- L, R and the right strings in state order
  strings : Question
  -- the right entry of a state under a symbol
  step : ℕ → ℕ → Question
  -- the first words of the right sets of some states
  first_words : List ℕ → Question

-- phones, rule numbers and how many letters were contested, or a refusal's number and place
pub data Result : Type 0 where
  phones : Str → List ℕ → ℕ → Result
  refused : ℕ → ℕ → Result

pub data Answer : Type 0 where
  said : Result → Result → ℕ → Answer
  numbered : ℕ → ℕ → List Str → Answer
  state : ℕ → Answer
  held : List ℕ → Answer

abbrev result_of : Outcome → Result
result_of (speaks xs steps) = phones (phones_of xs) (numbers_of xs) (contested_of xs)
result_of (declines n p steps) = refused n p

abbrev by_rules : Str → Outcome
by_rules name = judged_for no_list name (λ m. answered (plain_words no_classes six_rules name m) 0)

abbrev by_tables : Str → Outcome
by_tables name = judged_for no_list name (walk_through compiled 0 literal_rules name)

abbrev pub answer : Question → Answer
answer (spoken name) = said (result_of (by_rules name)) (result_of (by_tables name)) (steps_of (by_tables name))
answer strings = numbered compiled.«left-states» compiled.«right-states» (states (map right_pattern literal_rules))
answer (step q c) = state ((right_of compiled).next q c)
answer (first_words qs) = held (map (λ q. get_or compiled.sets (right_sets compiled.«left-states» + set_size * q) 0) qs)

-- M1 to M12
abbrev pub questions : List Question
questions =
    spoken (0x0b ∷ 0x0e ∷ 0x05 ∷ 0x05 ∷ [])
    ∷ spoken (0x0b ∷ 0x05 ∷ 0x05 ∷ 0x0e ∷ [])
    ∷ spoken (0x05 ∷ 0x0b ∷ 0x05 ∷ [])
    ∷ spoken (0x0e ∷ 0x01 ∷ 0x02 ∷ [])
    ∷ spoken []
    ∷ spoken (0x05 ∷ [])
    ∷ spoken (0x05 ∷ 0x05 ∷ 0x05 ∷ [])
    ∷ spoken (0x0b ∷ 0x0e ∷ [])
    ∷ spoken (0x0b ∷ 0x0b ∷ 0x0e ∷ [])
    ∷ strings
    ∷ step 5 0x05
    ∷ first_words (2 ∷ 5 ∷ 7 ∷ [])
    ∷ []

-- ---- what document 01 marks

-- plain reading and walk alike, with so many steps
abbrev both : Result → ℕ → Answer
both r n = said r r n

abbrev pub answers : List Answer
answers =
    both (phones (0x6e ∷ 0x69 ∷ []) (1 ∷ 6 ∷ 4 ∷ []) 2) 10
    ∷ both (phones (0x6b ∷ 0x69 ∷ 0x6e ∷ []) (2 ∷ 4 ∷ 6 ∷ []) 1) 10
    ∷ both (phones (0x65 ∷ 0x6b ∷ []) (5 ∷ 2 ∷ 3 ∷ []) 1) 8
    ∷ both (refused 3 2) 8
    ∷ both (phones [] [] 0) 2
    ∷ both (phones [] (3 ∷ []) 1) 4
    ∷ both (phones (0x69 ∷ []) (4 ∷ 3 ∷ []) 2) 8
    ∷ both (phones (0x6e ∷ []) (1 ∷ 6 ∷ []) 1) 6
    ∷ both (phones (0x6b ∷ 0x6b ∷ 0x6e ∷ []) (2 ∷ 2 ∷ 6 ∷ []) 0) 8
    ∷ numbered 2 8 ([] ∷ (0x0e ∷ []) ∷ (0x0e ∷ 0x0b ∷ []) ∷ (0x0b ∷ []) ∷ (0 ∷ []) ∷ (0 ∷ 0x05 ∷ []) ∷ (0x05 ∷ []) ∷ (0x05 ∷ 0x05 ∷ []) ∷ [])
    ∷ state 7
    ∷ held (3 ∷ 20 ∷ 24 ∷ [])
    ∷ []

-- ---- names of several words (document 02, request 3), by the same six rules

-- "ke knee", whose first e ends a word; "k  n", with a word of no letters; "e nab", whose a no rule covers; a separator alone
abbrev pub several_words : List Question
several_words =
    spoken (0x0b ∷ 0x05 ∷ 0x3f ∷ 0x0b ∷ 0x0e ∷ 0x05 ∷ 0x05 ∷ [])
    ∷ spoken (0x0b ∷ 0x3f ∷ 0x3f ∷ 0x0e ∷ [])
    ∷ spoken (0x05 ∷ 0x3f ∷ 0x0e ∷ 0x01 ∷ 0x02 ∷ [])
    ∷ spoken (0x3f ∷ [])
    ∷ []

abbrev pub several_answers : List Answer
several_answers =
    both (phones (0x6b ∷ 0x6e ∷ 0x69 ∷ []) (2 ∷ 3 ∷ 1 ∷ 6 ∷ 4 ∷ []) 3) 16
    ∷ both (phones (0x6b ∷ 0x6e ∷ []) (2 ∷ 6 ∷ []) 0) 10
    ∷ both (refused 3 4) 12
    ∷ both (phones [] [] 0) 4
    ∷ []
