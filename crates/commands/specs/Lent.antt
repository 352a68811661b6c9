-- Calls over the first so many of what the monitor holds: the rest keeps its contents.
-- Assumes nothing.
use Rattle.std.specs.Prelude.{ℕ, List, leb, eqb, length, take, drop}
use Rattle.numbers.specs.Numbers.{two}
use Rattle.exceptions.specs.Judging.{listing_of}
use Rattle.speech.specs.Speech.{Told, spoken, refused, Said, saying, plain_said}
use Rattle.tables.specs.Words.{left_count, right_count, Built, building, built}
use Rattle.tables.specs.Walk.{Walked, walk_said}
use Rattle.rules.specs.Refusals.{Reply, accepted, declined}
use Rattle.lines.specs.Printed.{refused_body, printed}
use Rattle.answer_lines.specs.Answers.{spoken_body, told_body}
use Rattle.command_parts.specs.Fields.{four, lent_of, back}
use Rattle.command_parts.specs.Answers.{Effects, leaving_both, both_sized, SpeechEffect, leaving_speech, contested_after, speech_sized, states_line, walk_refusal}

abbrev pub built_back : ℕ → ℕ → List ℕ → List ℕ → Built → Built
built_back n m ws ss b = building b.reply (back n b.words ws) (back m b.sets ss)

-- build into the first n words and the first m set words
unfoldable pub built_in : ℕ → ℕ → List ℕ → List ℕ → List ℕ → Built
built_in n m image ws ss = built_back n m ws ss (built image (take n ws) (take m ss))

abbrev pub said_back : ℕ → ℕ → List ℕ → List ℕ → Said → Said
said_back n m phones numbers s = saying s.told (back n s.phones phones) (back m s.numbers numbers)

-- the plain reading with a lent list, and the first n phones and the first m numbers lent
unfoldable pub plain_in : ℕ → ℕ → List ℕ → List ℕ → List ℕ → List ℕ → List ℕ → Said
plain_in n m image list name phones numbers = said_back n m phones numbers (plain_said image (listing_of list) name (take n phones) (take m numbers))

abbrev pub walked_back : ℕ → ℕ → List ℕ → List ℕ → Walked → Walked
walked_back n m phones numbers w = record { said = said_back n m phones numbers w.said; steps = w.steps }

-- the walk, likewise
unfoldable pub walk_in : ℕ → ℕ → List ℕ → List ℕ → List ℕ → List ℕ → List ℕ → List ℕ → List ℕ → Walked
walk_in n m image list ws ss name phones numbers = walked_back n m phones numbers (walk_said image (listing_of list) ws ss name (take n phones) (take m numbers))

-- ---- the commands

-- what a build answers: the two state counts, as they stand in the words
abbrev pub build_line : Reply → List ℕ → List ℕ
build_line accepted words = states_line (left_count words) (right_count words)
build_line (declined n p) words = printed (refused_body n p)

abbrev pub build_effects : Built → Effects
build_effects b = leaving_both (build_line b.reply b.words) b.words b.sets

-- 15, lent words (4), lent set words (4): build into the first so many
unfoldable pub built_by : List ℕ → List ℕ → List ℕ → List ℕ → Effects
built_by f image words sets =
    both_sized (eqb (length f) 9)
    (build_effects (built_in (lent_of (four 1 f) (length words)) (lent_of (four 5 f) (length sets)) image words sets)) words sets

-- what a name leaves, by its answer's line
abbrev pub said_effect : List ℕ → Said → ℕ → SpeechEffect
said_effect line s contested = leaving_speech line s.phones s.numbers (contested_after s.told contested)

-- what a walk answers: 04, or 08 with the steps
abbrev pub walk_line : Told → ℕ → List ℕ → List ℕ → List ℕ
walk_line (spoken p n c) steps phones numbers = printed (spoken_body steps (take p phones) (take n numbers))
walk_line (refused n p) steps phones numbers = walk_refusal steps n p

abbrev pub walk_effect : Walked → ℕ → SpeechEffect
walk_effect w contested = said_effect (walk_line w.said.told w.steps w.said.phones w.said.numbers) w.said contested

-- 16, lent words (4), lent set words (4), lent phones (2), lent numbers (2), letters: walk, over the first so many of each
unfoldable pub walked_by : List ℕ → List ℕ → List ℕ → List ℕ → List ℕ → List ℕ → List ℕ → ℕ → SpeechEffect
walked_by f image list words sets phones numbers contested =
    speech_sized (leb 13 (length f))
    (walk_effect (walk_in (lent_of (two 9 f) (length phones)) (lent_of (two 11 f) (length numbers)) image list (take (lent_of (four 1 f) (length words)) words) (take (lent_of (four 5 f) (length sets)) sets) (drop 13 f) phones numbers) contested)
    phones numbers contested

-- what a plain reading answers: 04 with steps 0, or 05
abbrev pub plain_line : Told → List ℕ → List ℕ → List ℕ
plain_line t phones numbers = printed (told_body t 0 phones numbers)

abbrev pub plain_effect : Said → ℕ → SpeechEffect
plain_effect s contested = said_effect (plain_line s.told s.phones s.numbers) s contested

-- 17, lent phones (2), lent numbers (2), letters: plain reading
unfoldable pub plain_by : List ℕ → List ℕ → List ℕ → List ℕ → List ℕ → ℕ → SpeechEffect
plain_by f image list phones numbers contested =
    speech_sized (leb 5 (length f))
    (plain_effect (plain_in (lent_of (two 1 f) (length phones)) (lent_of (two 3 f) (length numbers)) image list (drop 5 f) phones numbers) contested) phones numbers contested
