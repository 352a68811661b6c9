-- Lists of edits as lists of words, and a pool of letters. The words of an edit: kind (0 add, 1 drop, 2 move, else set a class), number, place, then
-- the bytes of a rule, one a word. Of a class: kind, symbol, and where in the pool its letters start and how many they are, so that any list of
-- letters can be said. A missing word reads as 0.
-- Assumes nothing.
use Rattle.std.specs.Prelude.{cond, ℕ, zero, suc, ◌+◌, ◌-◌, ◌<◌, ◌%◌, ◌≡◌, List, [], ◌∷◌, ◌++◌, length, get_or, take, drop, replicate, eqb}
use Rattle.rules.specs.Memory.{Below, word_bound}
use Rattle.rules.specs.Limits.{max_context, max_target, max_phones}
use Rattle.rules.specs.declared.Rule.{Rule}
use Rattle.rule_bytes.specs.RuleBytes.{rule_size, rule_of, ruleBytes}
use Rattle.edits.specs.Ledger.{Edit}
use Rattle.edits.specs.Ledger.Edit.{Add, Drop, Move, SetClass}

-- the first word of the rule, and the words of an edit
abbrev pub rule_word : ℕ
rule_word = 3

abbrev pub edit_words : ℕ
edit_words = rule_word + rule_size

abbrev pub byte_at : List ℕ → ℕ → ℕ
byte_at ws k = get_or ws k 0 % 256

-- the first n words, each as a byte
unfoldable pub first_bytes : ℕ → List ℕ → List ℕ
first_bytes zero ws = []
first_bytes (suc n) ws = byte_at ws 0 ∷ first_bytes n (drop 1 ws)

abbrev pub coded_rule : List ℕ → Rule
coded_rule ws = rule_of (first_bytes rule_size (drop rule_word ws))

-- the letters that a class edit names
abbrev pub coded_letters : List ℕ → List ℕ → List ℕ
coded_letters pool ws = take (get_or ws 3 0) (drop (get_or ws 2 0) pool)

-- the edit that the first words say
abbrev pub coded_edit : List ℕ → List ℕ → Edit
coded_edit pool ws =
    cond (eqb (get_or ws 0 0) 0) (Add (coded_rule ws) (get_or ws 2 0))
    (cond (eqb (get_or ws 0 0) 1) (Drop (get_or ws 1 0 % 65536))
    (cond (eqb (get_or ws 0 0) 2) (Move (get_or ws 1 0 % 65536) (get_or ws 2 0)) (SetClass (byte_at ws 1) (coded_letters pool ws))))

-- the first n edits that the words say
abbrev pub coded_edits : ℕ → List ℕ → List ℕ → List Edit
coded_edits zero pool ws = []
coded_edits (suc n) pool ws = coded_edit pool ws ∷ coded_edits n pool (drop edit_words ws)

-- the words that say an edit whose letters start at `at` of the pool, before ws
abbrev pub words_of : ℕ → Edit → List ℕ → List ℕ
words_of at (Add r p) ws = 0 ∷ 0 ∷ p ∷ (ruleBytes r ++ ws)
words_of at (Drop n) ws = 1 ∷ n ∷ 0 ∷ (replicate rule_size 0 ++ ws)
words_of at (Move n p) ws = 2 ∷ n ∷ p ∷ (replicate rule_size 0 ++ ws)
words_of at (SetClass c l) ws = 3 ∷ c ∷ at ∷ length l ∷ (replicate (rule_size - 1) 0 ++ ws)

-- the letters that an edit has
abbrev pub letters_of : Edit → List ℕ
letters_of (Add r p) = []
letters_of (Drop n) = []
letters_of (Move n p) = []
letters_of (SetClass c l) = l

-- the pool of a list of edits: their letters, one after the other
abbrev pub pool_of : List Edit → List ℕ
pool_of [] = []
pool_of (e ∷ es) = letters_of e ++ pool_of es

-- the code of a list of edits whose letters start at `at` of the pool
abbrev pub words_from : ℕ → List Edit → List ℕ
words_from at [] = []
words_from at (e ∷ es) = words_of at e (words_from (at + length (letters_of e)) es)

-- the code of a list of edits
abbrev pub words_all : List Edit → List ℕ
words_all es = words_from 0 es

-- n bytes
abbrev pub Bytes : ℕ → List ℕ → Type 0
Bytes n l = (length l ≡ n) × Below 256 l

-- a rule whose fields are of the struct's types
pub record TypedRule (r : Rule) : Type 0 where
  pub «left-len» : r.left_len < 256
  pub «target-len» : r.target_len < 256
  pub «right-len» : r.right_len < 256
  pub «phone-len» : r.phone_len < 256
  pub left : Bytes max_context r.left
  pub target : Bytes max_target r.target
  pub right : Bytes max_context r.right
  pub phones : Bytes max_phones r.phones

-- an edit whose arguments are of the functions' types
abbrev pub Typed : Edit → Type 0
Typed (Add r p) = TypedRule r × (p < word_bound)
Typed (Drop n) = n < 65536
Typed (Move n p) = (n < 65536) × (p < word_bound)
Typed (SetClass c l) = (c < 256) × Below 256 l

abbrev pub TypedAll : List Edit → Type 0
TypedAll [] = Unit
TypedAll (e ∷ es) = Typed e × TypedAll es
