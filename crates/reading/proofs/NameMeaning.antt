-- The plain reading of a name gives Festival's meaning of the rules word by word, for every list of rules with targets, every list of exceptions and
-- all words:
--     words-end      it ends with the words said in turn, or at a reached letter of an unlisted word that no rule covers
--     said-finished, uncovered-stops      and where they are said so, or a letter is so uncovered, it ends just there
-- Assumes nothing.
use Prim.Native.Nat.{ℕ, ◌+◌}
use mathlib.Core.Path.{◌≡◌, refl, ap, ap₂, ◌∙◌}
use mathlib.Core.List.{List, [], ◌∷◌, ◌++◌}
use native.Mathlib.Omega.{arith}
use Rattle.rules.specs.Shape.{Entry}
use Rattle.classes.specs.Classes.{Classes}
use Rattle.fitting.specs.Fitting.{Str}
use Rattle.fitting.specs.Reading.{Piece, listed, Reading, finished, uncovered, Targets, plain}
use Rattle.speech.specs.Words.{Word, in_name, phones_or, read_word, followed, read_words}
use Rattle.reading.specs.Meaning.{Uncovered, pieces_of, SaidWord, from_list, by_rules, SaidWords, none, next, UncoveredIn, here, later}
use Rattle.reading.specs.Endings.{WordsEnding, finish, stop}
use Rattle.reading.proofs.WordReading.{listed_word}
use Rattle.reading.proofs.Meaning.{Ending, ended, stuck, plain_ends, reads_finished, is_uncovered}

-- what a word comes to, with its meaning
data WordEnding (k : Classes) (rules : List Entry) (m : Str → Str) (w : Word) : Type 0 where
  said : (xs : List Piece) → SaidWord k rules m w xs → read_word m (plain k rules) w ≡ finished xs → WordEnding k rules m w
  unsaid : (i : ℕ) → m w.letters ≡ [] → Uncovered k rules w.letters i → read_word m (plain k rules) w ≡ uncovered (w.before + i) → WordEnding k rules m w

module _ (k : Classes) (rules : List Entry) (m : Str → Str) (targets : Targets rules) where
  read_by : (w : Word) → m w.letters ≡ [] → (r : Reading) → plain k rules w.letters ≡ r → read_word m (plain k rules) w ≡ in_name w.before r
  read_by w e r q = ap₂ (λ (p : Str) (s : Reading). phones_or p (in_name w.before s)) e q

  word_finished : (w : Word) (xs : List Piece) → SaidWord k rules m w xs → read_word m (plain k rules) w ≡ finished xs
  word_finished w xs (from_list p e h) = ap (λ (q : Str). phones_or q (in_name w.before (plain k rules w.letters))) e ∙ listed_word p (in_name w.before (plain k rules w.letters)) h
  word_finished w xs (by_rules rs e d) = read_by w e (finished (pieces_of rs)) (reads_finished k rules w.letters targets rs d)

  word_uncovered : (w : Word) (i : ℕ) → m w.letters ≡ [] → Uncovered k rules w.letters i → read_word m (plain k rules) w ≡ uncovered (w.before + i)
  word_uncovered w i e d = read_by w e (uncovered i) (is_uncovered k rules w.letters targets i d)

  word_end : (w : Word) → WordEnding k rules m w
  word_end w = by_list (m w.letters) refl
    where
      by-rules : m w.letters ≡ [] → Ending k rules w.letters [] (plain k rules w.letters) → WordEnding k rules m w
      by-rules e (ended l q d) = said (pieces_of l) (by_rules l e d) (read_by w e (finished (pieces_of l)) q)
      by-rules e (stuck i q d) = unsaid i e d (read_by w e (uncovered i) q)

      by_list : (p : Str) → m w.letters ≡ p → WordEnding k rules m w
      by_list [] e = by-rules e (plain_ends k rules w.letters targets)
      by_list (x ∷ p) e = let s : SaidWord k rules m w (listed (x ∷ p) ∷ []) = from_list (x ∷ p) e (omega arith) in said (listed (x ∷ p) ∷ []) s (word_finished w _ s)

  pub words_end : (ws : List Word) → WordsEnding k rules m ws
  words_end [] = finish [] none refl
  words_end (w ∷ ws) = by (word_end w) (words_end ws)
    where
      by : WordEnding k rules m w → WordsEnding k rules m ws → WordsEnding k rules m (w ∷ ws)
      by (said xs s e) (finish ys t f) = finish (xs ++ ys) (next s t) (ap₂ followed e f)
      by (said xs s e) (stop i u f) = stop i (later s u) (ap₂ followed e f)
      by (unsaid i a u e) t = stop (w.before + i) (here a u) (ap (λ (r : Reading). followed r (read_words m (plain k rules) ws)) e)

  pub said_finished : (ws : List Word) (xs : List Piece) → SaidWords k rules m ws xs → read_words m (plain k rules) ws ≡ finished xs
  said_finished [] zs none = refl
  said_finished (w ∷ ws) zs (next {xs} {ys} s t) = ap₂ followed (word_finished w xs s) (said_finished ws ys t)

  pub uncovered_stops : (ws : List Word) (i : ℕ) → UncoveredIn k rules m ws i → read_words m (plain k rules) ws ≡ uncovered i
  uncovered_stops [] j x' = elim x' [ ]
  uncovered_stops (w ∷ ws) j (here {i} e d) = ap (λ (r : Reading). followed r (read_words m (plain k rules) ws)) (word_uncovered w i e d)
  uncovered_stops (w ∷ ws) j (later {xs} s u) = ap₂ followed (word_finished w xs s) (uncovered_stops ws j u)
