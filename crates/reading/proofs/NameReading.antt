-- The words of a name read one after another, as a loop goes through them with the parts found so far in hand. How a word's letters are read is any.
-- Assumes nothing.
use Rattle.std.specs.Prelude.{Err, Ok, Result}
use Prim.Native.Nat.{ℕ, suc, ◌≤◌, ◌<◌}
use mathlib.Core.Path.{◌≡◌, refl, sym, ap, ◌∙◌, subst}
use mathlib.Core.List.{List, [], ◌∷◌, ◌++◌, append_assoc, append-nil}
use native.Mathlib.Omega.{arith}
use mathlib.Core.Logic.{◌⊎◌, ⊎_elim}
use lib.ListN.{length, take}
use Rattle.rules.specs.Names.{SoundName}
use Rattle.fitting.specs.Fitting.{Str}
use Rattle.fitting.specs.Reading.{Piece, Reading, finished, uncovered, bad_tables, after}
use Rattle.speech.specs.Words.{Word, word, words_in, read_word, followed, read_words, word_at, end_at, Starts, WordOf, words_from}
use Rattle.speech.specs.Places.{EndsBy, parts_at, frame_size, parts_reading, PartsSoFar, ReadOn}
use Rattle.speech.specs.declared.Unread.{Unread}
use Rattle.speech.specs.declared.Unread.TheVariants.{Uncovered, BadTables}
use Rattle.reading.proofs.Loop.{after_none}
use Rattle.reading.proofs.NameWords.{words_begin, words_step, words_past, end_most, starts_first, starts_next}

-- ---- readings one after another

after_after : (xs ys : List Piece) (r : Reading) → after (xs ++ ys) r ≡ after xs (after ys r)
after_after xs ys (finished zs) = ap finished (append_assoc xs ys zs)
after_after xs ys (uncovered i) = refl
after_after xs ys bad_tables = refl

-- what follows a word that is said
followed_on : (xs ys : List Piece) (r t : Reading) → finished ys ≡ after xs r → after ys t ≡ after xs (followed r t)
followed_on xs ys (finished zs) t e = let z : ys ≡ xs ++ zs = cc in ap (λ (l : List Piece). after l t) z ∙ after_after xs zs t
followed_on xs ys (uncovered i) t e = let z : ◌≡◌ {A = ℕ} 0 1 = cc in absurd (omega arith)
followed_on xs ys bad_tables t e = let z : ◌≡◌ {A = ℕ} 0 1 = cc in absurd (omega arith)

-- nothing follows where reading ended in a word
stopped_at : (xs : List Piece) (r t : Reading) (i : ℕ) → uncovered i ≡ after xs r → uncovered i ≡ after xs (followed r t)
stopped_at xs (finished zs) t i e = let z : ◌≡◌ {A = ℕ} 0 1 = cc in absurd (omega arith)
stopped_at xs (uncovered j) t i e = e
stopped_at xs bad_tables t i e = e

stopped_bad : (xs : List Piece) (r t : Reading) → bad_tables ≡ after xs r → bad_tables ≡ after xs (followed r t)
stopped_bad xs (finished zs) t e = let z : ◌≡◌ {A = ℕ} 0 1 = cc in absurd (omega arith)
stopped_bad xs (uncovered j) t e = e
stopped_bad xs bad_tables t e = e

-- ---- the loop over the words

module _ (image list : List ℕ) (m : Str → Str) (read : Str → Reading) (name : Str) where
  abbrev whole_reading : Reading
  whole_reading = read_words m read (words_in name)

  -- what the loop knows at b with `count` parts found
  pub record WordsRead (ps : List ℕ) (count b : ℕ) : Type 0 where
    pub so_far : PartsSoFar image list ps count b
    pub started : b ≤ length name → Starts name b
    pub near : b ≤ suc (length name)
    pub whole : whole_reading ≡ after (parts_at image list (take count ps)) (read_words m read (words_from name b))

  pub words_read_begin : (ps : List ℕ) → length ps ≡ frame_size → WordsRead ps 0 0
  words_read_begin ps l = record {
    so_far = record { sized = l; few = omega arith; within = λ k h. absurd (omega arith) };
    started = λ h. starts_first name;
    near = omega arith;
    whole = ap (read_words m read) (sym (words_begin name)) ∙ sym (after_none _);
  }

  module _ (ps : List ℕ) (count b : ℕ) (s : WordsRead ps count b) where
    module _ (h : b ≤ length name) (e : ℕ) (is : e ≡ end_at name b) where
      pub words_read_word : WordOf name b e
      words_read_word = record { inside = h; starts = s.started h; ends = is }

      end_near : e ≤ suc (length name)
      end_near = omega (arith, end_most name b h)

      -- the word at b comes first
      here : read_words m read (words_from name b) ≡ followed (read_word m read (word b (word_at name b))) (read_words m read (words_from name e))
      here = ap (read_words m read) (words_step name b h ∙ ap (λ (x : ℕ). word b (word_at name b) ∷ words_from name x) (sym is))

      module _ (ps' : List ℕ) (r : Result ℕ Unread) (o : ReadOn image list (parts_at image list (take count ps)) (read_word m read (word b (word_at name b))) e ps' r) where
        pub words_read_next : (k : ℕ) → r ≡ Ok k → WordsRead ps' k e
        words_read_next k q = record {
          so_far = record {
            sized = o.parted.sized;
            few = subst (EndsBy e) q o.parted.few;
            within = o.parted.within k q;
          };
          started = λ u. subst (Starts name) (sym is) (starts_next name b h (rw (sym is) u));
          near = end_near;
          whole = s.whole
              ∙ (ap (after (parts_at image list (take count ps))) here
              ∙ sym (followed_on (parts_at image list (take count ps)) (parts_at image list (take k ps')) (read_word m read (word b (word_at name b))) (read_words m read (words_from name e))
              (ap (parts_reading image list ps') (sym q) ∙ o.says)));
        }

        -- reading ended in the word
        pub words_read_stop : SoundName name → ((k : ℕ) → r ≡ Ok k → ⊥) → ReadOn image list [] whole_reading frame_size ps' r
        words_read_stop sound never = record {
          parted = record { sized = o.parted.sized; few = ends r refl; within = o.parted.within };
          says = by r refl ∙ (sym (ap (after (parts_at image list (take count ps))) here) ∙ (sym s.whole ∙ sym (after_none whole_reading)));
        }
          where
            ends : (x : Result ℕ Unread) → r ≡ x → EndsBy frame_size x
            ends (Ok k) q = absurd (never k q)
            ends (Err (Uncovered i)) q = let u : i ≤ e = subst (EndsBy e) q o.parted.few in omega (arith, end_near, sound.short)
            ends (Err BadTables) q = tt

            by : (x : Result ℕ Unread) → r ≡ x
                → parts_reading image list ps' x ≡ after (parts_at image list (take count ps)) (followed (read_word m read (word b (word_at name b))) (read_words m read (words_from name e)))
            by (Ok k) q = absurd (never k q)
            by (Err (Uncovered i)) q = stopped_at (parts_at image list (take count ps)) (read_word m read (word b (word_at name b))) (read_words m read (words_from name e)) i (ap (parts_reading image list ps') (sym q) ∙ o.says)
            by (Err BadTables) q = stopped_bad (parts_at image list (take count ps)) (read_word m read (word b (word_at name b))) (read_words m read (words_from name e)) (ap (parts_reading image list ps') (sym q) ∙ o.says)

    -- all words are read
    pub words_read_end : SoundName name → length name < b → ReadOn image list [] whole_reading frame_size ps (Ok count)
    words_read_end sound h = record {
      parted = record {
        sized = s.so_far.sized;
        few = omega (arith, s.so_far.few, s.near, sound.short);
        within = λ k q. let z : count ≡ k = cc in rw (sym z) s.so_far.within;
      };
      says = sym (s.whole ∙ (ap (λ (ws : List Word). after (parts_at image list (take count ps)) (read_words m read ws)) (words_past name b h) ∙ ap finished (append-nil _)) ∙ refl)
          ∙ sym (after_none whole_reading);
    }
