-- Reading the words of a name by their remembered states, one word after another: what one word gives, and the loop over the words
-- (reading/proofs/NameReading), for any list and reading that the memory tells of.
-- Assumes nothing.
use Rattle.std.specs.Prelude.{Err, Ok, Result}
use Prim.Native.Nat.{ℕ, suc, ◌+◌, ◌-◌, ◌*◌, ◌≤◌, ◌<◌}
use native.Mathlib.Omega.{arith}
use native.Mathlib.Decide.{dec_le}
use mathlib.Core.Path.{◌≡◌, refl, sym, ap, ap₂, ◌∙◌, subst}
use mathlib.Core.Bool.{true}
use mathlib.Core.List.{List, ◌++◌}
use lib.ListN.{length, get_or, take, drop, set, length-set, length-drop}
use lib.Seq.{get_or-drop, length-take-le, take_all}
use Rattle.rules.specs.Limits.{max_name}
use Rattle.rules.specs.Names.{SoundName}
use Rattle.exceptions.specs.Judging.{says_of}
use Rattle.image.specs.Image.{valid}
use Rattle.fitting.specs.Fitting.{Str}
use Rattle.fitting.specs.Reading.{Choice, Reading, read_from}
use Rattle.speech.specs.Words.{word, read_word, frame_of, word_at, end_at, Starts, WordOf}
use Rattle.speech.specs.Places.{EndsBy, Placed, ReadBy, parts_at, frame_size, ReadOn, ended_in}
use Rattle.speech.specs.declared.Unread.{Unread}
use Rattle.speech.specs.declared.Unread.TheVariants.{Uncovered, BadTables}
use Rattle.reading.proofs.NameWords.{end_most, starts_first, starts_next, word_long}
use Rattle.reading.proofs.NameReading.{WordsRead, words_read_begin, words_read_next, words_read_stop, words_read_end}
use Rattle.reading.proofs.WordReading.{part_frame, part_long, listed_part, read_part}
use Rattle.tables.specs.Words.{set_size}
use Rattle.table_reading.specs.Letters.{choices_by, Bounded, suffix, between, WordRead, Held, Tells, NameRead, FewParts}

-- ---- one word

pub word-listed : (image : List ℕ) (choose : ℕ → Choice) (n count b part : ℕ) (ps : List ℕ) → 0 < part → WordRead image choose n count b part ps (set ps count part) (Ok (count + 1))
word-listed image choose n count b part ps h = record { sized = length-set ps count part; listed = λ u. (refl, refl); read = λ z. absurd (omega arith) }

pub word_letters : (image : List ℕ) (choose : ℕ → Choice) (n count b part : ℕ) (ps ps₂ ps' : List ℕ) (reached r : Result ℕ Unread) → part ≡ 0 → ps' ≡ take count ps ++ ps₂ → length ps' ≡ length ps
    → ReadBy image choose n ps₂ reached → r ≡ ended_in count b reached → WordRead image choose n count b part ps ps' r
word_letters image choose n count b part ps ps₂ ps' reached r z laid long by ended = record {
  sized = long;
  listed = λ u. absurd (omega arith);
  read = λ u. record { parts = ps₂; laid = laid; reached = reached; by = by; ended = ended };
}

-- a part of the frame that lies in it
pub between_long : (b e : ℕ) (f : List ℕ) → e ≤ length f → length (between b e f) ≡ e - b
between_long b e f h = length-take-le (e - b) (drop b f) (omega (arith, length-drop b f))

suffix_is : (b : ℕ) (xs : List ℕ) → suffix b xs ≡ drop b xs
suffix_is b xs = take_all (length xs - b) (drop b xs) (omega (arith, length-drop b xs))

-- ---- the loop over the words

module _ (image ss : List ℕ) (base : ℕ) (name : Str) (found left right : List ℕ) where
  -- what the loop knows at b with `count` parts found
  pub record NameGoing (ps : List ℕ) (count b : ℕ) : Type 0 where
    pub sized : length ps ≡ frame_size
    pub few : count ≤ b
    pub near : b ≤ suc (length name)
    pub started : b ≤ length name → Starts name b
    pub whole : (list : List ℕ) (read : Str → Reading) → Tells image ss base name found left right list read → WordsRead image list (says_of list) read name ps count b

  pub few_so_far : (ps : List ℕ) (count b : ℕ) → NameGoing ps count b → FewParts name (Ok count)
  few_so_far ps count b s k q = let x : count ≡ k = cc in omega (arith, s.few, s.near)

  pub name_begin : (ps : List ℕ) → length ps ≡ frame_size → NameGoing ps 0 0
  name_begin ps l = record {
    sized = l;
    few = omega arith;
    near = omega arith;
    started = λ h. starts_first name;
    whole = λ list read t. words_read_begin image list (says_of list) read name ps l;
  }

  module _ (ok : valid image ≡ true) (sound : SoundName name) (f : Str) (framed : f ≡ frame_of name) (ps : List ℕ) (count b : ℕ) (s : NameGoing ps count b) where
    module _ (h : b ≤ length name) (e : ℕ) (is : e ≡ end_at name b) where
      pub name_word : WordOf name b e
      name_word = record { inside = h; starts = s.started h; ends = is }

      abbrev w : Str
      w = word_at name b

      abbrev g : Str
      g = between b (e + 1) f

      long : length g - 2 ≡ length w
      long = omega (arith, part_long name f framed b e name_word)

      -- the states of an unlisted word have sets
      pub name_bounded : length left ≡ frame_size → length right ≡ frame_size → Held (length ss) base name found left right → get_or found b 0 ≡ 0
          → Bounded (length ss) base (length g - 2) (suffix b left) (suffix b right)
      name_bounded x y held z = record {
        left-room = omega (arith, ap length (suffix_is b left), length-drop b left, long, word_long name b h, sound.short);
        right-room = omega (arith, ap length (suffix_is b right), length-drop b right, long, word_long name b h, sound.short);
        lefts = λ k low high.
            subst (λ (q : ℕ). set_size * q + set_size ≤ length ss) (sym (ap (λ (l : List ℕ). get_or l k 0) (suffix_is b left) ∙ get_or-drop b left k 0)) (held b h (s.started h) z k low (omega (arith, long))).0;
        rights = λ k low high.
            subst (λ (q : ℕ). base + set_size * q + set_size ≤ length ss) (sym (ap (λ (l : List ℕ). get_or l k 0) (suffix_is b right) ∙ get_or-drop b right k 0)) (held b h (s.started h) z k low (omega (arith, long))).1;
      }

      module _ (ps' : List ℕ) (r : Result ℕ Unread)
          (o : WordRead image (choices_by image ss base (suffix b left) (suffix b right) g) (length g - 2) count b (get_or found b 0) ps ps' r) where
        near_name : b ≤ max_name
        near_name = omega (arith, sound.short)

        -- the word as reading takes it
        read_on : (list : List ℕ) (read : Str → Reading) → Tells image ss base name found left right list read
            → ReadOn image list (parts_at image list (take count ps)) (read_word (says_of list) read (word b w)) e ps' r
        read_on list read t = by (dec_le (get_or found b 0) 0)
          where
            by_letters : get_or found b 0 ≡ 0 → ReadOn image list (parts_at image list (take count ps)) (read_word (says_of list) read (word b w)) e ps' r
            by_letters z =
                let q = o.read z in
                let so = (s.whole list read t).so_far in
                read_part image list ps count b so near_name w e is read ok q.parts ps' q.laid o.sized q.reached
                (subst (λ (n : ℕ). Placed image n q.parts q.reached) long q.by.placed)
                ((t.parts b h (s.started h)).none z)
                (q.by.says
                ∙ (ap₂ (λ (x y : List ℕ). read_from (choices_by image ss base x y g) (length g - 2) (length g - 2) 1) (suffix_is b left) (suffix_is b right)
                ∙ (ap₂ (λ (v : Str) (n : ℕ). read_from (choices_by image ss base (drop b left) (drop b right) v) n n 1) (part_frame name f framed b e name_word) long ∙ t.reads b h (s.started h) z)))
                r q.ended

            by_list : 0 < get_or found b 0 → ReadOn image list (parts_at image list (take count ps)) (read_word (says_of list) read (word b w)) e ps' r
            by_list u =
                let q = o.listed u in
                let so = (s.whole list read t).so_far in
                subst (λ (x : Result ℕ Unread). ReadOn image list (parts_at image list (take count ps)) (read_word (says_of list) read (word b w)) e ps' x) (sym q.1)
                (subst (λ (x : List ℕ). ReadOn image list (parts_at image list (take count ps)) (read_word (says_of list) read (word b w)) e x (Ok (count + 1))) (sym q.0)
                (listed_part image list ps count b so near_name w e is read (get_or found b 0) u (t.parts b h (s.started h))))

            by : Dec (get_or found b 0 ≤ 0) → ReadOn image list (parts_at image list (take count ps)) (read_word (says_of list) read (word b w)) e ps' r
            by (yes y) = by_letters (omega arith)
            by (no y) = by_list (omega arith)

        few_parts : (k : ℕ) → r ≡ Ok k → Dec (get_or found b 0 ≤ 0) → k ≤ e
        few_parts k q (no y) = let z : Ok (count + 1) ≡ Ok k = sym (o.listed (omega arith)).1 ∙ q in let x : count + 1 ≡ k = cc in omega (arith, s.few)
        few_parts k q (yes y) = let z = o.read (omega arith) in ended_few z.reached z.by.placed.few (sym z.ended ∙ q)
          where
            ended_few : (x : Result ℕ Unread) → EndsBy (length g - 2) x → ended_in count b x ≡ Ok k → k ≤ e
            ended_few (Ok j) u v = let x : count + j ≡ k = cc in omega (arith, s.few, long)
            ended_few (Err (Uncovered i)) u v = let x : ◌≡◌ {A = ℕ} 0 1 = cc in absurd (omega arith)
            ended_few (Err BadTables) u v = let x : ◌≡◌ {A = ℕ} 0 1 = cc in absurd (omega arith)

        pub name-next : (k : ℕ) → r ≡ Ok k → NameGoing ps' k e
        name-next k q = record {
          sized = o.sized ∙ s.sized;
          few = few_parts k q (dec_le (get_or found b 0) 0);
          near = omega (arith, end_most name b h);
          started = λ u. subst (Starts name) (sym is) (starts_next name b h (rw (sym is) u));
          whole = λ list read t. words_read_next image list (says_of list) read name ps count b (s.whole list read t) h e is ps' r (read_on list read t) k q;
        }

        pub name_stop : ((k : ℕ) → r ≡ Ok k → ⊥) → NameRead image ss base name found left right ps' r
        name_stop never = λ list read t. words_read_stop image list (says_of list) read name ps count b (s.whole list read t) h e is ps' r (read_on list read t) sound never

    pub name-end : length name < b → NameRead image ss base name found left right ps (Ok count)
    name-end h = λ list read t. words_read_end image list (says_of list) read name ps count b (s.whole list read t) sound h
