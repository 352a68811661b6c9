-- The passes of the words of a name, one word after another: what one word's passes do to the memory, and the loop over the words.
-- Assumes nothing.
use Prim.Native.Nat.{ℕ, suc, ◌+◌, ◌-◌, ◌*◌, ◌≤◌, ◌<◌}
use native.Mathlib.Omega.{arith}
use native.Mathlib.Decide.{dec_le}
use mathlib.Core.Path.{◌≡◌, refl, sym, ap, ◌∙◌, subst}
use mathlib.Core.Bool.{Bool, true, false, ◌&&◌}
use mathlib.Core.List.{List, [], ◌∷◌, ◌++◌}
use lib.ListN.{length, get_or, take, drop, set, length-set, get_or-append}
use lib.Seq.{get_or-set_same, get_or-set_other, get_or-append-add, get_or-take, get_or-drop, length-take-le}
use Rattle.std.specs.Prelude.{Option, Some, None, is_some, unwrap_or}
use Rattle.rules.proofs.Cases.{and_l}
use Rattle.rules.specs.Names.{SoundName}
use Rattle.exceptions.specs.Judging.{says_of}
use Rattle.fitting.specs.Fitting.{Str, frame}
use Rattle.speech.specs.Words.{Word, word, words_in, unless, unlisted, frame_of, word_at, end_at, Starts, WordOf, words_from}
use Rattle.speech.specs.Places.{frame_size, FoundFor}
use Rattle.fitting.proofs.Strings.{frame_long}
use Rattle.reading.proofs.NameWords.{words_begin, words_step, words_past, end_most, starts_first, starts_next, no_start, word_long, frame_length, frame_symbols}
use Rattle.reading.proofs.WordReading.{part_long}
use Rattle.tables.specs.Walk.{walk_usable, all_words, carried}
use Rattle.tables.proofs.Truth.{clash}
use Rattle.tables.proofs.Steps.{count-after}
use Rattle.tables.specs.Words.{row_size}
use Rattle.passes.specs.Passes.{Symbols, left_rows_of, right_rows_of, Both, Memory, memory, Sized, passable, KeptTo, WordPassed, Known, AllPassed}
use Rattle.passes.proofs.Both.{count-is}

-- ---- one word

-- elements laid from b on
module _ (b : ℕ) (xs ys zs : List ℕ) (is : zs ≡ take b xs ++ ys) (h : b ≤ length xs) where
  laid_at : (k : ℕ) → get_or zs (b + k) 0 ≡ get_or ys k 0
  laid_at k =
      ap (λ (l : List ℕ). get_or l (b + k) 0) is
      ∙ (ap (λ (x : ℕ). get_or (take b xs ++ ys) (x + k) 0) (sym (length-take-le b xs h)) ∙ get_or-append-add (take b xs) ys k 0)

  laid_before : (j : ℕ) → j < b → get_or zs j 0 ≡ get_or xs j 0
  laid_before j u =
      ap (λ (l : List ℕ). get_or l j 0) is ∙ (get_or-append (take b xs) ys 0 j (omega (arith, length-take-le b xs h)) ∙ get_or-take b xs j 0 u)

module _ (ws : List ℕ) (l r : ℕ) (fit : Bool) (list : List ℕ) (w : Str) (b k : ℕ) (found left right : List ℕ) (part : ℕ) (found-for : FoundFor list w part)
    (sized : Sized (memory found left right)) (inside : b < frame_size) where
  abbrev found' : List ℕ
  found' = set found b part

  here : get_or found' b 0 ≡ part
  here = get_or-set_same found b part 0 (omega (arith, sized.found))

  found_kept : (j : ℕ) → j < b → get_or found' j 0 ≡ get_or found j 0
  found_kept j h = get_or-set_other found b j part 0 (λ e. omega arith)

  abbrev same : Memory
  same = memory found' left right

  same_sized : Sized same
  same_sized = record { found = length-set found b part ∙ sized.found; left = sized.left; right = sized.right }

  same_kept : KeptTo b (memory found left right) same
  same_kept = record { found = found_kept; left = λ j h. refl; right = λ j h. refl }

  -- said from the list
  pub word-listed : 0 < part → WordPassed ws l r fit list w b k (memory found left right) same (Some k)
  word-listed h = record {
    sized = same_sized;
    kept = same_kept;
    part = subst (FoundFor list w) (sym here) found-for;
    listed = λ u. (refl, refl);
    usable = λ z. absurd (omega (arith, here));
    steps = λ z. absurd (omega (arith, here));
    states = λ z. absurd (omega (arith, here));
  }

  module _ (none : part ≡ 0) where
    -- the lengths do not fit
    pub word-unfit : fit ≡ false → WordPassed ws l r fit list w b k (memory found left right) same None
    word-unfit e = record {
      sized = same_sized;
      kept = same_kept;
      part = subst (FoundFor list w) (sym here) found-for;
      listed = λ u. absurd (omega (arith, here));
      usable = λ z. sym (ap (λ (t : Bool). t && walk_usable (left_rows_of ws l) (right_rows_of ws l r) (frame w) (length w)) e);
      steps = λ z y. clash y refl;
      states = λ z y. clash y refl;
    }

    -- both passes over its frame, with the states laid from b on
    pub word-passes : fit ≡ true → (f : Str) → f ≡ frame w → (left₂ right₂ left' right' : List ℕ) → left' ≡ take b left ++ left₂ → right' ≡ take b right ++ right₂
        → length left' ≡ length left → length right' ≡ length right → (p : Option ℕ) → Both ws l r f (length f - 2) k left₂ right₂ p
        → WordPassed ws l r fit list w b k (memory found left right) (memory found' left' right') p
    word-passes e f is left₂ right₂ left' right' x y a c p q =
        let n : length (frame w) - 2 ≡ length w = omega (arith, frame_long w) in
        let z : Both ws l r (frame w) (length w) k left₂ right₂ p =
        subst (λ (n : ℕ). Both ws l r (frame w) n k left₂ right₂ p) n (subst (λ (g : Str). Both ws l r g (length g - 2) k left₂ right₂ p) is q) in
        let hl : b ≤ length left = omega (arith, sized.left) in
        let hr : b ≤ length right = omega (arith, sized.right) in
        record {
          sized = record { found = length-set found b part ∙ sized.found; left = a ∙ sized.left; right = c ∙ sized.right };
          kept = record { found = found_kept; left = laid_before b left left₂ left' x hl; right = laid_before b right right₂ right' y hr };
          part = subst (FoundFor list w) (sym here) found-for;
          listed = λ u. absurd (omega (arith, here));
          usable = λ u. z.usable ∙ sym (ap (λ (t : Bool). t && walk_usable (left_rows_of ws l) (right_rows_of ws l r) (frame w) (length w)) e);
          steps = λ u v. z.looked v ∙ count-is (left_rows_of ws l) (right_rows_of ws l r) k w;
          states = λ u v. record {
            lefts = λ i low high. laid_at b left left₂ left' x hl i ∙ z.lefts v i low (omega arith);
            rights = λ i low high. laid_at b right right₂ right' y hr i ∙ z.rights v i low (omega arith);
            left-small = λ i low high. subst (λ (s : ℕ). s < l) (sym (laid_at b left left₂ left' x hl i)) (z.left-small v i low (omega arith));
            right-small = λ i low high. subst (λ (s : ℕ). s < r) (sym (laid_at b right right₂ right' y hr i)) (z.right-small v i low (omega arith));
          };
        }

-- the symbols of its part of the frame
pub part_symbols : (name f : Str) → f ≡ frame_of name → (b e : ℕ) → WordOf name b e → SoundName name → Symbols (take (e + 1 - b) (drop b f))
part_symbols name f is b e v sound k h =
    let l = part_long name f is b e v in
    let i = word_long name b v.inside in
    let n : k < e + 1 - b = omega (arith, v.ends) in
    subst (λ (x : ℕ). x < row_size) (sym (get_or-take (e + 1 - b) (drop b f) k 0 n ∙ (get_or-drop b f k 0 ∙ ap (λ (g : Str). get_or g (b + k) 0) is)))
    (frame_symbols name sound (b + k) (omega (arith, frame_length name, v.ends)))

-- ---- the loop over the words

-- a word that is listed is not among those that pass, any other is the first of them
pub unlisted-out : (m : Str → Str) (v : Word) (vs : List Word) → 1 ≤ length (m v.letters) → unlisted m (v ∷ vs) ≡ unlisted m vs
unlisted-out m v vs h = by (m v.letters) h
  where
    by : (p : Str) → 1 ≤ length p → unless p (v ∷ unlisted m vs) (unlisted m vs) ≡ unlisted m vs
    by [] u = absurd (omega arith)
    by (x ∷ p) u = refl

pub unlisted-in : (m : Str → Str) (v : Word) (vs : List Word) → m v.letters ≡ [] → unlisted m (v ∷ vs) ≡ v ∷ unlisted m vs
unlisted-in m v vs e = ap (λ (p : Str). unless p (v ∷ unlisted m vs) (unlisted m vs)) e

-- what is known of a word stays known where nothing before its end is written
known_kept : (ws : List ℕ) (l r : ℕ) (fit : Bool) (list : List ℕ) (w : Str) (j b : ℕ) (m m' : Memory) → KeptTo b m m' → suc (j + length w) ≤ b → Known ws l r fit list w j m → Known ws l r fit list w j m'
known_kept ws l r fit list w j b m m' k h q =
    let e : get_or m.found j 0 ≡ get_or m'.found j 0 = sym (k.found j (omega arith)) in
    record {
      part = subst (FoundFor list w) e q.part;
      fits = λ z. q.fits (e ∙ z);
      states = λ z. let s = q.states (e ∙ z) in record {
        lefts = λ i low high. k.left (j + i) (omega arith) ∙ s.lefts i low high;
        rights = λ i low high. k.right (j + i) (omega arith) ∙ s.rights i low high;
        left-small = λ i low high. subst (λ (x : ℕ). x < l) (sym (k.left (j + i) (omega arith))) (s.left-small i low high);
        right-small = λ i low high. subst (λ (x : ℕ). x < r) (sym (k.right (j + i) (omega arith))) (s.right-small i low high);
      };
    }

module _ (ws : List ℕ) (l r : ℕ) (fit : Bool) (list : List ℕ) (name : Str) where
  abbrev passing : List Word → Bool
  passing vs = all_words (passable ws l r fit) (unlisted (says_of list) vs)

  -- the count after the passes of words, going on from k
  abbrev counted : ℕ → List Word → ℕ
  counted k vs = carried (left_rows_of ws l) (right_rows_of ws l r) false [] k (unlisted (says_of list) vs)

  -- what the loop knows at b with so many steps taken
  pub record PassedTo (m : Memory) (steps b : ℕ) : Type 0 where
    pub sized : Sized m
    pub started : b ≤ length name → Starts name b
    pub near : b ≤ suc (length name)
    pub few : steps ≤ 2 * b
    pub usable : passing (words_in name) ≡ passing (words_from name b)
    pub steps-are : counted 0 (words_in name) ≡ counted steps (words_from name b)
    pub ended : (j : ℕ) → j < b → Starts name j → end_at name j ≤ b
    pub known : (j : ℕ) → j < b → Starts name j → Known ws l r fit list (word_at name j) j m

  pub passed-begin : (m : Memory) → Sized m → PassedTo m 0 0
  passed-begin m s = record {
    sized = s;
    started = λ h. starts_first name;
    near = omega arith;
    few = omega arith;
    usable = ap passing (sym (words_begin name));
    steps-are = ap (counted 0) (sym (words_begin name));
    ended = λ j h. absurd (omega arith);
    known = λ j h. absurd (omega arith);
  }

  module _ (sound : SoundName name) (m : Memory) (steps b : ℕ) (s : PassedTo m steps b) where
    module _ (h : b ≤ length name) (e : ℕ) (is : e ≡ end_at name b) where
      pub passed-word : WordOf name b e
      passed-word = record { inside = h; starts = s.started h; ends = is }

      abbrev w : Str
      w = word_at name b

      first : words_from name b ≡ word b w ∷ words_from name e
      first = words_step name b h ∙ ap (λ (x : ℕ). word b w ∷ words_from name x) (sym is)

      module _ (m' : Memory) (p : Option ℕ) (o : WordPassed ws l r fit list w b steps m m' p) where
        absent : get_or m'.found b 0 ≡ 0 → unlisted (says_of list) (words_from name b) ≡ word b w ∷ unlisted (says_of list) (words_from name e)
        absent z = ap (unlisted (says_of list)) first ∙ unlisted-in (says_of list) (word b w) (words_from name e) (o.part.none z)

        present : 0 < get_or m'.found b 0 → unlisted (says_of list) (words_from name b) ≡ unlisted (says_of list) (words_from name e)
        present z = ap (unlisted (says_of list)) first ∙ unlisted-out (says_of list) (word b w) (words_from name e) (o.part.some z)

        module _ (good : is_some p ≡ true) where
          word_good : get_or m'.found b 0 ≡ 0 → passable ws l r fit w ≡ true
          word_good z = sym (o.usable z) ∙ good

          on_usable : Dec (get_or m'.found b 0 ≤ 0) → passing (words_from name b) ≡ passing (words_from name e)
          on_usable (yes y) =
              let z : get_or m'.found b 0 ≡ 0 = omega arith in
              ap (all_words (passable ws l r fit)) (absent z) ∙ ap (λ (t : Bool). t && passing (words_from name e)) (word_good z)
          on_usable (no y) = ap (all_words (passable ws l r fit)) (present (omega arith))

          on_steps : Dec (get_or m'.found b 0 ≤ 0) → counted steps (words_from name b) ≡ counted (unwrap_or p 0) (words_from name e)
          on_steps (yes y) =
              let z : get_or m'.found b 0 ≡ 0 = omega arith in
              ap (carried (left_rows_of ws l) (right_rows_of ws l r) false [] steps) (absent z) ∙ ap (λ (k : ℕ). counted k (words_from name e)) (sym (o.steps z good))
          on_steps (no y) =
              let z : 0 < get_or m'.found b 0 = omega arith in
              ap (carried (left_rows_of ws l) (right_rows_of ws l r) false [] steps) (present z) ∙ ap (λ (k : ℕ). counted k (words_from name e)) (sym (o.listed z).1)

          pass_few : Dec (get_or m'.found b 0 ≤ 0) → unwrap_or p 0 ≤ steps + (2 * length w + 2)
          pass_few (yes y) = let z : get_or m'.found b 0 ≡ 0 = omega arith in omega (arith, o.steps z good, count-after (left_rows_of ws l) (right_rows_of ws l r) steps w)
          pass_few (no y) = omega (arith, (o.listed (omega arith)).1)

          word_known : Known ws l r fit list w b m'
          word_known = record { part = o.part; fits = λ z. and_l fit _ (word_good z); states = λ z. o.states z good }

          by_place : (j : ℕ) → j < e → Starts name j → (P : Type 0) → (j < b → P) → (j ≡ b → P) → P
          by_place j u t P low at = go (dec_le b j) (dec_le j b)
            where
              go : Dec (b ≤ j) → Dec (j ≤ b) → P
              go (no y) z = low (omega arith)
              go (yes y) (yes z) = at (omega arith)
              go (yes y) (no z) = absurd (no_start name b j h (omega arith) (omega arith) sound t)

          pub passed-next : PassedTo m' (unwrap_or p 0) e
          passed-next = record {
            sized = o.sized;
            started = λ u. subst (Starts name) (sym is) (starts_next name b h (rw (sym is) u));
            near = omega (arith, end_most name b h);
            few = omega (arith, s.few, pass_few (dec_le (get_or m'.found b 0) 0));
            usable = s.usable ∙ on_usable (dec_le (get_or m'.found b 0) 0);
            steps-are = s.steps-are ∙ on_steps (dec_le (get_or m'.found b 0) 0);
            ended = λ j u t. by_place j u t (end_at name j ≤ e) (λ v. omega (arith, s.ended j v t)) (λ v. let z : end_at name j ≡ end_at name b = ap (end_at name) v in omega arith);
            known = λ j u t. by_place j u t (Known ws l r fit list (word_at name j) j m')
                (λ v. known_kept ws l r fit list (word_at name j) j b m m' o.kept (s.ended j v t) (s.known j v t))
                (λ v. subst (λ (x : ℕ). Known ws l r fit list (word_at name x) x m') (sym v) word_known);
          }

        -- a pass of the word leads to a state out of range
        pub passed-bad : is_some p ≡ false → AllPassed ws l r fit list name m' p
        passed-bad bad = record {
          sized = o.sized;
          usable = bad ∙ sym (s.usable ∙ off (dec_le (get_or m'.found b 0) 0));
          steps = λ u. clash u bad;
          known = λ u. clash u bad;
        }
          where
            off : Dec (get_or m'.found b 0 ≤ 0) → passing (words_from name b) ≡ false
            off (yes y) =
                let z : get_or m'.found b 0 ≡ 0 = omega arith in
                ap (all_words (passable ws l r fit)) (absent z) ∙ ap (λ (t : Bool). t && passing (words_from name e)) (sym (o.usable z) ∙ bad)
            off (no y) = clash (o.listed (omega arith)).0 bad

    -- all words have passed
    pub passed-end : length name < b → AllPassed ws l r fit list name m (Some steps)
    passed-end h = record {
      sized = s.sized;
      usable = sym (s.usable ∙ ap passing (words_past name b h));
      steps = λ u. sym (s.steps-are ∙ ap (counted steps) (words_past name b h));
      known = λ u j v t. s.known j (omega arith) t;
    }
