-- The parts of a walk put together: reading by the remembered states of all words, and the answer with its steps.
-- Assumes nothing.
use Prim.Native.Nat.{ℕ, zero, suc, ◌+◌, ◌*◌, ◌≤◌}
use native.Mathlib.Omega.{arith}
use mathlib.Core.Path.{◌≡◌, refl, sym, ap, ap₂, ◌∙◌}
use mathlib.Core.Bool.{Bool, true, false, cond, not, ◌&&◌, true≢false}
use mathlib.Core.List.{List, [], ◌∷◌, reverse}
use mathlib.Core.Option.{Option as Maybe}
use lib.Dec.{ltb, leb, eqb}
use lib.ListN.{length, get_or, take, drop}
use lib.Seq.{get_or-drop}
use borrow.Author.Tests.{ltb-false, ltb-true, leb-true, le-leb, lt-ltb}
use Rattle.std.specs.Prelude.{Option, is_some, unwrap_or, Err, Ok, Result}
use Rattle.rules.proofs.Cases.{by_bool, and_l, and_r}
use Rattle.rules.specs.Names.{SoundName}
use Rattle.exceptions.specs.Judging.{says_of}
use Rattle.rules.specs.Refusals.{Reply, accepted}
use Rattle.image.specs.Image.{edits_of, literals_of}
use Rattle.fitting.specs.Fitting.{Str, frame, fits}
use Rattle.fitting.specs.Reading.{Choice, chosen, nothing, unusable, applied, Reading, cons, past, onward, read_from}
use Rattle.speech.specs.Words.{Word, words_in, read_words, unlisted, word_at}
use Rattle.speech.specs.Speech.{Outcome, at_once, steps_of, answered, judged_by, Said, delivered, saying, told_of}
use Rattle.speech.specs.Places.{frame_size, parts_reading, Parted}
use Rattle.speech.specs.declared.Unread.{Unread}
use Rattle.speech.specs.declared.Unread.TheVariants.{Uncovered, BadTables}
use Rattle.reading.proofs.Loop.{after_none}
use Rattle.tables.specs.Tables.{Table}
use Rattle.tables.specs.Words.{head_words, edits_in, set_size, right_rows, right_sets, needed_words, needed_sets, table_at, Compiled, left_of, right_of}
use Rattle.tables.specs.Walk.{Step as State, step, pass, from, lookup, lowest, how_many, places, left_at, right_at, walk_usable, walk_choice, walk, lengths_fit, judged_tables, all_words, usable, walk_word, all_usable, steps_over, judged_passes, walk_through, walkedAs}
use Rattle.tables.proofs.SetWords.{choice_tables, shared_tables}
use Rattle.tables.proofs.Theorem.{delivered_steps}
use Rattle.tables.proofs.Words.{all_below_ext}
use Rattle.tables.proofs.Steps.{carried_alone}
use Rattle.passes.specs.Passes.{rows_at, left_rows_of, right_rows_of, Memory, passable, AllPassed}
use Rattle.table_reading.specs.Letters.{lowest_shared, count_shared, choice_by, choices_by, Held, Tells, NameRead}
use Rattle.walk.specs.Walked.{walked_of, compiled_with, steps_with, Fit, verdict, FitsAs}
use Rattle.walk.specs.declared.WalkAnswer.{WalkAnswer}

-- ---- the answer

steps-are : (image list ps : List ℕ) (r : Result ℕ Unread) (steps : ℕ) → steps_with r steps ≡ steps_of (answered (parts_reading image list ps r) steps)
steps-are image list ps (Ok k) steps = refl
steps-are image list ps (Err (Uncovered i)) steps = refl
steps-are image list ps (Err BadTables) steps = refl

pub walked_answer : (image list ps : List ℕ) (reached : Result ℕ Unread) (steps : ℕ) (phones numbers phones' numbers' : List ℕ) (a : WalkAnswer)
    → a.steps ≡ steps_with reached steps
    → saying (told_of a.speech) phones' numbers' ≡ delivered (answered (parts_reading image list ps reached) 0) phones numbers
    → walked_of a phones' numbers' ≡ walkedAs (answered (parts_reading image list ps reached) steps) phones numbers
walked_answer image list ps reached steps phones numbers phones' numbers' a g h =
    ap₂ (λ (s : Said) (k : ℕ). record { said = s; steps = k }) (h ∙ delivered_steps (parts_reading image list ps reached) 0 steps phones numbers) (g ∙ steps-are image list ps reached steps)

-- ---- readings with equal choices at the letters are equal

onward_ext : (c : Choice) (i : ℕ) (g h : ℕ → Reading) → ((j : ℕ) → i ≤ j → g j ≡ h j) → onward c i g ≡ onward c i h
onward_ext (chosen a) i g h s = ap (cons (applied a)) (s (past i a) (omega arith))
onward_ext nothing i g h s = refl
onward_ext unusable i g h s = refl

read_ext : (g h : ℕ → Choice) (n : ℕ) → ((i : ℕ) → 1 ≤ i → i ≤ n → g i ≡ h i) → (k i : ℕ) → 1 ≤ i → read_from g n k i ≡ read_from h n k i
read_ext g h n same zero i p = refl
read_ext g h n same (suc k) i p =
    by_bool (ltb n i)
    (λ e. rw e)
    (λ e. rw e (ap (λ (c : Choice). onward c i (read_from g n k)) (same i p (ltb-false n i e))
    ∙ onward_ext (h i) i (read_from g n k) (read_from h n k) (λ j q. read_ext g h n same k j (omega arith))))

-- a pass reads entries only, whatever the sets are
pass_same : (ws ss : List ℕ) (rows at count : ℕ) (s : State) (w : List ℕ) → pass (rows_at ws rows count) s w ≡ pass (table_at ws ss rows at count) s w
pass_same ws ss rows at count s [] = refl
pass_same ws ss rows at count s (c ∷ w) = pass_same ws ss rows at count (step (rows_at ws rows count) s c) w

-- ---- a word through the rows, and through the tables

module _ (ws ss : List ℕ) (l r : ℕ) (f : List ℕ) (n : ℕ) where
  abbrev tl : Table
  tl = left_of (compiled_with ws ss l r)

  abbrev tr : Table
  tr = right_of (compiled_with ws ss l r)

  left_same : (i : ℕ) → left_at (left_rows_of ws l) (right_rows_of ws l r) f n i ≡ left_at tl tr f n i
  left_same i = pass_same ws ss head_words 0 l (from 0) (take i f)

  right_same : (i : ℕ) → right_at (left_rows_of ws l) (right_rows_of ws l r) f n i ≡ right_at tl tr f n i
  right_same i = pass_same ws ss (right_rows l) (right_sets l) r (from 0) (reverse (drop i f))

  usable_same : walk_usable (left_rows_of ws l) (right_rows_of ws l r) f n ≡ walk_usable tl tr f n
  usable_same =
      ap₂ ◌&&◌
      (all_below_ext _ _ (λ i. ap (λ (s : State). ltb s.state l) (left_same i)) (suc n))
      (all_below_ext _ _ (λ i. ap (λ (s : State). ltb s.state r) (right_same i)) (suc n))

  -- the states at position i choose as the walk does
  choice_is : (image left right : List ℕ) (i : ℕ) → get_or left i 0 ≡ (left_at (left_rows_of ws l) (right_rows_of ws l r) f n i).state
      → get_or right i 0 ≡ (right_at (left_rows_of ws l) (right_rows_of ws l r) f n i).state
      → choices_by image ss (right_sets l) left right f i ≡ walk_choice tl tr f n (literals_of image) i
  unfolding choice_by
  choice_is image left right i a b =
      let x : get_or left i 0 ≡ (left_at tl tr f n i).state = a ∙ ap (λ (s : State). s.state) (left_same i) in
      let y : get_or right i 0 ≡ (right_at tl tr f n i).state = b ∙ ap (λ (s : State). s.state) (right_same i) in
      let z : set_size * get_or left i 0 ≡ 0 + set_size * get_or left i 0 = omega arith in
      ap (λ (k : ℕ). lookup (λ e. fits e.rule f i) (count_shared ss k (right_sets l + set_size * get_or right i 0)) (literals_of image) (lowest_shared ss k (right_sets l + set_size * get_or right i 0))) z
      ∙ (sym (ap₂ (λ (n : ℕ) (o : Maybe ℕ). lookup (λ e. fits e.rule f i) n (literals_of image) o)
      (shared_tables ws ws ss head_words 0 l (right_rows l) (right_sets l) r (get_or left i 0) (get_or right i 0))
      (choice_tables ws ws ss head_words 0 l (right_rows l) (right_sets l) r (get_or left i 0) (get_or right i 0)))
      ∙ ap₂
      (λ (q t : ℕ). lookup (λ e. fits e.rule f i) (how_many (λ k. tl.holds q k && tr.holds t k) places) (literals_of image) (lowest (λ k. tl.holds q k && tr.holds t k) places)) x y)

-- ---- all words

all_same : (t u : Str → Bool) → ((w : Str) → t w ≡ u w) → (vs : List Word) → all_words t vs ≡ all_words u vs
all_same t u h [] = refl
all_same t u h (v ∷ vs) = ap₂ ◌&&◌ (h v.letters) (all_same t u h vs)

-- ---- the tables judged

module _ (ws ss : List ℕ) (l r edits : ℕ) (fit stale : Bool) (fits-as : FitsAs ws ss l r edits fit stale) where
  passes_usable : fit ≡ true → (vs : List Word) → all_words (passable ws l r fit) vs ≡ all_usable (compiled_with ws ss l r) vs
  unfolding usable
  passes_usable t = all_same (passable ws l r fit) (usable (compiled_with ws ss l r)) (λ w. rw t (usable_same ws ss l r (frame w) (length w)))

  -- what is judged of the unlisted words is what their passes tell
  passes_judged : (vs : List Word) → judged_passes (compiled_with ws ss l r) edits vs ≡ cond (all_words (passable ws l r fit) vs) accepted (verdict false stale)
  passes_judged [] = refl
  passes_judged (v ∷ vs) =
      by_bool fit
      (λ t. rw (fits-as.is, passes_usable t (v ∷ vs), t, fits-as.apart t))
      (λ t. rw (fits-as.is, t) (by_bool stale (λ u. rw u) (λ u. rw u)))

module _ (image ws ss : List ℕ) (l r : ℕ) (fit stale : Bool) (fits-as : FitsAs ws ss l r (edits_of image) fit stale) (list : List ℕ) (name : Str) (sound : SoundName name) (m : Memory) (p : Option ℕ)
    (a : AllPassed ws l r fit list name m p) where
  abbrev c : Compiled
  c = compiled_with ws ss l r

  abbrev unsaid : List Word
  unsaid = unlisted (says_of list) (words_in name)

  -- what is read of the words, with their steps
  abbrev reads : Outcome
  reads = answered (read_words (says_of list) (walk_word c (literals_of image)) (words_in name)) (steps_over c unsaid)

  through_by : (b : Bool) → is_some p ≡ b → walk_through c (edits_of image) (literals_of image) name (says_of list) ≡ judged_by (cond b accepted (verdict false stale)) reads
  unfolding walk_through
  through_by b e = ap (λ (x : Reply). judged_by x reads) (passes_judged ws ss l r (edits_of image) fit stale fits-as unsaid ∙ ap (λ (t : Bool). cond t accepted (verdict false stale)) (sym a.usable ∙ e))

  pub through-stale : is_some p ≡ false → stale ≡ true → at_once 22 0 ≡ walk_through c (edits_of image) (literals_of image) name (says_of list)
  through-stale e t = sym (through_by false e ∙ rw t)

  pub through-unusable : is_some p ≡ false → stale ≡ false → at_once 16 0 ≡ walk_through c (edits_of image) (literals_of image) name (says_of list)
  through-unusable e t = sym (through_by false e ∙ rw t)

  module _ (e : is_some p ≡ true) (base : ℕ) (is : base ≡ cond fit (right_sets l) 0) where
    based : fit ≡ true → base ≡ right_sets l
    based t = is ∙ ap (λ (b : Bool). cond b (right_sets l) 0) t

    -- the memory after the passes tells of the list and the walk
    tells : Tells image ss base name m.found m.left m.right list (walk_word c (literals_of image))
    unfolding walk_word walk
    tells = record {
      parts = λ b h s. (a.known e b h s).part;
      reads = λ b h s z.
          let k = (a.known e b h s).states z in
          let w = word_at name b in
          ap (λ (x : ℕ). read_from (choices_by image ss x (drop b m.left) (drop b m.right) (frame w)) (length w) (length w) 1) (based ((a.known e b h s).fits z))
          ∙ read_ext _ _ (length w)
          (λ i low high.
          choice_is ws ss l r (frame w) (length w) image (drop b m.left) (drop b m.right) i (get_or-drop b m.left i 0 ∙ k.lefts i low high) (get_or-drop b m.right i 0 ∙ k.rights i low high))
          (length w) 1 (omega arith);
    }

    pub through_read : (ps : List ℕ) (x : Result ℕ Unread) → NameRead image ss base name m.found m.left m.right ps x
        → answered (parts_reading image list ps x) (unwrap_or p 0) ≡ walk_through c (edits_of image) (literals_of image) name (says_of list)
    through_read ps x n =
        ap₂ answered ((n list (walk_word c (literals_of image)) tells).says ∙ after_none (read_words (says_of list) (walk_word c (literals_of image)) (words_in name)))
        (a.steps e ∙ (carried_alone (left_rows_of ws l) (right_rows_of ws l r) 0 unsaid ∙ sym (carried_alone (left_of c) (right_of c) 0 unsaid)))
        ∙ sym (through_by true e)

    pub parts-read : (ps : List ℕ) (x : Result ℕ Unread) → NameRead image ss base name m.found m.left m.right ps x → Parted image list frame_size ps x
    parts-read ps x n = (n list (walk_word c (literals_of image)) tells).parted

    pub states-held : Held (length ss) base name m.found m.left m.right
    states-held b h s z k low high =
        let q = a.known e b h s in
        let f = (fits-as.facts (q.fits z)).sets-room in
        let d = based (q.fits z) in
        let x = (q.states z).left-small k low high in
        let y = (q.states z).right-small k low high in
        (omega arith, omega arith)

-- ---- the lengths and the edit count

pub count_differs : (ws : List ℕ) (edits high low e : ℕ) (long : Bool) → long ≡ true → high ≡ get_or ws 0 0 → low ≡ get_or ws 1 0 → e ≡ edits
    → not (eqb (65536 * high + low) e) ≡ (long && not (eqb (edits_in ws) edits))
count_differs ws edits high low e long t a b d = rw (t, a, b, d)

module _ (ws ss : List ℕ) (l r : ℕ) where
  pub fit_true : lengths_fit (compiled_with ws ss l r) ≡ true → Fit (length ws) (length ss) l r
  fit_true e =
      let a = and_r (leb head_words (length ws)) _ e in
      let b = and_r (ltb 0 l) _ a in
      let c = and_r (ltb 0 r) _ b in
      record {
        left = ltb-true 0 l (and_l (ltb 0 l) _ a);
        right = ltb-true 0 r (and_l (ltb 0 r) _ b);
        rows = leb-true (needed_words l r) (length ws) (and_l _ _ c);
        sets-room = leb-true (needed_sets l r) (length ss) (and_r (leb (needed_words l r) (length ws)) _ c);
      }

  pub fits_not : (Fit (length ws) (length ss) l r → ⊥) → false ≡ lengths_fit (compiled_with ws ss l r)
  fits_not h = sym (by_bool (lengths_fit (compiled_with ws ss l r)) (λ e. absurd (h (fit_true e))) (λ e. e))

  pub fits_so : Fit (length ws) (length ss) l r → true ≡ lengths_fit (compiled_with ws ss l r)
  fits_so f =
      rw (le-leb head_words (length ws) (omega (arith, f.rows)), lt-ltb 0 l f.left, lt-ltb 0 r f.right, le-leb (needed_words l r) (length ws) f.rows, le-leb (needed_sets l r) (length ss) f.sets-room)

  -- so the tests of the lengths and of the edit count say whether names can be sent through
  pub tests_fit : (edits : ℕ) (long stale fit : Bool) → long ≡ lengths_fit (compiled_with ws ss l r) → stale ≡ (long && not (eqb (edits_in ws) edits)) → fit ≡ (long && not stale)
      → FitsAs ws ss l r edits fit stale
  unfolding judged_tables
  tests_fit edits long stale fit a b d =
      by_bool long
      (λ t. by_bool (eqb (edits_in ws) edits)
      (λ e.
      let u : stale ≡ false = b ∙ rw (t, e) in
      let v : fit ≡ true = d ∙ rw (t, u) in
      record { is = rw (← a, t, e, v); apart = λ x. u; facts = λ x. fit_true (sym a ∙ t) })
      (λ e.
      let u : stale ≡ true = b ∙ rw (t, e) in
      let v : fit ≡ false = d ∙ rw (t, u) in
      record { is = rw (← a, t, e, v, u); apart = λ x. absurd (true≢false (sym x ∙ v)); facts = λ x. absurd (true≢false (sym x ∙ v)) }))
      (λ t.
      let u : stale ≡ false = b ∙ rw t in
      let v : fit ≡ false = d ∙ rw t in
      record { is = rw (← a, t, v, u); apart = λ x. u; facts = λ x. absurd (true≢false (sym x ∙ v)) })
