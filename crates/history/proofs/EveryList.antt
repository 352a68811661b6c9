-- Demand 3 over the list itself: every list of edits whose arguments are of the functions' types, and whose letters a slice can hold, has a
-- code and a pool of letters that a call can be lent, and of that call's outcome the claim holds for this very list.
-- Assumes nothing.
use Prim.Native.Nat.{ℕ, zero, suc, ◌+◌, ◌-◌, ◌*◌, ◌<◌, ◌≤◌, ◌/◌}
use mathlib.Core.Path.{◌≡◌, refl, sym, ap, ap₂, ◌∙◌}
use mathlib.Core.List.{List, [], ◌∷◌, ◌++◌, append-nil}
use native.Mathlib.Nat.{mod-eq_of_lt}
use native.Mathlib.Omega.{arith}
use borrow.Author.Tests.{le-leb}
use lib.ListN.{length, get_or, take, drop, replicate, length-append}
use lib.Seq.{take_at, drop_at, drop-drop}
use Rattle.rules.specs.Memory.{Below, word_bound}
use Rattle.rules.specs.Refusals.{Reply, accepted}
use Rattle.rules.specs.declared.Rule.{Rule}
use Rattle.rule_bytes.specs.RuleBytes.{rule_size, rule_of, length_bytes, ruleBytes, Filled}
use Rattle.rule_bytes.proofs.Fields.{rule_bytes, past_rule, rule_length}
use Rattle.image.specs.Image.{image_size, cleared}
use Rattle.edits.specs.Ledger.{Edit}
use Rattle.edits.specs.Ledger.Edit.{Add, Drop, Move, SetClass}
use Rattle.edits.specs.Edits.{FilledEdit}
use Rattle.history.specs.Code.{edit_words, first_bytes, coded_edit, coded_edits, words_of, letters_of, pool_of, words_from, words_all, TypedRule, Typed, TypedAll}
use Rattle.history.specs.Replay.{turns, taken, Replay, through, through_by, replayed, ReplayedList}
use Rattle.history.proofs.Runs.{from_empty}

-- ---- the code of a list says the list

bytes_said : (l ws : List ℕ) → Below 256 l → first_bytes (length l) (l ++ ws) ≡ l
unfolding first_bytes
bytes_said [] ws h = refl
bytes_said (x ∷ l) ws h = ap₂ ◌∷◌ (mod-eq_of_lt (h 0)) (bytes_said l ws (λ k. h (suc k)))

below_append : (l m : List ℕ) → Below 256 l → Below 256 m → Below 256 (l ++ m)
below_append [] m h k i = k i
below_append (x ∷ l) m h k zero = h 0
below_append (x ∷ l) m h k (suc i) = below_append l m (λ j. h (suc j)) k i

module _ (r : Rule) (u : TypedRule r) where
  rule_filled : Filled r
  rule_filled = (u.left.0, (u.target.0, (u.right.0, u.phones.0)))

  lengths_below : Below 256 (length_bytes r)
  lengths_below zero = u.«left-len»
  lengths_below (suc zero) = u.«target-len»
  lengths_below (suc (suc zero)) = u.«right-len»
  lengths_below (suc (suc (suc zero))) = u.«phone-len»
  lengths_below (suc (suc (suc (suc k)))) = omega arith

  rule_below : Below 256 (ruleBytes r)
  unfolding ruleBytes
  rule_below =
      let p : List ℕ = r.phones in
      let g : List ℕ = r.right ++ p in
      let t : List ℕ = r.target ++ g in
      below_append (length_bytes r) (r.left ++ t) lengths_below
      (below_append r.left t u.left.1 (below_append r.target g u.target.1 (below_append r.right p u.right.1 u.phones.1)))

  rule_said : (ws : List ℕ) → rule_of (first_bytes rule_size (ruleBytes r ++ ws)) ≡ r
  rule_said ws =
      ap (λ (n : ℕ). rule_of (first_bytes n (ruleBytes r ++ ws))) (sym (rule_length r rule_filled))
      ∙ (ap rule_of (bytes_said (ruleBytes r) ws rule_below ∙ sym (append-nil (ruleBytes r))) ∙ rule_bytes r [] rule_filled)

-- the letters of an edit stand in the pool from `at` on
abbrev Stand : ℕ → List ℕ → List ℕ → Type 0
Stand at l pool = take (length l) (drop at pool) ≡ l

module _ (pool ws : List ℕ) (at : ℕ) where
  edit_said : (e : Edit) → Typed e → Stand at (letters_of e) pool → coded_edit pool (words_of at e ws) ≡ e
  edit_said (Add r p) t h = ap (λ (x : Rule). Add x p) (rule_said r t.0 ws)
  edit_said (Drop n) t h = rw (mod-eq_of_lt t)
  edit_said (Move n p) t h = rw (mod-eq_of_lt t.0)
  edit_said (SetClass c l) t h = rw (mod-eq_of_lt t.0, h)

  words_past : (e : Edit) → Typed e → drop edit_words (words_of at e ws) ≡ ws
  words_past (Add r p) t = past_rule r ws (rule_filled r t.0)
  words_past (Drop n) t = refl
  words_past (Move n p) t = refl
  words_past (SetClass c l) t = refl

-- the code from `at` on says the list, where the pool has its letters from there on
onto_from : (es : List Edit) → TypedAll es → (pool : List ℕ) (at : ℕ) → drop at pool ≡ pool_of es
    → coded_edits (length es) pool (words_from at es) ≡ es
onto_from [] t pool at h = refl
onto_from (e ∷ es) t pool at h =
    let ws : List ℕ = words_from (at + length (letters_of e)) es in
    let s : Stand at (letters_of e) pool = ap (take (length (letters_of e))) h ∙ take_at (letters_of e) (pool_of es) (length (letters_of e)) refl in
    let q : drop (at + length (letters_of e)) pool ≡ pool_of es =
    sym (drop-drop (length (letters_of e)) at pool) ∙ (ap (drop (length (letters_of e))) h ∙ drop_at (letters_of e) (pool_of es) (length (letters_of e)) refl) in
    rw (edit_said pool ws at e t.0 s, words_past pool ws at e t.0) (ap (λ l. e ∷ l) (onto_from es t.1 pool (at + length (letters_of e)) q))

onto : (es : List Edit) → TypedAll es → coded_edits (length es) (pool_of es) (words_all es) ≡ es
onto es t = onto_from es t (pool_of es) 0 refl

words_length : (at : ℕ) (e : Edit) (ws : List ℕ) → Typed e → length (words_of at e ws) ≡ length ws + edit_words
words_length at (Add r p) ws t = omega (arith, length-append (ruleBytes r) ws, rule_length r (rule_filled r t.0))
words_length at (Drop n) ws t = omega arith
words_length at (Move n p) ws t = omega arith
words_length at (SetClass c l) ws t = omega arith

length_all : (es : List Edit) (at : ℕ) → TypedAll es → length (words_from at es) ≡ length es * edit_words
length_all [] at t = refl
length_all (e ∷ es) at t =
    omega (arith, words_length at e (words_from (at + length (letters_of e)) es) t.0, length_all es (at + length (letters_of e)) t.1)

-- where each edit has room for its answer, all are taken
pub taken_whole : (es : List Edit) → TypedAll es → (answers places : List ℕ) → length es ≤ length answers → length es ≤ length places
    → taken (words_all es) (pool_of es) answers places ≡ es
taken_whole es t answers places h k =
    let c : length (words_all es) / edit_words ≡ length es = omega (arith, length_all es 0 t) in
    let n : turns (length (words_all es)) (length answers) (length places) ≡ length es = omega arith in
    ap (λ (m : ℕ). coded_edits m (pool_of es) (words_all es)) n ∙ onto es t

-- ---- it is a slice of words

data Words : List ℕ → Type 0 where
  none : Words []
  more : {x : ℕ} {l : List ℕ} → x < word_bound → Words l → Words (x ∷ l)

words_below : {l : List ℕ} → Words l → Below word_bound l
words_below none k = omega arith
words_below (more h w) zero = h
words_below (more h w) (suc k) = words_below w k

byte : {x : ℕ} {l : List ℕ} → x < 256 → Words l → Words (x ∷ l)
byte {x} h w = more {x = x} (omega arith) w

number : {x : ℕ} {l : List ℕ} → x < 65536 → Words l → Words (x ∷ l)
number {x} h w = more {x = x} (omega arith) w

zeros : {ws : List ℕ} (n : ℕ) → Words ws → Words (replicate n 0 ++ ws)
zeros zero w = w
zeros (suc n) w = byte {x = 0} (omega arith) (zeros n w)

bytes_words : {ws : List ℕ} (l : List ℕ) → Below 256 l → Words ws → Words (l ++ ws)
bytes_words [] h w = w
bytes_words (x ∷ l) h w = byte (h 0) (bytes_words l (λ k. h (suc k)) w)

edit-words : {ws : List ℕ} (at : ℕ) (e : Edit) → Typed e → at + length (letters_of e) < word_bound → Words ws → Words (words_of at e ws)
edit-words at (Add r p) t h w = byte {x = 0} (omega arith) (byte {x = 0} (omega arith) (more t.1 (bytes_words (ruleBytes r) (rule_below r t.0) w)))
edit-words at (Drop n) t h w = byte {x = 1} (omega arith) (number t (byte {x = 0} (omega arith) (zeros rule_size w)))
edit-words at (Move n p) t h w = byte {x = 2} (omega arith) (number t.0 (more t.1 (zeros rule_size w)))
edit-words at (SetClass c l) t h w =
    byte {x = 3} (omega arith) (byte t.0 (more {x = at} (omega arith) (more {x = length l} (omega arith) (zeros (rule_size - 1) w))))

all_words : (es : List Edit) (at : ℕ) → TypedAll es → at + length (pool_of es) < word_bound → Words (words_from at es)
all_words [] at t h = none
all_words (e ∷ es) at t h =
    let n = length-append (letters_of e) (pool_of es) in
    edit-words at e t.0 (omega arith) (all_words es (at + length (letters_of e)) t.1 (omega arith))

pub list_words : (es : List Edit) → TypedAll es → length (pool_of es) < word_bound → Below word_bound (words_all es)
list_words es t b = words_below (all_words es 0 t (omega arith))

-- ---- and its letters are one of bytes

letters_below : (e : Edit) → Typed e → Below 256 (letters_of e)
letters_below (Add r p) t k = omega arith
letters_below (Drop n) t k = omega arith
letters_below (Move n p) t k = omega arith
letters_below (SetClass c l) t k = t.1 k

pub list_letters : (es : List Edit) → TypedAll es → Below 256 (pool_of es)
list_letters [] t k = omega arith
list_letters (e ∷ es) t k = below_append (letters_of e) (pool_of es) (letters_below e t.0) (list_letters es t.1) k

-- ---- the claim

edit_filled : (e : Edit) → Typed e → FilledEdit e
edit_filled (Add r p) t = rule_filled r t.0
edit_filled (Drop n) t = refl
edit_filled (Move n p) t = refl
edit_filled (SetClass c l) t = refl

all_filled : (es : List Edit) → TypedAll es → (k : ℕ) → k < length es → FilledEdit (get_or es k (Drop 0))
all_filled [] t k h = absurd (omega arith)
all_filled (e ∷ es) t zero h = edit_filled e t.0
all_filled (e ∷ es) t (suc k) h = all_filled es t.1 k (omega arith)

long_cleared : (image : List ℕ) → image_size ≤ length image → (cleared image).reply ≡ accepted
unfolding cleared
long_cleared image h = rw (le-leb _ _ h)

module _ (image code letters answers places : List ℕ) (h : image_size ≤ length image) where
  replayed_through : replayed image code letters answers places ≡ through (taken code letters answers places) (cleared image).image answers places
  unfolding replayed
  replayed_through =
      ap (λ (a : Reply). through_by a (taken code letters answers places) (cleared image).image answers places) (long_cleared image h)

  -- memory that has room for a ruleset is not refused
  pub replay_accepted : (replayed image code letters answers places).reply ≡ accepted
  replay_accepted = ap (λ (r : Replay). r.reply) replayed_through

pub every_list : (es : List Edit) → TypedAll es → length (pool_of es) < word_bound → (image answers places : List ℕ)
    → image_size ≤ length image → length es ≤ length answers → length es ≤ length places → ReplayedList es image answers places
every_list es t b image answers places h k l =
    let w : taken (words_all es) (pool_of es) answers places ≡ es = taken_whole es t answers places k l in
    let r : replayed image (words_all es) (pool_of es) answers places ≡ through es (cleared image).image answers places =
    replayed_through image (words_all es) (pool_of es) answers places h ∙ ap (λ (x : List Edit). through x (cleared image).image answers places) w in
    record {
      size = length_all es 0 t;
      words = list_words es t b;
      letters = list_letters es t;
      whole = w;
      reply = replay_accepted image (words_all es) (pool_of es) answers places h;
      claim = rw r (from_empty es (all_filled es t) image answers places (long_cleared image h));
    }
