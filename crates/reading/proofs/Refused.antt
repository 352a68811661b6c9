-- Refusal 3 is given exactly when a reached letter has no fitting rule: of the answer that the plain reading gives, in both directions, for every
-- image, list, name and lent memory.
-- Assumes nothing.
use Prim.Native.Nat.{ℕ}
use mathlib.Core.Path.{◌≡◌, sym, ap, ◌∙◌, subst}
use mathlib.Core.List.{List, [], ◌∷◌}
use mathlib.Core.Bool.{true, false, ◌&&◌, true≢false}
use native.Mathlib.Omega.{arith}
use lib.Dec.{leb}
use lib.ListN.{length}
use Rattle.rules.proofs.Cases.{by_bool}
use Rattle.rules.specs.Names.{SoundName}
use Rattle.rules.specs.Shape.{Entry}
use Rattle.exceptions.specs.Judging.{Listing}
use Rattle.classes.specs.Classes.{Classes}
use Rattle.image.specs.Image.{valid, entries_of, classes_of}
use Rattle.fitting.specs.Fitting.{Str}
use Rattle.fitting.specs.Reading.{Piece, listed, Reading, Targets}
use Rattle.speech.specs.Words.{words_in}
use Rattle.speech.specs.Speech.{Outcome, speaks, declines, at_once, steps_of, answered, Following, said_of, Unlisted, phones_of, numbers_of, spoken, refused, saying, delivered, plain_words, plain_outcome, plain_said}
use Rattle.reading.specs.Meaning.{UncoveredIn}
use Rattle.reading.specs.Endings.{WordsEnding, finish, stop, WantsRule}
use Rattle.speech.proofs.Call.{call_unlisted, CallCase, refuses, lists, follows, call_case}
use Rattle.fitting.proofs.Search.{valid_targets}
use Rattle.reading.proofs.NameMeaning.{words_end, uncovered_stops}

-- what is said of a sound name that is not on the list, with a valid ruleset
pub plain_delivered : (image : List ℕ) (l : Listing) (name : Str) (phones numbers : List ℕ) → valid image ≡ true → SoundName name → Unlisted l name
    → plain_said image l name phones numbers ≡ delivered (answered (plain_words (classes_of image) (entries_of image) name (said_of l)) 0) phones numbers
unfolding plain_said
plain_delivered image l name phones numbers ok s u =
    ap (λ (o : Outcome). delivered o phones numbers) (call_unlisted image name (λ m. answered (plain_words (classes_of image) (entries_of image) name m) 0) ok l s u)

pub wants_refused : (image : List ℕ) (l : Listing) (name : Str) (phones numbers : List ℕ) (i : ℕ) → WantsRule image l name i
    → plain_said image l name phones numbers ≡ saying (refused 3 i) phones numbers
wants_refused image l name phones numbers i w =
    plain_delivered image l name phones numbers w.is-valid w.is-sound w.unlisted
    ∙ ap (λ (o : Reading). delivered (answered o 0) phones numbers) (uncovered_stops (classes_of image) (entries_of image) (said_of l) (valid_targets image w.is-valid) (words_in name) i w.bare)

-- other refusals have other numbers
other : {n p i : ℕ} → (leb 3 n && leb n 5) ≡ false → refused n p ≡ refused 3 i → ⊥
other h e = true≢false (sym (ap (λ (k : ℕ). leb 3 k && leb k 5) (number e)) ∙ h)
  where
    number : {n p m q : ℕ} → refused n p ≡ refused m q → n ≡ m
    number e = cc

room_refused : (xs : List Piece) (phones numbers : List ℕ) (i : ℕ) → (delivered (speaks xs 0) phones numbers).told ≡ refused 3 i → ⊥
room_refused xs phones numbers i e =
    by_bool (leb (length (phones_of xs)) (length phones))
    (λ p. by_bool (leb (length (numbers_of xs)) (length numbers)) (λ q. spoken_not (rw (p, q) at e)) (λ q. five (rw (p, q) at e)))
    (λ p. four (rw p at e))
  where
    spoken_not : {a b c i : ℕ} → spoken a b c ≡ refused 3 i → ⊥
    spoken_not e = let z : ◌≡◌ {A = ℕ} 0 1 = cc in omega arith

    four : {p i : ℕ} → refused 4 p ≡ refused 3 i → ⊥
    four e = let z : ◌≡◌ {A = ℕ} 4 3 = cc in omega arith

    five : {p i : ℕ} → refused 5 p ≡ refused 3 i → ⊥
    five e = let z : ◌≡◌ {A = ℕ} 5 3 = cc in omega arith

pub refused_wants : (image : List ℕ) (l : Listing) (name : Str) (phones numbers : List ℕ) (i : ℕ) → (plain_said image l name phones numbers).told ≡ refused 3 i
    → WantsRule image l name i
unfolding plain_said
refused_wants image l name phones numbers i e = by (call_case image l name)
  where
    reading : Following
    reading m = answered (plain_words (classes_of image) (entries_of image) name m) 0

    comes_to : (o : Outcome) → plain_outcome image l name ≡ o → (delivered o phones numbers).told ≡ refused 3 i
    comes_to o q = ap (λ (x : Outcome). (delivered x phones numbers).told) (sym q) ∙ e

    read : valid image ≡ true → SoundName name → Unlisted l name → plain_outcome image l name ≡ reading (said_of l)
        → WordsEnding (classes_of image) (entries_of image) (said_of l) (words_in name) → WantsRule image l name i
    read v s u q (finish xs d f) =
        absurd (room_refused xs phones numbers i (comes_to (speaks xs 0) (q ∙ ap (λ (x : Reading). answered x 0) f)))
    read v s u q (stop j d f) =
        let t : refused 3 j ≡ refused 3 i = comes_to (declines 3 j 0) (q ∙ ap (λ (x : Reading). answered x 0) f) in
        let z : j ≡ i = cc in
        record { is-valid = v; is-sound = s; unlisted = u; bare = subst (UncoveredIn (classes_of image) (entries_of image) (said_of l) (words_in name)) z d }

    by : CallCase image l name → WantsRule image l name i
    by (refuses n p h r) = absurd (other h (comes_to (at_once n p) (r reading)))
    by (lists p u r) = absurd (room_refused (listed p ∷ []) phones numbers i (comes_to (speaks (listed p ∷ []) 0) (r reading)))
    by (follows v s u r) = read v s u (r reading) (words_end (classes_of image) (entries_of image) (said_of l) (valid_targets image v) (words_in name))

-- a plain reading carries its steps to the answer: it is never ended by tables
pub plain_steps : (k : Classes) (rules : List Entry) (name : Str) (m : Str → Str) → Targets rules → (steps : ℕ) → steps_of (answered (plain_words k rules name m) steps) ≡ steps
plain_steps k rules name m targets steps = by (words_end k rules m targets (words_in name))
  where
    by : WordsEnding k rules m (words_in name) → steps_of (answered (plain_words k rules name m) steps) ≡ steps
    by (finish xs d q) = ap (λ (o : Reading). steps_of (answered o steps)) q
    by (stop i d q) = ap (λ (o : Reading). steps_of (answered o steps)) q
