-- A file that was judged, stored whole: head, rules, classes and the table of all; and the answers of a reading.
-- Assumes nothing.
use Prim.Native.Nat.{ℕ, ◌≤◌, ◌<◌}
use mathlib.Core.Path.{◌≡◌, refl, sym, ap, ap₂, ◌∙◌}
use mathlib.Core.List.{List, [], map}
use mathlib.Core.Bool.{true}
use native.Mathlib.Omega.{arith}
use borrow.Author.Tests.{le-leb, lt-leb}
use Rattle.std.specs.Prelude.{Result, Ok, Err}
use lib.ListN.{length, drop, length-append, length-drop, length-map}
use Rattle.rules.specs.Limits.{max_rules}
use Rattle.rules.specs.Memory.{over_at}
use Rattle.rules.specs.Refusals.{accepted, declined}
use Rattle.rules.specs.declared.Numbered.{Numbered}
use Rattle.rules.specs.declared.Refusal.{Refusal}
use Rattle.classes.specs.Classes.{Classes}
use Rattle.classes.specs.Masks.{masks_size, masks_of}
use Rattle.classes.proofs.Bytes.{length_masks}
use Rattle.image.specs.State.{Ruleset}
use Rattle.image.specs.Image.{image_size, head_size, class_start, head_of, laid, with_head, with_classes, sound, settled, whole, outcome}
use Rattle.image.proofs.Stored.{Fine, fine_held, laid_long}
use Rattle.image.proofs.Whole.{classed_sound}
use Rattle.frames.specs.Lines.{sound_line}
use Rattle.file.specs.declared.heading.Head.{Head}
use Rattle.file_format.specs.Layout.{numbered_of}
use Rattle.file_format.specs.File.{Read, read_rules, Defined, read_defined, readFile, Written}
use Rattle.file_format.specs.File.Read.{Accepted, Malformed, Broken}
use Rattle.file.specs.Loading.{ledger_for, verdict, described, stored, loaded, head_at, classes_end, RulesFrom, with_rules}
use Rattle.file_format.proofs.Accepts.{Were, rules_were, after_ok, accepted as accepted-was}
use Rattle.file.proofs.ClassReading.{after_within, after_rules}
use Rattle.file.proofs.FirstLine.{no_decline, not-err, head_few, head_within, head_on}
use Rattle.file.proofs.Slots.{rules_laid}
use Rattle.file.proofs.Storing.{accepted_is, each_numbered, formed_fine, slots}

-- ---- the whole file

module _ (file : List ℕ) (ok : verdict (readFile file) ≡ accepted) (head : Head) (e : Ok head ≡ head_at (length file) (sound_line file)) where
  abbrev b : Ruleset
  b = described (readFile file)

  abbrev d : Defined
  d = read_defined (drop head.next file)

  is : readFile file ≡ Accepted b
  is = accepted_is (readFile file) ok

  after : (d.ok ≡ true) × (read_rules (length file) head.last d.classes head.count [] d.rest ≡ Accepted b)
  after = after_ok (length file) head.last head.count d b (head_on file head e ∙ is)

  were : Were head.last d.classes head.count [] d.rest b
  were = rules_were (length file) head.last d.classes head.count [] d.rest b after.1

  classes_are : d.classes ≡ b.classes
  classes_are = sym (ap (λ (q : Ruleset). q.classes) were.whole)

  pub file_few : head.count ≤ max_rules
  file_few = head_few file head e

  -- its class lines end at a place
  pub file_classes : (r : Result ℕ Refusal) → r ≡ classes_end (length file) (read_defined (drop head.next file)) → ((at : ℕ) → r ≡ Ok at → ⊥) → ⊥
  file_classes (Ok at) er n = n at refl
  file_classes (Err x) er n = not-err (rw after.0 at er)

  module _ (at : ℕ) (er : Ok at ≡ classes_end (length file) (read_defined (drop head.next file))) where
    pub file_within : at ≤ length file
    file_within = after_within file head.next at er

    pub file_rules : RulesFrom file head.last head.count at
    file_rules =
        ap (λ (k : Classes). read_rules (length file) head.last k head.count [] (drop at file)) (sym classes_are)
        ∙ (after_rules file head.next at er (head_within file head e) head.last head.count
        ∙ head_on file head e)

  abbrev l : List Numbered
  l = slots b.rules

  count-is : head.count ≡ length l
  count-is = sym (length-map b.rules numbered_of ∙ (ap (λ (q : Ruleset). length q.rules) were.whole ∙ were.many))

  last_is : head.last ≡ b.last
  last_is = sym (ap (λ (q : Ruleset). q.last) were.whole)

  pub headed-length : (xs : List ℕ) → image_size ≤ length xs → (w : List ℕ) → w ≡ with_head head.count head.last 0 xs → length w ≡ length xs
  headed-length xs h w ew =
      omega (arith, ap length ew, length-append (head_of head.count head.last 0) (drop head_size xs), length-drop head_size xs)

  module _ (xs : List ℕ) (h : image_size ≤ length xs) (w z : List ℕ) (ew : w ≡ with_head head.count head.last 0 xs)
      (ez : z ≡ with_rules 0 (map numbered_of (described (readFile file)).rules) w) where
    file_laid : z ≡ laid (ledger_for b) xs
    file_laid =
        ez ∙ (ap (with_rules 0 l) ew
        ∙ (ap₂ (λ (i j : ℕ). with_rules 0 l (with_head i j 0 xs)) count-is last_is
        ∙ rules_laid xs b.last b.classes (each_numbered b.rules) (omega (arith, file_few, count-is))))

    written : Written file b
    written = accepted-was file b is

    ruled : Fine (ledger_for b)
    ruled = formed_fine b written.formed

    pub stored_room : image_size ≤ length z
    stored_room = omega (arith, ap length file_laid, laid_long xs h (ledger_for b) (fine_held (ledger_for b) ruled) ruled.filled)

    module _ (masks : List ℕ) (em : masks ≡ masks_of (read_defined (drop head.next file)).classes) where
      pub masks_length : length masks ≡ masks_size
      masks_length = ap length em ∙ length_masks d.classes

      module _ (u : List ℕ) (eu : u ≡ over_at class_start masks z) where
        file_classed : u ≡ with_classes b.classes (laid (ledger_for b) xs)
        file_classed = eu ∙ ap₂ (over_at class_start) (em ∙ ap masks_of classes_are) file_laid

        pub file_sound : sound u ≡ true
        file_sound = ap sound file_classed ∙ classed_sound xs h (ledger_for b) ruled written.only

        pub file_stored : (v : List ℕ) → v ≡ settled u → v ≡ whole (ledger_for (described (readFile file))) xs
        unfolding whole
        file_stored v ev = ev ∙ ap settled file_classed

-- ---- the answers

module _ (file xs : List ℕ) where
  pub load_short : length xs < image_size → outcome (declined 0 0) xs ≡ loaded file xs
  unfolding loaded
  load_short h = rw (lt-leb _ _ h)

  module _ (h : image_size ≤ length xs) where
    pub load_refused : (n p : ℕ) → declined n p ≡ verdict (readFile file) → outcome (declined n p) xs ≡ loaded file xs
    unfolding loaded
    load_refused n p e = rw (le-leb _ _ h) (ap₂ outcome e (kept (readFile file) e))
      where
        kept : (r : Read) → declined n p ≡ verdict r → xs ≡ stored r xs
        kept (Accepted b) q = no_decline n p q
        kept (Malformed k) q = refl
        kept (Broken k) q = refl

    pub load_accepted : verdict (readFile file) ≡ accepted → (z : List ℕ) → z ≡ whole (ledger_for (described (readFile file))) xs → outcome accepted z ≡ loaded file xs
    unfolding loaded
    load_accepted e z q = rw (le-leb _ _ h) (ap₂ outcome (sym e) (q ∙ done (readFile file) e))
      where
        done : (r : Read) → verdict r ≡ accepted → whole (ledger_for (described r)) xs ≡ stored r xs
        done (Accepted b) t = refl
        done (Malformed k) t = no_decline 13 k t
        done (Broken k) t = no_decline 14 k t
