-- What stands in the lent bytes while a ruleset's file is written, line after line, and the answers of a writing.
-- Assumes nothing.
use Prim.Native.Nat.{ℕ, ◌+◌, ◌*◌, ◌≤◌, ◌<◌}
use mathlib.Core.Path.{◌≡◌, refl, sym, ap, ap₂, ◌∙◌}
use mathlib.Core.List.{List, [], ◌∷◌, ◌++◌, append_assoc, append-nil}
use mathlib.Core.Bool.{true, false}
use native.Mathlib.Omega.{arith}
use native.Mathlib.Numerals.{add-one}
use borrow.Author.Tests.{le-leb, lt-leb}
use lib.ListN.{length, take, drop, length-append, take-append-drop}
use lib.Seq.{take-suc, take_all}
use Rattle.rules.specs.Limits.{class_count}
use Rattle.rules.specs.Memory.{over, over_at}
use Rattle.rules.proofs.Memory.{over-at, over_length, over_at_length}
use Rattle.rules.specs.Shape.{Entry}
use Rattle.classes.specs.Classes.{Classes}
use Rattle.classes.specs.Masks.{classes_in}
use Rattle.image.specs.State.{no_entry}
use Rattle.image.specs.Image.{masks_in, classes_of, entries_of, entry_at, valid, count_of, last_of}
use Rattle.image.proofs.Lent.{classes_lent}
use Rattle.image.proofs.Entries.{entries_length}
use Rattle.image.proofs.Tests.{valid_sound, sound_classes}
use Rattle.frames.proofs.Output.{over_more}
use Rattle.file_format.specs.Layout.{line_size, head_line_size, longest_frame, longest_class_frame}
use Rattle.file_format.specs.File.{head_line, class_lines, rule_line, rule_lines, encode}
use Rattle.file.specs.Loading.{ruleset_in, filing, filed}
use Rattle.file_format.proofs.Lengths.{classes_longest}
use Rattle.rules.specs.Refusals.{wrote, refused}

-- ---- the lines of the first rules of a list

abbrev pub lines_to : List Entry → ℕ → List ℕ
lines_to rules i = rule_lines (take i rules)

lines_append : (a b : List Entry) → rule_lines (a ++ b) ≡ rule_lines a ++ rule_lines b
lines_append [] b = refl
lines_append (x ∷ a) b = ap (λ (l : List ℕ). rule_line x ++ l) (lines_append a b) ∙ sym (append_assoc (rule_line x) (rule_lines a) (rule_lines b))

lines_more : (rules : List Entry) (i : ℕ) → length (lines_to rules i) ≤ length (rule_lines rules)
lines_more rules i =
    omega (
      arith,
      ap (λ (l : List Entry). length (rule_lines l)) (take-append-drop i rules),
      ap length (lines_append (take i rules) (drop i rules)),
      length-append (lines_to rules i) (rule_lines (drop i rules)),
    )

-- ---- the rules of an image, of which the first i are written

module _ (image : List ℕ) where
  abbrev lines : ℕ → List ℕ
  lines = lines_to (entries_of image)

  all : (i : ℕ) → count_of image ≤ i → lines i ≡ rule_lines (entries_of image)
  all i h = ap rule_lines (take_all i (entries_of image) (omega (arith, entries_length image)))

  -- the sizes added up, after those of head and classes
  pub record Sized (base n i : ℕ) : Type 0 where
    pub within : i ≤ count_of image
    pub sum : n ≡ base + length (lines i)
    pub small : n ≤ base + line_size longest_frame * i

  -- the lines, one after the other
  pub record Lined (from : ℕ) (xs out : List ℕ) (at i : ℕ) : Type 0 where
    pub within : i ≤ count_of image
    pub place : at ≡ from + length (lines i)
    pub written : out ≡ over_at from (lines i) xs

  -- the next rule
  module _ (i : ℕ) (h : i < count_of image) where
    abbrev line : List ℕ
    line = rule_line (entry_at image i)

    next : lines (i + 1) ≡ lines i ++ line
    next =
        let t : take (i + 1) (entries_of image) ≡ take i (entries_of image) ++ (entry_at image i ∷ []) =
        rw (add-one i) (take-suc (entries_of image) i no_entry (omega (arith, entries_length image))) in
        ap rule_lines t ∙ (lines_append (take i (entries_of image)) (entry_at image i ∷ []) ∙ ap (λ (l : List ℕ). lines i ++ l) (append-nil line))

    next_length : length (lines (i + 1)) ≡ length (lines i) + length line
    next_length = ap length next ∙ length-append (lines i) line

    pub sized_next : (base n m : ℕ) → Sized base n i → m ≡ length line → m ≤ line_size longest_frame → Sized base (n + m) (i + 1)
    sized_next base n m s f b = record { within = omega arith; sum = omega (arith, s.sum, next_length); small = omega (arith, s.small) }

  -- the file, by its head, its classes and its rules
  pub encoded : (count last : ℕ) → count ≡ count_of image → last ≡ last_of image
      → encode (ruleset_in image) ≡ head_line count last ++ (class_lines (classes_of image) ++ rule_lines (entries_of image))
  unfolding encode entries_of
  encoded count last ec el =
      ap₂ (λ (m l : ℕ). head_line m l ++ (class_lines (classes_of image) ++ rule_lines (entries_of image))) (entries_length image ∙ sym ec) (sym el)

  file_length : length (encode (ruleset_in image)) ≡ head_line_size + length (class_lines (classes_of image)) + length (rule_lines (entries_of image))
  file_length =
      omega (
        arith,
        ap length (encoded (count_of image) (last_of image) refl refl),
        length-append (head_line (count_of image) (last_of image)) (class_lines (classes_of image) ++ rule_lines (entries_of image)),
        length-append (class_lines (classes_of image)) (rule_lines (entries_of image)),
      )

  -- the classes where an image holds them
  module _ (masks : List ℕ) (em : masks ≡ masks_in image) where
    pub sized_start : (n : ℕ) → n ≡ length (class_lines (classes_in masks)) → Sized (head_line_size + length (class_lines (classes_of image))) (head_line_size + n) 0
    sized_start n e =
        let f : n ≡ length (class_lines (classes_of image)) = e ∙ ap (λ (c : Classes). length (class_lines c)) (classes_lent image masks em) in
        record { within = omega arith; sum = omega arith; small = omega arith }

  pub classes_few : valid image ≡ true → length (class_lines (classes_of image)) ≤ line_size longest_class_frame * class_count
  classes_few ok = classes_longest (classes_of image) (sound_classes image (valid_sound image ok))

  pub sized_end : (n i : ℕ) → Sized (head_line_size + length (class_lines (classes_of image))) n i → count_of image ≤ i → n ≡ length (encode (ruleset_in image))
  sized_end n i s h = omega (arith, s.sum, ap length (all i h), file_length)

  module _ (from : ℕ) (xs : List ℕ) (room : from + length (rule_lines (entries_of image)) ≤ length xs) where
    pub lined_start : Lined from xs xs from 0
    lined_start = record { within = omega arith; place = omega arith; written = sym (take-append-drop from xs) }

    module _ (out : List ℕ) (at i : ℕ) (p : Lined from xs out at i) where
      pub lined_length : length out ≡ length xs
      lined_length = ap length p.written ∙ over_at_length (lines i) xs from (omega (arith, lines_more (entries_of image) i))

      pub lined_end : count_of image ≤ i → out ≡ over_at from (rule_lines (entries_of image)) xs
      lined_end h = p.written ∙ ap (λ (l : List ℕ). over_at from l xs) (all i h)

      module _ (h : i < count_of image) where
        pub lined_room : at + length (rule_line (entry_at image i)) ≤ length out
        lined_room = omega (arith, p.place, lined_length, lines_more (entries_of image) (i + 1), next_length i h)

        pub lined_next : (z : List ℕ) (m : ℕ) → z ≡ over_at at (rule_line (entry_at image i)) out → m ≡ at + length (rule_line (entry_at image i)) → Lined from xs z m (i + 1)
        lined_next z m f g = record {
          within = omega arith;
          place = omega (arith, p.place, next_length i h);
          written =
              f ∙ (over_more xs from (omega arith) (lines i) (rule_line (entry_at image i)) out at p.written p.place
              ∙ ap (λ (l : List ℕ). over_at from l xs) (sym (next i h)));
        }

  -- ---- the whole file

  module _ (xs : List ℕ) (room : length (encode (ruleset_in image)) ≤ length xs) (count last : ℕ) (ec : count ≡ count_of image) (el : last ≡ last_of image)
      (w : List ℕ) (ew : w ≡ over (head_line count last) xs) (masks : List ℕ) (em : masks ≡ masks_in image) where
    abbrev classes : List ℕ
    classes = class_lines (classes_in masks)

    classes_are : classes ≡ class_lines (classes_of image)
    classes_are = ap class_lines (classes_lent image masks em)

    pub headed_room : head_line_size + length (class_lines (classes_in masks)) ≤ length w
    headed_room = omega (arith, file_length, ap length classes_are, ap length ew, over_length (head_line count last) xs (omega (arith, file_length)))

    module _ (u : List ℕ) (at : ℕ) (eu : u ≡ over_at head_line_size (class_lines (classes_in masks)) w) (ea : at ≡ head_line_size + length (class_lines (classes_in masks))) where
      front : u ≡ over (head_line count last ++ classes) xs
      front = eu ∙ over-at (head_line count last) xs classes w head_line_size ew refl

      front_length : length (head_line count last ++ classes) ≡ at
      front_length = omega (arith, length-append (head_line count last) classes)

      pub classed_room : at + length (rule_lines (entries_of image)) ≤ length u
      classed_room =
          omega (arith, file_length, ap length classes_are, ap length front, over_length (head_line count last ++ classes) xs (omega (arith, front_length, file_length, ap length classes_are)))

      pub ruleset_written : (z : List ℕ) → z ≡ over_at at (rule_lines (entries_of image)) u → z ≡ over (encode (ruleset_in image)) xs
      ruleset_written z ez =
          ez ∙ (over-at (head_line count last ++ classes) xs (rule_lines (entries_of image)) u at front front_length
          ∙ ap (λ (l : List ℕ). over l xs)
          (append_assoc (head_line count last) classes (rule_lines (entries_of image))
          ∙ (ap (λ (l : List ℕ). head_line count last ++ (l ++ rule_lines (entries_of image))) classes_are ∙ sym (encoded count last ec el))))

  pub head_room : head_line_size ≤ length (encode (ruleset_in image))
  head_room = omega (arith, file_length)

-- ---- the answers

module _ (image xs : List ℕ) where
  pub write_none : valid image ≡ false → filing (refused 0 0) xs ≡ filed image xs
  unfolding filed
  write_none e = rw e

  module _ (ok : valid image ≡ true) (n : ℕ) (en : n ≡ length (encode (ruleset_in image))) where
    pub write_room : length xs < n → filing (refused 15 n) xs ≡ filed image xs
    unfolding filed
    write_room h = rw (ok, ← en, lt-leb _ _ h)

    pub write_done : n ≤ length xs → (z : List ℕ) → z ≡ over (encode (ruleset_in image)) xs → filing (wrote n) z ≡ filed image xs
    unfolding filed encode
    write_done h z ez = rw (ok, ← en, le-leb _ _ h) (ap (filing (wrote n)) ez)
