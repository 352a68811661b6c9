-- A line where a class may stand, read into as many lent bytes as the longest frame of a class has: the class that it defines, test by test.
-- Assumes nothing.
use Prim.Native.Nat.{ℕ, ◌+◌, ◌-◌, ◌≤◌, ◌<◌}
use mathlib.Core.Path.{◌≡◌, sym, ap, ap₂, ◌∙◌}
use mathlib.Core.List.{List}
use mathlib.Core.Bool.{Bool, true, false, cond, and-true}
use native.Mathlib.Omega.{arith}
use borrow.Author.Tests.{leb-true, le-leb, eq-eqb, ne_eqb}
use Rattle.std.specs.Prelude.{Option, Some, None, Result, Ok, Err}
use lib.Dec.{leb, eqb}
use lib.ListN.{length, get_or, take, drop, length-drop, length-take, get_or-append}
use lib.Seq.{get_or-take, length-take-le}
use Rattle.rules.specs.Limits.{first_class, max_symbol}
use Rattle.rules.specs.Memory.{over}
use Rattle.rules.specs.declared.Refusal.{Refusal}
use Rattle.rules.specs.declared.Refusal.TheVariants.{BadText}
use Rattle.rules.proofs.Cases.{by_bool}
use Rattle.classes.specs.Classes.{is_class, class_shape}
use Rattle.classes.specs.Masks.{mask_of, class_mask as mask_in}
use Rattle.frames.specs.declared.Line.{Line}
use Rattle.frames.specs.Lines.{sound_line, decoded, report}
use Rattle.frames.specs.Lines.Parsed.{Bad, Good}
use Rattle.frames.proofs.Lines.{sound_was}
use Rattle.frames.proofs.Report.{Found, found, not_found, frame_held, decoded_sound}
use Rattle.file.specs.declared.defining.ClassLine.{ClassLine}
use Rattle.file_format.specs.Layout.{frame_type, class_type, class_symbol, letter_count, class_front_size, letters_of, longest_class_frame}
use Rattle.file_format.specs.File.{class_frame, class_fits}
use Rattle.file.specs.Loading.{class_mask, class_at}
use Rattle.file_format.proofs.Bodies.{both}
use Rattle.file.proofs.FirstLine.{not-some}
use Rattle.file_format.proofs.ClassFrames.{class_range, range_class, lettered, classed}

-- ---- the class of a frame, test by test

-- what a mask tells
pub unmasked : (low : ℕ) (w : List ℕ) → None ≡ class_mask low w → class_fits low w ≡ false
unmasked low w e = by_bool (class_fits low w) (λ t. not-some (sym (rw t at e))) (λ t. t)

pub masked : (low : ℕ) (w : List ℕ) (m : ℕ) → Some m ≡ class_mask low w → (class_fits low w ≡ true) × (m ≡ mask_of (letters_of w))
masked low w m e =
    by_bool (class_fits low w)
    (λ t. let q : Some m ≡ Some (mask_of (letters_of w)) = rw t at e in (t, cc))
    (λ t. not-some (rw t at e))

module _ (low : ℕ) (w : List ℕ) where
  told_none : (class_fits low w ≡ true → ⊥) → None ≡ class_mask low w
  told_none h = by_bool (class_fits low w) (λ e. absurd (h e)) (λ e. rw e)

  abbrev Fit : Type 0
  Fit = class_fits low w ≡ true

  frame_of : Fit → class_frame w ≡ true
  frame_of e = (both (class_frame w) _ e).0

  pub class_short : length w ≤ class_front_size → None ≡ class_mask low w
  class_short h = told_none (λ e. let s = (classed w (frame_of e)).size in omega arith)

  pub class_under : class_symbol w < low → None ≡ class_mask low w
  class_under h = told_none (λ e. let s = leb-true low (class_symbol w) (both (class_frame w) _ e).1 in omega arith)

  pub class_over : max_symbol < class_symbol w → None ≡ class_mask low w
  class_over h = told_none (λ e. let s = (class_range (class_symbol w) (classed w (frame_of e)).symbol).1 in omega arith)

  pub class_length : (end : ℕ) → end ≡ class_front_size + letter_count w → (length w ≡ end + 1 → ⊥) → None ≡ class_mask low w
  class_length end q h = told_none (λ e. let s = (classed w (frame_of e)).size in h (omega arith))

  -- by its letters: it is the mask of those
  module _ (f : first_class ≤ low) (a : low ≤ class_symbol w) (b : class_symbol w ≤ max_symbol) (end : ℕ) (q : end ≡ class_front_size + letter_count w) (n : length w ≡ end + 1)
      (l : List ℕ) (el : l ≡ take (end - class_front_size) (drop class_front_size w)) where
    letters_are : l ≡ letters_of w
    letters_are =
        let m : end - class_front_size ≡ letter_count w = omega arith in
        el ∙ ap (λ (i : ℕ). take i (drop class_front_size w)) m

    fits : class_fits low w ≡ class_shape l
    fits =
        let is : l ≡ letters_of w = letters_are in
        let c : is_class (class_symbol w) ≡ true = range_class (class_symbol w) (omega arith) (omega arith) in
        let s : eqb (length w) (class_front_size + letter_count w + 1) ≡ true = eq-eqb (length w) (class_front_size + letter_count w + 1) (omega arith) in
        rw (s, c, le-leb low (class_symbol w) a, ← is) (and-true (class_shape l))

    pub class_told : (r : Option ℕ) → r ≡ mask_in l → r ≡ class_mask low w
    class_told r e = e ∙ ap₂ (λ (b : Bool) (m : ℕ). cond b (Some m) None) (sym fits) (ap mask_of letters_are)

-- ---- a class's line

-- the bytes of a frame in lent bytes that may be fewer
frame_byte : (s f rest xs z : List ℕ) (i : ℕ) → sound_line s ≡ Good f rest → z ≡ over (take (length xs) (decoded s)) xs → i < length xs → i < length f
    → get_or z i 0 ≡ get_or f i 0
frame_byte s f rest xs z i p e h g =
    let d : take (length xs) (decoded s) ≡ take (length xs) f = ap (take (length xs)) (decoded_sound s f rest p) in
    let n : i < length (take (length xs) f) = omega (arith, length-take (length xs) f) in
    ap (λ (l : List ℕ). get_or l i 0) (e ∙ ap (λ (l : List ℕ). over l xs) d)
    ∙ (get_or-append (take (length xs) f) (drop (length (take (length xs) f)) xs) 0 i n ∙ get_or-take (length xs) f i 0 h)

abbrev pub like : ℕ → ℕ → ℕ → Result (Option ClassLine) Refusal
like next symbol mask = Ok (Some (record { next = next; symbol = symbol; mask = mask }))

module _ (file : List ℕ) (at low : ℕ) where
  abbrev told : Result (Option ClassLine) Refusal
  told = class_at at low (length file) (sound_line (drop at file))

  pub line_bad : None ≡ report (length file) (sound_line (drop at file)) → ◌≡◌ {A = Result (Option ClassLine) Refusal} (Ok None) told
  line_bad s = let b : sound_line (drop at file) ≡ Bad = not_found file at s in rw b

  module _ (line : Line) (s : Some line ≡ report (length file) (sound_line (drop at file))) (xs z : List ℕ) (l : length xs ≡ longest_class_frame)
      (ez : z ≡ over (take (length xs) (decoded (drop at file))) xs) where
    q : Found file at line
    q = found file at line s

    two_bytes : 2 ≤ length q.f
    two_bytes = (sound_was (drop at file) q.f q.rest q.is).two

    byte : (i : ℕ) → i < 2 → get_or z i 0 ≡ get_or q.f i 0
    byte i h = frame_byte (drop at file) q.f q.rest xs z i q.is ez (omega arith) (omega (arith, two_bytes))

    pub line_other : (get_or z 0 0 ≡ class_type → ⊥) → ◌≡◌ {A = Result (Option ClassLine) Refusal} (Ok None) told
    line_other h =
        let b : sound_line (drop at file) ≡ Good q.f q.rest = q.is in
        let t : eqb (frame_type q.f) class_type ≡ false = ne_eqb _ _ (λ u. h (byte 0 (omega arith) ∙ u)) in
        rw (b, t)

    module _ (t : get_or z 0 0 ≡ class_type) where
      of_type : eqb (frame_type q.f) class_type ≡ true
      of_type = eq-eqb _ _ (sym (byte 0 (omega arith)) ∙ t)

      broken : class_fits low q.f ≡ false → ◌≡◌ {A = Result (Option ClassLine) Refusal} (Err (BadText at)) told
      broken e =
          let b : sound_line (drop at file) ≡ Good q.f q.rest = q.is in
          let u : eqb (frame_type q.f) class_type ≡ true = of_type in
          rw (b, u, e)

      pub line_long : longest_class_frame < line.len → ◌≡◌ {A = Result (Option ClassLine) Refusal} (Err (BadText at)) told
      line_long h = broken (too_long q.f (omega (arith, q.many)))
        where
          too_long : (w : List ℕ) → longest_class_frame < length w → class_fits low w ≡ false
          too_long w u =
              by_bool (class_fits low w)
              (λ b.
              let c = classed w (both (class_frame w) _ b).0 in
              let n = (lettered (letters_of w) c.shape).most in
              let m : length (letters_of w) ≡ letter_count w = length-take-le (letter_count w) (drop class_front_size w) (omega (arith, length-drop class_front_size w, c.size)) in
              absurd (omega (arith, c.size)))
              (λ b. b)

      module _ (h : line.len ≤ longest_class_frame) where
        held : class_mask low (take line.len z) ≡ class_mask low q.f
        held = ap (class_mask low) (ap (λ (n : ℕ). take n z) q.many ∙ frame_held (drop at file) q.f q.rest xs z q.is ez (omega (arith, q.many)))

        pub line_broken : None ≡ class_mask low (take line.len z) → ◌≡◌ {A = Result (Option ClassLine) Refusal} (Err (BadText at)) told
        line_broken e = broken (unmasked low q.f (e ∙ held))

        pub line_read : (m : ℕ) → Some m ≡ class_mask low (take line.len z)
            → like line.next (get_or z 1 0) m ≡ told
        line_read m e =
            let b : sound_line (drop at file) ≡ Good q.f q.rest = q.is in
            let u : eqb (frame_type q.f) class_type ≡ true = of_type in
            let v = masked low q.f m (e ∙ held) in
            let w : told ≡ like (length file - length q.rest) (class_symbol q.f) (mask_of (letters_of q.f)) = rw (b, u, v.0) in
            ap₂ (λ (i j : ℕ). like i j m) q.next (byte 1 (omega arith))
            ∙ (ap (like (length file - length q.rest) (class_symbol q.f)) v.1 ∙ sym w)
