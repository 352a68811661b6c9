-- The class lines after the head, read one after the other: what remains decides the end, and the classes so far are held in bytes.
-- Assumes nothing.
use Prim.Native.Nat.{ℕ, suc, ◌+◌, ◌-◌, ◌≤◌, ◌<◌}
use mathlib.Core.Path.{◌≡◌, refl, sym, ap, ap₂, ◌∙◌}
use mathlib.Core.List.{List, [], ◌++◌, append-nil}
use mathlib.Core.Bool.{Bool, true, false, cond}
use native.Mathlib.Omega.{arith}
use Rattle.std.specs.Prelude.{Option, Some, None, Result, Ok, Err}
use lib.Dec.{eqb}
use lib.ListN.{length, take, drop, replicate, length-append, length-drop}
use lib.Seq.{drop-drop, drop-append_seam}
use Rattle.rules.specs.Limits.{first_class, class_count, max_symbol}
use Rattle.rules.specs.Refusals.{refusal_number, refusal_place, declined}
use Rattle.rules.specs.declared.Refusal.{Refusal}
use Rattle.rules.specs.declared.Refusal.TheVariants.{BadText}
use Rattle.rules.proofs.Cases.{by_bool}
use Rattle.numbers.specs.Numbers.{bytes8}
use Rattle.classes.specs.Classes.{Classes, no_classes, is_class}
use Rattle.classes.specs.Masks.{mask_size, masks_size, mask_start, mask_of, classes_in, masks_of, with_mask}
use Rattle.classes.specs.Setting.{with_class}
use Rattle.classes.proofs.Bytes.{length_masks, masks_classes, masks_none}
use Rattle.frames.specs.Lines.{Parsed, sound_line}
use Rattle.frames.specs.Lines.Parsed.{Bad, Good}
use Rattle.frames.proofs.Report.{past_sound}
use Rattle.file.specs.declared.defining.ClassLine.{ClassLine}
use Rattle.file_format.specs.Layout.{frame_type, class_type, class_symbol, letters_of}
use Rattle.file_format.specs.File.{class_lines, class_frame, class_fits, read_rules, Defined, defined_by, read_classes, read_defined, after_classes}
use Rattle.file.specs.Loading.{verdict, class_at, classes_end}
use Rattle.file_format.proofs.Bodies.{both}
use Rattle.file_format.proofs.ClassFrames.{class_range, classed}
use Rattle.file_format.proofs.ClassLines.{Other, other_bad, other_type, class_other, class_broken, class_on}
use Rattle.file_format.proofs.ClassesRead.{Lined, classes_were}
use Rattle.file.proofs.ClassBytes.{masks_with}
use Rattle.file.proofs.FirstLine.{not-err, not-some, ok_same}

abbrev pub ok_of : Option ClassLine → Result (Option ClassLine) Refusal
ok_of o = Ok o

-- ---- the class lines so far

pub record Reading (file : List ℕ) (from : ℕ) (masks : List ℕ) (at low i : ℕ) : Type 0 where
  pub k : Classes
  pub upto : i ≤ class_count
  pub ahead : read_defined (drop from file) ≡ read_classes (class_count - i) low k (drop at file)
  pub held : masks ≡ masks_of k
  pub first : first_class ≤ low
  pub within : at ≤ length file

pub reading_start : (file : List ℕ) (from : ℕ) (masks : List ℕ) → from ≤ length file → masks ≡ replicate masks_size 0 → Reading file from masks from first_class 0
reading_start file from masks h e = record {
  k = no_classes;
  upto = omega arith;
  ahead = refl;
  held = e ∙ sym masks_none;
  first = omega arith;
  within = h;
}

-- what the end says
pub record Ended (file : List ℕ) (from : ℕ) (masks : List ℕ) (r : Result ℕ Refusal) : Type 0 where
  pub end : r ≡ classes_end (length file) (read_defined (drop from file))
  pub classes : masks ≡ masks_of (read_defined (drop from file)).classes

module _ (file : List ℕ) (from : ℕ) (masks : List ℕ) (at low i : ℕ) (p : Reading file from masks at low i) where
  place : length file - length (drop at file) ≡ at
  place = omega (arith, p.within, length-drop at file)

  pub reading_length : length masks ≡ masks_size
  reading_length = ap length p.held ∙ length_masks p.k

  abbrev ending : Bool → Result ℕ Refusal
  ending b = cond b (Ok at) (Err (BadText at))

  ended_by : (b : Bool) → read_defined (drop from file) ≡ defined_by p.k (drop at file) b → Ended file from masks (ending b)
  ended_by b e = record {
    end = sym (ap (classes_end (length file)) e ∙ ap (λ (n : ℕ). cond b (Ok n) (Err (BadText n))) place);
    classes = p.held ∙ ap (λ (d : Defined). masks_of d.classes) (sym e);
  }

  pub reading_end : class_count ≤ i → Ended file from masks (Ok at)
  unfolding read_classes
  reading_end h =
      let n : class_count - i ≡ 0 = omega arith in
      ended_by true (p.ahead ∙ ap (λ (m : ℕ). read_classes m low p.k (drop at file)) n)

  abbrev told : Result (Option ClassLine) Refusal
  told = class_at at low (length file) (sound_line (drop at file))

  -- a line of another type
  pub reading_stop : Ok None ≡ told → Ended file from masks (Ok at)
  reading_stop e = ended_by true (p.ahead ∙ class_other (class_count - i) low p.k (drop at file) (other (sound_line (drop at file)) refl e))
    where
      other : (l : Parsed) → sound_line (drop at file) ≡ l → Ok None ≡ class_at at low (length file) l → Other (drop at file)
      other Bad q t = other_bad (drop at file) q
      other (Good f rest) q t =
          by_bool (eqb (frame_type f) class_type)
          (λ u.
          by_bool (class_fits low f)
          (λ v. let r : ◌≡◌ {A = Result (Option ClassLine) Refusal} (Ok None) (Ok (Some _)) = rw (u, v) at t in not-some (sym (ok_same r)))
          (λ v. not-err (sym (rw (u, v) at t))))
          (λ u. other_type (drop at file) f rest q u)

  module _ (h : i < class_count) where
    ahead_one : read_defined (drop from file) ≡ read_classes (suc (class_count - (i + 1))) low p.k (drop at file)
    ahead_one = let n : class_count - i ≡ suc (class_count - (i + 1)) = omega arith in p.ahead ∙ ap (λ (m : ℕ). read_classes m low p.k (drop at file)) n

    -- one of theirs that defines no class
    pub reading_broken : (x : Refusal) → Err x ≡ told → Ended file from masks (Err x)
    reading_broken x e = go (sound_line (drop at file)) refl e
      where
        go : (l : Parsed) → sound_line (drop at file) ≡ l → Err x ≡ class_at at low (length file) l → Ended file from masks (Err x)
        go Bad q t = not-err t
        go (Good f rest) q t =
            by_bool (eqb (frame_type f) class_type)
            (λ u.
            by_bool (class_fits low f)
            (λ v. not-err (rw (u, v) at t))
            (λ v.
            let r : ◌≡◌ {A = Result (Option ClassLine) Refusal} (Err x) (Err (BadText at)) = rw (u, v) at t in
            let w : x ≡ BadText at = cc in
            rw w (ended_by false (ahead_one ∙ class_broken (class_count - (i + 1)) low p.k (drop at file) f rest q u v))))
            (λ u. not-err (rw u at t))

    -- a class
    module _ (line : ClassLine) (e : Ok (Some line) ≡ told) where
      -- its frame
      record Framed : Type 0 where
        pub f : List ℕ
        pub rest : List ℕ
        pub is : sound_line (drop at file) ≡ Good f rest
        pub type : eqb (frame_type f) class_type ≡ true
        pub fits : class_fits low f ≡ true
        pub tells : line ≡ record { next = length file - length rest; symbol = class_symbol f; mask = mask_of (letters_of f) }

      framed_by : (l : Parsed) → sound_line (drop at file) ≡ l → Ok (Some line) ≡ class_at at low (length file) l → Framed
      framed_by Bad q t = not-some (ok_same t)
      framed_by (Good f rest) q t =
          by_bool (eqb (frame_type f) class_type)
          (λ u.
          by_bool (class_fits low f)
          (λ v.
          let r : ◌≡◌ {A = Result (Option ClassLine) Refusal} (Ok (Some line)) (Ok (Some (record { next = length file - length rest; symbol = class_symbol f; mask = mask_of (letters_of f) }))) = rw (u, v) at t in
          record { f = f; rest = rest; is = q; type = u; fits = v; tells = cc })
          (λ v. not-err (sym (rw (u, v) at t))))
          (λ u. let r : ◌≡◌ {A = Result (Option ClassLine) Refusal} (Ok (Some line)) (Ok None) = rw u at t in not-some (ok_same r))

      w : Framed
      w = framed_by (sound_line (drop at file)) refl e

      symbol_is : line.symbol ≡ class_symbol w.f
      symbol_is = ap (λ (c : ClassLine). c.symbol) w.tells

      is-class : is_class (class_symbol w.f) ≡ true
      is-class = (classed w.f (both (class_frame w.f) _ w.fits).0).symbol

      pub reading_symbol : (first_class ≤ line.symbol) × (line.symbol ≤ max_symbol)
      reading_symbol = let r = class_range (class_symbol w.f) is-class in (omega (arith, symbol_is, r.0), omega (arith, symbol_is, r.1))

      onward : drop line.next file ≡ w.rest
      onward = ap (λ (c : ClassLine). drop c.next file) w.tells ∙ past_sound file at w.f w.rest w.is

      pub reading_next : (z : List ℕ)
          → z ≡ take (mask_start line.symbol) masks ++ (bytes8 line.mask ++ drop (mask_start line.symbol + mask_size) masks)
          → Reading file from z line.next (line.symbol + 1) (i + 1)
      unfolding with_mask
      reading_next z ez =
          let c = class_symbol w.f in
          let l = letters_of w.f in
          let s : line.symbol + 1 ≡ suc c = omega (arith, symbol_is) in
          let v : line.mask ≡ mask_of l = ap (λ (c : ClassLine). c.mask) w.tells in
          record {
            k = with_class p.k c l;
            upto = omega arith;
            ahead =
                ahead_one
                ∙ (class_on (class_count - (i + 1)) low p.k (drop at file) w.f w.rest w.is w.type w.fits
                ∙ ap₂ (λ (b : ℕ) (r : List ℕ). read_classes (class_count - (i + 1)) b (with_class p.k c l) r) (sym s) (sym onward));
            held =
                ez ∙ (ap₂ (λ (a b : ℕ). take (mask_start a) masks ++ (bytes8 b ++ drop (mask_start a + mask_size) masks)) symbol_is v
                ∙ (ap (with_mask c l) p.held ∙ sym (masks_with p.k c l is-class)));
            first = omega (arith, reading_symbol.0);
            within = omega (arith, ap (λ (c : ClassLine). c.next) w.tells);
          }

-- ---- after the class lines

module _ (file : List ℕ) (from : ℕ) where
  abbrev result : Defined
  result = read_defined (drop from file)

  pub after_broken : (x : Refusal) → Err x ≡ classes_end (length file) (read_defined (drop from file)) → (last n : ℕ)
      → verdict (after_classes (length file) last n (read_defined (drop from file))) ≡ declined (refusal_number x) (refusal_place x)
  after_broken x e last n =
      by_bool result.ok
      (λ t. not-err (rw t at e))
      (λ t.
      let q : ◌≡◌ {A = Result ℕ Refusal} (Err x) (Err (BadText (length file - length result.rest))) = rw t at e in
      let w : x ≡ BadText (length file - length result.rest) = cc in
      rw (t, w))

  module _ (at : ℕ) (e : Ok at ≡ classes_end (length file) (read_defined (drop from file))) where
    record Good_end : Type 0 where
      pub ok : result.ok ≡ true
      pub is : at ≡ length file - length result.rest

    ends : Good_end
    ends =
        by_bool result.ok
        (λ t. let q : ◌≡◌ {A = Result ℕ Refusal} (Ok at) (Ok (length file - length result.rest)) = rw t at e in record { ok = t; is = cc })
        (λ t. not-err (sym (rw t at e)))

    good : result.ok ≡ true
    good = ends.ok

    lined : Lined (drop from file) result
    lined = classes_were (drop from file) result refl good

    split : length (drop from file) ≡ length (class_lines result.classes) + length result.rest
    split = ap length lined.was ∙ length-append (class_lines result.classes) result.rest

    pub after_within : at ≤ length file
    after_within = omega (arith, ends.is)

    past : from ≤ length file → drop at file ≡ result.rest
    past h =
        let n : at ≡ from + length (class_lines result.classes) = omega (arith, ends.is, split, length-drop from file) in
        ap (λ (i : ℕ). drop i file) n
        ∙ (sym (drop-drop (length (class_lines result.classes)) from file)
        ∙ (ap (drop (length (class_lines result.classes))) lined.was ∙ drop-append_seam (class_lines result.classes) result.rest))

    pub after_rules : from ≤ length file → (last n : ℕ)
        → read_rules (length file) last (read_defined (drop from file)).classes n [] (drop at file) ≡ after_classes (length file) last n (read_defined (drop from file))
    after_rules h last n = ap (read_rules (length file) last result.classes n []) (past h) ∙ sym (good_after)
      where
        good_after : after_classes (length file) last n result ≡ read_rules (length file) last result.classes n [] result.rest
        good_after = rw good

    pub after_held : (masks : List ℕ) → masks ≡ masks_of (read_defined (drop from file)).classes → classes_in masks ≡ (read_defined (drop from file)).classes
    after_held masks em = ap classes_in (em ∙ sym (append-nil (masks_of result.classes))) ∙ masks_classes result.classes [] lined.shaped lined.only
