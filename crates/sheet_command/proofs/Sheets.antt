-- The call over parts that were lent and came back, and its answer: it can be printed, and what is printed is the command's.
-- Assumes nothing.
use Prim.Native.Nat.{ℕ, ◌+◌, ◌-◌}
use mathlib.Core.Path.{◌≡◌, refl, sym, ap, ◌∙◌, subst}
use mathlib.Core.Bool.{Bool, true, cond}
use mathlib.Core.List.{List, ◌∷◌, ◌++◌}
use mathlib.Core.Option.{none, some}
use native.Mathlib.Omega.{arith}
use lib.Dec.{leb}
use lib.ListN.{length, take, drop, length-append, length-take}
use borrow.Rule.Slice.PartMut.{mid_of, put_mid}
use Rattle.numbers.specs.Numbers.{two, bytes2, bytes4}
use Rattle.rules.specs.Limits.{max_names}
use Rattle.rules.specs.Memory.{over}
use Rattle.rules.specs.Refusals.{Reply, accepted, declined}
use Rattle.rules.proofs.Cases.{by_bool}
use Rattle.rules.proofs.Memory.{over_rest}
use Rattle.image.specs.Image.{valid}
use Rattle.exceptions.specs.Judging.{Listing, listing_of}
use Rattle.fitting.specs.Fitting.{Str}
use Rattle.tables.specs.Words.{Compiled, compiled_from}
use Rattle.lines.proofs.Printed.{length_printed}
use Rattle.many_names.specs.Names.{names_in, sound_sheet}
use Rattle.sheet_judging.specs.Sheet.{first_refusal}
use Rattle.sheet.specs.Sheet.{SheetSaid, sheet_said, refused_sheet, answered_sheet, or_else, judged_sheet, alone, tree_size, kept_size, replies_size, with_list, sheet_through, spoken_sheet}
use Rattle.sheet.specs.Zeros.{zeros}
use Rattle.sheet.specs.declared.SheetAnswer.{SheetAnswer}
use Rattle.command_parts.specs.Fields.{four, lent_of}
use Rattle.command_parts.specs.Answers.{speech_sized, walk_refusal, SpeechAnswered}
use Rattle.command_parts.proofs.Replies.{length_walk_refusal}
use Rattle.sheet_lines.specs.SheetLines.{sheet_line, name_lines, PutNames}
use Rattle.sheet_lines.specs.declared.NamesPrinted.{NamesPrinted}
use Rattle.sheet_command.specs.SheetCommand.{sheet_back, sheet_in, sheet_for, sheet_text, contested_on, sheet_effect, Presentable, SheetPut}
use Rattle.sheet_command.proofs.Replies.{low_alone, each_printable, each_count, few-names, more_printable}

-- ---- the answer can be printed

module _ (p q : ℕ) where
  present_cond : (b : Bool) (x y : SheetSaid) → Presentable x p q → Presentable y p q → Presentable (cond b x y) p q
  present_cond b x y h k = by_bool b (λ e. rw e h) (λ e. rw e k)

  present_refused : (n place : ℕ) (replies phones numbers : List ℕ) → Presentable (refused_sheet n place replies phones numbers) p q
  present_refused n place replies phones numbers = record { few = omega arith; printable = tt }

  present_else : (r : Reply) (x : SheetSaid) (replies phones numbers : List ℕ) → Presentable x p q → Presentable (or_else r x replies phones numbers) p q
  present_else accepted x replies phones numbers h = h
  present_else (declined n place) x replies phones numbers h = present_refused n place replies phones numbers

  present_list : (l : Listing) (bad : SheetSaid) (x : (Str → Str) → SheetSaid) → Presentable bad p q → ((m : Str → Str) → Presentable (x m) p q)
      → Presentable (with_list l bad x) p q
  present_list none bad x h k = h
  present_list (some m) bad x h k = k m

  present_memory : (b c d : Bool) (x y z w : SheetSaid) → Presentable x p q → Presentable y p q → Presentable z p q → Presentable w p q
      → Presentable (cond b (cond c (cond d x y) z) w) p q
  present_memory b c d x y z w hx hy hz hw =
      present_cond b (cond c (cond d x y) z) w (present_cond c (cond d x y) z (present_cond d x y hx hy) hz) hw

module _ (c : Compiled) (image : List ℕ) (l : Listing) (sheet tree kept replies phones numbers : List ℕ) where
  present_answered : (m : Str → Str) → Presentable (answered_sheet c (alone c image l) m (names_in max_names sheet) replies phones numbers) (length phones) (length numbers)
  present_answered m =
      let names = names_in max_names sheet in
      record {
        few = omega (arith, each_count (alone c image l) (low_alone c image l) names phones numbers, few-names max_names sheet);
        printable = each_printable (alone c image l) (low_alone c image l) names phones numbers _;
      }

  present_judged : (m : Str → Str) → Presentable (judged_sheet c (alone c image l) m (names_in max_names sheet) replies phones numbers) (length phones) (length numbers)
  present_judged m = present_else (length phones) (length numbers) (first_refusal (alone c image l) (names_in max_names sheet)) _ replies phones numbers (present_answered m)

  present_sheet : Presentable (sheet_through c image l sheet tree kept replies phones numbers) (length phones) (length numbers)
  unfolding sheet_through
  present_sheet =
      let p = length phones in
      let q = length numbers in
      let no : (n place : ℕ) → Presentable (refused_sheet n place replies phones numbers) p q = λ n place. present_refused p q n place replies phones numbers in
      let names = names_in max_names sheet in
      present_cond p q (sound_sheet max_names sheet) _ _
      (present_cond p q (valid image) _ _
      (present_list p q l _ _ (no 17 0)
      (λ m. present_memory p q (zeros (tree_size sheet) tree) (zeros (kept_size sheet) kept) (leb (replies_size names) (length replies)) _ _ _ _ (present_judged m)
      (no 15 (replies_size names)) (no 12 (kept_size sheet)) (no 11 (tree_size sheet))))
      (no 0 0))
      (no 24 0)

-- ---- parts that were lent and came back

pub sheet-back : (a : SheetAnswer) (replies' : List ℕ) (n m : ℕ) (image list words sets sheet tree kept replies phones numbers x y : List ℕ)
    → sheet_said a replies' x y ≡ spoken_sheet image (listing_of list) words sets sheet tree kept replies (take n phones) (take m numbers)
    → sheet_said a replies' (x ++ drop n phones) (y ++ drop m numbers) ≡ sheet_in n m image list words sets sheet tree kept replies phones numbers
unfolding sheet_in
sheet-back a replies' n m image list words sets sheet tree kept replies phones numbers x y e = ap (sheet_back n m phones numbers) e

pub sheet_presentable : (s : SheetSaid) (n m : ℕ) (image list words sets sheet tree kept replies phones numbers : List ℕ)
    → s ≡ sheet_in n m image list words sets sheet tree kept replies phones numbers → Presentable s (length phones) (length numbers)
unfolding sheet_in
sheet_presentable s n m image list words sets sheet tree kept replies phones numbers e =
    let t = spoken_sheet image (listing_of list) words sets sheet tree kept replies (take n phones) (take m numbers) in
    let h = present_sheet (compiled_from words sets) image (listing_of list) sheet tree kept replies (take n phones) (take m numbers) in
    subst (λ (x : SheetSaid). Presentable x (length phones) (length numbers)) (sym e)
    (record {
      few = h.few;
      printable = more_printable t.names t.replies (length (take n phones)) (length (take m numbers)) (length phones) (length numbers)
          (omega (arith, length-take n phones)) (omega (arith, length-take m numbers)) h.printable;
    })

-- memory that is as long as before has room for as much
pub same_presentable : (s : SheetSaid) (a b c d : ℕ) → c ≡ a → d ≡ b → Presentable s a b → Presentable s c d
same_presentable s a b c d p q h = rw (p, q) h

-- the lent parts, by the fields of the command
pub sheet-for : (s : SheetSaid) (f image list words sets tree kept replies phones numbers sheet : List ℕ) (a b n m i j k l : ℕ)
    → a ≡ lent_of i (length words) → i ≡ four 1 f → b ≡ lent_of j (length sets) → j ≡ four 5 f
    → n ≡ lent_of k (length phones) → k ≡ two 9 f → m ≡ lent_of l (length numbers) → l ≡ two 11 f → sheet ≡ drop 13 f
    → s ≡ sheet_in n m image list (take a words) (take b sets) sheet tree kept replies phones numbers
    → s ≡ sheet_for f image list words sets tree kept replies phones numbers
unfolding sheet_for
sheet-for s f image list words sets tree kept replies phones numbers sheet a b n m i j k l ea ei eb ej en ek em el ed e = e ∙ rw (ea, eb, en, em, ed, ei, ej, ek, el)

-- ---- the answer printed

length_sheet_line : (steps names : ℕ) → length (sheet_line steps names) ≡ 17
unfolding sheet_line
length_sheet_line steps names = length_printed (6 ∷ bytes4 steps ++ bytes2 names)

module _ (s : SheetSaid) (before : ℕ) (out : List ℕ) where
  pub put_accepted : s.reply ≡ accepted → (at : ℕ) (o z : List ℕ) (r : NamesPrinted) → at ≡ 17 → o ≡ over (sheet_line s.steps s.names) out
      → PutNames s.names s.replies s.phones s.numbers before r (mid_of at (length o - at) o) z
      → SheetPut s before (record { len = at + r.len; contested = r.contested }) out (put_mid at (length o - at) o z)
  put_accepted e at o z r l h x =
      let first = sheet_line s.steps s.names in
      let rest = name_lines s.names s.replies s.phones s.numbers in
      let w = length_sheet_line s.steps s.names in
      let n : at + r.len ≡ length (first ++ rest) = omega (arith, l, w, x.many, length-append first rest) in
      record {
        many = n ∙ ap (λ (q : Reply). length (sheet_text q s)) (sym e);
        bytes = over_rest first out rest o z at h (w ∙ sym l) x.bytes ∙ ap (λ (q : Reply). over (sheet_text q s) out) (sym e);
        counted = x.counted ∙ ap (λ (q : Reply). contested_on q s before) (sym e);
      }

  pub put_refused : (n p : ℕ) → s.reply ≡ declined n p → (len : ℕ) (out' : List ℕ) → len ≡ 19 → out' ≡ over (walk_refusal 0 n p) out
      → SheetPut s before (record { len = len; contested = before }) out out'
  put_refused n p e len out' l h = record {
    many = (l ∙ sym (length_walk_refusal 0 n p)) ∙ ap (λ (q : Reply). length (sheet_text q s)) (sym e);
    bytes = h ∙ ap (λ (q : Reply). over (sheet_text q s) out) (sym e);
    counted = ap (λ (q : Reply). contested_on q s before) (sym e);
  }

-- a frame as long as its fields
pub sheet-answered : (b : Bool) (xs ys : List ℕ) (k : ℕ) → b ≡ true → (s t : SheetSaid) → s ≡ t → (r : NamesPrinted) (out out' : List ℕ) → SheetPut s k r out out'
    → SpeechAnswered (speech_sized b (sheet_effect t k) xs ys k) s.phones s.numbers r.contested r.len out out'
sheet-answered b xs ys k p s t q r out out' x = rw (p, ← q) (record { said = refl; numbered = refl; counted = x.counted; many = x.many; bytes = x.bytes })
