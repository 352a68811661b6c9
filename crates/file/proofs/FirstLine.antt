-- The first line of a file, read into as many lent bytes as a head's frame has, and what it tells of the whole file.
-- Assumes nothing.
use Prim.Native.Nat.{ℕ, ◌-◌, ◌≤◌, ◌<◌}
use mathlib.Core.Path.{◌≡◌, refl, sym, ap, ◌∙◌}
use mathlib.Core.List.{List}
use mathlib.Core.Bool.{Bool, true, cond}
use native.Mathlib.Omega.{arith}
use Rattle.std.specs.Prelude.{Option, Some, None, Result, Ok, Err}
use Rattle.std.specs.Option.{ok_or}
use lib.ListN.{length, take, drop}
use Rattle.rules.specs.Memory.{over}
use Rattle.rules.proofs.Cases.{by_bool}
use Rattle.rules.specs.Limits.{max_rules}
use Rattle.rules.specs.Refusals.{refusal_number, refusal_place, accepted, declined}
use Rattle.rules.specs.declared.Refusal.{Refusal}
use Rattle.rules.specs.declared.Refusal.TheVariants.{BadLine, BadText}
use Rattle.frames.specs.declared.Line.{Line}
use Rattle.frames.specs.Lines.{Parsed, sound_line, decoded, report}
use Rattle.frames.specs.Lines.Parsed.{Bad, Good}
use Rattle.frames.proofs.Report.{Found, found, not_found, past_sound, frame_held}
use Rattle.file.specs.declared.heading.Head.{Head}
use Rattle.file_format.specs.Layout.{head_count, head_last, head_frame_size}
use Rattle.file_format.specs.File.{is_head, read_defined, after_classes, readFile}
use Rattle.file.specs.Loading.{verdict, head_from, head_in, head_at}
use Rattle.file_format.proofs.Accepts.{read_head, head_limit}
use Rattle.file.proofs.Parts.{head_length}

pub no_decline : {A : Type 0} (n p : ℕ) → declined n p ≡ accepted → A
no_decline n p e = let z : ◌≡◌ {A = ℕ} 0 1 = cc in absurd (omega arith)

pub not-err : {X E A : Type 0} {x : X} {e : E} → ◌≡◌ {A = Result X E} (Err e) (Ok x) → A
not-err q = let z : ◌≡◌ {A = ℕ} 0 1 = cc in absurd (omega arith)

pub not-some : {X A : Type 0} {x : X} → ◌≡◌ {A = Option X} (Some x) None → A
not-some q = let z : ◌≡◌ {A = ℕ} 0 1 = cc in absurd (omega arith)

pub ok_same : {X E : Type 0} {x y : X} → ◌≡◌ {A = Result X E} (Ok x) (Ok y) → x ≡ y
ok_same q = cc

-- ---- the first line

abbrev or_broken : Bool → Head → Result Head Refusal
or_broken b h = cond b (Ok h) (Err (BadText 0))

module _ (file : List ℕ) where
  pub head_bad : None ≡ report (length file) (sound_line (drop 0 file)) → ◌≡◌ {A = Result Head Refusal} (Err (BadLine 0)) (head_at (length file) (sound_line file))
  head_bad s = let b : sound_line file ≡ Bad = not_found file 0 s in rw b

  module _ (line : Line) (s : Some line ≡ report (length file) (sound_line (drop 0 file))) where
    k : Found file 0 line
    k = found file 0 line s

    head_by : ok_or (head_in line.next k.f) (BadText 0) ≡ head_at (length file) (sound_line file)
    head_by =
        by_bool (is_head k.f) (λ t. rw t) (λ t. rw t)
        ∙ (ap (λ (n : ℕ). or_broken (is_head k.f) (head_from n k.f)) k.next ∙ sym (ap (head_at (length file)) k.is))

    pub head_long : head_frame_size < line.len → ◌≡◌ {A = Result Head Refusal} (Err (BadText 0)) (head_at (length file) (sound_line file))
    head_long u = ap (λ (h : Option Head). ok_or h (BadText 0)) (head_length line.next k.f (λ q. omega (arith, k.many))) ∙ head_by

    pub head_read : (xs z : List ℕ) → length xs ≡ head_frame_size → z ≡ over (take (length xs) (decoded (drop 0 file))) xs → line.len ≤ head_frame_size
        → ok_or (head_in line.next (take line.len z)) (BadText 0) ≡ head_at (length file) (sound_line file)
    head_read xs z l q n =
        ap (λ (f : List ℕ). ok_or (head_in line.next f) (BadText 0))
        (ap (λ (m : ℕ). take m z) k.many ∙ frame_held (drop 0 file) k.f k.rest xs z k.is q (omega (arith, k.many)))
        ∙ head_by

-- ---- the head, judged

-- why a file has none
module _ (file : List ℕ) (why : Refusal) where
  refused_by : (l : Parsed) → sound_line file ≡ l → Err why ≡ head_at (length file) l → declined (refusal_number why) (refusal_place why) ≡ verdict (readFile file)
  unfolding readFile
  refused_by Bad p e = let w : why ≡ BadLine 0 = cc in rw (p, w)
  refused_by (Good f rest) p e =
      by_bool (is_head f)
      (λ t. not-err (rw t at e))
      (λ t.
      let q : ◌≡◌ {A = Result Head Refusal} (Err why) (Err (BadText 0)) = rw t at e in
      let w : why ≡ BadText 0 = cc in
      rw (p, t, w))

  pub head_refused : Err why ≡ head_at (length file) (sound_line file) → declined (refusal_number why) (refusal_place why) ≡ verdict (readFile file)
  head_refused = refused_by (sound_line file) refl

-- of a file that is accepted the head is one
pub head_sound : (file : List ℕ) → verdict (readFile file) ≡ accepted → (r : Result Head Refusal) → r ≡ head_at (length file) (sound_line file) → ((h : Head) → r ≡ Ok h → ⊥) → ⊥
head_sound file ok (Ok h) e n = n h refl
head_sound file ok (Err x) e n = no_decline (refusal_number x) (refusal_place x) (head_refused file x e ∙ ok)

module _ (file : List ℕ) (head : Head) (e : Ok head ≡ head_at (length file) (sound_line file)) where
  record First : Type 0 where
    pub f : List ℕ
    pub rest : List ℕ
    pub is : sound_line file ≡ Good f rest
    pub headed : is_head f ≡ true
    pub fields : head ≡ head_from (length file - length rest) f

  first_by : (l : Parsed) → sound_line file ≡ l → Ok head ≡ head_at (length file) l → First
  first_by Bad p q = not-err (sym q)
  first_by (Good f rest) p q =
      by_bool (is_head f)
      (λ t.
      let r : ◌≡◌ {A = Result Head Refusal} (Ok head) (Ok (head_from (length file - length rest) f)) = rw t at q in
      record { f = f; rest = rest; is = p; headed = t; fields = cc })
      (λ t. not-err (sym (rw t at q)))

  first : First
  first = first_by (sound_line file) refl e

  next-is : head.next ≡ length file - length first.rest
  next-is = ap (λ (h : Head). h.next) first.fields

  pub head_few : head.count ≤ max_rules
  head_few = rw (ap (λ (h : Head). h.count) first.fields) (head_limit first.f first.headed)

  pub head_within : head.next ≤ length file
  head_within = omega (arith, next-is)

  pub head_on : after_classes (length file) head.last head.count (read_defined (drop head.next file)) ≡ readFile file
  head_on =
      ap (λ (h : Head). after_classes (length file) h.last h.count (read_defined (drop h.next file))) first.fields
      ∙ (ap (λ (t : List ℕ). after_classes (length file) (head_last first.f) (head_count first.f) (read_defined t)) (past_sound file 0 first.f first.rest first.is)
      ∙ sym (read_head file first.f first.rest first.is first.headed))
