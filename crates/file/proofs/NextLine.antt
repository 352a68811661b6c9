-- A line after the first, read into as many lent bytes as the longest frame of a rule has, and what it tells.
-- Assumes nothing.
use Prim.Native.Nat.{ℕ, ◌-◌, ◌≤◌, ◌<◌}
use mathlib.Core.Path.{◌≡◌, refl, sym, ap, ap₂, ◌∙◌}
use mathlib.Core.List.{List}
use mathlib.Core.Bool.{true, false, ◌&&◌}
use native.Mathlib.Omega.{arith}
use Rattle.std.specs.Prelude.{Some, None, Result, Ok, Err}
use lib.ListN.{length, take, drop}
use lib.Seq.{take_all, take_at}
use Rattle.rules.specs.Memory.{over}
use Rattle.rules.specs.declared.Numbered.{Numbered}
use Rattle.rules.specs.declared.Refusal.{Refusal}
use Rattle.rules.specs.declared.Refusal.TheVariants.{BadLine, BadText}
use Rattle.rules.proofs.Cases.{by_bool}
use Rattle.image.specs.State.{entry}
use Rattle.frames.specs.declared.Line.{Line}
use Rattle.frames.specs.Lines.{Parsed, sound_line, decoded, report}
use Rattle.frames.specs.Lines.Parsed.{Bad, Good}
use Rattle.frames.proofs.Report.{Found, found, not_found, past_sound, frame_held}
use Rattle.file.specs.declared.parsing.RuleLine.{RuleLine}
use Rattle.file_format.specs.Layout.{longest_frame, entry_in, numbered_of}
use Rattle.file.specs.Loading.{ruled_in, rule_at}
use Rattle.file.proofs.Parts.{ruled_long}
use Rattle.file.proofs.FirstLine.{not-err, not-some}
use Rattle.file_format.specs.File.{is_rule}

-- ---- a rule's line

abbrev pub ruled : ℕ → Numbered → Result RuleLine Refusal
ruled next x = Ok (record { next = next; entry = x })

module _ (file : List ℕ) (at last : ℕ) where
  abbrev told : Result RuleLine Refusal
  told = rule_at at last (length file) (sound_line (drop at file))

  pub rule_bad : None ≡ report (length file) (sound_line (drop at file)) → ◌≡◌ {A = Result RuleLine Refusal} (Err (BadLine at)) told
  rule_bad s = let b : sound_line (drop at file) ≡ Bad = not_found file at s in rw b

  module _ (line : Line) (s : Some line ≡ report (length file) (sound_line (drop at file))) where
    q : Found file at line
    q = found file at line s

    unruled : None ≡ ruled_in last q.f → ◌≡◌ {A = Result RuleLine Refusal} (Err (BadText at)) told
    unruled p =
        let b : sound_line (drop at file) ≡ Good q.f q.rest = q.is in
        by_bool (is_rule q.f && entry last (entry_in q.f)) (λ t. not-some (sym (rw t at p))) (λ t. rw (b, t))

    pub rule_long : longest_frame < line.len → ◌≡◌ {A = Result RuleLine Refusal} (Err (BadText at)) told
    rule_long h = unruled (ruled_long last q.f (omega (arith, q.many)))

    module _ (xs z : List ℕ) (l : length xs ≡ longest_frame) (w : z ≡ over (take (length xs) (decoded (drop at file))) xs) (n : line.len ≤ longest_frame) where
      held : ruled_in last (take line.len z) ≡ ruled_in last q.f
      held = ap (ruled_in last) (ap (λ (m : ℕ). take m z) q.many ∙ frame_held (drop at file) q.f q.rest xs z q.is w (omega (arith, q.many)))

      pub rule_none : None ≡ ruled_in last (take line.len z) → ◌≡◌ {A = Result RuleLine Refusal} (Err (BadText at)) told
      rule_none p = unruled (p ∙ held)

      pub rule_read : (x : Numbered) → Some x ≡ ruled_in last (take line.len z)
          → ruled line.next x ≡ told
      rule_read x p =
          let b : sound_line (drop at file) ≡ Good q.f q.rest = q.is in
          by_bool (is_rule q.f && entry last (entry_in q.f))
          (λ t.
          let r : Some x ≡ Some (numbered_of (entry_in q.f)) = rw t at (p ∙ held) in
          let v : x ≡ numbered_of (entry_in q.f) = cc in
          let w : told ≡ ruled (length file - length q.rest) (numbered_of (entry_in q.f)) = rw (b, t) in
          ap₂ ruled q.next v ∙ sym w)
          (λ t. not-some (rw t at (p ∙ held)))

-- ---- what those lines tell

-- why there is none: the line is not sound, or its frame is that of no rule
pub data Why (file : List ℕ) (at last : ℕ) : Refusal → Type 0 where
  unsound : sound_line (drop at file) ≡ Bad → Why file at last (BadLine at)
  other : (f rest : List ℕ) → sound_line (drop at file) ≡ Good f rest → (is_rule f && entry last (entry_in f)) ≡ false → Why file at last (BadText at)

pub record Told (file : List ℕ) (at last : ℕ) (line : RuleLine) : Type 0 where
  pub f : List ℕ
  pub rest : List ℕ
  pub is : sound_line (drop at file) ≡ Good f rest
  pub rule : (is_rule f && entry last (entry_in f)) ≡ true
  pub next : line.next ≡ length file - length rest
  pub entry-is : line.entry ≡ numbered_of (entry_in f)
  pub onward : drop line.next file ≡ rest
  pub within : line.next ≤ length file

module _ (file : List ℕ) (at last : ℕ) where
  why_by : (x : Refusal) (l : Parsed) → sound_line (drop at file) ≡ l → Err x ≡ rule_at at last (length file) l → Why file at last x
  why_by x Bad p e = let w : x ≡ BadLine at = cc in rw w (unsound p)
  why_by x (Good f rest) p e =
      by_bool (is_rule f && entry last (entry_in f))
      (λ t. not-err (rw t at e))
      (λ t.
      let q : ◌≡◌ {A = Result RuleLine Refusal} (Err x) (Err (BadText at)) = rw t at e in
      let w : x ≡ BadText at = cc in
      rw w (other f rest p t))

  pub line_refused : (x : Refusal) → Err x ≡ rule_at at last (length file) (sound_line (drop at file)) → Why file at last x
  line_refused x = why_by x (sound_line (drop at file)) refl

  told_by : (line : RuleLine) (l : Parsed) → sound_line (drop at file) ≡ l → Ok line ≡ rule_at at last (length file) l → Told file at last line
  told_by line Bad p e = not-err (sym e)
  told_by line (Good f rest) p e =
      by_bool (is_rule f && entry last (entry_in f))
      (λ t.
      let q : Ok line ≡ Ok (record { next = length file - length rest; entry = numbered_of (entry_in f) }) = rw t at e in
      let r : line ≡ record { next = length file - length rest; entry = numbered_of (entry_in f) } = cc in
      let n = ap (λ (y : RuleLine). y.next) r in
      record {
        f = f;
        rest = rest;
        is = p;
        rule = t;
        next = n;
        entry-is = ap (λ (y : RuleLine). y.entry) r;
        onward = ap (λ (m : ℕ). drop m file) n ∙ past_sound file at f rest p;
        within = omega (arith, n);
      })
      (λ t. not-err (sym (rw t at e)))

  pub line_told : (line : RuleLine) → Ok line ≡ rule_at at last (length file) (sound_line (drop at file)) → Told file at last line
  line_told line = told_by line (sound_line (drop at file)) refl

-- ---- a line that was judged

-- its frame, in lent bytes that hold it
pub frame_whole : (d xs z : List ℕ) (n : ℕ) → n ≡ length d → z ≡ over (take n d) xs → take n z ≡ d
frame_whole d xs z n l e =
    let t : take n d ≡ d = take_all n d (omega arith) in
    ap (take n) (e ∙ ap (λ (w : List ℕ). over w xs) t) ∙ take_at d (drop (length d) xs) n (sym l)

pub frame_entry : (d xs z : List ℕ) (n : ℕ) → n ≡ length d → z ≡ over (take n d) xs → (x : Numbered) → x ≡ numbered_of (entry_in (take n z)) → x ≡ numbered_of (entry_in d)
frame_entry d xs z n l e x w = w ∙ ap (λ (f : List ℕ). numbered_of (entry_in f)) (frame_whole d xs z n l e)
