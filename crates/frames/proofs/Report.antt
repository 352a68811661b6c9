-- What the report of a line tells: of a sound one its frame, what follows it, and that the frame stands in the lent bytes that hold it.
-- Assumes nothing.
use Rattle.std.proofs.Common.{◌≡◌, ℕ, ◌+◌, ◌-◌, ◌*◌, ◌%◌, ◌≤◌, eqb, ltb, leb, List, [], ◌∷◌, length, take, drop, sym, refl, ap, ◌∙◌, arith, length-append, length-drop, take_all, drop-drop}
use Rattle.std.specs.Prelude.{Some, None}
use lib.Seq.{drop-append_seam, take-append_seam}
use Rattle.rules.specs.Memory.{over}
use Rattle.rules.proofs.Cases.{by_bool}
use Rattle.frames.specs.declared.Line.{Line}
use Rattle.frames.specs.Lines.{value, line_of, total, Parsed, after, read_line, checked, sound_line, decoded, report}
use Rattle.frames.specs.Lines.Parsed.{Bad, Good}
use Rattle.frames.proofs.Lines.{guard_good, sound_was, length_line}

never : {A : Type 0} {f rest : List ℕ} → Bad ≡ Good f rest → A
never e = let z : ◌≡◌ {A = ℕ} 0 1 = cc in absurd (omega arith)

decoded_after : (x : ℕ) (s : List ℕ) (l : Parsed) (f rest : List ℕ) → ((g : List ℕ) → l ≡ Good g rest → decoded s ≡ g) → after x l ≡ Good f rest → x ∷ decoded s ≡ f
decoded_after x s Bad f rest k e = never e
decoded_after x s (Good g t) f rest k e =
    let p : t ≡ rest = cc in
    let q : x ∷ g ≡ f = cc in
    ap (λ (l : List ℕ). x ∷ l) (k g (ap (Good g) p)) ∙ q

decoded_read : (s f rest : List ℕ) → read_line s ≡ Good f rest → decoded s ≡ f
unfolding decoded
decoded_read [] f rest e = never e
decoded_read (a ∷ []) f rest e =
    by_bool (eqb a 10)
    (λ t. let g : Good [] [] ≡ Good f rest = rw t at e in cc)
    (λ t. never (rw t at e))
decoded_read (a ∷ b ∷ s) f rest e =
    by_bool (eqb a 10)
    (λ t. let g : Good [] (b ∷ s) ≡ Good f rest = rw t at e in rw t (cc))
    (λ t.
    let g = guard_good (ltb (value a) 16) _ f rest (rw t at e) in
    let h = guard_good (ltb (value b) 16) _ f rest g.1 in
    rw (t, g.0, h.0) (decoded_after (16 * value a + value b) s (read_line s) f rest (λ k. decoded_read s k rest) h.1))

decoded_by : (s : List ℕ) (l : Parsed) (f rest : List ℕ) → read_line s ≡ l → checked l ≡ Good f rest → decoded s ≡ f
decoded_by s Bad f rest p e = never e
decoded_by s (Good g t) f rest p e =
    let a = guard_good (leb 2 (length g)) _ f rest e in
    let b = guard_good (eqb (total g % 256) 0) _ f rest a.1 in
    decoded_read s f rest (p ∙ b.1)

pub decoded_sound : (s f rest : List ℕ) → sound_line s ≡ Good f rest → decoded s ≡ f
unfolding sound_line
decoded_sound s f rest e = decoded_by s (read_line s) f rest refl e

-- a sound line that was read
pub record Found (text : List ℕ) (at : ℕ) (line : Line) : Type 0 where
  pub f : List ℕ
  pub rest : List ℕ
  pub is : sound_line (drop at text) ≡ Good f rest
  pub many : line.len ≡ length f
  pub next : line.next ≡ length text - length rest
  pub onward : drop line.next text ≡ rest
  pub within : line.next ≤ length text

module _ (text : List ℕ) (at : ℕ) where
  -- what follows a sound line
  pub past_sound : (f rest : List ℕ) → sound_line (drop at text) ≡ Good f rest → drop (length text - length rest) text ≡ rest
  past_sound f rest p =
      let w = (sound_was (drop at text) f rest p).was in
      let n : length text - at ≡ length (line_of f) + length rest = sym (length-drop at text) ∙ (ap length w ∙ length-append (line_of f) rest) in
      let m : length text - length rest ≡ at + length (line_of f) = omega (arith, length_line f) in
      ap (λ (k : ℕ). drop k text) m
      ∙ (sym (drop-drop (length (line_of f)) at text) ∙ (ap (drop (length (line_of f))) w ∙ drop-append_seam (line_of f) rest))

  found_by : (line : Line) (l : Parsed) → sound_line (drop at text) ≡ l → Some line ≡ report (length text) l → Found text at line
  found_by line Bad p e = let z : ◌≡◌ {A = ℕ} 0 1 = cc in absurd (omega arith)
  found_by line (Good f rest) p e =
      let r : line ≡ record { next = length text - length rest; len = length f } = cc in
      let n = ap (λ (r : Line). r.next) r in
      record {
        f = f;
        rest = rest;
        is = p;
        many = ap (λ (r : Line). r.len) r;
        next = n;
        onward = ap (λ (k : ℕ). drop k text) n ∙ past_sound f rest p;
        within = omega (arith, n);
      }

  bad_by : (l : Parsed) → sound_line (drop at text) ≡ l → None ≡ report (length text) l → sound_line (drop at text) ≡ Bad
  bad_by Bad p e = p
  bad_by (Good f rest) p e = let z : ◌≡◌ {A = ℕ} 0 1 = cc in absurd (omega arith)

  pub found : (line : Line) → Some line ≡ report (length text) (sound_line (drop at text)) → Found text at line
  found line = found_by line (sound_line (drop at text)) refl

  pub not_found : None ≡ report (length text) (sound_line (drop at text)) → sound_line (drop at text) ≡ Bad
  not_found = bad_by (sound_line (drop at text)) refl

-- the frame of a sound line, where the lent bytes hold it
pub frame_held : (s f rest xs z : List ℕ) → sound_line s ≡ Good f rest → z ≡ over (take (length xs) (decoded s)) xs → length f ≤ length xs → take (length f) z ≡ f
frame_held s f rest xs z p e h =
    let d : take (length xs) (decoded s) ≡ f = ap (take (length xs)) (decoded_sound s f rest p) ∙ take_all (length xs) f h in
    ap (take (length f)) (e ∙ ap (λ (l : List ℕ). over l xs) d) ∙ take-append_seam f (drop (length f) xs)
