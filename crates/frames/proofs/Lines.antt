-- A line is read as the frame that it was written from, and only such a line is read.
-- Assumes nothing.
use Rattle.std.proofs.Common.{◌≡◌, ℕ, zero, ◌+◌, ◌-◌, ◌*◌, ◌/◌, ◌%◌, ◌<◌, ◌≤◌, Bool, true, false, cond, eqb, ltb, leb, List, [], ◌∷◌, ◌++◌, length, refl, ap, ◌∙◌, arith, length-append, ltb-false, ltb-true, le-ltb, lt-ltb, eq-eqb, ne_eqb, eqb-true, le-leb, leb-false, leb-true}
use borrow.Author.Tests.{lt-leb}
use Rattle.rules.proofs.Cases.{by_bool}
use Rattle.frames.specs.Lines.{digit, value, line_of, total, sum_byte, framed, Parsed, after, guard, read_line, checked, sound_line}
use Rattle.frames.specs.Lines.Parsed.{Bad, Good}

-- ---- digits

-- the digit of a number below 16 is no line's end, and has that number
pub value_digit : (d : ℕ) → d < 16 → (eqb (digit d) 10 ≡ false) × (value (digit d) ≡ d)
unfolding digit value
value_digit d h =
    by_bool (ltb d 10)
    (λ e.
    let l = ltb-true d 10 e in
    (rw e (ne_eqb (48 + d) 10 (omega arith)), rw (e, le-leb 48 (48 + d) (omega arith), le-leb (48 + d) 57 (omega arith)) (omega arith)))
    (λ e.
    let l = ltb-false d 10 e in (
      rw e (ne_eqb (55 + d) 10 (omega arith)),
      rw (e, le-leb 48 (55 + d) (omega arith), lt-leb (55 + d) 57 (omega arith), le-leb 65 (55 + d) (omega arith), le-leb (55 + d) 70 (omega arith)) (omega arith),
    ))

-- the digit of a number, as it is computed
pub digit_from : (d b : ℕ) → b ≡ cond (ltb d 10) 48 55 → (b ≤ 55) × (b + d ≡ digit d)
unfolding digit
digit_from d b e =
    by_bool (ltb d 10)
    (λ t. let k : b ≡ 48 = e ∙ rw t in (omega arith, rw (t, k)))
    (λ t. let k : b ≡ 55 = e ∙ rw t in (omega arith, rw (t, k)))

-- the number of a character, as it is computed: m is what lies between it and the first letter, or the first digit
module _ (a m : ℕ) (b : m < 256) where
  module _ (e : (m + 65) % 256 ≡ a) where
    pub letter-in : m < 6 → 10 + m ≡ cond (leb 65 a) (cond (leb a 70) (a - 55) 16) 16
    letter-in h = rw (le-leb 65 a (omega arith), le-leb a 70 (omega arith)) (omega arith)

    pub letter_out : 6 ≤ m → 16 ≡ cond (leb 65 a) (cond (leb a 70) (a - 55) 16) 16
    letter_out h =
        by_bool (leb 65 a)
        (λ t. let l = leb-true 65 a t in rw (t, lt-leb a 70 (omega arith)))
        (λ t. rw t)

  module _ (e : (m + 48) % 256 ≡ a) where
    pub value_digit_in : m < 10 → m ≡ value a
    unfolding value
    value_digit_in h = rw (le-leb 48 a (omega arith), le-leb a 57 (omega arith)) (omega arith)

    pub value_digit_out : 10 ≤ m → cond (leb 65 a) (cond (leb a 70) (a - 55) 16) 16 ≡ value a
    unfolding value
    value_digit_out h =
        by_bool (leb 48 a)
        (λ t. let l = leb-true 48 a t in rw (t, lt-leb a 57 (omega arith)))
        (λ t. let l = leb-false 48 a t in rw (t, lt-leb 65 a (omega arith)))

-- what has a number below 16 is its digit
pub digit_value : (a : ℕ) → value a < 16 → digit (value a) ≡ a
unfolding digit value
digit_value a =
    by_bool (leb 48 a)
    (λ e.
    let l = leb-true 48 a e in
    rw e (by_bool (leb a 57)
    (λ e₁. let u = leb-true a 57 e₁ in rw e₁ (λ h. rw (lt-ltb (a - 48) 10 (omega arith)) (omega arith)))
    (λ e₁.
    let u = leb-false a 57 e₁ in
    rw e₁ (by_bool (leb 65 a)
    (λ e₂.
    let v = leb-true 65 a e₂ in
    rw e₂ (by_bool (leb a 70)
    (λ e₃. let w = leb-true a 70 e₃ in rw e₃ (λ h. rw (le-ltb (a - 55) 10 (omega arith)) (omega arith)))
    (λ e₃. rw e₃ (λ h. absurd (omega arith)))))
    (λ e₂. rw e₂ (λ h. absurd (omega arith)))))))
    (λ e. rw e (λ h. absurd (omega arith)))

-- ---- lines

abbrev pub Bytes : List ℕ → Type 0
Bytes [] = Unit {0}
Bytes (b ∷ f) = (b < 256) × Bytes f

end_line : (s : List ℕ) → read_line (10 ∷ s) ≡ Good [] s
end_line [] = refl
end_line (b ∷ s) = refl

-- a line that was written is read as its frame
pub read-line : (f rest : List ℕ) → Bytes f → read_line (line_of f ++ rest) ≡ Good f rest
read-line [] rest h = end_line rest
read-line (b ∷ f) rest h =
    let l = value_digit (b / 16) (omega arith) in
    let r = value_digit (b % 16) (omega arith) in
    let e : 16 * (b / 16) + b % 16 ≡ b = omega arith in
    rw (l.0, l.1, r.1, lt-ltb (b / 16) 16 (omega arith), lt-ltb (b % 16) 16 (omega arith), e, read-line f rest h.1)

pub guard_good : (t : Bool) (l : Parsed) (f rest : List ℕ) → guard t l ≡ Good f rest → (t ≡ true) × (l ≡ Good f rest)
guard_good true l f rest e = (refl, e)
guard_good false l f rest e = let z : ◌≡◌ {A = ℕ} 0 1 = cc in absurd (omega arith)

-- the line that was read
abbrev pub Was : List ℕ → List ℕ → List ℕ → Type 0
Was s f rest = (s ≡ line_of f ++ rest) × Bytes f

was_after : (a b : ℕ) (s : List ℕ) (l : Parsed) (f rest : List ℕ) → value a < 16 → value b < 16
    → ((g : List ℕ) → l ≡ Good g rest → Was s g rest) → after (16 * value a + value b) l ≡ Good f rest → Was (a ∷ b ∷ s) f rest
was_after a b s Bad f rest ha hb k e = let z : ◌≡◌ {A = ℕ} 0 1 = cc in absurd (omega arith)
was_after a b s (Good g t) f rest ha hb k e =
    let p : t ≡ rest = cc in
    let q : (16 * value a + value b) ∷ g ≡ f = cc in
    let w = k g (ap (Good g) p) in
    let hi : (16 * value a + value b) / 16 ≡ value a = omega arith in
    let lo : (16 * value a + value b) % 16 ≡ value b = omega arith in
    rw (← q) (rw (hi, lo, digit_value a ha, digit_value b hb) (ap (λ (m : List ℕ). a ∷ b ∷ m) w.0), (omega arith, w.1))

was_end : (a : ℕ) (s f rest : List ℕ) → eqb a 10 ≡ true → Good [] s ≡ Good f rest → Was (a ∷ s) f rest
was_end a s f rest e g =
    let p : s ≡ rest = cc in
    let q : [] ≡ f = cc in
    rw (← q, ← p, eqb-true a 10 e) (refl, tt)

pub line_was : (s f rest : List ℕ) → read_line s ≡ Good f rest → Was s f rest
line_was [] f rest e = let z : ◌≡◌ {A = ℕ} 0 1 = cc in absurd (omega arith)
line_was (a ∷ []) f rest e =
    by_bool (eqb a 10)
    (λ t. was_end a [] f rest t (rw t at e))
    (λ t. let e' : Bad ≡ Good f rest = rw t at e in let z : ◌≡◌ {A = ℕ} 0 1 = cc in absurd (omega arith))
line_was (a ∷ b ∷ s) f rest e =
    by_bool (eqb a 10)
    (λ t. was_end a (b ∷ s) f rest t (rw t at e))
    (λ t.
    let g = guard_good (ltb (value a) 16) _ f rest (rw t at e) in
    let h = guard_good (ltb (value b) 16) _ f rest g.1 in
    was_after a b s (read_line s) f rest (ltb-true (value a) 16 g.0) (ltb-true (value b) 16 h.0) (λ g. line_was s g rest) h.1)

-- ---- frames

pub total_append : (f g : List ℕ) → total (f ++ g) ≡ total f + total g
total_append [] g = omega arith
total_append (b ∷ f) g = omega (arith, total_append f g)

pub bytes_append : (f g : List ℕ) → Bytes f → Bytes g → Bytes (f ++ g)
bytes_append [] g h k = k
bytes_append (b ∷ f) g h k = (h.0, bytes_append f g h.1 k)

pub sum_unique : (body : List ℕ) (s : ℕ) → s < 256 → (s + total body) % 256 ≡ 0 → s ≡ sum_byte body
unfolding sum_byte
sum_unique body s h e = omega arith

pub sum_below : (body : List ℕ) → sum_byte body < 256
unfolding sum_byte
sum_below body = omega arith

sum_zero : (body : List ℕ) → (total body + (sum_byte body + 0)) % 256 ≡ 0
unfolding sum_byte
sum_zero body = omega arith

-- a frame that was written is read as it was
pub read_framed : (w rest : List ℕ) → 1 ≤ length w → Bytes w → sound_line (line_of (framed w) ++ rest) ≡ Good (framed w) rest
unfolding sound_line
read_framed w rest n h =
    let e = total_append w (sum_byte w ∷ []) in
    let l = length-append w (sum_byte w ∷ []) in
    rw (
      read-line (framed w) rest (bytes_append w (sum_byte w ∷ []) h (sum_below w, tt)),
      le-leb 2 (length (framed w)) (omega arith),
      eq-eqb (total (framed w) % 256) 0 (ap (λ (n : ℕ). n % 256) e ∙ sum_zero w),
    )

-- a sound line: its frame has 2 bytes or more and adds to zero
pub record Sound (s f rest : List ℕ) : Type 0 where
  pub was : s ≡ line_of f ++ rest
  pub bytes : Bytes f
  pub two : 2 ≤ length f
  pub zero : total f % 256 ≡ 0

sound_by : (s : List ℕ) (l : Parsed) (f rest : List ℕ) → read_line s ≡ l → checked l ≡ Good f rest → Sound s f rest
sound_by s Bad f rest p e = let z : ◌≡◌ {A = ℕ} 0 1 = cc in absurd (omega arith)
sound_by s (Good g t) f rest p e =
    let a = guard_good (leb 2 (length g)) _ f rest e in
    let b = guard_good (eqb (total g % 256) 0) _ f rest a.1 in
    let w = line_was s f rest (p ∙ b.1) in
    let q : g ≡ f = cc b.1 in
    record { was = w.0; bytes = w.1; two = rw q at (leb-true 2 (length g) a.0); zero = rw q at (eqb-true (total g % 256) 0 b.0) }

pub sound_was : (s f rest : List ℕ) → sound_line s ≡ Good f rest → Sound s f rest
unfolding sound_line
sound_was s f rest e = sound_by s (read_line s) f rest refl e

-- a frame of bytes that adds to zero is its body with the sum byte
pub is_framed : (body : List ℕ) (s : ℕ) → Bytes (body ++ (s ∷ [])) → total (body ++ (s ∷ [])) % 256 ≡ 0 → body ++ (s ∷ []) ≡ framed body
is_framed body s h e =
    let t = total_append body (s ∷ []) in
    ap (λ (n : ℕ). body ++ (n ∷ [])) (sum_unique body s (last_byte body h) (omega arith))
  where
    last_byte : (f : List ℕ) → Bytes (f ++ (s ∷ [])) → s < 256
    last_byte [] k = k.0
    last_byte (b ∷ f) k = last_byte f k.1

pub length_line : (f : List ℕ) → length (line_of f) ≡ 2 * length f + 1
length_line [] = refl
length_line (b ∷ f) = omega (arith, length_line f)
