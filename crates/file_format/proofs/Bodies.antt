-- A rule's frame and a head's frame, there and back.
--     rule-back, rule-is    the frame of a rule is a rule's frame and is read as that rule
--     rule-was              a sound frame of a rule is the frame of the rule that it is read as
--     head-is, head-was     the same of a head
-- Assumes nothing.
use Prim.Native.Nat.{ℕ, suc, ◌+◌, ◌*◌, ◌/◌, ◌%◌, ◌≤◌, ◌<◌}
use mathlib.Core.Path.{◌≡◌, refl, sym, ap, ◌∙◌, subst}
use mathlib.Core.List.{List, [], ◌∷◌, ◌++◌, append_assoc}
use mathlib.Core.Bool.{Bool, true, false, ◌&&◌}
use native.Mathlib.Omega.{arith}
use borrow.Author.Tests.{leb-true, eqb-true, le-leb, eq-eqb}
use lib.ListN.{length, get_or, take, drop, length-append, length-drop, take-append-drop}
use lib.Seq.{take-append_seam, drop-append_seam, length-take-le}
use lib.Dec.{leb, eqb}
use Rattle.rules.specs.Limits.{max_rules, max_number}
use Rattle.rules.specs.Shape.{Production, Entry, shape}
use Rattle.image.specs.State.{entry}
use Rattle.image.proofs.Entries.{shaped}
use Rattle.frames.specs.Lines.{total, sum_byte, framed}
use Rattle.frames.proofs.Lines.{Bytes, bytes_append, is_framed}
use Rattle.file_format.specs.Layout.{frame_type, head_type, edition, head_edition, head_count, head_last, head_frame_size, rule_type, body_size, entry_in}
use Rattle.file_format.specs.File.{head_body, rule_body, is_head, is_rule}

pub no : false ≡ true → ⊥
no e = let z : ◌≡◌ {A = ℕ} 0 1 = cc in omega arith

pub clash {ℓ} : {A : Type ℓ} {b : Bool} → b ≡ true → b ≡ false → A
clash p q = absurd (no (sym q ∙ p))

pub both : (a b : Bool) → (a && b) ≡ true → (a ≡ true) × (b ≡ true)
both true b e = (refl, e)
both false b e = absurd (no e)

-- ---- what a shape bounds

below : (hi : ℕ) (s : List ℕ) → hi ≤ 256 → ((k : ℕ) → get_or s k 0 < hi) → Bytes s
below hi [] h f = tt
below hi (x ∷ s) h f = let u = f 0 in (omega arith, below hi s h (λ k. f (suc k)))

shape_bytes : (r : Production) → shape r ≡ true → Bytes (r.left ++ (r.target ++ (r.right ++ r.phones)))
shape_bytes r e =
    let s = shaped r e in
    bytes_append r.left _ (below 256 r.left (omega arith) (λ k. omega (arith, s.left-symbols k)))
    (bytes_append r.target _ (below 64 r.target (omega arith) s.target-symbols)
    (bytes_append r.right _ (below 256 r.right (omega arith) (λ k. omega (arith, s.right-symbols k))) (below 256 r.phones (omega arith) s.phones-bytes)))

pub record InRange (last : ℕ) (e : Entry) : Type 0 where
  pub shaped : shape e.rule ≡ true
  pub low : 1 ≤ e.number
  pub high : e.number ≤ last

pub in_range : (last : ℕ) (e : Entry) → entry last e ≡ true → InRange last e
in_range last e h =
    let a = both (shape e.rule) _ h in
    let b = both (leb 1 e.number) _ a.1 in
    record { shaped = a.0; low = leb-true 1 e.number b.0; high = leb-true e.number last b.1 }

-- ---- a rule's frame

pub rule_bytes : (e : Entry) → shape e.rule ≡ true → e.number < 65536 → Bytes (rule_body e)
rule_bytes e h n =
    let b = shaped e.rule h in
    let l = b.left-most in
    let t = b.target-most in
    let r = b.right-most in
    let p = b.phones-most in
    (omega arith, (omega arith, (omega arith, (omega arith, (omega arith, (omega arith, (omega arith, shape_bytes e.rule h)))))))

take_front : (a b c : List ℕ) → take (length a) ((a ++ b) ++ c) ≡ a
take_front a b c = rw append_assoc (take-append_seam a (b ++ c))

drop_front : (a b c : List ℕ) → drop (length a) ((a ++ b) ++ c) ≡ b ++ c
drop_front a b c = rw append_assoc (drop-append_seam a (b ++ c))

-- the frame of a rule is read as that rule
pub rule_back : (e : Entry) → entry_in (framed (rule_body e)) ≡ e
rule_back e =
    let l = e.rule.left in
    let t = e.rule.target in
    let r = e.rule.right in
    let p = e.rule.phones in
    let s = sum_byte (rule_body e) ∷ [] in
    let n : 256 * (e.number / 256) + e.number % 256 ≡ e.number = omega arith in
    rw (
      n,
      take_front l (t ++ (r ++ p)) s,
      drop_front l (t ++ (r ++ p)) s,
      take_front t (r ++ p) s,
      drop_front t (r ++ p) s,
      take_front r p s,
      drop_front r p s,
      take-append_seam p s,
    )

pub rule_is : (e : Entry) → is_rule (framed (rule_body e)) ≡ true
rule_is e =
    let l = e.rule.left in
    let t = e.rule.target in
    let r = e.rule.right in
    let p = e.rule.phones in
    let s = sum_byte (rule_body e) ∷ [] in
    eq-eqb (length (framed (rule_body e))) (body_size (framed (rule_body e)) + 1)
    (omega (arith, length-append (l ++ (t ++ (r ++ p))) s, length-append l (t ++ (r ++ p)), length-append t (r ++ p), length-append r p))

pub one : (k : List ℕ) → length k ≡ 1 → k ≡ get_or k 0 0 ∷ []
one [] h = absurd (omega arith)
one (x ∷ []) h = refl
one (x ∷ y ∷ k) h = absurd (omega arith)

-- a list in five parts, by their lengths
pub parts : (l t r p : ℕ) (g : List ℕ) → length g ≡ l + (t + (r + (p + 1)))
    → (s : ℕ) × (g ≡ (take l g ++ (take t (drop l g) ++ (take r (drop t (drop l g)) ++ take p (drop r (drop t (drop l g)))))) ++ (s ∷ []))
    × (length (take l g) ≡ l) × (length (take t (drop l g)) ≡ t) × (length (take r (drop t (drop l g))) ≡ r)
    × (length (take p (drop r (drop t (drop l g)))) ≡ p)
parts l t r p g h =
    let g₁ = drop l g in
    let g₂ = drop t g₁ in
    let g₃ = drop r g₂ in
    let n₁ : length g₁ ≡ t + (r + (p + 1)) = omega (arith, length-drop l g) in
    let n₂ : length g₂ ≡ r + (p + 1) = omega (arith, length-drop t g₁) in
    let n₃ : length g₃ ≡ p + 1 = omega (arith, length-drop r g₂) in
    let k = drop p g₃ in
    let n₄ : length k ≡ 1 = omega (arith, length-drop p g₃) in (
      get_or k 0 0,
      simp append_assoc
          (sym (ap (λ (m : List ℕ). take l g ++ (take t g₁ ++ (take r g₂ ++ (take p g₃ ++ m)))) (sym (one k n₄))
          ∙ (ap (λ (m : List ℕ). take l g ++ (take t g₁ ++ (take r g₂ ++ m))) (take-append-drop p g₃)
          ∙ (ap (λ (m : List ℕ). take l g ++ (take t g₁ ++ m)) (take-append-drop r g₂)
          ∙ (ap (λ (m : List ℕ). take l g ++ m) (take-append-drop t g₁) ∙ take-append-drop l g))))),
      length-take-le l g (omega arith),
      length-take-le t g₁ (omega arith),
      length-take-le r g₂ (omega arith),
      length-take-le p g₃ (omega arith),
    )

abbrev frame : ℕ → ℕ → ℕ → ℕ → ℕ → ℕ → List ℕ → List ℕ
frame a b l t r p g = 2 ∷ a ∷ b ∷ l ∷ t ∷ r ∷ p ∷ g

framed_rule : (a b l t r p : ℕ) (g : List ℕ) → length g ≡ l + (t + (r + (p + 1)))
    → Bytes (frame a b l t r p g) → total (frame a b l t r p g) % 256 ≡ 0
    → frame a b l t r p g ≡ framed (rule_body (entry_in (frame a b l t r p g)))
framed_rule a b l t r p g h k z =
    let q = parts l t r p g h in
    let hi : (256 * a + b) / 256 ≡ a = omega arith in
    let lo : (256 * a + b) % 256 ≡ b = omega arith in
    let body = rule_body (entry_in (frame a b l t r p g)) in
    let e : frame a b l t r p g ≡ body ++ (q.0 ∷ []) =
    rw (hi, lo, q.2, q.3, q.4, q.5) (ap (frame a b l t r p) q.1) in
    e ∙ is_framed body q.0 (subst Bytes e k) (subst (λ (m : List ℕ). total m % 256 ≡ 0) e z)

-- a sound frame of a rule is the frame of the rule that it is read as
pub rule_was : (f : List ℕ) → frame_type f ≡ rule_type → length f ≡ body_size f + 1
    → Bytes f → total f % 256 ≡ 0 → f ≡ framed (rule_body (entry_in f))
rule_was [] e h k z = absurd (omega arith)
rule_was (a ∷ []) e h k z = absurd (omega arith)
rule_was (a ∷ b ∷ []) e h k z = absurd (omega arith)
rule_was (a ∷ b ∷ c ∷ []) e h k z = absurd (omega arith)
rule_was (a ∷ b ∷ c ∷ l ∷ []) e h k z = absurd (omega arith)
rule_was (a ∷ b ∷ c ∷ l ∷ t ∷ []) e h k z = absurd (omega arith)
rule_was (a ∷ b ∷ c ∷ l ∷ t ∷ r ∷ []) e h k z = absurd (omega arith)
rule_was (a ∷ b ∷ c ∷ l ∷ t ∷ r ∷ p ∷ g) e h k z = rw e (framed_rule b c l t r p g (omega arith) (rw e at k) (rw e at z))

-- ---- a head's frame

pub head_bytes : (n last : ℕ) → n ≤ max_rules → last ≤ max_number → Bytes (head_body n last)
head_bytes n last h k = omega arith

pub head_is : (n last : ℕ) → n ≤ max_rules → (is_head (framed (head_body n last)) ≡ true) × (head_count (framed (head_body n last)) ≡ n) × (head_last (framed (head_body n last)) ≡ last)
head_is n last h = (le-leb (256 * (n / 256) + n % 256) max_rules (omega arith), omega arith, omega arith)

head_by : (f : List ℕ) → length f ≡ head_frame_size → frame_type f ≡ head_type → head_edition f ≡ edition → Bytes f → total f % 256 ≡ 0
    → (f ≡ framed (head_body (head_count f) (head_last f))) × (head_last f ≤ max_number)
head_by [] n e d k z = absurd (omega arith)
head_by (a ∷ []) n e d k z = absurd (omega arith)
head_by (a ∷ b ∷ []) n e d k z = absurd (omega arith)
head_by (a ∷ b ∷ x ∷ []) n e d k z = absurd (omega arith)
head_by (a ∷ b ∷ x ∷ y ∷ []) n e d k z = absurd (omega arith)
head_by (a ∷ b ∷ x ∷ y ∷ u ∷ []) n e d k z = absurd (omega arith)
head_by (a ∷ b ∷ x ∷ y ∷ u ∷ v ∷ []) n e d k z = absurd (omega arith)
head_by (a ∷ b ∷ x ∷ y ∷ u ∷ v ∷ s ∷ w ∷ f) n e d k z = absurd (omega arith)
head_by (a ∷ b ∷ x ∷ y ∷ u ∷ v ∷ s ∷ []) n e d k z =
    let h₁ : (256 * x + y) / 256 ≡ x = omega arith in
    let h₂ : (256 * x + y) % 256 ≡ y = omega arith in
    let h₃ : (256 * u + v) / 256 ≡ u = omega arith in
    let h₄ : (256 * u + v) % 256 ≡ v = omega arith in
    (rw (h₁, h₂, h₃, h₄, e, d) (is_framed (1 ∷ 1 ∷ x ∷ y ∷ u ∷ v ∷ []) s (rw (e, d) at k) (rw (e, d) at z)), omega arith)

pub record Headed (f : List ℕ) : Type 0 where
  pub was : f ≡ framed (head_body (head_count f) (head_last f))
  pub count : head_count f ≤ max_rules
  pub last : head_last f ≤ max_number

pub head_was : (f : List ℕ) → is_head f ≡ true → Bytes f → total f % 256 ≡ 0 → Headed f
head_was f e k z =
    let a = both (eqb (length f) head_frame_size) _ e in
    let b = both (eqb (frame_type f) head_type) _ a.1 in
    let c = both (eqb (head_edition f) edition) _ b.1 in
    let h = head_by f (eqb-true _ _ a.0) (eqb-true _ _ b.0) (eqb-true _ _ c.0) k z in
    record { was = h.0; count = leb-true (head_count f) max_rules c.1; last = h.1 }
