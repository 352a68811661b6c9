-- A frame's parts: the head or the rule that it is, test by test, as the functions find it.
-- Assumes nothing.
use Prim.Native.Nat.{ℕ, zero, suc, ◌+◌, ◌-◌, ◌≤◌, ◌<◌}
use mathlib.Core.Path.{◌≡◌, refl, sym, ap, ◌∙◌}
use mathlib.Core.List.{List, [], ◌∷◌}
use mathlib.Core.Bool.{Bool, true, false, ◌&&◌, and-false}
use native.Mathlib.Omega.{arith}
use Rattle.std.specs.Prelude.{Option, Some, None}
use borrow.Author.Tests.{leb-true, leb-false, eqb-true, eqb-false, le-leb, lt-leb, eq-eqb, ne_eqb}
use lib.ListN.{length, drop, length-drop}
use lib.Dec.{leb, eqb}
use Rattle.rules.specs.Limits.{max_rules, max_context, max_target, max_phones, max_letter, max_phone}
use Rattle.rules.specs.Shape.{first, Production, view, shape, left_shape, right_shape, length_shape, target_shape, phone_shape}
use Rattle.rules.specs.declared.Numbered.{Numbered}
use Rattle.rules.proofs.Cases.{by_bool}
use Rattle.rules.proofs.Laws.{length_first}
use Rattle.image.specs.State.{entry}
use Rattle.image.proofs.Entries.{shaped}
use Rattle.file.specs.declared.heading.Head.{Head}
use Rattle.rule_bytes.specs.RuleBytes.{rule_struct}
use Rattle.file_format.specs.Layout.{frame_type, head_type, edition, head_edition, head_count, head_last, head_frame_size, rule_type, front_size, left_length, target_length, right_length, phones_length, body_size, longest_frame, rule_in, entry_in, numbered_of}
use Rattle.file_format.specs.File.{is_rule}
use Rattle.file.specs.Loading.{head_in, ruled_in, rule_frame}
use Rattle.file_format.proofs.Bodies.{both, in_range, parts}

-- ---- a rule in a struct

first_first : (m : ℕ) (w : List ℕ) → length w ≤ m → first (length w) (first m w 0) 0 ≡ w
first_first m [] h = refl
first_first zero (x ∷ w) h = absurd (omega arith)
first_first (suc m) (x ∷ w) h = ap (λ (l : List ℕ). x ∷ l) (first_first m w (omega arith))

pub view_struct : (r : Production) → length r.left ≤ max_context → length r.target ≤ max_target → length r.right ≤ max_context → length r.phones ≤ max_phones
    → view (rule_struct r) ≡ r
view_struct r l t g p = rw (first_first max_context r.left l, first_first max_target r.target t, first_first max_context r.right g, first_first max_phones r.phones p)

-- a field in an array of m places, judged by q, which refuses a field of more
field_shape : (q : List ℕ → Bool) (m : ℕ) → ((w : List ℕ) → m < length w → q w ≡ false) → (w : List ℕ) → q (first (length w) (first m w 0) 0) ≡ q w
field_shape q m over w =
    by_bool (leb (length w) m)
    (λ t. ap q (first_first m w (leb-true _ _ t)))
    (λ t.
    let h = leb-false _ _ t in
    over (first (length w) (first m w 0) 0) (rw (length_first (length w) (first m w 0) 0) h) ∙ sym (over w h))

length_over : (low high hi : ℕ) (w : List ℕ) → high < length w → length_shape low high hi w ≡ false
length_over low high hi w h = rw (lt-leb _ _ h) (and-false (leb low (length w)))

pub shape_struct : (r : Production) → shape (view (rule_struct r)) ≡ shape r
unfolding shape
shape_struct r =
    rw (
      field_shape left_shape max_context (λ w h. rw (lt-leb _ _ h)) r.left,
      field_shape target_shape max_target (length_over 1 max_target max_letter) r.target,
      field_shape right_shape max_context (λ w h. rw (lt-leb _ _ h)) r.right,
      field_shape phone_shape max_phones (length_over 0 max_phones max_phone) r.phones,
    )

-- ---- a head

module _ (next : ℕ) (w : List ℕ) where
  pub head_length : (length w ≡ head_frame_size → ⊥) → None ≡ head_in next w
  head_length a = rw (ne_eqb (length w) head_frame_size a)

  module _ (a : length w ≡ head_frame_size) where
    pub head_first : (frame_type w ≡ head_type → ⊥) → None ≡ head_in next w
    head_first b = rw (eq-eqb (length w) head_frame_size a, ne_eqb (frame_type w) head_type b)

    module _ (b : frame_type w ≡ head_type) where
      pub head-edition : (head_edition w ≡ edition → ⊥) → None ≡ head_in next w
      head-edition c = rw (eq-eqb (length w) head_frame_size a, eq-eqb (frame_type w) head_type b, ne_eqb (head_edition w) edition c)

      module _ (c : head_edition w ≡ edition) (n : ℕ) (e : n ≡ head_count w) where
        pub head_many : max_rules < n → None ≡ head_in next w
        head_many h = rw (eq-eqb (length w) head_frame_size a, eq-eqb (frame_type w) head_type b, eq-eqb (head_edition w) edition c, ← e, lt-leb n max_rules h)

        pub head_ok : n ≤ max_rules → (last : ℕ) → last ≡ head_last w → ◌≡◌ {A = Option Head} (Some (record { next = next; count = n; last = last })) (head_in next w)
        head_ok h last g = rw (eq-eqb (length w) head_frame_size a, eq-eqb (frame_type w) head_type b, eq-eqb (head_edition w) edition c, ← e, le-leb n max_rules h, g)

-- ---- a rule's frame

module _ (w : List ℕ) where
  pub rule_short : length w ≤ front_size → false ≡ is_rule w
  rule_short h = by_bool (eqb (frame_type w) rule_type) (λ t. rw (t, ne_eqb (length w) (body_size w + 1) (λ q. omega arith))) (λ t. rw t)

  pub rule-type : (frame_type w ≡ rule_type → ⊥) → false ≡ is_rule w
  rule-type a = rw (ne_eqb (frame_type w) rule_type a)

  pub rule_length : frame_type w ≡ rule_type → front_size < length w → (n : ℕ) → n ≡ body_size w → eqb (length w - 1) n ≡ is_rule w
  rule_length a h n e =
      by_bool (eqb (length w - 1) n)
      (λ t. let q = eqb-true (length w - 1) n t in t ∙ sym (rw (eq-eqb (frame_type w) rule_type a) (eq-eqb (length w) (body_size w + 1) (omega arith))))
      (λ t.
      let d : length w ≡ body_size w + 1 → ⊥ = λ q. eqb-false (length w - 1) n t (omega arith) in
      t ∙ sym (rw (eq-eqb (frame_type w) rule_type a) (ne_eqb (length w) (body_size w + 1) d)))

  pub rule_whole : is_rule w ≡ true → length w ≡ body_size w + 1
  rule_whole i = eqb-true (length w) (body_size w + 1) (both (eqb (frame_type w) rule_type) _ i).1

-- the lengths of a frame of a rule of the shape
pub record Fits (w : List ℕ) : Type 0 where
  pub whole : length w ≡ body_size w + 1
  pub left : left_length w ≤ max_context
  pub target : target_length w ≤ max_target
  pub right : right_length w ≤ max_context
  pub phones : phones_length w ≤ max_phones

pub frame_fits : (w : List ℕ) → rule_frame w ≡ true → Fits w
frame_fits w e =
    let a = both (is_rule w) _ e in
    let n = rule_whole w a.0 in
    let q = parts (left_length w) (target_length w) (right_length w) (phones_length w) (drop front_size w) (omega (arith, length-drop front_size w)) in
    let b = shaped (rule_in w) a.1 in
    record {
      whole = n;
      left = rw q.2 at b.left-most;
      target = rw q.3 at b.target-most;
      right = rw q.4 at b.right-most;
      phones = rw q.5 at b.phones-most;
    }

-- ---- the rule of a frame, judged

module _ (last : ℕ) (w : List ℕ) where
  pub ruled_not : is_rule w ≡ false → None ≡ ruled_in last w
  ruled_not i = rw i

  -- a frame longer than the longest is that of no rule of the shape
  pub ruled_long : longest_frame < length w → None ≡ ruled_in last w
  ruled_long h =
      let n : (is_rule w && entry last (entry_in w)) ≡ false =
      by_bool (is_rule w && entry last (entry_in w))
      (λ t.
      let a = both (is_rule w) _ t in
      let k = frame_fits w (rw a.0 (in_range last (entry_in w) a.1).shaped) in
      absurd (omega (arith, k.whole, k.left, k.target, k.right, k.phones)))
      (λ t. t) in
      rw n

  module _ (i : is_rule w ≡ true) (x : Numbered) (e : x ≡ numbered_of (entry_in w)) where
    viewed : shape (view x.rule) ≡ shape (rule_in w)
    viewed = ap (λ (y : Numbered). shape (view y.rule)) e ∙ shape_struct (rule_in w)

    pub ruled_shape : shape (view x.rule) ≡ false → None ≡ ruled_in last w
    ruled_shape s = rw (i, sym viewed ∙ s)

    module _ (s : shape (view x.rule) ≡ true) where
      number : x.number ≡ (entry_in w).number
      number = ap (λ (y : Numbered). y.number) e

      pub ruled_low : x.number < 1 → None ≡ ruled_in last w
      ruled_low h = rw (i, sym viewed ∙ s, ← number, lt-leb _ _ h)

      module _ (l : 1 ≤ x.number) where
        pub ruled_high : last < x.number → None ≡ ruled_in last w
        ruled_high h = rw (i, sym viewed ∙ s, ← number, le-leb _ _ l, lt-leb _ _ h)

        pub ruled_ok : x.number ≤ last → Some x ≡ ruled_in last w
        ruled_ok h =
            let b : entry last (entry_in w) ≡ true = rw (sym viewed ∙ s, ← number, le-leb _ _ l, le-leb _ _ h) in
            ap (λ (y : Numbered). Some y) e ∙ sym (rw (i, b))
