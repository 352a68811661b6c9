-- Rules put into the slots of an image one after the other: with the head they are a state laid in it.
-- Assumes nothing.
use Prim.Native.Nat.{ℕ, suc, ◌+◌, ◌*◌, ◌≤◌}
use mathlib.Core.Path.{◌≡◌, sym, ap, ap₂, ◌∙◌}
use mathlib.Core.List.{List, [], ◌∷◌, ◌++◌, append_assoc}
use native.Mathlib.Omega.{arith}
use lib.ListN.{length, take, drop, length-append, length-drop, take-append-drop}
use lib.Seq.{take_at, drop-append-add, drop-drop, length-take-le}
use Rattle.rules.specs.declared.Numbered.{Numbered}
use Rattle.classes.specs.Classes.{Classes}
use Rattle.rule_bytes.specs.RuleBytes.{Filled}
use Rattle.image.specs.Image.{head_size, slot_size, slot_start, bytes_of, flat, head_of, laid, with_head, with_rule}
use Rattle.image.proofs.Stored.{Each, slot_length, length_flat}
use Rattle.image.proofs.Stored.Each.{none, more}
use Rattle.file.specs.Loading.{with_rules}

-- one more
pub rules_next : (p : ℕ) (l : List Numbered) (x : Numbered) (d : List ℕ) → with_rules p (l ++ (x ∷ [])) d ≡ with_rule (p + length l) x (with_rules p l d)
rules_next p [] x d = let e : p ≡ p + 0 = omega arith in ap (λ (k : ℕ). with_rule k x d) e
rules_next p (y ∷ l) x d =
    let e : suc p + length l ≡ p + suc (length l) = omega arith in
    rules_next (suc p) l x (with_rule p y d) ∙ ap (λ (k : ℕ). with_rule k x (with_rules (suc p) l (with_rule p y d))) e

-- a slot written: what stands up to its end, and after it
module _ (p : ℕ) (x : Numbered) (d : List ℕ) (f : Filled x.rule) (h : slot_start p + slot_size ≤ length d) where
  front : List ℕ
  front = take (slot_start p) d ++ bytes_of x

  front_length : length front ≡ slot_start (suc p)
  unfolding front
  front_length = omega (arith, length-append (take (slot_start p) d) (bytes_of x), length-take-le (slot_start p) d (omega arith), slot_length x f)

  split : with_rule p x d ≡ front ++ drop (slot_start (suc p)) d
  unfolding front
  split =
      let e : slot_start p + slot_size ≡ slot_start (suc p) = omega arith in
      sym (append_assoc (take (slot_start p) d) (bytes_of x) (drop (slot_start p + slot_size) d)) ∙ ap (λ (k : ℕ). front ++ drop k d) e

  rule_length : length (with_rule p x d) ≡ length d
  rule_length = omega (arith, ap length split, length-append front (drop (slot_start (suc p)) d), front_length, length-drop (slot_start (suc p)) d)

  before_next : take (slot_start (suc p)) (with_rule p x d) ≡ front
  before_next = ap (take (slot_start (suc p))) split ∙ take_at front (drop (slot_start (suc p)) d) (slot_start (suc p)) front_length

  after_next : (n : ℕ) → drop (slot_start (suc p + n)) (with_rule p x d) ≡ drop (slot_start (suc p + n)) d
  after_next n =
      let e : slot_start (suc p + n) ≡ length front + slot_size * n = omega (arith, front_length) in
      let g : slot_start (suc p) + slot_size * n ≡ slot_start (suc p + n) = omega arith in
      ap₂ drop e split
      ∙ (drop-append-add front (drop (slot_start (suc p)) d) (slot_size * n) ∙ (drop-drop (slot_size * n) (slot_start (suc p)) d ∙ ap (λ (k : ℕ). drop k d) g))

  joined : (s t : List ℕ) → front ++ (s ++ t) ≡ take (slot_start p) d ++ ((bytes_of x ++ s) ++ t)
  unfolding front
  joined s t = simp append_assoc

-- all of them
rules_are : {l : List Numbered} (p : ℕ) (d : List ℕ) → Each l → slot_start (p + length l) ≤ length d
    → with_rules p l d ≡ take (slot_start p) d ++ (flat l ++ drop (slot_start (p + length l)) d)
rules_are p d none h =
    let e : p + 0 ≡ p = omega arith in
    sym (ap (λ (k : ℕ). take (slot_start p) d ++ drop (slot_start k) d) e ∙ take-append-drop (slot_start p) d)
rules_are p d (more {x} {l} f m) h =
    let u : slot_start p + slot_size ≤ length d = omega arith in
    let e : suc p + length l ≡ p + suc (length l) = omega arith in
    let t = drop (slot_start (p + suc (length l))) d in
    rules_are (suc p) (with_rule p x d) m (omega (arith, rule_length p x d f u))
    ∙ (ap₂ (λ (a b : List ℕ). a ++ (flat l ++ b)) (before_next p x d f u) (after_next p x d f u (length l) ∙ ap (λ (k : ℕ). drop (slot_start k) d) e)
    ∙ joined p x d f u (flat l) t)

pub rules_length : {l : List Numbered} (p : ℕ) (d : List ℕ) → Each l → slot_start (p + length l) ≤ length d → length (with_rules p l d) ≡ length d
rules_length {l} p d m h =
    omega (
      arith,
      ap length (rules_are p d m h),
      length-append (take (slot_start p) d) (flat l ++ drop (slot_start (p + length l)) d),
      length-append (flat l) (drop (slot_start (p + length l)) d),
      length-take-le (slot_start p) d (omega arith),
      length_flat m,
      length-drop (slot_start (p + length l)) d,
    )

-- the head, then the rules: the state is laid
pub rules_laid : {l : List Numbered} (d : List ℕ) (last : ℕ) (k : Classes) → Each l → slot_start (length l) ≤ length d
    → with_rules 0 l (with_head (length l) last 0 d) ≡ laid (record { list = l; last = last; classes = k; edits = 0 }) d
rules_laid {l} d last k m h =
    let w = with_head (length l) last 0 d in
    let e : slot_start (0 + length l) ≡ head_size + slot_size * length l = omega arith in
    rules_are 0 w m (omega (arith, length-append (head_of (length l) last 0) (drop head_size d), length-drop head_size d))
    ∙ ap (λ (t : List ℕ). head_of (length l) last 0 ++ (flat l ++ t))
    (ap (λ (k : ℕ). drop k w) e ∙ (drop-append-add (head_of (length l) last 0) (drop head_size d) (slot_size * length l) ∙ drop-drop (slot_size * length l) head_size d))
