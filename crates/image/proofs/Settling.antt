-- The table laid in an image, rule by rule: what stands before it stays, and afterwards it is that of the image's rules and classes.
-- Assumes nothing.
use Prim.Native.Nat.{ℕ, zero, suc, ◌+◌, ◌*◌, ◌/◌, ◌%◌, ◌≤◌, ◌<◌}
use mathlib.Core.Path.{◌≡◌, refl, sym, ap, ap₂, ◌∙◌}
use mathlib.Core.List.{List, [], ◌∷◌, ◌++◌, append_assoc, append-nil}
use mathlib.Core.Bool.{true}
use native.Mathlib.Omega.{arith}
use native.Mathlib.Numerals.{add-one}
use borrow.Author.Tests.{leb-true, le-leb}
use lib.ListN.{length, get_or, take, drop, set, length-append, take-append-drop}
use lib.Seq.{take-take, take-suc, take_all, drop-cons, drop-drop, drop_at, take-append-le, length-take-le}
use Rattle.rules.specs.Limits.{max_rules}
use Rattle.rules.specs.Memory.{over, over_at}
use Rattle.rules.specs.Shape.{Entry}
use Rattle.rules.proofs.Cases.{and_r}
use Rattle.rules.proofs.Memory.{over_length, over_snoc, over-at, over_front, front_all}
use Rattle.classes.specs.Classes.{Classes}
use Rattle.classes.specs.Counting.{capped}
use Rattle.classes.specs.Expansion.{literal_count, literal_total}
use Rattle.classes.specs.Ordinal.{Origin, origin, origin_run, origins}
use Rattle.classes.proofs.Counts.{total_append}
use Rattle.classes.proofs.Ordinal.{length_run, length_origins, origins_append}
use Rattle.image.specs.State.{Ledger, rules_of, no_entry, entries, all_defined, expandable}
use Rattle.image.specs.Image.{image_size, class_start, origin_size, total_start, table_start, origin_bytes, count_of, ledger_of, entries_of, entry_at, classes_of, Slots, sound, settled}
use Rattle.image.proofs.Entries.{entries_length}
use Rattle.rule_bytes.proofs.Parts.{front_same}
use Rattle.image.proofs.Front.{count_same, last_same, ledger_same}
use Rattle.image.proofs.Tests.{sound_slots, sound_expandable}

-- ---- memory from a place on

-- what lies before a place is what it was
pub at_front : (a n : ℕ) (x d : List ℕ) → n ≤ a → a ≤ length d → take n (over_at a x d) ≡ take n d
at_front a n x d u h =
    let l : length (take a d) ≡ a = length-take-le a d h in
    take-append-le n (take a d) (over x (drop a d)) (omega arith) ∙ take-take n a d u

-- two parts laid, the later one first
pub over_twice : (a b : ℕ) (x y d : List ℕ) → b ≡ a + length x → b ≤ length d → over_at a x (over_at b y d) ≡ over_at a (x ++ y) d
over_twice a b x y d e h =
    let l : length (take b d) ≡ b = length-take-le b d h in
    let t : take a (over_at b y d) ≡ take a d = at_front b a y d (omega arith) h in
    let u : drop (length x) (drop a (over_at b y d)) ≡ over y (drop b d) =
    drop-drop (length x) a (over_at b y d) ∙ (ap (λ (n : ℕ). drop n (over_at b y d)) (sym e) ∙ drop_at (take b d) (over y (drop b d)) b l) in
    let v : drop (length y) (drop b d) ≡ drop (length (x ++ y)) (drop a d) =
    ap (λ (n : ℕ). drop (length y) (drop n d)) e
    ∙ (ap (drop (length y)) (sym (drop-drop (length x) a d)) ∙ (drop-drop (length y) (length x) (drop a d) ∙ ap (λ (n : ℕ). drop n (drop a d)) (sym (length-append x y)))) in
    ap₂ (λ (p q : List ℕ). p ++ (x ++ q)) t u
    ∙ ap (λ (q : List ℕ). take a d ++ q) (sym (append_assoc x y (drop (length y) (drop b d))) ∙ ap (λ (q : List ℕ). (x ++ y) ++ q) v)

-- ---- the bytes of literal rules

pub origins_bytes : (a b : List Origin) → origin_bytes (a ++ b) ≡ origin_bytes a ++ origin_bytes b
origins_bytes [] b = refl
origins_bytes (o ∷ a) b = ap (λ (s : List ℕ). o.place / 256 ∷ o.place % 256 ∷ o.ordinal / 256 ∷ o.ordinal % 256 ∷ s) (origins_bytes a b)

pub bytes_long : (l : List Origin) → length (origin_bytes l) ≡ origin_size * length l
bytes_long [] = refl
bytes_long (o ∷ l) = omega (arith, bytes_long l)

run_snoc : (q i n : ℕ) → origin_run q i (suc n) ≡ origin_run q i n ++ (origin q (i + n) ∷ [])
run_snoc q i zero = let e : i + zero ≡ i = omega arith in rw e
run_snoc q i (suc n) =
    let e : suc i + n ≡ i + suc n = omega arith in
    ap (λ (l : List Origin). origin q i ∷ l) (run_snoc q (suc i) n ∙ ap (λ (m : ℕ). origin_run q (suc i) n ++ (origin q m ∷ [])) e)

-- ---- the entries of one rule

abbrev entry : ℕ → ℕ → List ℕ
entry q j = q / 256 ∷ q % 256 ∷ j / 256 ∷ j % 256 ∷ []

four_snoc : (p d : List ℕ) (k a b c e : ℕ) → length p ≡ k → k + 3 < length d
    → set (set (set (set (over p d) k a) (k + 1) b) (k + 2) c) (k + 3) e ≡ over (p ++ (a ∷ b ∷ c ∷ e ∷ [])) d
four_snoc p d k a b c e l h =
    let p₁ : List ℕ = p ++ (a ∷ []) in
    let p₂ : List ℕ = p₁ ++ (b ∷ []) in
    let p₃ : List ℕ = p₂ ++ (c ∷ []) in
    let l₁ : length p₁ ≡ k + 1 = omega (arith, length-append p (a ∷ [])) in
    let l₂ : length p₂ ≡ k + 2 = omega (arith, length-append p₁ (b ∷ [])) in
    let l₃ : length p₃ ≡ k + 3 = omega (arith, length-append p₂ (c ∷ [])) in
    let all : p₃ ++ (e ∷ []) ≡ p ++ (a ∷ b ∷ c ∷ e ∷ []) = simp append_assoc in
    ap (λ (s : List ℕ). set (set (set s (k + 1) b) (k + 2) c) (k + 3) e) (over_snoc p d k a l (omega arith))
    ∙ (ap (λ (s : List ℕ). set (set s (k + 2) c) (k + 3) e) (over_snoc p₁ d (k + 1) b l₁ (omega arith))
    ∙ (ap (λ (s : List ℕ). set s (k + 3) e) (over_snoc p₂ d (k + 2) c l₂ (omega arith))
    ∙ (over_snoc p₃ d (k + 3) e l₃ h
    ∙ ap (λ (s : List ℕ). over s d) all)))

module _ (d : List ℕ) (from q : ℕ) where
  -- j entries are laid
  abbrev pub laid_run : ℕ → List ℕ
  laid_run j = over (take from d ++ origin_bytes (origin_run q 0 j)) d

  pub run_none : laid_run 0 ≡ d
  run_none = ap (λ (s : List ℕ). over s d) (append-nil (take from d)) ∙ front_all from d

  module _ (h : from ≤ length d) where
    front_long : (j : ℕ) → length (take from d ++ origin_bytes (origin_run q 0 j)) ≡ from + origin_size * j
    front_long j =
        omega (arith, length-append (take from d) (origin_bytes (origin_run q 0 j)), length-take-le from d h, bytes_long (origin_run q 0 j), length_run q 0 j)

    pub run_long : (j : ℕ) → from + origin_size * j ≤ length d → length (laid_run j) ≡ length d
    run_long j u = over_length (take from d ++ origin_bytes (origin_run q 0 j)) d (omega (arith, front_long j))

    pub run_more : (j at : ℕ) (s : List ℕ) → at ≡ from + origin_size * j → from + origin_size * (j + 1) ≤ length d → s ≡ laid_run j
        → set (set (set (set s at (q / 256)) (at + 1) (q % 256)) (at + 2) (j / 256)) (at + 3) (j % 256) ≡ laid_run (j + 1)
    run_more j at s e u z =
        let n : 0 + j ≡ j = omega arith in
        ap (λ (t : List ℕ). set (set (set (set t at (q / 256)) (at + 1) (q % 256)) (at + 2) (j / 256)) (at + 3) (j % 256)) z
        ∙ (four_snoc (take from d ++ origin_bytes (origin_run q 0 j)) d at (q / 256) (q % 256) (j / 256) (j % 256) (front_long j ∙ sym e) (omega arith)
        ∙ ap (λ (t : List ℕ). over t d)
        (append_assoc (take from d) (origin_bytes (origin_run q 0 j)) (entry q j)
        ∙ ap (λ (t : List ℕ). take from d ++ t)
        (ap (λ (i : ℕ). origin_bytes (origin_run q 0 j) ++ entry q i) (sym n)
        ∙ (sym (origins_bytes (origin_run q 0 j) (origin q (0 + j) ∷ [])) ∙ ap origin_bytes (sym (run_snoc q 0 j) ∙ ap (origin_run q 0) (sym (add-one j)))))))

    pub run_done : (n : ℕ) (s : List ℕ) → s ≡ laid_run n → s ≡ over_at from (origin_bytes (origin_run q 0 n)) d
    run_done n s z = z ∙ sym (over_front from (origin_bytes (origin_run q 0 n)) d h)

-- ---- the same bytes before the table

module _ (s d : List ℕ) (front : take total_start s ≡ take total_start d) (long : length s ≡ length d) (ok : Slots d) where
  pub same_ledger : ledger_of s ≡ ledger_of d
  same_ledger = ledger_same s d ok.few front

  pub same_classes : classes_of s ≡ classes_of d
  same_classes = ap (λ (g : Ledger). g.classes) same_ledger

  pub same_entries : entries_of s ≡ entries_of d
  unfolding entries_of
  same_entries = ap rules_of same_ledger

  class_front : take class_start s ≡ take class_start d
  class_front = front_same total_start s d front class_start (omega arith)

  pub same_count : count_of s ≡ count_of d
  same_count = count_same s d ok.few class_front

  pub same_slots : Slots s
  same_slots =
      record {
        room = omega (arith, ok.room);
        few = omega (arith, same_count, ok.few);
        each = ap₂ (λ (n : ℕ) (l : List Entry). entries n l) (last_same s d ok.few class_front) same_entries ∙ ok.each;
      }

-- ---- the table laid rule by rule

module _ (d : List ℕ) (ok : sound d ≡ true) where
  abbrev k : Classes
  k = classes_of d

  abbrev l : List Entry
  l = entries_of d

  pub few_literals : literal_total k l ≤ max_rules
  unfolding expandable
  few_literals = leb-true (literal_total k l) max_rules (and_r (all_defined k l) _ (sound_expandable d ok))

  room : image_size ≤ length d
  room = (sound_slots d ok).room

  -- the table of the first q rules
  pub record Laying (q p : ℕ) (s : List ℕ) : Type 0 where
    pub inside : q ≤ length l
    pub total : p ≡ literal_total k (take q l)
    pub is : s ≡ over (take table_start d ++ origin_bytes (origins k 0 (take q l))) d

  split_total : (q : ℕ) → literal_total k l ≡ literal_total k (take q l) + literal_total k (drop q l)
  split_total q = ap (literal_total k) (sym (take-append-drop q l)) ∙ total_append k (take q l) (drop q l)

  module _ (q p : ℕ) (s : List ℕ) (i : Laying q p s) where
    front_size : length (take table_start d ++ origin_bytes (origins k 0 (take q l))) ≡ table_start + origin_size * p
    front_size =
        omega (
          arith,
          length-append (take table_start d) (origin_bytes (origins k 0 (take q l))),
          length-take-le table_start d (omega (arith, room)),
          bytes_long (origins k 0 (take q l)),
          length_origins k 0 (take q l),
          i.total,
        )

    pub laying_few : p ≤ max_rules
    laying_few = omega (arith, i.total, split_total q, few_literals)

    pub laying_long : length s ≡ length d
    laying_long = ap length i.is ∙ over_length (take table_start d ++ origin_bytes (origins k 0 (take q l))) d (omega (arith, front_size, laying_few, room))

    pub laying_front : take total_start s ≡ take total_start d
    laying_front =
        ap (take total_start) (i.is ∙ sym (over_front table_start (origin_bytes (origins k 0 (take q l))) d (omega (arith, room))))
        ∙ at_front table_start total_start (origin_bytes (origins k 0 (take q l))) d (omega arith) (omega (arith, room))

    pub laying_slots : Slots s
    laying_slots = same_slots s d laying_front laying_long (sound_slots d ok)

    pub laying_count : count_of s ≡ count_of d
    laying_count = same_count s d laying_front laying_long (sound_slots d ok)

    module _ (h : q < count_of d) (n : ℕ) (is : n ≡ capped (literal_count (classes_of s) (entry_at s q).rule)) where
      within : q < length l
      within = omega (arith, entries_length d)

      many_is : literal_count (classes_of s) (entry_at s q).rule ≡ literal_count k (get_or l q no_entry).rule
      many_is =
          ap₂ (λ (c : Classes) (e : List Entry). literal_count c (get_or e q no_entry).rule)
          (same_classes s d laying_front laying_long (sound_slots d ok)) (same_entries s d laying_front laying_long (sound_slots d ok))

      rest_is : literal_total k (drop q l) ≡ literal_count k (get_or l q no_entry).rule + literal_total k (drop (suc q) l)
      rest_is = ap (literal_total k) (drop-cons l q no_entry within)

      pub exact : n ≡ literal_count k (get_or l q no_entry).rule
      exact =
          let u : literal_count k (get_or l q no_entry).rule ≤ max_rules = omega (arith, split_total q, few_literals, rest_is) in
          is ∙ (ap capped many_is ∙ rw (le-leb _ _ u))

      pub run_room : p + n ≤ max_rules
      run_room = omega (arith, exact, i.total, split_total q, few_literals, rest_is)

      pub laying_next : (z : List ℕ) → z ≡ over_at (table_start + origin_size * p) (origin_bytes (origin_run q 0 n)) s → Laying (q + 1) (p + n) z
      laying_next z e =
          let t : take (q + 1) l ≡ take q l ++ (get_or l q no_entry ∷ []) = ap (λ (m : ℕ). take m l) (add-one q) ∙ take-suc l q no_entry within in
          let lq : length (take q l) ≡ q = length-take-le q l (omega (arith, within)) in
          let m : 0 + length (take q l) ≡ q = omega arith in
          let o : origins k 0 (take (q + 1) l) ≡ origins k 0 (take q l) ++ origin_run q 0 n =
          ap (origins k 0) t
          ∙ (origins_append k 0 (take q l) (get_or l q no_entry ∷ [])
          ∙ ap₂ (λ (a b : ℕ). origins k 0 (take q l) ++ (origin_run a 0 b ++ [])) m (sym exact)
          ∙ ap (λ (r : List Origin). origins k 0 (take q l) ++ r) (append-nil (origin_run q 0 n))) in
          record {
            inside = omega (arith, within);
            total = omega (arith, i.total, exact, ap (literal_total k) t, total_append k (take q l) (get_or l q no_entry ∷ []));
            is =
                e ∙ (over-at (take table_start d ++ origin_bytes (origins k 0 (take q l))) d (origin_bytes (origin_run q 0 n)) s (table_start + origin_size * p) i.is front_size
                ∙ ap (λ (w : List ℕ). over w d)
                (append_assoc (take table_start d) (origin_bytes (origins k 0 (take q l))) (origin_bytes (origin_run q 0 n))
                ∙ ap (λ (w : List ℕ). take table_start d ++ w) (sym (origins_bytes (origins k 0 (take q l)) (origin_run q 0 n)) ∙ ap origin_bytes (sym o))));
          }

    pub laying_end : count_of d ≤ q → (z : List ℕ) → z ≡ over_at total_start (p / 256 ∷ p % 256 ∷ []) s → z ≡ settled d
    unfolding settled
    laying_end h z e =
        let a : take q l ≡ l = take_all q l (omega (arith, entries_length d)) in
        let t : p ≡ literal_total k l = i.total ∙ ap (literal_total k) a in
        let w : s ≡ over_at table_start (origin_bytes (origins k 0 l)) d =
        i.is ∙ (ap (λ (x : List Entry). over (take table_start d ++ origin_bytes (origins k 0 x)) d) a ∙ sym (over_front table_start (origin_bytes (origins k 0 l)) d (omega (arith, room)))) in
        e ∙ (ap₂ (λ (n : ℕ) (x : List ℕ). over_at total_start (n / 256 ∷ n % 256 ∷ []) x) t w
        ∙ over_twice total_start table_start (literal_total k l / 256 ∷ literal_total k l % 256 ∷ []) (origin_bytes (origins k 0 l)) d refl (omega (arith, room)))

  pub laying_begin : Laying 0 0 d
  laying_begin = record { inside = omega arith; total = refl; is = sym (run_none d table_start 0) }
