-- The longest file: 32 classes of 32 letters; 512 rules, each with contexts, target and phones as long as can be. `longest` of Lengths says that no
-- well-formed ruleset has a longer one.
-- Assumes nothing.
use Prim.Native.Nat.{ℕ, zero, suc, ◌+◌, ◌*◌, ◌≤◌}
use mathlib.Core.Path.{◌≡◌, refl, ap, ◌∙◌}
use mathlib.Core.List.{List, [], ◌∷◌, ◌++◌}
use mathlib.Core.Bool.{true, false, cond}
use native.Mathlib.Omega.{arith}
use borrow.Author.Tests.{le-leb, ne_eqb}
use lib.ListN.{length, replicate, length-append}
use Rattle.rules.specs.Limits.{max_rules, max_context, max_target, max_phones, first_class, class_count, max_class}
use Rattle.rules.specs.Shape.{Entry, shape}
use Rattle.rules.proofs.Cases.{and_i, new_i}
use Rattle.classes.specs.Classes.{Classes, is_class, ascending, letter_set, defined, OnlyClasses}
use Rattle.classes.specs.Expansion.{literal_total}
use Rattle.classes.specs.Masks.{classes_shaped_from, classes_shaped}
use Rattle.image.specs.State.{Ruleset, entries, member, distinct, all_defined}
use Rattle.file_format.specs.Layout.{line_size, longest_frame, longest_class_frame, longest_file}
use Rattle.file_format.specs.File.{well_formed, head_line, class_line, class_lines_from, class_lines, rule_line, rule_lines, encode}
use Rattle.file_format.proofs.ClassFrames.{range_class}
use Rattle.file_format.proofs.Lengths.{length_class, length_rule}
use Rattle.file_format.proofs.Accepts.{is_formed}

-- a rule of full length
abbrev full : ℕ → Entry
full n = record {
  number = n;
  rule = record {
    left = replicate max_context 1;
    target = replicate max_target 1;
    right = replicate max_context 1;
    phones = replicate max_phones 1;
  };
}

-- n of them, numbered from k + 1 on
counted : ℕ → ℕ → List Entry
counted k zero = []
counted k (suc n) = full (suc k) ∷ counted (suc k) n

counted_length : (k n : ℕ) → length (counted k n) ≡ n
unfolding counted
counted_length k zero = refl
counted_length k (suc n) = ap suc (counted_length (suc k) n)

shaped : (n : ℕ) → shape (full n).rule ≡ true
unfolding shape
shaped n = refl

counted_entries : (last k n : ℕ) → k + n ≤ last → entries last (counted k n) ≡ true
unfolding counted
counted_entries last k zero h = refl
counted_entries last k (suc n) h =
    and_i (and_i (shaped (suc k)) (and_i (le-leb 1 (suc k) (omega arith)) (le-leb (suc k) last (omega arith)))) (counted_entries last (suc k) n (omega arith))

counted_new : (m k n : ℕ) → m ≤ k → member m (counted k n) ≡ false
unfolding counted
counted_new m k zero h = refl
counted_new m k (suc n) h = rw (ne_eqb (suc k) m (λ q. omega arith)) (counted_new m (suc k) n (omega arith))

counted_distinct : (k n : ℕ) → distinct (counted k n) ≡ true
unfolding counted
counted_distinct k zero = refl
counted_distinct k (suc n) = new_i (counted_new (suc k) (suc k) n (omega arith)) (counted_distinct (suc k) n)

counted_lines : (k n : ℕ) → length (rule_lines (counted k n)) ≡ line_size longest_frame * n
unfolding counted
counted_lines k zero = refl
counted_lines k (suc n) =
    omega (arith, length-append (rule_line (full (suc k))) (rule_lines (counted (suc k) n)), length_rule (full (suc k)), counted_lines (suc k) n)

-- they use no class, and each is its own literal rule
counted_plain : (j : Classes) (k n : ℕ) → (all_defined j (counted k n) ≡ true) × (literal_total j (counted k n) ≡ n)
unfolding counted defined
counted_plain j k zero = (refl, refl)
counted_plain j k (suc n) = let i = counted_plain j (suc k) n in (i.0, omega (arith, i.1))

-- ---- classes of 32 letters

-- n letters from b on
rising : ℕ → ℕ → List ℕ
rising b zero = []
rising b (suc n) = b ∷ rising (suc b) n

rising_length : (b n : ℕ) → length (rising b n) ≡ n
unfolding rising
rising_length b zero = refl
rising_length b (suc n) = ap suc (rising_length (suc b) n)

rising_letters : (b n : ℕ) → b + n ≤ 63 → ascending b (rising b n) ≡ true
unfolding rising
rising_letters b zero h = refl
rising_letters b (suc n) h = and_i (le-leb b b (omega arith)) (and_i (le-leb b 62 (omega arith)) (rising_letters (suc b) n (omega arith)))

-- every class has the letters 01 to 20 hexadecimal
full_classes : Classes
full_classes c = cond (is_class c) (rising 1 max_class) []

full_class : (c : ℕ) → is_class c ≡ true → full_classes c ≡ rising 1 max_class
unfolding full_classes
full_class c h = rw h

full_only : OnlyClasses full_classes
unfolding full_classes
full_only c h = rw h

full_letters : letter_set (rising 1 max_class) ≡ true
full_letters = and_i (le-leb (length (rising 1 max_class)) max_class (omega (arith, rising_length 1 max_class))) (rising_letters 1 max_class (omega arith))

full_shaped : (n c : ℕ) → first_class ≤ c → c + n ≤ first_class + class_count → classes_shaped_from full_classes c n ≡ true
full_shaped zero c h g = refl
full_shaped (suc n) c h g = and_i (ap letter_set (full_class c (range_class c h (omega arith))) ∙ full_letters) (full_shaped n (suc c) (omega arith) (omega arith))

full_lines : (n c : ℕ) → first_class ≤ c → c + n ≤ first_class + class_count → length (class_lines_from full_classes c n) ≡ line_size longest_class_frame * n
full_lines zero c h g = refl
full_lines (suc n) c h g =
    let e = full_class c (range_class c h (omega arith)) in
    omega (
      arith,
      length-append (class_line c (full_classes c)) (class_lines_from full_classes (suc c) n),
      ap (λ (l : List ℕ). length (class_line c l)) e,
      length_class c (rising 1 max_class) (omega (arith, rising_length 1 max_class)),
      rising_length 1 max_class,
      full_lines n (suc c) (omega arith) (omega arith),
    )

-- ---- the largest ruleset

pub largest : Ruleset
largest = record { rules = counted 0 max_rules; last = max_rules; classes = full_classes }

pub largest_formed : well_formed largest ≡ true
unfolding largest classes_shaped
largest_formed =
    let p = counted_plain full_classes 0 max_rules in
    is_formed (record { rules = counted 0 max_rules; last = max_rules; classes = full_classes }) (record {
      few = omega (arith, counted_length 0 max_rules);
      small = omega arith;
      all = counted_entries max_rules 0 max_rules (omega arith);
      differ = counted_distinct 0 max_rules;
      shaped = full_shaped class_count first_class (omega arith) (omega arith);
      uses = p.0;
      literals = omega (arith, p.1);
    })

pub largest_only : OnlyClasses largest.classes
unfolding largest
largest_only = full_only

pub largest_length : length (encode largest) ≡ longest_file
unfolding largest encode class_lines
largest_length =
    omega (
      arith,
      length-append (head_line (length (counted 0 max_rules)) max_rules) (class_lines_from full_classes first_class class_count ++ rule_lines (counted 0 max_rules)),
      length-append (class_lines_from full_classes first_class class_count) (rule_lines (counted 0 max_rules)),
      full_lines class_count first_class (omega arith) (omega arith),
      counted_lines 0 max_rules,
    )
