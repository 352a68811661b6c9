-- The rules of a file, judged one after the other: what remains decides the whole, a set holds the numbers so far, and the literal rules so far are
-- counted.
-- Assumes nothing.
use Prim.Native.Nat.{ℕ, suc, ◌+◌, ◌-◌, ◌/◌, ◌%◌, ◌^◌, ◌≤◌, ◌<◌}
use mathlib.Core.Path.{◌≡◌, refl, sym, ap, ap₂, ◌∙◌}
use mathlib.Core.List.{List, [], ◌∷◌, ◌++◌}
use mathlib.Core.Bool.{Bool, true, false, not, ◌&&◌, ◌||◌, and_assoc, and-false, or_comm, or-false}
use native.Mathlib.Omega.{arith}
use Rattle.std.specs.Prelude.{Option, Some, None, Ok, Err}
use Rattle.std.specs.Option.{ok_or}
use borrow.Author.Tests.{leb-true}
use lib.ListN.{length, get_or, drop, set, replicate, length-drop, length-set, length-replicate, get_or-replicate, drop_of_length-le}
use lib.Seq.{drop-cons}
use lib.Dec.{eqb, leb}
use lib.Bits.{bit_or}
use Rattle.rules.proofs.Cases.{by_bool, and_i, new_i}
use Rattle.rules.specs.Limits.{max_rules}
use Rattle.rules.specs.Shape.{Production, Entry, view, shape}
use Rattle.rules.specs.Refusals.{refusal_number, refusal_place, accepted, declined}
use Rattle.rules.specs.declared.Refusal.{Refusal}
use Rattle.rules.specs.declared.Numbered.{Numbered}
use Rattle.numbers.specs.Bits.{bit, held}
use Rattle.numbers.proofs.Bits.{bit_zero, put_in, held_put}
use Rattle.frames.specs.Lines.{sound_line}
use Rattle.frames.specs.Lines.Parsed.{Good}
use Rattle.file.specs.declared.parsing.RuleLine.{RuleLine}
use Rattle.classes.specs.Classes.{Classes, defined}
use Rattle.classes.specs.Expansion.{literal_count, literal_total}
use Rattle.image.specs.State.{entry, member}
use Rattle.image.proofs.Entries.{shaped}
use Rattle.file_format.specs.Layout.{entry_in, numbered_of}
use Rattle.file_format.specs.File.{Read, is_rule, rule_fits, ended, read_rules}
use Rattle.file_format.specs.File.Read.{Accepted, Malformed, Broken}
use Rattle.file.specs.Loading.{verdict, rule_at, total_with}
use Rattle.file_format.proofs.Bodies.{both, in_range}
use Rattle.file_format.proofs.Numbers.{member_append, total_more}
use Rattle.file_format.proofs.Accepts.{ruleset_from, read_malformed, read_broken, read_on}
use Rattle.file.proofs.Parts.{view_struct, shape_struct}
use Rattle.file.proofs.FirstLine.{not-err, not-some, ok_same}
use Rattle.file.proofs.NextLine.{Why, Told, line_refused, line_told}
use Rattle.file.proofs.NextLine.Why.{unsound, other}

-- ---- the rules so far, judged

fits_no : (a b m : Bool) → (a && b) ≡ false → (a && (b && m)) ≡ false
fits_no a b m e = sym (and_assoc a b m) ∙ rw e

fits_again : (a b m n : Bool) → m ≡ true → (a && (b && (not m && n))) ≡ false
fits_again a b m n e = rw (e, and-false b) (and-false a)

fits_over : (a b m n : Bool) → n ≡ false → (a && (b && (m && n))) ≡ false
fits_over a b m n e = rw (e, and-false m, and-false b) (and-false a)

-- what `ok_or` gave
pub or_refused : (o : Option ℕ) (y x : Refusal) → Err x ≡ ok_or o y → (x ≡ y) × (o ≡ None)
or_refused None y x e = (cc, refl)
or_refused (Some n) y x e = not-err e

pub or_counted : (o : Option ℕ) (y : Refusal) (n : ℕ) → Ok n ≡ ok_or o y → o ≡ Some n
or_counted None y n e = not-err (sym e)
or_counted (Some m) y n e = ap (λ (k : ℕ). Some k) (sym (ok_same e))

-- the literal rules of a rule more
total_no : (before : ℕ) (k : Classes) (r : Production) → None ≡ total_with before k r → (defined k r && leb (before + literal_count k r) max_rules) ≡ false
total_no before k r e =
    by_bool (defined k r && leb (before + literal_count k r) max_rules) (λ t. not-some (sym (rw t at e))) (λ t. t)

total_yes : (before : ℕ) (k : Classes) (r : Production) (n : ℕ) → Some n ≡ total_with before k r
    → ((defined k r && leb (before + literal_count k r) max_rules) ≡ true) × (n ≡ before + literal_count k r)
total_yes before k r n e =
    by_bool (defined k r && leb (before + literal_count k r) max_rules)
    (λ t. let q : Some n ≡ Some (before + literal_count k r) = rw t at e in (t, cc))
    (λ t. not-some (rw t at e))

abbrev Holds : List ℕ → List Entry → Type 0
Holds seen l = (k : ℕ) → k < 65536 → held seen k ≡ member k l

pub record Judged (file : List ℕ) (from count last : ℕ) (k : Classes) (seen : List ℕ) (at total i : ℕ) : Type 0 where
  pub done : List Entry
  pub upto : i ≤ count
  pub ahead : read_rules (length file) last k count [] (drop from file) ≡ read_rules (length file) last k (count - i) done (drop at file)
  pub sum : total ≡ literal_total k done
  pub few : total ≤ max_rules
  pub width : length seen ≡ 1024
  pub holds : (n : ℕ) → n < 65536 → held seen n ≡ member n done
  pub within : at ≤ length file

pub judged_start : (file : List ℕ) (from count last : ℕ) (k : Classes) (seen : List ℕ) → seen ≡ replicate 1024 0 → from ≤ length file
    → Judged file from count last k seen from 0 0
judged_start file from count last k seen e h = record {
  done = [];
  upto = omega arith;
  ahead = let n : count ≡ count - 0 = omega arith in ap (λ (m : ℕ). read_rules (length file) last k m [] (drop from file)) n;
  sum = refl;
  few = omega arith;
  width = ap length e ∙ length-replicate {A = ℕ} 1024 0;
  holds = λ n u. ap (λ (q : List ℕ). held q n) e ∙ (ap (λ (q : ℕ). bit q (n % 64)) (get_or-replicate 1024 (n / 64) 0 0 (omega arith)) ∙ bit_zero (n % 64));
  within = h;
}

holds_next : (seen : List ℕ) (l : List Entry) (x : Entry) (h : x.number / 64 < length seen) → Holds seen l → Holds (put_in seen x.number h) (l ++ (x ∷ []))
holds_next seen l x h f k u =
    held_put seen x.number h k (eqb x.number k) refl
    ∙ (ap (λ (b : Bool). eqb x.number k || b) (f k u)
    ∙ (or_comm (eqb x.number k) (member k l)
    ∙ (ap (λ (b : Bool). member k l || b) (sym (or-false (eqb x.number k))) ∙ sym (member_append k l (x ∷ [])))))

module _ (file : List ℕ) (from count last : ℕ) (k : Classes) (seen : List ℕ) (at total i : ℕ) (p : Judged file from count last k seen at total i) where
  abbrev whole : Read
  whole = read_rules (length file) last k count [] (drop from file)

  place : length file - length (drop at file) ≡ at
  place = omega (arith, p.within, length-drop at file)

  module _ (h : i < count) where
    ahead_one : whole ≡ read_rules (length file) last k (suc (count - (i + 1))) p.done (drop at file)
    ahead_one = let n : count - i ≡ suc (count - (i + 1)) = omega arith in p.ahead ∙ ap (λ (m : ℕ). read_rules (length file) last k m p.done (drop at file)) n

    broken_by : (f rest : List ℕ) → sound_line (drop at file) ≡ Good f rest → rule_fits last k p.done f ≡ false → declined 14 at ≡ verdict whole
    broken_by f rest is t =
        sym (ap verdict (ahead_one ∙ (read_broken (length file) last k (count - (i + 1)) p.done (drop at file) f rest is t ∙ ap Broken place)))

    -- the line is that of no rule
    pub judged_refused : (x : Refusal) → Err x ≡ rule_at at last (length file) (sound_line (drop at file)) → declined (refusal_number x) (refusal_place x) ≡ verdict whole
    judged_refused x e = go x (line_refused file at last x e)
      where
        go : (x : Refusal) → Why file at last x → declined (refusal_number x) (refusal_place x) ≡ verdict whole
        go _ (unsound b) =
            sym (ap verdict (ahead_one ∙ (read_malformed (length file) last k (count - (i + 1)) p.done (drop at file) b ∙ ap Malformed place)))
        go _ (other f rest is t) =
            broken_by f rest is (fits_no (is_rule f) (entry last (entry_in f)) _ t)

    module _ (line : RuleLine) (e : Ok line ≡ rule_at at last (length file) (sound_line (drop at file))) where
      q : Told file at last line
      q = line_told file at last line e

      frame : List ℕ
      frame = q.f

      abbrev literal : Bool
      literal = defined k (entry_in frame).rule && leb (literal_total k p.done + literal_count k (entry_in frame).rule) max_rules

      broken : rule_fits last k p.done frame ≡ false → declined 14 at ≡ verdict whole
      unfolding frame
      broken t = broken_by q.f q.rest q.is t

      ruled : (is_rule frame && entry last (entry_in frame)) ≡ true
      unfolding frame
      ruled = q.rule

      entry-is : line.entry ≡ numbered_of (entry_in frame)
      unfolding frame
      entry-is = q.entry-is

      number_is : line.entry.number ≡ (entry_in frame).number
      number_is = ap (λ (y : Numbered). y.number) entry-is

      shape_is : shape (entry_in frame).rule ≡ true
      shape_is = (in_range last (entry_in frame) (both (is_rule frame) _ ruled).1).shaped

      pub judged_shape : shape (view line.entry.rule) ≡ true
      judged_shape = ap (λ (y : Numbered). shape (view y.rule)) entry-is ∙ (shape_struct (entry_in frame).rule ∙ shape_is)

      rule_is : view line.entry.rule ≡ (entry_in frame).rule
      rule_is =
          let b = shaped (entry_in frame).rule shape_is in
          ap (λ (y : Numbered). view y.rule) entry-is ∙ view_struct (entry_in frame).rule b.left-most b.target-most b.right-most b.phones-most

      -- the literal rules with those of this rule
      total_is : total_with total k (view line.entry.rule) ≡ total_with (literal_total k p.done) k (entry_in frame).rule
      total_is = ap₂ (λ (m : ℕ) (r : Production). total_with m k r) p.sum rule_is

      pub judged_literals : None ≡ total_with total k (view line.entry.rule) → declined 14 at ≡ verdict whole
      judged_literals z =
          broken (fits_over (is_rule frame) (entry last (entry_in frame)) (not (member (entry_in frame).number p.done)) literal
          (total_no (literal_total k p.done) k (entry_in frame).rule (z ∙ total_is)))

      module _ (u : line.entry.number < 65536) where
        seen_is : held seen line.entry.number ≡ member (entry_in frame).number p.done
        seen_is = p.holds line.entry.number u ∙ ap (λ (n : ℕ). member n p.done) number_is

        pub judged_again : held seen line.entry.number ≡ true → declined 14 at ≡ verdict whole
        judged_again t =
            broken (fits_again (is_rule frame) (entry last (entry_in frame)) (member (entry_in frame).number p.done) literal (sym seen_is ∙ t))

        pub judged-next : held seen line.entry.number ≡ false → (z : List ℕ)
            → z ≡ set seen (line.entry.number / 64) (bit_or (get_or seen (line.entry.number / 64) 0) (2 ^ (line.entry.number % 64)))
            → (n : ℕ) → Some n ≡ total_with total k (view line.entry.rule)
            → Judged file from count last k z line.next n (i + 1)
        unfolding frame
        judged-next t z w n en =
            let a = both (is_rule frame) _ ruled in
            let l = total_yes (literal_total k p.done) k (entry_in frame).rule n (en ∙ total_is) in
            let few = leb-true _ _ (both (defined k (entry_in frame).rule) _ l.0).1 in
            let fits : rule_fits last k p.done frame ≡ true = and_i a.0 (and_i a.1 (new_i (sym seen_is ∙ t) l.0)) in
            let v : (entry_in frame).number < 65536 = rw (← number_is) u in
            let in_words : (entry_in frame).number / 64 < length seen = omega (arith, p.width) in
            let z' : z ≡ put_in seen (entry_in frame).number in_words =
            w ∙ ap (λ (n : ℕ). set seen (n / 64) (bit_or (get_or seen (n / 64) 0) (2 ^ (n % 64)))) number_is in
            record {
              done = p.done ++ (entry_in frame ∷ []);
              upto = omega arith;
              ahead =
                  ahead_one
                  ∙ (read_on (length file) last k (count - (i + 1)) p.done (drop at file) q.f q.rest q.is fits
                  ∙ ap (read_rules (length file) last k (count - (i + 1)) (p.done ++ (entry_in frame ∷ []))) (sym q.onward));
              sum = l.1 ∙ sym (total_more k p.done (entry_in frame));
              few = omega (arith, few, l.1);
              width = ap length w ∙ (simp length-set p.width);
              holds = λ j b. ap (λ (q : List ℕ). held q j) z' ∙ holds_next seen p.done (entry_in frame) in_words p.holds j b;
              within = q.within;
            }

  module _ (h : count ≤ i) where
    ahead_none : whole ≡ ended (length file) (ruleset_from k p.done last) (drop at file)
    ahead_none = let n : count - i ≡ 0 = omega arith in p.ahead ∙ ap (λ (m : ℕ). read_rules (length file) last k m p.done (drop at file)) n

    pub judged_over : at < length file → declined 14 at ≡ verdict whole
    judged_over l =
        let d = drop-cons file at 0 l in
        let b : ended (length file) (ruleset_from k p.done last) (drop at file) ≡ Broken (length file - length (drop at file)) = rw d in
        sym (ap verdict (ahead_none ∙ (b ∙ ap Broken place)))

    pub judged_done : length file ≤ at → accepted ≡ verdict whole
    judged_done l =
        let b : ended (length file) (ruleset_from k p.done last) (drop at file) ≡ Accepted (ruleset_from k p.done last) = rw (drop_of_length-le file l) in
        sym (ap verdict (ahead_none ∙ b))

  pub seen_length : (seen₀ : List ℕ) → seen₀ ≡ replicate 1024 0 → length seen ≡ length seen₀
  seen_length seen₀ e = p.width ∙ sym (ap length e ∙ length-replicate {A = ℕ} 1024 0)
