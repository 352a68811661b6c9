-- A file is accepted exactly when it is the writing of a well-formed ruleset, and is read as that ruleset.
--     accepts        the file of a well-formed ruleset is read as that ruleset
--     accepted       a file that is read as a ruleset is that ruleset's file, and the ruleset is well-formed
-- Assumes nothing.
use Prim.Native.Nat.{ℕ, zero, suc, ◌-◌, ◌≤◌}
use mathlib.Core.Path.{◌≡◌, refl, sym, ap, ap₂, ◌∙◌}
use mathlib.Core.List.{List, [], ◌∷◌, ◌++◌, append_assoc, append-nil}
use mathlib.Core.Bool.{true, false}
use native.Mathlib.Omega.{arith}
use borrow.Author.Tests.{leb-true, eqb-true, le-leb}
use lib.ListN.{length}
use lib.Dec.{leb, eqb}
use Rattle.rules.proofs.Cases.{by_bool, and_i}
use Rattle.rules.specs.Limits.{max_rules, max_number}
use Rattle.rules.specs.Shape.{Entry}
use Rattle.frames.specs.Lines.{line_of, framed, Parsed, sound_line}
use Rattle.frames.specs.Lines.Parsed.{Bad, Good}
use Rattle.frames.proofs.Lines.{read_framed, sound_was}
use Rattle.classes.specs.Classes.{Classes, OnlyClasses}
use Rattle.classes.specs.Expansion.{literal_total}
use Rattle.classes.specs.Masks.{classes_shaped}
use Rattle.image.specs.State.{Ruleset, entry, entries, distinct, all_defined, expandable, is_ruleset}
use Rattle.image.proofs.Entries.{shaped}
use Rattle.file_format.specs.Layout.{frame_type, head_type, edition, head_edition, head_count, head_last, head_frame_size, rule_type, entry_in}
use Rattle.file_format.specs.File.{well_formed, head_body, rule_body, head_line, class_lines, rule_lines, encode, is_head, is_rule, fine, rule_fits, ended, read_rules, Defined, read_defined, after_classes, readFile, Written}
use Rattle.file_format.specs.File.Read.{Accepted, Malformed, Broken}
use Rattle.file_format.proofs.Bodies.{no, both, in_range, rule_bytes, rule_back, rule_is, rule_was, head_bytes, head_is, head_was}
use Rattle.file_format.proofs.Numbers.{fine_all, fine_is, fine_apart, apart_fine}
use Rattle.file_format.proofs.ClassLines.{Other, other_bad, other_type, read-classes}
use Rattle.file_format.proofs.ClassesRead.{classes_were}

abbrev pub ruleset_from : Classes → List Entry → ℕ → Ruleset
ruleset_from k es last = record { rules = es; last = last; classes = k }

-- ---- a line of the reading

module _ (len last : ℕ) (k : Classes) (n : ℕ) (done : List Entry) (s : List ℕ) where
  pub read_malformed : sound_line s ≡ Bad → read_rules len last k (suc n) done s ≡ Malformed (len - length s)
  read_malformed p = rw p

  module _ (f rest : List ℕ) (p : sound_line s ≡ Good f rest) where
    pub read_broken : rule_fits last k done f ≡ false → read_rules len last k (suc n) done s ≡ Broken (len - length s)
    read_broken t = rw (p, t)

    pub read_on : rule_fits last k done f ≡ true → read_rules len last k (suc n) done s ≡ read_rules len last k n (done ++ (entry_in f ∷ [])) rest
    read_on t = rw (p, t)

-- ---- the file of a well-formed ruleset

read-rules : (len last : ℕ) (k : Classes) → last ≤ max_number → (es done : List Entry) → fine_all last k done es ≡ true
    → read_rules len last k (length es) done (rule_lines es) ≡ Accepted (ruleset_from k (done ++ es) last)
read-rules len last k h [] done e = rw append-nil
read-rules len last k h (x ∷ es) done e =
    let a = both (fine last k done x) _ e in
    let r = in_range last x (fine_is last k done x a.0).shaped in
    let u = r.high in
    let w = read_framed (rule_body x) (rule_lines es) (omega arith) (rule_bytes x r.shaped (omega arith)) in
    let t : rule_fits last k done (framed (rule_body x)) ≡ true = and_i (rule_is x) (ap (fine last k done) (rule_back x) ∙ a.0) in
    read_on len last k (length es) done (rule_lines (x ∷ es)) (framed (rule_body x)) (rule_lines es) w t
    ∙ (ap (λ (y : Entry). read_rules len last k (length es) (done ++ (y ∷ [])) (rule_lines es)) (rule_back x)
    ∙ (read-rules len last k h es (done ++ (x ∷ [])) a.1 ∙ ap (λ (l : List Entry). Accepted (ruleset_from k l last)) (append_assoc done (x ∷ []) es)))

-- where rule lines start, the class lines end
rules_other : (last : ℕ) → last ≤ max_number → (es : List Entry) → entries last es ≡ true → Other (rule_lines es)
unfolding sound_line
rules_other last h [] e = other_bad [] refl
rules_other last h (x ∷ es) e =
    let r = in_range last x (both (entry last x) _ e).0 in
    let u = r.high in
    other_type (rule_lines (x ∷ es)) (framed (rule_body x)) (rule_lines es)
    (read_framed (rule_body x) (rule_lines es) (omega arith) (rule_bytes x r.shaped (omega arith))) refl

pub record Formed (b : Ruleset) : Type 0 where
  pub few : length b.rules ≤ max_rules
  pub small : b.last ≤ max_number
  pub all : entries b.last b.rules ≡ true
  pub differ : distinct b.rules ≡ true
  pub shaped : classes_shaped b.classes ≡ true
  pub uses : all_defined b.classes b.rules ≡ true
  pub literals : literal_total b.classes b.rules ≤ max_rules

pub formed_is : (b : Ruleset) → well_formed b ≡ true → Formed b
unfolding well_formed is_ruleset expandable
formed_is b e =
    let p = both (leb b.last max_number) _ e in
    let q = both (leb (length b.rules) max_rules) _ p.1 in
    let r = both (entries b.last b.rules) _ q.1 in
    let s = both (distinct b.rules) _ r.1 in
    let t = both (classes_shaped b.classes) _ s.1 in
    let u = both (all_defined b.classes b.rules) _ t.1 in
    record {
      few = leb-true _ _ q.0;
      small = leb-true _ _ p.0;
      all = r.0;
      differ = s.0;
      shaped = t.0;
      uses = u.0;
      literals = leb-true _ _ u.1;
    }

pub is_formed : (b : Ruleset) → Formed b → well_formed b ≡ true
unfolding well_formed is_ruleset expandable
is_formed b v =
    and_i (le-leb _ _ v.small)
    (and_i (le-leb _ _ v.few)
    (and_i v.all (and_i v.differ (and_i v.shaped (and_i v.uses (le-leb _ _ v.literals))))))

-- the head of a file, read
pub read_head : (s f rest : List ℕ) → sound_line s ≡ Good f rest → is_head f ≡ true
    → readFile s ≡ after_classes (length s) (head_last f) (head_count f) (read_defined rest)
unfolding readFile
read_head s f rest p t = rw (p, t)

pub head_limit : (f : List ℕ) → is_head f ≡ true → head_count f ≤ max_rules
head_limit f e =
    let a = both (eqb (length f) head_frame_size) _ e in
    let b = both (eqb (frame_type f) head_type) _ a.1 in
    leb-true (head_count f) max_rules (both (eqb (head_edition f) edition) _ b.1).1

pub accepts : (b : Ruleset) → well_formed b ≡ true → OnlyClasses b.classes → readFile (encode b) ≡ Accepted b
unfolding encode
accepts b e only =
    let v = formed_is b e in
    let n = length b.rules in
    let f = framed (head_body n b.last) in
    let h = head_is n b.last v.few in
    let rest = class_lines b.classes ++ rule_lines b.rules in
    let w = read_framed (head_body n b.last) rest (omega arith) (head_bytes n b.last v.few v.small) in
    let len = length (head_line n b.last ++ rest) in
    read_head _ f rest w h.0
    ∙ (ap₂ (λ (l m : ℕ). after_classes len l m (read_defined rest)) h.2 h.1
    ∙ (ap (after_classes len b.last n) (read-classes b.classes (rule_lines b.rules) (rules_other b.last v.small b.rules v.all) v.shaped only)
    ∙ read-rules len b.last b.classes v.small b.rules []
    (apart_fine b.last b.classes b.rules []
    (record { all = v.all; differ = v.differ; apart = λ k m. absurd (no m); uses = v.uses; few = omega (arith, v.literals) }))))

-- ---- a file that is accepted

pub record Were (last : ℕ) (k : Classes) (n : ℕ) (done : List Entry) (s : List ℕ) (b : Ruleset) : Type 0 where
  pub es : List Entry
  pub was : s ≡ rule_lines es
  pub many : length es ≡ n
  pub whole : b ≡ ruleset_from k (done ++ es) last
  pub fine : fine_all last k done es ≡ true

were_end : (len last : ℕ) (k : Classes) (done : List Entry) (s : List ℕ) (b : Ruleset) → ended len (ruleset_from k done last) s ≡ Accepted b → Were last k 0 done s b
were_end len last k done [] b e =
    let q : ruleset_from k done last ≡ b = cc in
    record { es = []; was = refl; many = refl; whole = sym q ∙ ap (λ (l : List Entry). ruleset_from k l last) (sym (append-nil done)); fine = refl }
were_end len last k done (x ∷ s) b e = let z : ◌≡◌ {A = ℕ} 0 1 = cc in absurd (omega arith)

module _ (len last : ℕ) (k : Classes) (n : ℕ) (done : List Entry) (s : List ℕ) (b : Ruleset)
    (again : (d : List Entry) (t : List ℕ) → read_rules len last k n d t ≡ Accepted b → Were last k n d t b) where
  were_on : (f rest : List ℕ) → sound_line s ≡ Good f rest → rule_fits last k done f ≡ true → read_rules len last k n (done ++ (entry_in f ∷ [])) rest ≡ Accepted b
      → Were last k (suc n) done s b
  were_on f rest p t e =
      let w = again (done ++ (entry_in f ∷ [])) rest e in
      let d = sound_was s f rest p in
      let i = both (is_rule f) _ t in
      let a = both (eqb (frame_type f) rule_type) _ i.0 in
      let q = rule_was f (eqb-true _ _ a.0) (eqb-true _ _ a.1) d.bytes d.zero in
      record {
        es = entry_in f ∷ w.es;
        was = d.was ∙ ap₂ (λ (g m : List ℕ). line_of g ++ m) q w.was;
        many = ap suc w.many;
        whole = w.whole ∙ ap (λ (l : List Entry). ruleset_from k l last) (append_assoc done (entry_in f ∷ []) w.es);
        fine = and_i i.1 w.fine;
      }

  were_by : (l : Parsed) → sound_line s ≡ l → read_rules len last k (suc n) done s ≡ Accepted b → Were last k (suc n) done s b
  were_by Bad p e = let q = read_malformed len last k n done s p in let z : ◌≡◌ {A = ℕ} 0 1 = cc in absurd (omega arith)
  were_by (Good f rest) p e =
      by_bool (rule_fits last k done f)
      (λ t. were_on f rest p t (sym (read_on len last k n done s f rest p t) ∙ e))
      (λ t. let q = read_broken len last k n done s f rest p t in let z : ◌≡◌ {A = ℕ} 0 1 = cc in absurd (omega arith))

pub rules_were : (len last : ℕ) (k : Classes) (n : ℕ) (done : List Entry) (s : List ℕ) (b : Ruleset) → read_rules len last k n done s ≡ Accepted b → Were last k n done s b
rules_were len last k zero done s b e = were_end len last k done s b e
rules_were len last k (suc n) done s b e = were_by len last k n done s b (λ d t. rules_were len last k n d t b) (sound_line s) refl e

-- the classes of an accepted file have no fault, and its rules follow them
pub after_ok : (len last n : ℕ) (d : Defined) (b : Ruleset) → after_classes len last n d ≡ Accepted b
    → (d.ok ≡ true) × (read_rules len last d.classes n [] d.rest ≡ Accepted b)
after_ok len last n d b e =
    by_bool d.ok (λ t. (t, rw t at e))
    (λ t. let e' : Broken (len - length d.rest) ≡ Accepted b = rw t at e in let z : ◌≡◌ {A = ℕ} 0 1 = cc in absurd (omega arith))

accepted_on : (s f rest : List ℕ) (b : Ruleset) (d : Defined) → sound_line s ≡ Good f rest → is_head f ≡ true → read_defined rest ≡ d
    → after_classes (length s) (head_last f) (head_count f) d ≡ Accepted b
    → Written s b
unfolding encode
accepted_on s f rest b d p t ed e =
    let r = after_ok (length s) (head_last f) (head_count f) d b e in
    let k = classes_were rest d ed r.0 in
    let w = rules_were (length s) (head_last f) d.classes (head_count f) [] d.rest b r.1 in
    let a = sound_was s f rest p in
    let h = head_was f t a.bytes a.zero in
    let v = fine_apart (head_last f) d.classes w.es [] (omega arith) w.fine in
    let c : length w.es ≤ max_rules = omega (arith, w.many, h.count) in
    rw w.whole (record {
      was =
          a.was ∙ ap₂ (λ (g m : List ℕ). line_of g ++ m) (h.was ∙ ap (λ (n : ℕ). framed (head_body n (head_last f))) (sym w.many))
          (k.was ∙ ap (λ (m : List ℕ). class_lines d.classes ++ m) w.was);
      formed =
          is_formed (ruleset_from d.classes w.es (head_last f))
          (record { few = c; small = h.last; all = v.all; differ = v.differ; shaped = k.shaped; uses = v.uses; literals = omega (arith, v.few) });
      only = k.only;
    })

accepted_by : (s : List ℕ) (b : Ruleset) (l : Parsed) → sound_line s ≡ l → readFile s ≡ Accepted b → Written s b
unfolding readFile
accepted_by s b Bad p e = let e' : Malformed 0 ≡ Accepted b = rw p at e in let z : ◌≡◌ {A = ℕ} 0 1 = cc in absurd (omega arith)
accepted_by s b (Good f rest) p e =
    by_bool (is_head f)
    (λ t. accepted_on s f rest b (read_defined rest) p t refl (sym (read_head s f rest p t) ∙ e))
    (λ t. let e' : Broken 0 ≡ Accepted b = rw (p, t) at e in let z : ◌≡◌ {A = ℕ} 0 1 = cc in absurd (omega arith))

pub accepted : (s : List ℕ) (b : Ruleset) → readFile s ≡ Accepted b → Written s b
accepted s b e = accepted_by s b (sound_line s) refl e
