-- What stands in the image while the rules of a file that was judged are stored.
-- Assumes nothing.
use Prim.Native.Nat.{ℕ, suc, ◌+◌, ◌-◌, ◌≤◌, ◌<◌}
use mathlib.Core.Path.{◌≡◌, refl, sym, ap, ap₂, ◌∙◌}
use mathlib.Core.List.{List, [], ◌∷◌, ◌++◌, map, map-append}
use mathlib.Core.Bool.{true}
use native.Mathlib.Omega.{arith}
use lib.Dec.{leb}
use lib.ListN.{length, drop, length-append, length-drop, length-map}
use lib.Seq.{drop-append_seam, drop-drop}
use Rattle.rules.proofs.Cases.{by_bool, and_i}
use Rattle.rules.specs.Limits.{max_rules, max_number, max_context, max_target, max_phones}
use Rattle.rules.specs.Shape.{Entry, entry_of}
use Rattle.rules.specs.Refusals.{accepted}
use Rattle.rules.specs.declared.Numbered.{Numbered}
use Rattle.rules.proofs.Laws.{length_first}
use Rattle.classes.specs.Classes.{Classes}
use Rattle.image.specs.State.{Ruleset, ruleset_of, entry, entries, is_ruleset}
use Rattle.image.specs.Image.{image_size, with_rule}
use Rattle.image.proofs.Entries.{shaped}
use Rattle.image.proofs.Stored.{Each, Fine}
use Rattle.image.proofs.Stored.Each.{none, more}
use Rattle.frames.specs.Lines.{line_of, Parsed, sound_line, decoded}
use Rattle.frames.specs.Lines.Parsed.{Bad, Good}
use Rattle.frames.proofs.Lines.{sound_was, length_line}
use Rattle.frames.proofs.Report.{decoded_sound}
use Rattle.file_format.specs.Layout.{line_size, entry_in, numbered_of}
use Rattle.file_format.specs.File.{well_formed, Read, is_rule, rule_fits, ended, read_rules, readFile}
use Rattle.file_format.specs.File.Read.{Accepted, Malformed, Broken}
use Rattle.file.specs.Loading.{ledger_for, verdict, described, RulesFrom, rule_frame, with_rules}
use Rattle.file_format.proofs.Bodies.{both, in_range}
use Rattle.file_format.proofs.Accepts.{ruleset_from, formed_is, read_malformed, read_broken, read_on}
use Rattle.file.proofs.Parts.{view_struct}
use Rattle.file.proofs.FirstLine.{no_decline}
use Rattle.file.proofs.Slots.{rules_next, rules_length}

-- ---- what an accepted reading tells

pub accepted_is : (r : Read) → verdict r ≡ accepted → r ≡ Accepted (described r)
accepted_is (Accepted b) e = refl
accepted_is (Malformed p) e = no_decline 13 p e
accepted_is (Broken p) e = no_decline 14 p e

ended_is : (len : ℕ) (b : Ruleset) (s : List ℕ) → verdict (ended len b s) ≡ accepted → described (ended len b s) ≡ b
ended_is len b [] e = refl
ended_is len b (x ∷ s) e = no_decline 14 (len - length (x ∷ s)) e

-- the next line of an accepted reading is a rule that fits
record Next (last : ℕ) (k : Classes) (done : List Entry) (s : List ℕ) : Type 0 where
  pub f : List ℕ
  pub rest : List ℕ
  pub is : sound_line s ≡ Good f rest
  pub fits : rule_fits last k done f ≡ true

next_by : (len last : ℕ) (k : Classes) (n : ℕ) (done : List Entry) (s : List ℕ) (l : Parsed) → sound_line s ≡ l → verdict (read_rules len last k (suc n) done s) ≡ accepted
    → Next last k done s
next_by len last k n done s Bad p e = no_decline 13 (len - length s) (sym (ap verdict (read_malformed len last k n done s p)) ∙ e)
next_by len last k n done s (Good f rest) p e =
    by_bool (rule_fits last k done f)
    (λ t. record { f = f; rest = rest; is = p; fits = t })
    (λ t. no_decline 14 (len - length s) (sym (ap verdict (read_broken len last k n done s f rest p t)) ∙ e))

-- the frame of such a rule, as it stands in the text
frame_of : (last : ℕ) (k : Classes) (done : List Entry) (f : List ℕ) → rule_fits last k done f ≡ true → rule_frame f ≡ true
frame_of last k done f t =
    let a = both (is_rule f) _ t in
    and_i a.0 (in_range last (entry_in f) (both (entry last (entry_in f)) _ a.1).0).shaped

-- ---- the slots

pub each_numbered : (l : List Entry) → Each (map numbered_of l)
each_numbered [] = none
each_numbered (x ∷ l) =
    more
    (length_first max_context x.rule.left 0, (length_first max_target x.rule.target 0, (length_first max_context x.rule.right 0, length_first max_phones x.rule.phones 0)))
    (each_numbered l)

-- rules in structs are those rules
entries_kept : (last : ℕ) (l : List Entry) → entries last l ≡ true → map entry_of (map numbered_of l) ≡ l
entries_kept last [] h = refl
entries_kept last (e ∷ l) h =
    let a = both (entry last e) _ h in
    let b = shaped e.rule (in_range last e a.0).shaped in
    let k : entry_of (numbered_of e) ≡ e = rw (view_struct e.rule b.left-most b.target-most b.right-most b.phones-most) in
    ap₂ (λ (x : Entry) (m : List Entry). x ∷ m) k (entries_kept last l a.1)

-- a well-formed ruleset in structs
module _ (b : Ruleset) (v : well_formed b ≡ true) where
  pub formed_ruleset : ruleset_of (ledger_for b) ≡ b
  formed_ruleset = ap (λ (l : List Entry). record { rules = l; last = b.last; classes = b.classes }) (entries_kept b.last b.rules (formed_is b v).all)

  pub formed_fine : Fine (ledger_for b)
  unfolding well_formed
  formed_fine = record { ruled = ap is_ruleset formed_ruleset ∙ (both (leb b.last max_number) _ v).1; filled = each_numbered b.rules }

abbrev pub slots : List Entry → List Numbered
slots l = map numbered_of l

pub record Stored (file : List ℕ) (count last : ℕ) (xs image : List ℕ) (at i : ℕ) : Type 0 where
  pub done : List Entry
  pub many : length done ≡ i
  pub upto : i ≤ count
  pub ahead : readFile file ≡ read_rules (length file) last (described (readFile file)).classes (count - i) done (drop at file)
  pub kept : image ≡ with_rules 0 (map numbered_of done) xs
  pub within : at ≤ length file

module _ (file : List ℕ) (from count last : ℕ) (xs : List ℕ) (few : count ≤ max_rules) (long : image_size ≤ length xs)
    (ok : verdict (readFile file) ≡ accepted) (rules : RulesFrom file last count from) where
  abbrev answer : Read
  answer = readFile file

  abbrev k : Classes
  k = (described answer).classes

  pub stored_start : from ≤ length file → Stored file count last xs xs from 0
  stored_start h = record {
    done = [];
    many = refl;
    upto = omega arith;
    ahead = let n : count ≡ count - 0 = omega arith in sym rules ∙ ap (λ (m : ℕ). read_rules (length file) last k m [] (drop from file)) n;
    kept = refl;
    within = h;
  }

  module _ (image : List ℕ) (at i : ℕ) (p : Stored file count last xs image at i) where
    pub stored_length : length image ≡ length xs
    stored_length =
        ap length p.kept
        ∙ rules_length 0 xs (each_numbered p.done) (omega (arith, length-map p.done numbered_of, p.many, p.upto))

    module _ (h : i < count) where
      ahead_one : answer ≡ read_rules (length file) last k (suc (count - (i + 1))) p.done (drop at file)
      ahead_one = let n : count - i ≡ suc (count - (i + 1)) = omega arith in p.ahead ∙ ap (λ (m : ℕ). read_rules (length file) last k m p.done (drop at file)) n

      next : Next last k p.done (drop at file)
      next = next_by (length file) last k (count - (i + 1)) p.done (drop at file) (sound_line (drop at file)) refl (sym (ap verdict ahead_one) ∙ ok)

      frame : decoded (drop at file) ≡ next.f
      frame = decoded_sound (drop at file) next.f next.rest next.is

      pub stored_frame : rule_frame (decoded (drop at file)) ≡ true
      stored_frame = ap rule_frame frame ∙ frame_of last k p.done next.f next.fits

      was : drop at file ≡ line_of next.f ++ next.rest
      was = (sound_was (drop at file) next.f next.rest next.is).was

      module _ (n : ℕ) (en : n ≡ at + line_size (length (decoded (drop at file)))) where
        past : n ≡ at + length (line_of next.f)
        past = omega (arith, ap length frame, length_line next.f)

        onward : drop n file ≡ next.rest
        onward =
            ap (λ (j : ℕ). drop j file) past
            ∙ (sym (drop-drop (length (line_of next.f)) at file)
            ∙ (ap (drop (length (line_of next.f))) was ∙ drop-append_seam (line_of next.f) next.rest))

        in_file : n ≤ length file
        in_file = omega (arith, past, ap length was, length-append (line_of next.f) next.rest, length-drop at file, p.within)

        pub stored_next : (z : List ℕ) → z ≡ with_rule i (numbered_of (entry_in (decoded (drop at file)))) image → Stored file count last xs z n (i + 1)
        stored_next z w =
            let x = entry_in next.f in
            let j : i ≡ 0 + length (slots p.done) = omega (arith, length-map p.done numbered_of, p.many) in
            record {
              done = p.done ++ (x ∷ []);
              many = omega (arith, p.many, length-append p.done (x ∷ []));
              upto = omega arith;
              ahead =
                  ahead_one
                  ∙ (read_on (length file) last k (count - (i + 1)) p.done (drop at file) next.f next.rest next.is next.fits
                  ∙ ap (read_rules (length file) last k (count - (i + 1)) (p.done ++ (x ∷ []))) (sym onward));
              kept =
                  w ∙ (ap₂ (λ (g m : List ℕ). with_rule i (numbered_of (entry_in g)) m) frame p.kept
                  ∙ (ap (λ (m : ℕ). with_rule m (numbered_of x) (with_rules 0 (slots p.done) xs)) j
                  ∙ (sym (rules_next 0 (slots p.done) (numbered_of x) xs)
                  ∙ ap (λ (l : List Numbered). with_rules 0 l xs) (sym (map-append numbered_of p.done (x ∷ []))))));
              within = in_file;
            }

    pub stored_end : count ≤ i → image ≡ with_rules 0 (map numbered_of (described answer).rules) xs
    stored_end h =
        let n : count - i ≡ 0 = omega arith in
        let a : answer ≡ ended (length file) (ruleset_from k p.done last) (drop at file) = p.ahead ∙ ap (λ (m : ℕ). read_rules (length file) last k m p.done (drop at file)) n in
        let b : described answer ≡ ruleset_from k p.done last = ap described a ∙ ended_is (length file) (ruleset_from k p.done last) (drop at file) (sym (ap verdict a) ∙ ok) in
        p.kept ∙ ap (λ (l : Ruleset). with_rules 0 (slots l.rules) xs) (sym b)
