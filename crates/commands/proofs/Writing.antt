-- The rule file written into a part of the lent bytes: what is answered, and all of the bytes after it.
-- Assumes nothing.
use Rattle.std.specs.Prelude.{Result, Ok, Err}
use Prim.Native.Nat.{ℕ, zero, suc, ◌≤◌}
use mathlib.Core.Path.{◌≡◌, refl, sym, ap, ◌∙◌, subst}
use mathlib.Core.Bool.{Bool, true, false, cond}
use mathlib.Core.List.{List, [], ◌∷◌}
use native.Mathlib.Omega.{arith}
use borrow.Author.Tests.{eq-eqb, ne_eqb, leb-true}
use lib.Dec.{leb}
use lib.ListN.{length, take, replicate, take-append-drop, length-replicate}
use lib.Seq.{length-take-le}
use Rattle.rules.specs.Memory.{over}
use Rattle.rules.specs.Refusals.{refusal_number, refusal_place, Report, wrote, refused, report_of}
use Rattle.rules.specs.declared.Refusal.{Refusal}
use Rattle.image.specs.Image.{valid}
use Rattle.file_format.specs.File.{encode}
use Rattle.file.specs.Loading.{Filed, filing, filed, ruleset_in}
use Rattle.lines.specs.Printed.{refused_body, refusal_line}
use Rattle.lines.proofs.Printed.{length_printed}
use Rattle.file_format.specs.Layout.{longest_file}
use Rattle.command_parts.specs.Fields.{four, lent_of, back}
use Rattle.command_parts.specs.Answers.{malformed_line}
use Rattle.commands.specs.Filing.{filed_back, filed_in, report_line, file_line, write_line}
use Rattle.command_parts.proofs.Replies.{Gives, length_malformed}

back_over : (ys xs : List ℕ) (n : ℕ) → length ys ≤ n → n ≤ length xs → back n (over ys (take n xs)) xs ≡ over ys xs
back_over [] xs n h k = take-append-drop n xs
back_over (y ∷ ys) xs zero h k = absurd (omega arith)
back_over (y ∷ ys) [] (suc n) h k = absurd (omega arith)
back_over (y ∷ ys) (x ∷ xs) (suc n) h k = ap (λ (l : List ℕ). y ∷ l) (back_over ys xs n (omega arith) (omega arith))

-- a writing by its two tests: of the ruleset, and of the room
abbrev tested : Bool → Bool → List ℕ → List ℕ → Filed
tested v r text out =
    cond v (cond r (filing (wrote (length text)) (over text out)) (filing (refused 15 (length text)) out)) (filing (refused 0 0) out)

-- the bytes after it
abbrev left : Report → List ℕ → List ℕ → List ℕ
left (wrote k) text out = over text out
left (refused a b) text out = out

abbrev leaves : Report → List ℕ → List ℕ → Filed
leaves r text out = filing r (left r text out)

tested_back : (v r : Bool) (text out ys : List ℕ) (n : ℕ) → (r ≡ true → length text ≤ n) → n ≤ length out
    → filed_back n out (tested v r text (take n out)) ≡ leaves (tested v r text ys).report text out
tested_back true true text out ys n h k = ap (filing (wrote (length text))) (back_over text out n (h refl) k)
tested_back true false text out ys n h k = ap (filing (refused 15 (length text))) (take-append-drop n out)
tested_back false r text out ys n h k = ap (filing (refused 0 0)) (take-append-drop n out)

same_count : (a b : ℕ) → wrote a ≡ wrote b → b ≡ a
same_count a b e = cc

never : (a b k : ℕ) → refused a b ≡ wrote k → ⊥
never a b k e = let z : ◌≡◌ {A = ℕ} 0 1 = cc in omega arith

tested_wrote : (v r : Bool) (text ys : List ℕ) (k : ℕ) → (tested v r text ys).report ≡ wrote k → k ≡ length text
tested_wrote true true text ys k e = same_count (length text) k e
tested_wrote true false text ys k e = absurd (never 15 (length text) k e)
tested_wrote false r text ys k e = absurd (never 0 0 k e)

module _ (n : ℕ) (image : List ℕ) where
  abbrev text : List ℕ
  text = encode (ruleset_in image)

  abbrev says : Report
  says = (filed image (replicate n 0)).report

  filed-in : (out : List ℕ) → n ≤ length out → filed_in n image out ≡ leaves says text out
  unfolding filed_in filed
  filed-in out h =
      ap (λ (k : ℕ). filed_back n out (tested (valid image) (leb (length text) k) text (take n out))) (length-take-le n out h)
      ∙ tested_back (valid image) (leb (length text) n) text out (replicate n 0) n (λ e. leb-true (length text) n e) h
      ∙ sym (ap (λ (k : ℕ). leaves (tested (valid image) (leb (length text) k) text (replicate n 0)).report text out) (length-replicate n 0))

  says_wrote : (k : ℕ) → says ≡ wrote k → k ≡ length text
  unfolding filed
  says_wrote k e = tested_wrote (valid image) (leb (length text) (length (replicate n 0))) text (replicate n 0) k e

  module _ (w : Result ℕ Refusal) (out x : List ℕ) (h : n ≤ length out) (e : filing (report_of w) x ≡ filed_in n image out) where
    said : report_of w ≡ says
    said = ap (λ (b : Filed). b.report) (e ∙ filed-in out h)

    kept : x ≡ left says text out
    kept = ap (λ (b : Filed). b.bytes) (e ∙ filed-in out h)

    pub gives_file : (k : ℕ) → w ≡ Ok k → Gives (file_line n image) k out x
    unfolding file_line
    gives_file k p =
        let s : says ≡ wrote k = sym said ∙ ap report_of p in
        subst (λ (r : Report). Gives (report_line r text) k out x) (sym s) (says_wrote k s, kept ∙ ap (λ (r : Report). left r text out) s)

    pub gives_unwritten : (y : Refusal) (len : ℕ) (out' : List ℕ) → w ≡ Err y → len ≡ 15 → out' ≡ over (refusal_line y) x
        → Gives (file_line n image) len out out'
    unfolding file_line
    gives_unwritten y len out' p l b =
        let s : says ≡ refused (refusal_number y) (refusal_place y) = sym said ∙ ap report_of p in
        subst (λ (r : Report). Gives (report_line r text) len out out') (sym s)
        (l ∙ sym (length_printed (refused_body (refusal_number y) (refusal_place y))), b ∙ ap (λ (z : List ℕ). over (refusal_line y) z) (kept ∙ ap (λ (r : Report). left r text out) s))

module _ (f image out out' : List ℕ) (len : ℕ) where
  pub written_not : (length f ≡ 5 → ⊥) → len ≡ 15 → out' ≡ over malformed_line out → Gives (write_line f image) len out out'
  unfolding write_line
  written_not h l b = rw (ne_eqb (length f) 5 h) (l ∙ sym length_malformed, b)

  pub written : (n i : ℕ) → length f ≡ 5 → n ≡ lent_of i longest_file → i ≡ four 1 f → Gives (file_line n image) len out out'
      → Gives (write_line f image) len out out'
  unfolding write_line
  written n i h en ei g = rw (eq-eqb (length f) 5 h, ← ei, ← en) g
