-- What a call's report in numbers says, from the library's equation.
-- Assumes nothing.
use Prim.Native.Nat.{ℕ, ◌≤◌, ◌<◌}
use mathlib.Core.Path.{◌≡◌, sym, ap, ◌∙◌}
use mathlib.Core.Bool.{Bool, true, false, cond}
use mathlib.Core.List.{List}
use lib.ListN.{length}
use borrow.Author.Tests.{eq-eqb, ne_eqb, lt-leb, le-leb}
use Rattle.rules.specs.Shape.{shape}
use Rattle.rules.specs.declared.Rule.{Rule}
use Rattle.rules.specs.Refusals.{Reply, accepted, declined, reply_code, reply_place, Report}
use Rattle.rule_bytes.specs.RuleBytes.{rule_of, rule_size, blank_rule}
use Rattle.image.specs.Image.{image_size, valid, ledger_of, Edited, outcome}
use Rattle.edits.specs.Ledger.{Edit, judged}
use Rattle.edits.specs.Edits.{edited, outcome_by}
use Rattle.speech.specs.Speech.{Told, Said, saying}
use Rattle.tables.specs.Words.{Built, building}
use Rattle.file.specs.Loading.{Filed, filing}
use Rattle.host.specs.Files.{written_code, bytes_or_place}
use Rattle.many_names.specs.Codes.{spoken_code, phones_or_place, numbers_given, contested_given}
use Rattle.host.specs.Codes.{checked, held_in, rule_given}

-- the numbers of an edit or a reading, and the memory after it
module _ (a : Reply) (image : List ℕ) (e : Edited) (h : outcome a image ≡ e) where
  pub code_is : (r : ℕ) → r ≡ reply_code a → r ≡ reply_code e.reply
  code_is r c = c ∙ ap (λ (x : Edited). reply_code x.reply) h

  pub place_is : (r : ℕ) → r ≡ reply_place a → r ≡ reply_place e.reply
  place_is r c = c ∙ ap (λ (x : Edited). reply_place x.reply) h

  pub image_is : image ≡ e.image
  image_is = ap (λ (x : Edited). x.image) h

pub checked_is : (image : List ℕ) (b : Bool) → valid image ≡ b → reply_code (checked image) ≡ cond b (reply_code accepted) 0
checked_is image true h = ap (λ (t : Bool). reply_code (cond t accepted (declined 0 0))) h
checked_is image false h = ap (λ (t : Bool). reply_code (cond t accepted (declined 0 0))) h

-- what memory holds, long enough or not
pub held_long : (field : List ℕ → ℕ) (image : List ℕ) → image_size ≤ length image → field image ≡ held_in field image
held_long field image h = ap (λ (t : Bool). cond t (field image) 0) (sym (le-leb image_size (length image) h))

pub held_short : (field : List ℕ → ℕ) (image : List ℕ) → length image < image_size → 0 ≡ held_in field image
held_short field image h = ap (λ (t : Bool). cond t (field image) 0) (sym (lt-leb image_size (length image) h))

-- a rule from the bytes of a slot without its number
pub rule_yes : (s : List ℕ) (r : Rule) → r ≡ rule_of s → length s ≡ rule_size → r ≡ rule_given s
unfolding rule_given
rule_yes s r e h = e ∙ ap (λ (t : Bool). cond t (rule_of s) blank_rule) (sym (eq-eqb (length s) rule_size h))

pub rule_no : (s : List ℕ) → (length s ≡ rule_size → ⊥) → blank_rule ≡ rule_given s
unfolding rule_given
rule_no s h = ap (λ (t : Bool). cond t (rule_of s) blank_rule) (sym (ne_eqb (length s) rule_size h))

-- so bytes of another length are refused with 6, and change nothing
pub odd_rule : (image s : List ℕ) (p : ℕ) → (length s ≡ rule_size → ⊥) → valid image ≡ true → edited image (Edit.Add (rule_given s) p) ≡ outcome (declined 6 0) image
unfolding edited judged shape
odd_rule image s p h v =
    ap (λ (r : Rule). edited image (Edit.Add r p)) (sym (rule_no s h))
    ∙ ap (λ (t : Bool). cond t (outcome_by (judged (ledger_of image) (Edit.Add blank_rule p)) image (Edit.Add blank_rule p)) (outcome (declined 0 0) image)) v

-- the numbers of a call that speaks, and the lent memory after it
module _ (t : Told) (phones numbers : List ℕ) (s : Said) (h : saying t phones numbers ≡ s) where
  pub said_code : (r : ℕ) → r ≡ spoken_code t → r ≡ spoken_code s.told
  said_code r c = c ∙ ap (λ (x : Said). spoken_code x.told) h

  pub said_given : (r : ℕ) → r ≡ phones_or_place t → r ≡ phones_or_place s.told
  said_given r c = c ∙ ap (λ (x : Said). phones_or_place x.told) h

  pub said_applied : (r : ℕ) → r ≡ numbers_given t → r ≡ numbers_given s.told
  said_applied r c = c ∙ ap (λ (x : Said). numbers_given x.told) h

  pub said_contested : (r : ℕ) → r ≡ contested_given t → r ≡ contested_given s.told
  said_contested r c = c ∙ ap (λ (x : Said). contested_given x.told) h

  pub said_phones : phones ≡ s.phones
  said_phones = ap (λ (x : Said). x.phones) h

  pub said_numbers : numbers ≡ s.numbers
  said_numbers = ap (λ (x : Said). x.numbers) h

-- the numbers of a build, and the lent words after it
module _ (a : Reply) (words sets : List ℕ) (b : Built) (h : building a words sets ≡ b) where
  pub built_code : (r : ℕ) → r ≡ reply_code a → r ≡ reply_code b.reply
  built_code r c = c ∙ ap (λ (x : Built). reply_code x.reply) h

  pub built_place : (r : ℕ) → r ≡ reply_place a → r ≡ reply_place b.reply
  built_place r c = c ∙ ap (λ (x : Built). reply_place x.reply) h

  pub built_words : words ≡ b.words
  built_words = ap (λ (x : Built). x.words) h

  pub built_sets : sets ≡ b.sets
  built_sets = ap (λ (x : Built). x.sets) h

-- the numbers of a file's writing, and the lent bytes after it
module _ (w : Report) (out : List ℕ) (f : Filed) (h : filing w out ≡ f) where
  pub filed_code : (r : ℕ) → r ≡ written_code w → r ≡ written_code f.report
  filed_code r c = c ∙ ap (λ (x : Filed). written_code x.report) h

  pub filed_bytes : (r : ℕ) → r ≡ bytes_or_place w → r ≡ bytes_or_place f.report
  filed_bytes r c = c ∙ ap (λ (x : Filed). bytes_or_place x.report) h

  pub filed_out : out ≡ f.bytes
  filed_out = ap (λ (x : Filed). x.bytes) h
