-- One name answered from what was kept of it.
-- Assumes nothing.
use Rattle.std.specs.Prelude.{Err, None, Ok, Option, Result, Some}
use mathlib.Core.Path.{◌≡◌, sym, ap, ap₂, ◌∙◌}
use Prim.Native.Nat.{ℕ, ◌-◌, ◌≤◌, ◌<◌}
use native.Mathlib.Omega.{arith}
use mathlib.Core.Bool.{Bool, true, cond}
use mathlib.Core.List.{List, []}
use lib.ListN.{length}
use lib.Seq.{take_all}
use borrow.Author.Tests.{lt-ltb}
use Rattle.rules.specs.Names.{judged_name, SoundName}
use Rattle.rules.specs.Refusals.{Reply, declined}
use Rattle.rules.specs.declared.Refusal.TheVariants.{NoFit}
use Rattle.rules.proofs.Names.{sound_judged}
use Rattle.exceptions.specs.Layout.{words_of, phones_for}
use Rattle.exceptions.specs.Judging.{is_list, says_of}
use Rattle.fitting.specs.Fitting.{Str}
use Rattle.fitting.specs.Reading.{Reading, finished}
use Rattle.speech.specs.Speech.{Outcome, speaks, at_once, answered, judged_by, said_from, listed_or, Told, refused, told_of, saying, delivered}
use Rattle.speech.specs.Places.{frame_size, EndsBy, parts_at, parts_reading, SaysListed}
use Rattle.speech.specs.declared.Unread.{Unread}
use Rattle.speech.specs.declared.Unread.TheVariants.{Uncovered, BadTables}
use Rattle.speech.specs.declared.Spoken.{Spoken}
use Rattle.rules.specs.declared.Refusal.{Refusal}
use Rattle.speech.proofs.Lookup.{listed_answer, unlisted_none, says_all}
use Rattle.tables.proofs.Theorem.{delivered_steps}
use Rattle.sheet_name.specs.Judging.{uncovered_from, code_of, Unsent, Kept}
use Rattle.sheet_answers.specs.Answers.{SomeUnsent, SaysUnsent, SaysKept}

-- ---- a name that sent no word

module _ (list : List ℕ) (name : Str) where
  pub unsent-refused : (k p : ℕ) → judged_name name ≡ declined k p → (s : Result Spoken Refusal) → told_of s ≡ refused k p → (phones : List ℕ) → SaysUnsent list name phones phones s
  unsent-refused k p e s t phones o numbers u =
      ap (λ (x : Told). saying x phones numbers) t
      ∙ sym (ap (λ (x : Outcome). delivered x phones numbers) (u (at_once 0 0) ∙ ap (λ (y : Reply). judged_by y (listed_or (says_of list) name (at_once 0 0))) e))

  module _ (known : is_list list ≡ true) (sound : SoundName name) (phones after : List ℕ) (r : Option (Result Spoken Refusal)) (is : SaysListed (phones_for (words_of list) name) phones after r) where
    -- what it comes to
    from_list : (o : Outcome) → Unsent list name o → (q : Outcome) → o ≡ said_from (phones_for (words_of list) name) q
    from_list o u q = u q ∙ ap₂ (λ (y : Reply) (m : Str → Str). judged_by y (listed_or m name q)) (sound_judged name sound) (says_all list known)

    pub unsent-listed : (s : Result Spoken Refusal) → r ≡ Some s → SaysUnsent list name phones after s
    unsent-listed s e o numbers u =
        listed_answer (phones_for (words_of list) name) (at_once 0 0) phones after numbers r is s e ∙ sym (ap (λ (x : Outcome). delivered x phones numbers) (from_list o u (at_once 0 0)))

    -- it is on the list
    pub unsent-absent : r ≡ None → SomeUnsent list name → (A : Type 0) → A
    unsent-absent e w A =
        let n = unlisted_none (phones_for (words_of list) name) (at_once 0 0) phones after [] r is e in
        let a : at_once 0 0 ≡ at_once 1 0 =
        sym (ap (λ (p : Str). said_from p (at_once 0 0)) n) ∙ (sym (from_list w.outcome w.unsent (at_once 0 0)) ∙ (from_list w.outcome w.unsent (at_once 1 0) ∙ ap (λ (p : Str). said_from p (at_once 1 0)) n)) in
        let z : ◌≡◌ {A = ℕ} 0 1 = cc in absurd (omega arith)

-- ---- any name

module _ (image list : List ℕ) (name : Str) (end : ℕ) (parts : List ℕ) where
  pub kept-unsent : (phones numbers phones' : List ℕ) (s : Result Spoken Refusal) → end ≡ 0 → SaysUnsent list name phones phones' s → SaysKept image list name end parts phones numbers phones' numbers s
  kept-unsent phones numbers phones' s z q o k = q o numbers (k.unsent z)

  -- rules were applied: all parts that were kept are said
  module _ (some : 0 < end) (ruled : end < uncovered_from) where
    parts_long : (o : Outcome) → Kept image list name end parts o → length parts ≡ end - 1
    parts_long o k = k.sized ∙ ap (λ (b : Bool). cond b (end - 1) 0) (lt-ltb end uncovered_from ruled)

    all_said : (x : Result ℕ Unread) → end ≡ code_of x → length parts ≡ end - 1 → parts_reading image list parts x ≡ finished (parts_at image list parts)
    all_said (Ok k) e l = let h : length parts ≤ k = omega arith in ap (λ (ps : List ℕ). finished (parts_at image list ps)) (take_all k parts h)
    all_said (Err (Uncovered i)) e l = absurd (omega arith)
    all_said (Err BadTables) e l = absurd (omega arith)

    pub kept-few : (o : Outcome) → Kept image list name end parts o → length parts ≤ frame_size
    kept-few o k = omega (arith, parts_long o k)

    pub kept-said : (phones numbers phones' numbers' : List ℕ) (s : Result Spoken Refusal)
        → saying (told_of s) phones' numbers' ≡ delivered (speaks (parts_at image list parts) 0) phones numbers → SaysKept image list name end parts phones numbers phones' numbers' s
    kept-said phones numbers phones' numbers' s q o k =
        let t = k.sent some in
        q ∙ (delivered_steps (finished (parts_at image list parts)) 0 t.taken phones numbers
        ∙ ap (λ (y : Outcome). delivered y phones numbers) (ap (λ (x : Reading). answered x t.taken) (sym (all_said t.reached t.code (parts_long o k))) ∙ t.says))

  -- a letter had no rule
  module _ (past : uncovered_from ≤ end) where
    none_fits : (x : Result ℕ Unread) → EndsBy frame_size x → end ≡ code_of x → x ≡ Err (Uncovered (end - uncovered_from))
    none_fits (Ok k) h e = absurd (omega arith)
    none_fits (Err (Uncovered i)) h e = let d : i ≡ end - uncovered_from = omega arith in ap (λ (k : ℕ). Err (Uncovered k)) d
    none_fits (Err BadTables) h e = absurd (omega arith)

    pub kept-uncovered : (n : ℕ) → n ≡ end → (phones numbers : List ℕ) → SaysKept image list name end parts phones numbers phones numbers (Err (NoFit (n - uncovered_from)))
    kept-uncovered n e phones numbers o k =
        let t = k.sent (omega arith) in
        ap (λ (j : ℕ). saying (refused 3 (j - uncovered_from)) phones numbers) e
        ∙ ap (λ (y : Outcome). delivered y phones numbers) (ap (λ (x : Result ℕ Unread). answered (parts_reading image list parts x) t.taken) (sym (none_fits t.reached t.few t.code)) ∙ t.says)
