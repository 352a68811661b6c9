-- How one name is settled: the refusal of the sheet, or what is kept of the name.
-- Assumes nothing.
use mathlib.Core.Path.{◌≡◌, refl, sym, ap, ap₂, ◌∙◌, subst}
use Prim.Native.Nat.{ℕ, zero, suc, ◌+◌, ◌-◌, ◌≤◌, ◌<◌}
use native.Mathlib.Omega.{arith}
use mathlib.Core.Bool.{Bool, true, false, cond}
use mathlib.Core.List.{List, [], ◌∷◌, ◌++◌, append-nil}
use lib.Dec.{leb}
use lib.ListN.{length, take}
use lib.Seq.{take-take, length-take-le}
use borrow.Author.Tests.{leb-true, le-leb, lt-ltb, le-ltb}
use Rattle.std.specs.Prelude.{Option, Some, None, IfSome, Err, Ok, Result}
use Rattle.rules.specs.Limits.{max_name}
use Rattle.rules.proofs.Cases.{by_bool}
use Rattle.rules.proofs.Names.{sound_judged, Judgement as NameJudgement, sound, refuses, judgement}
use Rattle.rules.specs.Names.{judged_name, SoundName}
use Rattle.rules.specs.Refusals.{Reply, accepted, declined, reply_of}
use Rattle.rules.specs.declared.Refusal.{Refusal}
use Rattle.rules.specs.declared.Refusal.TheVariants as R
use Rattle.exceptions.specs.Judging.{says_of}
use Rattle.fitting.specs.Fitting.{Str}
use Rattle.speech.specs.Words.{Word, words_in, unlisted}
use Rattle.speech.specs.Speech.{Outcome, at_once, answered, judged_by, said_from, listed_or}
use Rattle.fitting.specs.Reading.{finished}
use Rattle.speech.specs.Places.{frame_size, EndsBy, PartsIn, parts_at, parts_reading, Parted, Unsaid}
use Rattle.speech.specs.declared.Unread.{Unread}
use Rattle.speech.specs.declared.Unread.TheVariants.{Uncovered, BadTables}
use Rattle.tables.specs.Steps.{hashed, right_steps}
use Rattle.passes.specs.Passes.{left_rows_of}
use Rattle.prefix_tree.specs.Tree.{Tree}
use Rattle.prefix_tree.specs.Sharing.{Holds}
use Rattle.sheet_passes.specs.Passing.{HoldsSome}
use Rattle.sheet_name.specs.Judging.{through_of, FrameJudged, outcome_of, sent_by, table_words, sheet_refusal, uncovered_from, code_of, parts_in, room_of, Sent, Unsent, settled_as, settled, NameJudged}
use Rattle.sheet_name.specs.declared.Judged.{Judged}
use Rattle.sheet_name.specs.declared.Judgement.{Judgement}

-- ---- room for a name

-- a name of no more than max_name bytes has room for # and its letters
pub room-short : (name : Str) → length name ≤ max_name → room_of name ≡ length name + 1
room-short name h = ap (λ (b : Bool). cond b (length name + 1) 0) (le-leb (length name) max_name h)

-- no name has room for more
pub room_most : (name : Str) → (room_of name ≤ length name + 1) × (room_of name ≤ max_name + 1)
room_most name = by_bool (leb (length name) max_name) (λ e. (rw e (omega arith), rw e (omega (arith, leb-true (length name) max_name e)))) (λ e. (rw e (omega arith), rw e (omega arith)))

-- ---- the parts that are kept

pub parts_below : (end : ℕ) → end < uncovered_from → parts_in end ≡ end - 1
parts_below end h = ap (λ (b : Bool). cond b (end - 1) 0) (lt-ltb end uncovered_from h)

pub parts_past : (end : ℕ) → uncovered_from ≤ end → parts_in end ≡ 0
parts_past end h = ap (λ (b : Bool). cond b (end - 1) 0) (le-ltb end uncovered_from h)

parts_rules : (k : ℕ) → k ≤ frame_size → parts_in (k + 1) ≡ k
parts_rules k h = parts_below (k + 1) (omega arith) ∙ omega arith

parts_uncovered : (i : ℕ) → parts_in (i + uncovered_from) ≡ 0
parts_uncovered i = parts_past (i + uncovered_from) (omega arith)

-- no more than there is room for
parts_few : (n : ℕ) (r : Result ℕ Unread) → EndsBy frame_size r → ((k : ℕ) → r ≡ Ok k → k ≤ n) → parts_in (code_of r) ≤ n
parts_few n (Ok k) e h = omega (arith, parts_rules k e, h k refl)
parts_few n (Err (Uncovered i)) e h = omega (arith, parts_uncovered i)
parts_few n (Err BadTables) e h = omega arith

module _ (image list parts : List ℕ) where
  parts_long : (r : Result ℕ Unread) → Parted image list frame_size parts r → length (take (parts_in (code_of r)) parts) ≡ parts_in (code_of r)
  parts_long (Ok k) q = length-take-le (parts_in (k + 1)) parts (omega (arith, parts_rules k q.few, q.few, q.sized))
  parts_long (Err (Uncovered i)) q = length-take-le (parts_in (i + uncovered_from)) parts (omega (arith, parts_uncovered i))
  parts_long (Err BadTables) q = refl

  sent-by : (taken : ℕ) (o : Outcome) (r : Result ℕ Unread) → Parted image list frame_size parts r → answered (parts_reading image list parts r) taken ≡ o
      → Sent image list (code_of r) (take (parts_in (code_of r)) parts) o
  sent-by taken o (Ok k) q e =
      let n = parts_rules k q.few in
      record {
        reached = Ok k;
        code = refl;
        few = q.few;
        within = subst (λ (j : ℕ). PartsIn image list (take j parts)) (sym n) (q.within k refl);
        taken = taken;
        says = ap (λ (ps : List ℕ). answered (finished (parts_at image list ps)) taken) (take-take k (parts_in (k + 1)) parts (omega (arith, n))) ∙ e;
      }
  sent-by taken o (Err (Uncovered i)) q e = record {
    reached = Err (Uncovered i);
    code = refl;
    few = q.few;
    within = subst (λ (j : ℕ). PartsIn image list (take j parts)) (sym (parts_uncovered i)) (λ k b. absurd (omega arith));
    taken = taken;
    says = e;
  }
  sent-by taken o (Err BadTables) q e = record { reached = Err BadTables; code = refl; few = tt; within = λ k b. absurd (omega arith); taken = taken; says = e }

-- ---- a name that sends no word through the tables

module _ (words sets : List ℕ) (l r : ℕ) (fit : Bool) (image list : List ℕ) (name : Str) (t : List ℕ) (n steps : ℕ) (g : HoldsSome fit (left_rows_of words l) t n) (parts : List ℕ) where
  abbrev o : Outcome
  o = outcome_of words sets l r image list name

  -- the tree and the counts stay
  abbrev Stays : Type 0
  Stays = NameJudged words sets l r fit image list name t n steps t parts (Ok (record { nodes = n; steps = steps; end = 0 }))

  none_sent : (none : table_words (says_of list) name ≡ []) → Unsent list name o → sheet_refusal o ≡ accepted → Stays
  none_sent none u a =
      record {
        sized = refl;
        goes = record {
          goes = a;
          kept = record { sized = refl; unsent = λ _. u; sent = λ h. absurd (omega arith) };
          kept-few = omega arith;
          tree = g.tree;
          steps-are = omega (arith, ap right_steps none);
          few = omega arith;
          more = omega arith;
          short = omega (arith, ap right_steps none);
          holds = λ ws h. subst (λ (x : List Str). Holds (left_rows_of words l) x t n) (sym (ap (λ (v : List Word). ws ++ hashed v) none ∙ append-nil ws)) h;
        };
        refused = tt;
      }

  -- refused with k at p, which is 2 or 1
  pub sent_refused : (k p : ℕ) → judged_name name ≡ declined k p → k ≤ 2 → Stays
  sent_refused k p e h =
      none_sent (ap (λ (x : Reply). sent_by x (says_of list name) (unlisted (says_of list) (words_in name))) e)
      (λ q. ap (λ (x : Reply). judged_by x (listed_or (says_of list) name (through_of words sets l r image list name))) e ∙ sym (ap (λ (x : Reply). judged_by x (listed_or (says_of list) name q)) e))
      (ap (λ (x : Reply). sheet_refusal (judged_by x (listed_or (says_of list) name (through_of words sets l r image list name)))) e ∙ low k h)
    where
      low : (k : ℕ) → k ≤ 2 → sheet_refusal (at_once k p) ≡ accepted
      low zero h = refl
      low (suc zero) h = refl
      low (suc (suc zero)) h = refl
      low (suc (suc (suc k))) h = absurd (omega arith)

  -- refused at all
  pub sent-none : (k p : ℕ) → judged_name name ≡ declined k p → Stays
  sent-none k p e = by (judgement name)
    where
      by : NameJudgement name → Stays
      by (sound s) = absurd (never (sym (sound_judged name s) ∙ e))
        where
          never : accepted ≡ declined k p → ⊥
          never q = let z : ◌≡◌ {A = ℕ} 0 1 = cc in omega arith
      by (refuses m q h f) = sent_refused m q f (omega arith)

  -- said from the list
  pub sent-listed : SoundName name → 1 ≤ length (says_of list name) → Stays
  sent-listed s h = go (says_of list name) refl h
    where
      go : (p : Str) → says_of list name ≡ p → 1 ≤ length p → Stays
      go [] e u = absurd (omega arith)
      go (y ∷ p) e u =
          none_sent (ap₂ (λ (x : Reply) (v : Str). sent_by x v (unlisted (says_of list) (words_in name))) (sound_judged name s) e)
          (λ q. ap₂ (λ (x : Reply) (v : Str). judged_by x (said_from v (through_of words sets l r image list name))) (sound_judged name s) e
          ∙ sym (ap₂ (λ (x : Reply) (v : Str). judged_by x (said_from v q)) (sound_judged name s) e))
          (ap₂ (λ (x : Reply) (v : Str). sheet_refusal (judged_by x (said_from v (through_of words sets l r image list name)))) (sound_judged name s) e)

-- ---- a name that does

answered_goes : (image list parts : List ℕ) (taken : ℕ) (r : Result ℕ Unread) → (r ≡ Err BadTables → ⊥) → sheet_refusal (answered (parts_reading image list parts r) taken) ≡ accepted
answered_goes image list parts taken (Ok k) d = refl
answered_goes image list parts taken (Err (Uncovered i)) d = refl
answered_goes image list parts taken (Err BadTables) d = absurd (d refl)

module _ {words sets : List ℕ} {l r : ℕ} {fit stale : Bool} {image list : List ℕ} {name : Str} (u : Unsaid list name) {t : List ℕ} {n steps : ℕ} {t' parts' : List ℕ} {x : Option Judged}
    (j : FrameJudged words sets l r fit stale image list name t n steps t' parts' x) where
  through_is : outcome_of words sets l r image list name ≡ through_of words sets l r image list name
  through_is = ap₂ (λ (y : Reply) (v : Str). judged_by y (said_from v (through_of words sets l r image list name))) (sound_judged name u.sound) u.absent

  words_are : table_words (says_of list) name ≡ unlisted (says_of list) (words_in name)
  words_are = ap₂ (λ (y : Reply) (v : Str). sent_by y v (unlisted (says_of list) (words_in name))) (sound_judged name u.sound) u.absent

  abbrev Settles : Result Judgement Refusal → Type 0
  Settles = NameJudged words sets l r fit image list name t n steps t' parts'

  room : room_of name ≡ length name + 1
  room = room-short name u.sound.short

  bad_name : (e : Refusal) → sheet_refusal (through_of words sets l r image list name) ≡ reply_of (Err e) → Settles (Err e)
  bad_name e h = record { sized = j.sized; goes = tt; refused = ap sheet_refusal through_is ∙ h }

module _ {words sets : List ℕ} {l r : ℕ} {fit stale : Bool} {image list : List ℕ} {name : Str} (u : Unsaid list name) {t : List ℕ} {n steps : ℕ} {t' parts' : List ℕ} where
  unread_name : (j : FrameJudged words sets l r fit stale image list name t n steps t' parts' None) → (b : Bool) → stale ≡ b → Settles u j (Err (cond b (R.StaleTables 0) (R.BadTables 0)))
  unread_name j true s = bad_name u j _ (ap sheet_refusal (j.refused ∙ ap (λ (b : Bool). at_once (cond b 22 16) 0) s))
  unread_name j false s = bad_name u j _ (ap sheet_refusal (j.refused ∙ ap (λ (b : Bool). at_once (cond b 22 16) 0) s))

  module _ (x : Judged) (j : FrameJudged words sets l r fit stale image list name t n steps t' parts' (Some x)) where
    good_name : (y : Judgement) → y.nodes ≡ x.counts.nodes → y.steps ≡ x.counts.steps → y.end ≡ code_of x.reached → 0 < y.end → (x.reached ≡ Err BadTables → ⊥) → Settles u j (Ok y)
    good_name y a b c h d =
        let q = j.read in
        let g = j.grown in
        record {
          sized = j.sized;
          goes = record {
            goes = ap sheet_refusal (through_is u j ∙ sym q.says) ∙ answered_goes image list parts' q.taken x.reached d;
            kept = record {
              sized = subst (λ (k : ℕ). length (take (parts_in k) parts') ≡ parts_in k) (sym c) (parts_long image list parts' x.reached q.parted);
              unsent = λ k. absurd (omega arith);
              sent = λ _. subst (λ (k : ℕ). Sent image list k (take (parts_in k) parts') (outcome_of words sets l r image list name)) (sym c) (sent-by image list parts' q.taken _ x.reached q.parted (q.says ∙ sym (through_is u j)));
            };
            kept-few = subst (λ (k : ℕ). parts_in k ≤ room_of name) (sym c) (parts_few (room_of name) x.reached q.parted.few (λ k e. omega (arith, room u j, q.few k e)));
            tree = λ f. subst (λ (k : ℕ). Tree t' k l) (sym a) (g.tree f);
            steps-are = omega (arith, a, b, g.steps-are, ap right_steps (words_are u j));
            few = omega (arith, a, g.few, room u j);
            more = omega (arith, a, g.more);
            short = omega (arith, j.short, ap right_steps (words_are u j), room u j);
            holds = λ ws o. subst (λ (k : ℕ). Holds (left_rows_of words l) (ws ++ hashed (table_words (says_of list) name)) t' k) (sym a)
                (subst (λ (v : List Word). Holds (left_rows_of words l) (ws ++ hashed v) t' x.counts.nodes) (sym (words_are u j)) (j.shares ws o));
          };
          refused = tt;
        }

    bad_read : x.reached ≡ Err BadTables → sheet_refusal (through_of words sets l r image list name) ≡ declined 16 0
    bad_read z = let q = j.read in ap sheet_refusal (sym q.says ∙ ap (λ (y : Result ℕ Unread). answered (parts_reading image list parts' y) q.taken) z)

    read_name : (y : Result ℕ Unread) → x.reached ≡ y → Settles u j (settled_as y x.counts.nodes x.counts.steps)
    read_name (Ok k) h = good_name _ refl refl (sym (ap code_of h)) (omega arith) (λ z. let f : ◌≡◌ {A = ℕ} (k + 1) 0 = ap code_of (sym h ∙ z) in omega arith)
    read_name (Err (Uncovered i)) h = good_name _ refl refl (sym (ap code_of h)) (omega arith) (λ z. let f : ◌≡◌ {A = ℕ} (i + uncovered_from) 0 = ap code_of (sym h ∙ z) in omega arith)
    read_name (Err BadTables) h = bad_name u j _ (bad_read h)

  pub settled-name : (x : Option Judged) → FrameJudged words sets l r fit stale image list name t n steps t' parts' x → (y : Result Judgement Refusal) → y ≡ settled x stale
      → NameJudged words sets l r fit image list name t n steps t' parts' y
  settled-name None j y is = subst (Settles u j) (sym is) (unread_name j stale refl)
  settled-name (Some x) j y is = subst (Settles u j) (sym is) (read_name x j x.reached refl)

-- no more parts than positions
pub few_parts : {words sets : List ℕ} {l r : ℕ} {fit stale : Bool} {image list : List ℕ} {name : Str} {t : List ℕ} {n steps : ℕ} {t' parts' : List ℕ} (x : Option Judged)
    → FrameJudged words sets l r fit stale image list name t n steps t' parts' x → IfSome x (λ j. EndsBy frame_size j.reached)
few_parts None j = tt
few_parts (Some x) j = j.read.parted.few
