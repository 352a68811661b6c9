-- The whole call: what each refusal is, and that the memory worked in is as it was.
-- Assumes nothing.
use Rattle.std.specs.Prelude.{Err}
use mathlib.Core.Path.{◌≡◌, sym, ap, ap₂, ◌∙◌}
use Prim.Native.Nat.{ℕ, ◌+◌, ◌*◌, ◌≤◌, ◌<◌}
use native.Mathlib.Omega.{arith}
use mathlib.Core.Bool.{Bool, true, false, cond}
use mathlib.Core.List.{List, ◌++◌}
use lib.Dec.{leb}
use lib.ListN.{length, take, drop, take-append-drop}
use lib.Seq.{length-take-le}
use borrow.Author.Tests.{le-leb, lt-leb, leb-true}
use Rattle.rules.specs.Limits.{max_name, max_names}
use Rattle.rules.proofs.Cases.{by_bool}
use Rattle.rules.specs.Refusals.{refusal_number, refusal_place}
use Rattle.rules.specs.declared.Refusal.{Refusal}
use Rattle.rules.specs.declared.Refusal.TheVariants.{NotRuleset, WordsRoom, SetsRoom, FileRoom, BadList, BadSheet}
use Rattle.exceptions.specs.Judging.{is_list, Listing, listing_of}
use Rattle.image.specs.Image.{valid}
use Rattle.fitting.specs.Fitting.{Str}
use Rattle.speech.specs.Places.{frame_size}
use Rattle.speech.proofs.Call.{listing_some, listing_none}
use Rattle.speech.proofs.Lookup.{says_all}
use Rattle.tables.specs.Words.{Compiled}
use Rattle.prefix_tree.specs.Tree.{node_size}
use Rattle.many_names.specs.Names.{names_in, sound_sheet}
use Rattle.many_names.specs.Many.{reply_size}
use Rattle.many_names.proofs.Sizes.{names-few, names_enough}
use Rattle.sheet_judging.specs.Sheet.{work_room}
use Rattle.sheet.specs.Zeros.{zeros}
use Rattle.sheet.specs.Sheet.{SheetSaid, sheet_said, refused_sheet, judged_sheet, alone, tree_size, kept_size, replies_size, Ready, names_through, with_list, with_memory, sheet_through}
use Rattle.sheet.specs.declared.SheetAnswer.{SheetAnswer}
use Rattle.sheet.proofs.Zeros.{zeros-room, zeros-all}

-- the answer that refuses a sheet
abbrev pub refusing : Refusal → SheetAnswer
refusing x = record { answer = Err x; steps = 0; names = 0 }

module _ (replies phones numbers : List ℕ) where
  pub refused_as : (x : Refusal) (r : SheetAnswer) → r ≡ refusing x → sheet_said r replies phones numbers ≡ refused_sheet (refusal_number x) (refusal_place x) replies phones numbers
  refused_as x r h = ap (λ (y : SheetAnswer). sheet_said y replies phones numbers) h

-- ---- as many names as there are

module _ (sheet : List ℕ) (limit : ℕ) (is : limit ≡ length (names_in max_names sheet)) where
  pub few-names : limit ≤ max_names
  few-names = omega (arith, names-few max_names sheet)

  pub limit-names : names_in limit sheet ≡ names_in max_names sheet
  limit-names = names_enough limit max_names sheet (omega arith) few-names

-- ---- the memory

pub room-few : (sheet : List ℕ) (room : ℕ) → room ≡ work_room sheet → room ≤ max_names * (max_name + 1)
room-few sheet room is =
    by_bool (leb (length sheet) (max_names * (max_name + 1)))
    (λ b.
    let e : room ≡ length sheet = is ∙ ap (λ (t : Bool). cond t (length sheet) (max_names * (max_name + 1))) b in
    omega (arith, leb-true (length sheet) (max_names * (max_name + 1)) b))
    (λ b.
    let e : room ≡ max_names * (max_name + 1) = is ∙ ap (λ (t : Bool). cond t (length sheet) (max_names * (max_name + 1))) b in
    omega arith)

module _ (sheet tree kept replies phones numbers : List ℕ) (x : SheetSaid) (room limit : ℕ) (work : room ≡ work_room sheet) (is : limit ≡ length (names_in max_names sheet)) where
  abbrev names : List Str
  names = names_in max_names sheet

  abbrev lacking : ℕ → ℕ → SheetSaid
  lacking n p = refused_sheet n p replies phones numbers

  abbrev from : Bool → Bool → Bool → SheetSaid
  from a b c = cond a (cond b (cond c x (lacking 15 (replies_size names))) (lacking 12 (kept_size sheet))) (lacking 11 (tree_size sheet))

  tree_is : node_size * (room + 1) ≡ tree_size sheet
  tree_is = ap (λ (k : ℕ). node_size * (k + 1)) work

  kept_is : room + frame_size ≡ kept_size sheet
  kept_is = ap (λ (k : ℕ). k + frame_size) work

  replies-are : reply_size * limit ≡ replies_size names
  replies-are = ap (λ (k : ℕ). reply_size * k) is

  pub lacks-tree : zeros (node_size * (room + 1)) tree ≡ false → (r : SheetAnswer) → r ≡ refusing (WordsRoom (node_size * (room + 1)))
      → sheet_said r replies phones numbers ≡ with_memory sheet names tree kept x replies phones numbers
  lacks-tree e r h =
      refused_as replies phones numbers (WordsRoom (node_size * (room + 1))) r h ∙ ap (lacking 11) tree_is
      ∙ sym (ap (λ (a : Bool). from a (zeros (kept_size sheet) kept) (leb (replies_size names) (length replies))) (ap (λ (k : ℕ). zeros k tree) (sym tree_is) ∙ e))

  module _ (t : zeros (node_size * (room + 1)) tree ≡ true) where
    with_kept : (b : Bool) → zeros (room + frame_size) kept ≡ b → with_memory sheet names tree kept x replies phones numbers ≡ from true b (leb (replies_size names) (length replies))
    with_kept b e =
        ap₂ (λ (a b : Bool). from a b (leb (replies_size names) (length replies)))
        (ap (λ (k : ℕ). zeros k tree) (sym tree_is) ∙ t) (ap (λ (k : ℕ). zeros k kept) (sym kept_is) ∙ e)

    pub lacks-kept : zeros (room + frame_size) kept ≡ false → (r : SheetAnswer) → r ≡ refusing (SetsRoom (room + frame_size))
        → sheet_said r replies phones numbers ≡ with_memory sheet names tree kept x replies phones numbers
    lacks-kept e r h = refused_as replies phones numbers (SetsRoom (room + frame_size)) r h ∙ ap (lacking 12) kept_is ∙ sym (with_kept false e)

    module _ (s : zeros (room + frame_size) kept ≡ true) where
      with_replies : (c : Bool) → leb (replies_size names) (length replies) ≡ c → with_memory sheet names tree kept x replies phones numbers ≡ from true true c
      with_replies c e = with_kept true s ∙ ap (from true true) e

      pub lacks-replies : length replies < reply_size * limit → (r : SheetAnswer) → r ≡ refusing (FileRoom (reply_size * limit))
          → sheet_said r replies phones numbers ≡ with_memory sheet names tree kept x replies phones numbers
      lacks-replies l r h =
          refused_as replies phones numbers (FileRoom (reply_size * limit)) r h ∙ ap (lacking 15) replies-are
          ∙ sym (with_replies false (lt-leb (replies_size names) (length replies) (omega (arith, replies-are))))

      pub has-memory : reply_size * limit ≤ length replies → (y : SheetSaid) → y ≡ x → y ≡ with_memory sheet names tree kept x replies phones numbers
      has-memory l y h = h ∙ sym (with_replies true (le-leb (replies_size names) (length replies) (omega (arith, replies-are))))

pub put_front : (n : ℕ) (s z : List ℕ) → z ≡ take n s → z ++ drop n s ≡ s
put_front n s z e = ap (λ (y : List ℕ). y ++ drop n s) e ∙ take-append-drop n s

-- zero memory of these sizes is all that the names ask
pub ready : (image list sheet replies tree kept : List ℕ) (room limit : ℕ) → room ≡ work_room sheet → limit ≡ length (names_in max_names sheet) → valid image ≡ true → is_list list ≡ true
    → reply_size * limit ≤ length replies → zeros (node_size * (room + 1)) tree ≡ true → zeros (room + frame_size) kept ≡ true
    → Ready image list sheet limit replies (take (node_size * (room + 1)) tree) (take (room + frame_size) kept)
ready image list sheet replies tree kept room limit work is v e l t k =
    let z = zeros-all (node_size * (room + 1)) tree t in
    record {
      sound = v;
      listed = e;
      few = few-names sheet limit is;
      replies-room = l;
      tree-room = omega (arith, work, length-take-le (node_size * (room + 1)) tree (zeros-room (node_size * (room + 1)) tree t));
      kept-room = omega (arith, work, length-take-le (room + frame_size) kept (zeros-room (room + frame_size) kept k));
      root = record { childless = z.each _; state-is = z.each _ };
    }

-- ---- the order of refusals

module _ (c : Compiled) (image list sheet tree kept replies phones numbers : List ℕ) where
  abbrev all : SheetSaid
  all = sheet_through c image (listing_of list) sheet tree kept replies phones numbers

  abbrev with : (Str → Str) → SheetSaid
  with m =
      with_memory sheet (names_in max_names sheet) tree kept (judged_sheet c (alone c image (listing_of list)) m (names_in max_names sheet) replies phones numbers) replies phones numbers

  abbrev by : Bool → Bool → Listing → SheetSaid
  by a b l = cond a (cond b (with_list l (refused_sheet 17 0 replies phones numbers) with) (refused_sheet 0 0 replies phones numbers)) (refused_sheet 24 0 replies phones numbers)

  pub cut-sheet : sound_sheet max_names sheet ≡ false → (r : SheetAnswer) → r ≡ refusing (BadSheet 0) → sheet_said r replies phones numbers ≡ all
  unfolding sheet_through
  cut-sheet e r h = refused_as replies phones numbers (BadSheet 0) r h ∙ sym (ap (λ (a : Bool). by a (valid image) (listing_of list)) e)

  module _ (ok : sound_sheet max_names sheet ≡ true) where
    pub no-rules : valid image ≡ false → (r : SheetAnswer) → r ≡ refusing (NotRuleset 0) → sheet_said r replies phones numbers ≡ all
    unfolding sheet_through
    no-rules e r h = refused_as replies phones numbers (NotRuleset 0) r h ∙ sym (ap₂ (λ (a b : Bool). by a b (listing_of list)) ok e)

    module _ (v : valid image ≡ true) where
      pub no-list : is_list list ≡ false → (r : SheetAnswer) → r ≡ refusing (BadList 0) → sheet_said r replies phones numbers ≡ all
      unfolding sheet_through
      no-list e r h =
          refused_as replies phones numbers (BadList 0) r h ∙ sym (ap₂ (λ (a b : Bool). by a b (listing_of list)) ok v ∙ ap (by true true) (listing_none list e))

      pub whole-sheet : is_list list ≡ true → (y : SheetSaid)
          → y ≡ with_memory sheet (names_in max_names sheet) tree kept (names_through c image list sheet max_names replies phones numbers) replies phones numbers → y ≡ all
      unfolding sheet_through
      whole-sheet e y h = h ∙ ap with (says_all list e) ∙ sym (ap₂ (λ (a b : Bool). by a b (listing_of list)) ok v ∙ ap (by true true) (listing_some list e))
