-- The names of a sheet judged in turn: the loop's invariant, one turn of it, and what it comes to.
-- Assumes nothing.
use mathlib.Core.Path.{◌≡◌, refl, sym, ap, ap₂, ◌∙◌, subst, subst₂}
use Prim.Native.Nat.{ℕ, suc, ◌+◌, ◌-◌, ◌*◌, ◌≤◌, ◌<◌}
use native.Mathlib.Omega.{arith}
use native.Mathlib.Decide.{dec_le}
use mathlib.Core.Bool.{Bool, true, false}
use mathlib.Core.List.{List, [], ◌∷◌, ◌++◌, append-nil, append_assoc}
use lib.Dec.{leb}
use lib.ListN.{length, get_or, take, drop, length-drop}
use lib.Seq.{get_or-set_same, get_or-set_other, get_or-drop, drop-drop, length-take-le}
use Rattle.rules.specs.Limits.{max_name, max_names}
use Rattle.std.specs.Prelude.{Result, Ok, Err, IfErr}
use Rattle.rules.specs.Refusals.{Reply, unless, reply_of}
use Rattle.rules.specs.declared.Refusal.{Refusal}
use Rattle.rules.proofs.Cases.{by_bool}
use Rattle.rule_bytes.proofs.Parts.{part_same}
use Rattle.exceptions.specs.Judging.{says_of}
use Rattle.fitting.specs.Fitting.{Str}
use Rattle.speech.specs.Speech.{Outcome}
use Rattle.speech.specs.Places.{frame_size}
use Rattle.tables.specs.Tables.{Table}
use Rattle.tables.specs.States.{states, child}
use Rattle.tables.specs.Steps.{hashed, prefixes_of, right_steps}
use Rattle.tables.specs.Walk.{pass, from}
use Rattle.tables.specs.Siblings.{seek}
use Rattle.tables.proofs.Siblings.{seek_zero}
use Rattle.tables.proofs.Numbering.{numbered_nil, index_lt}
use Rattle.passes.specs.Passes.{max_steps, left_rows_of}
use Rattle.prefix_tree.specs.Tree.{node_size, max_nodes, Room, first_of, next_of, symbol_of, state_of, child_of, Tree}
use Rattle.prefix_tree.specs.Sharing.{Holds}
use Rattle.sheet_passes.specs.Passing.{HoldsSome}
use Rattle.sheet_passes.proofs.InTurn.{hashed_append, rights_append}
use Rattle.many_names.specs.Names.{names_in, name_at, has_next}
use Rattle.many_names.proofs.Names as N
use Rattle.sheet_name.specs.Judging.{outcome_of, sheet_refusal, parts_in, room_of, table_words, Kept}
use Rattle.sheet_name.proofs.Settling.{room_most}
use Rattle.sheet_judging.specs.Sheet.{sheet_words, first_refusal, work_room}
use Rattle.sheet_judging.specs.Kept.{parts_of, Root, NameTaken, NextJudged, SheetJudged}
use Rattle.sheet_judging.specs.declared.Judging.{Judging}

-- ---- the tree before the first word

module _ (t : List ℕ) (pl : Root t) where
  root_tree : (l : ℕ) → 0 < l → node_size ≤ length t → Tree t 1 l
  root_tree l h room =
      record {
        some = omega arith;
        room = omega arith;
        siblings = record {
          heads = λ q b. let e : q ≡ 0 = omega arith in let f = ap (λ (k : ℕ). first_of t k) e ∙ pl.childless in omega arith;
          falling = λ s a b. absurd (omega arith);
        };
        small = λ q b. let e : q ≡ 0 = omega arith in let f = ap (λ (k : ℕ). state_of t k) e ∙ pl.state-is in omega arith;
      }

  root_holds : (tab : Table) → Holds tab [] t 1
  root_holds tab =
      record {
        count = refl;
        children = record {
          children = λ q c b o.
              let e : q ≡ 0 = omega arith in
              ap (λ (k : ℕ). child_of t k c) e ∙ ap (λ (s : ℕ). seek (length t) (next_of t) (symbol_of t) s c) pl.childless ∙ seek_zero (length t) (next_of t) (symbol_of t) c ∙ sym (ap (λ (k : ℕ). child ([] ∷ []) k c) e);
        };
        held = λ q b.
            let e : q ≡ 0 = omega arith in
            ap (λ (k : ℕ). state_of t k) e ∙ pl.state-is ∙ sym (ap (λ (k : ℕ). (pass tab (from 0) (get_or ([] ∷ []) k [])).state) e);
      }

-- room that is no more than the bytes, nor than a name's for each name
room_in : (sheet : List ℕ) (a : ℕ) → a ≤ length sheet → a ≤ max_names * (max_name + 1) → a ≤ work_room sheet
room_in sheet a h b = by_bool (leb (length sheet) (max_names * (max_name + 1))) (λ e. rw e h) (λ e. rw e b)

-- ---- the loop

module _ (words sets : List ℕ) (l r : ℕ) (fit : Bool) (image list sheet : List ℕ) (k : ℕ) where
  abbrev names : List Str
  names = names_in k sheet

  abbrev left : Judging → List Str
  left p = names_in (k - p.count) (drop p.at sheet)

  abbrev out : Str → Outcome
  out = outcome_of words sets l r image list

  pub record JudgedTo (t₀ ends₀ starts₀ kept₀ t ends starts kept : List ℕ) (p : Judging) : Type 0 where
    pub sized : length t ≡ length t₀
    pub ends-sized : length ends ≡ length ends₀
    pub starts-sized : length starts ≡ length starts₀
    pub kept-sized : length kept ≡ length kept₀
    pub at_in : p.at ≤ length sheet
    pub count-in : p.count ≤ k
    pub left_over : drop p.count names ≡ left p
    pub rest : first_refusal out names ≡ first_refusal out (left p)
    -- the tree, and what it holds: the words of the names so far
    pub tree : fit ≡ true → Tree t p.nodes l
    pub strings : List Str
    pub holds : Holds (left_rows_of words l) strings t p.nodes
    pub same : hashed (sheet_words (says_of list) names) ≡ strings ++ hashed (sheet_words (says_of list) (left p))
    pub few : p.nodes ≤ 1 + p.at
    pub few-each : p.nodes ≤ 1 + (max_name + 1) * p.count
    -- their right steps, and all steps
    pub done : ℕ
    pub done-few : done ≤ (max_name + 1) * p.count
    pub rights : right_steps (sheet_words (says_of list) names) ≡ done + right_steps (sheet_words (says_of list) (left p))
    pub steps-are : p.steps + 1 ≡ p.nodes + done
    -- what is kept of them
    pub kept-few : p.kept ≤ p.at
    pub kept-each : p.kept ≤ (max_name + 1) * p.count
    pub placed : (j : ℕ) → j < p.count → get_or starts j 0 + parts_in (get_or ends j 0) ≤ p.kept
    pub held : (j : ℕ) → j < p.count → Kept image list (get_or names j []) (get_or ends j 0) (parts_of ends starts kept j) (out (get_or names j []))

  pub judged-begin : (t ends starts kept : List ℕ) → Root t → (fit ≡ true → 0 < l) → node_size ≤ length t
      → JudgedTo t ends starts kept t ends starts kept (record { at = 0; count = 0; kept = 0; nodes = 1; steps = 0 })
  judged-begin t ends starts kept pl h room =
      let z : k ≡ k - 0 = omega arith in
      let e : names ≡ names_in (k - 0) sheet = ap (λ (j : ℕ). names_in j sheet) z in
      record {
        sized = refl;
        ends-sized = refl;
        starts-sized = refl;
        kept-sized = refl;
        at_in = omega arith;
        count-in = omega arith;
        left_over = e;
        rest = ap (first_refusal out) e;
        tree = λ y. root_tree t pl l (h y) room;
        strings = [];
        holds = root_holds t pl (left_rows_of words l);
        same = ap (λ (ns : List Str). hashed (sheet_words (says_of list) ns)) e;
        few = omega arith;
        few-each = omega arith;
        done = 0;
        done-few = omega arith;
        rights = ap (λ (ns : List Str). right_steps (sheet_words (says_of list) ns)) e ∙ omega arith;
        steps-are = refl;
        kept-few = omega arith;
        kept-each = omega arith;
        placed = λ j b. absurd (omega arith);
        held = λ j b. absurd (omega arith);
      }

module _ {words sets : List ℕ} {l r : ℕ} {fit : Bool} {image list sheet : List ℕ} {k : ℕ} {t₀ ends₀ starts₀ kept₀ t ends starts kept : List ℕ} {p : Judging}
    (g : JudgedTo words sets l r fit image list sheet k t₀ ends₀ starts₀ kept₀ t ends starts kept p) where
  pub grown-now : HoldsSome fit (left_rows_of words l) t p.nodes
  grown-now = record { strings = g.strings; tree = g.tree; holds = g.holds }

  abbrev m : Str → Str
  m = says_of list

  abbrev f : Str → Outcome
  f = outcome_of words sets l r image list

  abbrev all : List Str
  all = names_in k sheet

  abbrev after : Judging → List Str
  after q = names_in (k - q.count) (drop q.at sheet)

  abbrev n : ℕ
  n = get_or sheet p.at 0

  abbrev name : Str
  name = name_at sheet p.at

  kept_within : k ≤ max_names → p.kept ≤ work_room sheet
  kept_within most = room_in sheet p.kept (omega (arith, g.kept-few, g.at_in)) (omega (arith, g.kept-each, g.count-in))

  module _ (h : has_next sheet p.at p.count k ≡ true) where
    whole : p.at + 1 + n ≤ length sheet
    whole = N.next-whole sheet p.at p.count k h

    less : p.count < k
    less = N.next-count sheet p.at p.count k h

    name_room : (room_of name ≤ n + 1) × (room_of name ≤ max_name + 1)
    name_room =
        let long : length name ≡ n = length-take-le n (drop (p.at + 1) sheet) (omega (arith, length-drop (p.at + 1) sheet, whole)) in
        (omega (arith, (room_most name).0, long), (room_most name).1)

    pub may-judge : k ≤ max_names → node_size * (work_room sheet + 1) ≤ length t₀ → work_room sheet + frame_size ≤ length kept₀ → k ≤ length ends₀ → k ≤ length starts₀
        → (p.at + 1 + n ≤ length sheet) × Room t (p.nodes + room_of name) × (p.steps + 4 * frame_size ≤ max_steps) × (p.count < max_names) × (p.count < length ends) × (p.count < length starts)
        × (p.kept ≤ max_nodes) × (p.kept + frame_size ≤ length kept)
    may-judge a b c d e =
        let nodes = room_in sheet (p.nodes - 1 + room_of name) (omega (arith, g.few, name_room.0, whole)) (omega (arith, g.few-each, name_room.1, less)) in (
          whole,
          record { few = omega (arith, g.few-each, name_room.1, less); words = omega (arith, nodes, g.sized) },
          omega (arith, g.few-each, g.done-few, g.steps-are, less),
          omega (arith, less),
          omega (arith, less, g.ends-sized),
          omega (arith, less, g.starts-sized),
          omega (arith, g.kept-each, less),
          omega (arith, kept_within a, g.kept-sized),
        )

    module _ {t' ends' starts' kept' : List ℕ} {y : Result Judging Refusal} (x : NextJudged words sets l r fit image list sheet t ends starts kept p t' ends' starts' kept' y) where
      pub lengths-kept : (length t' ≡ length t₀) × (length ends' ≡ length ends₀) × (length starts' ≡ length starts₀) × (length kept' ≡ length kept₀)
      lengths-kept = (x.sized ∙ g.sized, x.ends-sized ∙ g.ends-sized, x.starts-sized ∙ g.starts-sized, x.kept-sized ∙ g.kept-sized)

      pub judged-bad : (e : Refusal) → y ≡ Err e → SheetJudged words sets l r fit image list sheet k t₀ ends₀ starts₀ kept₀ t' ends' starts' kept' (Err e)
      judged-bad e is =
          let bad = subst (λ (z : Result Judging Refusal). IfErr z (λ e. sheet_refusal (f name) ≡ reply_of (Err e))) is x.refused in
          let here = N.names-next sheet p.at p.count k h in
          record {
            sized = lengths-kept.0;
            ends-sized = lengths-kept.1;
            starts-sized = lengths-kept.2;
            kept-sized = lengths-kept.3;
            goes = tt;
            refused = g.rest ∙ (ap (first_refusal f) here ∙ ap (λ (y : Reply). unless y (first_refusal f (names_in (k - (p.count + 1)) (drop (p.at + 1 + n) sheet)))) bad);
          }

    module _ {t' ends' starts' kept' : List ℕ} {p' : Judging} (sizes : NextJudged words sets l r fit image list sheet t ends starts kept p t' ends' starts' kept' (Ok p')) where
      abbrev x : NameTaken words sets l r fit image list sheet t ends starts kept p t' ends' starts' kept' p'
      x = sizes.taken

      left_is : after p ≡ name ∷ after p'
      left_is = N.names-next sheet p.at p.count k h ∙ ap₂ (λ (i j : ℕ). name ∷ names_in (k - i) (drop j sheet)) (sym x.count_next) (sym x.at_next)

      over_is : drop p.count all ≡ name ∷ after p'
      over_is = g.left_over ∙ left_is

      name_is : get_or all p.count [] ≡ name
      name_is =
          let z : p.count ≡ p.count + 0 = omega arith in
          ap (λ (i : ℕ). get_or all i []) z ∙ (sym (get_or-drop p.count all 0 []) ∙ ap (λ (ns : List Str). get_or ns 0 []) over_is)

      -- a name before it: how its reading ended, where its parts begin, and its parts
      module _ (i : ℕ) (b : i < p.count) where
        end_before : get_or ends' i 0 ≡ get_or ends i 0
        end_before = ap (λ (s : List ℕ). get_or s i 0) x.ends_now ∙ get_or-set_other ends p.count i x.end 0 (omega arith)

        start_before : get_or starts' i 0 ≡ get_or starts i 0
        start_before = ap (λ (s : List ℕ). get_or s i 0) x.starts-now ∙ get_or-set_other starts p.count i p.kept 0 (omega arith)

        parts_before : parts_of ends' starts' kept' i ≡ parts_of ends starts kept i
        parts_before =
            ap₂ (λ (e s : ℕ). take (parts_in e) (drop s kept')) end_before start_before
            ∙ part_same p.kept kept' kept x.kept-before (get_or starts i 0) (parts_in (get_or ends i 0)) (g.placed i b)

      module _ (room : k ≤ length ends₀) (room₂ : k ≤ length starts₀) where
        end_here : get_or ends' p.count 0 ≡ x.end
        end_here = ap (λ (s : List ℕ). get_or s p.count 0) x.ends_now ∙ get_or-set_same ends p.count x.end 0 (omega (arith, g.ends-sized, less))

        start_here : get_or starts' p.count 0 ≡ p.kept
        start_here = ap (λ (s : List ℕ). get_or s p.count 0) x.starts-now ∙ get_or-set_same starts p.count p.kept 0 (omega (arith, g.starts-sized, less))

        placed_next : (i : ℕ) → i < p'.count → Dec (i < p.count) → get_or starts' i 0 + parts_in (get_or ends' i 0) ≤ p'.kept
        placed_next i b (yes y) = omega (arith, start_before i y, ap parts_in (end_before i y), g.placed i y, x.kept_next)
        placed_next i b (no y) =
            let e : p.count ≡ i = omega (arith, x.count_next) in
            subst (λ (q : ℕ). get_or starts' q 0 + parts_in (get_or ends' q 0) ≤ p'.kept) e (omega (arith, start_here, ap parts_in end_here, x.kept_next))

        held_next : (i : ℕ) → i < p'.count → Dec (i < p.count) → Kept image list (get_or all i []) (get_or ends' i 0) (parts_of ends' starts' kept' i) (f (get_or all i []))
        held_next i b (yes y) =
            subst₂ (λ (e : ℕ) (z : List ℕ). Kept image list (get_or all i []) e z (f (get_or all i []))) (sym (end_before i y)) (sym (parts_before i y)) (g.held i y)
        held_next i b (no y) =
            let e : p.count ≡ i = omega (arith, x.count_next) in
            subst (λ (q : ℕ). Kept image list (get_or all q []) (get_or ends' q 0) (parts_of ends' starts' kept' q) (f (get_or all q []))) e
            (subst (λ (w : Str). Kept image list w (get_or ends' p.count 0) (parts_of ends' starts' kept' p.count) (f w)) (sym name_is)
            (subst₂ (λ (o s : ℕ). Kept image list name o (take (parts_in o) (drop s kept')) (f name)) (sym end_here) (sym start_here) (x.goes.kept)))

        pub judged-next : JudgedTo words sets l r fit image list sheet k t₀ ends₀ starts₀ kept₀ t' ends' starts' kept' p'
        judged-next =
            let j = x.goes in
            let long = lengths-kept sizes in
            record {
              sized = long.0;
              ends-sized = long.1;
              starts-sized = long.2;
              kept-sized = long.3;
              at_in = omega (arith, x.at_next, whole);
              count-in = omega (arith, x.count_next, less);
              left_over = ap (λ (i : ℕ). drop i all) x.count_next ∙ (sym (drop-drop 1 p.count all) ∙ ap (drop 1) over_is);
              rest = g.rest ∙ (ap (first_refusal f) left_is ∙ ap (λ (y : Reply). unless y (first_refusal f (after p'))) (j.goes));
              tree = j.tree;
              strings = g.strings ++ hashed (table_words m name);
              holds = j.holds g.strings g.holds;
              same = g.same ∙ (ap (λ (ns : List Str). g.strings ++ hashed (sheet_words m ns)) left_is
                  ∙ (ap (λ (y : List Str). g.strings ++ y) (hashed_append (table_words m name) (sheet_words m (after p'))) ∙ sym (append_assoc g.strings (hashed (table_words m name)) (hashed (sheet_words m (after p'))))));
              few = omega (arith, g.few, j.few, name_room.0, x.at_next);
              few-each = omega (arith, g.few-each, j.few, name_room.1, x.count_next);
              done = g.done + right_steps (table_words m name);
              done-few = omega (arith, g.done-few, j.short, name_room.1, x.count_next);
              rights = omega (arith, g.rights, ap (λ (ns : List Str). right_steps (sheet_words m ns)) left_is ∙ rights_append (table_words m name) (sheet_words m (after p')));
              steps-are = omega (arith, g.steps-are, j.steps-are);
              kept-few = omega (arith, g.kept-few, j.kept-few, name_room.0, x.at_next, x.kept_next);
              kept-each = omega (arith, g.kept-each, j.kept-few, name_room.1, x.count_next, x.kept_next);
              placed = λ i b. placed_next i b (dec_le (suc i) p.count);
              held = λ i b. held_next i b (dec_le (suc i) p.count);
            }

  pub judged-end : k ≤ max_names → work_room sheet + frame_size ≤ length kept₀ → has_next sheet p.at p.count k ≡ false
      → SheetJudged words sets l r fit image list sheet k t₀ ends₀ starts₀ kept₀ t ends starts kept (Ok p)
  judged-end most room h =
      let none : after p ≡ [] = N.names-end sheet p.at p.count k h in
      let full : g.strings ≡ hashed (sheet_words m all) = sym (g.same ∙ (ap (λ (ns : List Str). g.strings ++ hashed (sheet_words m ns)) none ∙ append-nil g.strings)) in
      let count : p.nodes ≡ length (prefixes_of (sheet_words m all)) = g.holds.count ∙ ap (λ (s : List Str). length (states s)) full in
      let some = index_lt [] (prefixes_of (sheet_words m all)) (numbered_nil (hashed (sheet_words m all))) in
      let last : length (drop p.count all) ≡ 0 = ap length (g.left_over ∙ none) in
      record {
        sized = g.sized;
        ends-sized = g.ends-sized;
        starts-sized = g.starts-sized;
        kept-sized = g.kept-sized;
        goes = record {
          goes = g.rest ∙ ap (first_refusal f) none;
          steps-are = omega (arith, g.steps-are, g.rights, ap (λ (ns : List Str). right_steps (sheet_words m ns)) none);
          placed = λ i b. omega (arith, kept_within most, g.kept-sized, g.placed i (omega (arith, length-drop p.count all)));
          held = λ i b. g.held i (omega (arith, length-drop p.count all));
        };
        refused = tt;
      }
