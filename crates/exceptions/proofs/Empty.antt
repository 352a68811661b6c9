-- The empty list is a list, and says nothing of any name.
-- Assumes nothing.
use mathlib.Core.Path.{◌≡◌, sym, ap, ap₂, ◌∙◌, subst}
use Prim.Native.Nat.{ℕ, suc, ◌+◌, ◌-◌, ◌/◌, ◌%◌, ◌≤◌, ◌<◌}
use native.Mathlib.Omega.{arith}
use mathlib.Core.Bool.{true, ◌&&◌}
use mathlib.Core.List.{List, []}
use lib.Dec.{eqb}
use lib.ListN.{length, get_or, set, length-set}
use lib.Seq.{length-take-le, get_or-take, get_or-set_same, get_or-set_other}
use borrow.Author.Tests.{le-leb, lt-leb, eqb-true}
use Rattle.rules.specs.Refusals.{accepted, declined}
use Rattle.rules.proofs.Cases.{and_l, and_r}
use Rattle.automaton.specs.Automaton.{Str, at, part, cells_of, rows_of, Sorted, Laid, phones_at, look, Letters, Sound}
use Rattle.automaton.specs.Totals.{total}
use Rattle.automaton.proofs.Totals.{total_blank}
use Rattle.automaton.proofs.NameLengths.{blank_says}
use Rattle.packing.specs.Packing.{digit, byte_of, unpack, byte_at}
use Rattle.packing.proofs.Bytes.{digit_none}
use Rattle.exceptions.specs.Layout.{list_size, startWord, words_of, start_of, phones_for, names_in}
use Rattle.exceptions.specs.Judging.{IsList, blank, is_list, Says}
use Rattle.exceptions.specs.Calls.{emptying, emptied}
use Rattle.exceptions.proofs.Sizes.{size_is, start_is}
use Rattle.exceptions.proofs.Decided.{facts_list}

-- ---- what is made

pub short_refused : (list : List ℕ) → length list < 35886 → emptying (declined 17 0) list ≡ emptied list
unfolding emptied
short_refused list h = rw (lt-leb list_size (length list) (omega (arith, size_is)))

pub emptied_is : (list : List ℕ) → 35886 ≤ length list → emptying accepted (set (set (set list 0 4200) 1 4200) 4199 0) ≡ emptied list
unfolding emptied startWord
emptied_is list h = rw (le-leb list_size (length list) (omega (arith, size_is)))

-- ---- words whose start is state 0, which has no cells

record Blank (ws : List ℕ) : Type 0 where
  long : 4200 ≤ length ws
  first : get_or ws 0 0 ≡ 4200
  end : get_or ws 1 0 ≡ 4200
  start : start_of ws ≡ 0

module _ (ws : List ℕ) (b : Blank ws) where
  no_cells : cells_of ws 0 ≡ []
  unfolding cells_of
  no_cells = ap₂ (λ (a e : ℕ). part ws a (e - a)) b.first b.end

  row_blank : (k : ℕ) → rows_of ws 0 k ≡ 0
  unfolding rows_of
  row_blank k = ap (λ (l : List ℕ). at l k) no_cells

  blank_laid : Laid ws 0
  blank_laid =
      let f = b.first in
      let e = b.end in
      let l = b.long in
      record {
        few = omega arith;
        start = f;
        ends = λ q h. let z : q ≡ 0 = omega arith in subst (λ (x : ℕ). get_or ws x 0 ≤ get_or ws (suc x) 0) (sym z) (let y : get_or ws 0 0 ≤ get_or ws 1 0 = omega arith in y);
        inside = omega arith;
        sorted = λ q h. let z : q ≡ 0 = omega arith in subst (λ (x : ℕ). Sorted 1 (cells_of ws x)) (sym z) (subst (Sorted 1) (sym no_cells) tt);
      }

  row_to : (q k : ℕ) → q ≤ 0 → rows_of ws q k ≡ 0
  row_to q k h = let z : q ≡ 0 = omega arith in ap (λ (x : ℕ). rows_of ws x k) z ∙ row_blank k

  blank_sound : Sound (rows_of ws) 0
  blank_sound =
      record {
        blank = λ k l. row_blank k;
        unused = λ q h. row_to q 0 h;
        earlier = λ q c h l. let e = row_to q c h in omega arith;
        padded = λ q h k l z. row_to q (64 + suc k) h;
        bytes = λ q k h l. let e = row_to q (64 + k) h in omega arith;
        apart = λ i j h g e. omega arith;
      }

  byte_blank : (q k : ℕ) → q ≤ 0 → byte_at (rows_of ws) q k ≡ 0
  unfolding byte_at
  byte_blank q k h = ap (digit (k % 3)) (row_to q (64 + k / 3) h) ∙ digit_none (k % 3)

  says_nothing : (w : Str) → Letters w → look (rows_of ws) 0 w ≡ []
  says_nothing w t = blank_says (rows_of ws) (λ k l. row_blank k) w t

  no_names : names_in ws ≡ 0
  unfolding names_in
  no_names = ap (total (rows_of ws)) b.start ∙ total_blank (rows_of ws) 0 blank_sound

  blank_list : IsList ws
  blank_list =
      let e = b.start in
      let c = no_names in
      record {
        states = omega arith;
        laid = subst (λ (x : ℕ). Laid ws x) (sym e) blank_laid;
        sound = subst (λ (x : ℕ). Sound (rows_of ws) x) (sym e) blank_sound;
        needed = λ q z l. absurd (omega arith);
        phones = λ q h. record { padded = λ k l z. byte_blank q (suc k) (omega arith); short = byte_blank q 64 (omega arith) };
        names = omega arith;
        letters = λ w t ne. absurd (ne (ap (λ (x : ℕ). look (rows_of ws) x w) e ∙ says_nothing w t));
        lettered = ap (phones_at (rows_of ws)) e ∙ says_nothing [] tt;
      }

  blank_phones : (w : Str) → Letters w → phones_for ws w ≡ []
  unfolding phones_for unpack byte_of
  blank_phones w t = ap (λ (x : ℕ). unpack (look (rows_of ws) x w)) b.start ∙ ap unpack (says_nothing w t)

-- the test of such words
pub blank_found : (ws : List ℕ) → list_size ≤ length ws → blank ws ≡ true → IsList ws
unfolding blank
blank_found ws h e =
    let s = eqb (start_of ws) 0 in
    let a = eqb (get_or ws 0 0) 4200 in
    let b = eqb (get_or ws 1 0) 4200 in
    let r = and_r s (a && b) e in
    blank_list ws
    (record {
      long = omega (arith, size_is);
      first = eqb-true (get_or ws 0 0) 4200 (and_l a b r);
      end = eqb-true (get_or ws 1 0) 4200 (and_r a b r);
      start = eqb-true (start_of ws) 0 (and_l s (a && b) e);
    })

-- ---- the empty list

module _ (list : List ℕ) (h : list_size ≤ length list) where
  made : List ℕ
  made = set (set (set list 0 4200) 1 4200) 4199 0

  made_is : made ≡ (emptied list).list
  unfolding made
  made_is = ap (λ e. e.list) (emptied_is list (omega (arith, size_is)))

  made_long : length made ≡ length list
  unfolding made
  made_long = simp length-set

  word_kept : (i : ℕ) → i < 4200 → get_or (words_of made) i 0 ≡ get_or made i 0
  word_kept i l = get_or-take list_size made i 0 (omega (arith, size_is))

  made_blank : Blank (words_of made)
  unfolding made
  made_blank =
      let n = made_long in
      let s = size_is in
      let l = length-take-le list_size made (omega arith) in
      let u = length-set list 0 4200 in
      let v = length-set (set list 0 4200) 1 4200 in
      record {
        long = omega arith;
        first = word_kept 0 (omega arith) ∙ (get_or-set_other (set (set list 0 4200) 1 4200) 4199 0 0 0 (omega arith)
            ∙ (get_or-set_other (set list 0 4200) 1 0 4200 0 (omega arith) ∙ get_or-set_same list 0 4200 0 (omega arith)));
        end = word_kept 1 (omega arith) ∙ (get_or-set_other (set (set list 0 4200) 1 4200) 4199 1 0 0 (omega arith) ∙ get_or-set_same (set list 0 4200) 1 4200 0 (omega arith));
        start = sym (start_is (words_of made)) ∙ (word_kept 4199 (omega arith) ∙ get_or-set_same (set (set list 0 4200) 1 4200) 4199 0 0 (omega arith));
      }

  pub empty_list : is_list (emptied list).list ≡ true
  empty_list =
      let n = made_long in
      subst (λ (l : List ℕ). is_list l ≡ true) made_is (facts_list made (omega arith) (blank_list (words_of made) made_blank))

  pub empty_says : Says (emptied list).list (λ w. [])
  empty_says w t = ap (λ (l : List ℕ). phones_for (words_of l) w) (sym made_is) ∙ blank_phones (words_of made) made_blank w t
