-- One name more: its parts are laid after those of the names before, and it lies in the sheet after its length byte.
-- Assumes nothing.
use mathlib.Core.Path.{◌≡◌, refl, sym, ap, ◌∙◌, subst, subst₂}
use Prim.Native.Nat.{ℕ, ◌+◌, ◌-◌, ◌≤◌}
use native.Mathlib.Omega.{arith}
use mathlib.Core.Bool.{Bool}
use mathlib.Core.List.{List, ◌++◌}
use lib.ListN.{length, get_or, take, drop, set, length-set}
use lib.Seq.{drop_at, take-append-le, length-take-le}
use borrow.Rule.Slice.PartMut.{mid_of, post_of, put_mid, same_len_mid, mid_len, take_put}
use Rattle.std.specs.Prelude.{Result, Ok, Err, IfOk, IfErr}
use Rattle.rules.specs.Refusals.{reply_of}
use Rattle.rules.specs.declared.Refusal.{Refusal}
use Rattle.fitting.specs.Fitting.{Str}
use Rattle.speech.specs.Places.{frame_size}
use Rattle.many_names.specs.Names.{name_at}
use Rattle.sheet_name.specs.Judging.{parts_in, room_of, outcome_of, sheet_refusal, NameGoes, NameJudged}
use Rattle.sheet_name.proofs.Settling.{room_most}
use Rattle.sheet_name.specs.declared.Judgement.{Judgement}
use Rattle.sheet_judging.specs.Kept.{NextJudged}
use Rattle.sheet_judging.specs.declared.Judging.{Judging}

-- the first of a part that came back
put_here : (a k n : ℕ) (xs ys : List ℕ) → a ≤ length xs → n ≤ length ys → take n (drop a (put_mid a k xs ys)) ≡ take n ys
put_here a k n xs ys inside some =
    ap (take n) (drop_at (take a xs) (ys ++ post_of a k xs) a (length-take-le a xs inside)) ∙ take-append-le n ys (post_of a k xs) some

-- the name, as the code takes it from the sheet
pub name_here : (sheet : List ℕ) (at n : ℕ) → n ≡ get_or sheet at 0 → take (at + 1 + n - (at + 1)) (drop (at + 1) sheet) ≡ name_at sheet at
name_here sheet at n e =
    let w : at + 1 + n - (at + 1) ≡ get_or sheet at 0 = omega (arith, e) in
    ap (λ (y : ℕ). take y (drop (at + 1) sheet)) w

-- the place of its parts is as long as a frame
pub frame_here : (kept : List ℕ) (at : ℕ) → at + frame_size ≤ length kept → length (mid_of at (at + frame_size - at) kept) ≡ frame_size
frame_here kept at room = let e : at + frame_size - at ≡ frame_size = omega arith in mid_len at (at + frame_size) kept room ∙ e

module _ {words sets : List ℕ} {l r : ℕ} {fit : Bool} {image list t t' : List ℕ} {n : ℕ} (sheet parts : List ℕ) (p : Judging) (here : n ≡ get_or sheet p.at 0)
    {x : Result Judgement Refusal} (j : NameJudged words sets l r fit image list (take (p.at + 1 + n - (p.at + 1)) (drop (p.at + 1) sheet)) t p.nodes p.steps t' parts x)
    (kept : List ℕ) (long : length parts ≡ length (mid_of p.kept (p.kept + frame_size - p.kept) kept)) where
  abbrev kept' : List ℕ
  kept' = put_mid p.kept (p.kept + frame_size - p.kept) kept parts

  pub next_refused : (ends starts : List ℕ) (e : Refusal) → x ≡ Err e → NextJudged words sets l r fit image list sheet t ends starts kept p t' ends starts kept' (Err e)
  next_refused ends starts e is =
      record {
        sized = j.sized;
        ends-sized = refl;
        starts-sized = refl;
        kept-sized = same_len_mid p.kept (p.kept + frame_size - p.kept) kept parts long;
        taken = tt;
        refused = subst (λ (v : Str). sheet_refusal (outcome_of words sets l r image list v) ≡ reply_of (Err e)) (name_here sheet p.at n here)
            (subst (λ (y : Result Judgement Refusal). IfErr y (λ e. sheet_refusal (outcome_of words sets l r image list (take (p.at + 1 + n - (p.at + 1)) (drop (p.at + 1) sheet))) ≡ reply_of (Err e))) is j.refused);
      }

  module _ (y : Judgement) (is : x ≡ Ok y) (k : ℕ) (many : k ≡ parts_in y.end) where
    goes : NameGoes words sets l r fit image list (take (p.at + 1 + n - (p.at + 1)) (drop (p.at + 1) sheet)) t p.nodes p.steps t' (take (parts_in y.end) parts) y
    goes = subst (λ (z : Result Judgement Refusal). IfOk z (λ y. NameGoes words sets l r fit image list (take (p.at + 1 + n - (p.at + 1)) (drop (p.at + 1) sheet)) t p.nodes p.steps t' (take (parts_in y.end) parts) y)) is j.goes

    pub parts_few : k ≤ frame_size
    parts_few =
        let few : parts_in y.end ≤ room_of (name_at sheet p.at) = subst (λ (v : Str). parts_in y.end ≤ room_of v) (name_here sheet p.at n here) goes.kept-few in
        omega (arith, few, many, (room_most (name_at sheet p.at)).1)

    pub next_judged : (ends starts : List ℕ) → p.kept + frame_size ≤ length kept
        → NextJudged words sets l r fit image list sheet t ends starts kept p t' (set ends p.count y.end) (set starts p.count p.kept) kept'
        (Ok (record { at = p.at + 1 + n; count = p.count + 1; kept = p.kept + k; nodes = y.nodes; steps = y.steps }))
    next_judged ends starts room =
        let w : ℕ = p.kept + frame_size - p.kept in
        let inside : p.kept ≤ length kept = omega arith in
        let few : parts_in y.end ≤ length parts = omega (arith, parts_few, many, long ∙ frame_here kept p.kept room) in
        record {
          sized = j.sized;
          ends-sized = length-set ends p.count y.end;
          starts-sized = length-set starts p.count p.kept;
          kept-sized = same_len_mid p.kept w kept parts long;
          taken = record {
            end = y.end;
            at_next = ap (λ (y : ℕ). p.at + 1 + y) here;
            count_next = refl;
            kept_next = ap (λ (y : ℕ). p.kept + y) many;
            ends_now = refl;
            starts-now = refl;
            kept-before = take_put p.kept w kept parts inside;
            goes = subst₂ (λ (v : Str) (z : List ℕ). NameGoes words sets l r fit image list v t p.nodes p.steps t' z y) (name_here sheet p.at n here)
                (sym (put_here p.kept w (parts_in y.end) kept parts inside few)) goes;
          };
          refused = tt;
        }
