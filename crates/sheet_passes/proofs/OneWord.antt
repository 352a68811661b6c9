-- One word: said from the list, refused where the tables do not fit, or sent through both passes.
-- Assumes nothing.
use mathlib.Core.Path.{◌≡◌, refl, sym, ap, ◌∙◌, subst}
use Prim.Native.Nat.{ℕ, suc, ◌+◌, ◌-◌, ◌<◌}
use native.Mathlib.Omega.{arith}
use mathlib.Core.Bool.{Bool, true, false}
use mathlib.Core.List.{List, [], ◌∷◌, ◌++◌, append-nil}
use lib.ListN.{length, take, set}
use lib.Seq.{take-append_seam}
use Rattle.std.specs.Prelude.{Option, Some, None, IfSome}
use Rattle.exceptions.specs.Judging.{says_of}
use Rattle.fitting.specs.Fitting.{Str, frame}
use Rattle.fitting.proofs.Strings.{frame_long}
use Rattle.speech.specs.Words.{Word, word, unlisted}
use Rattle.speech.specs.Places.{frame_size, FoundFor}
use Rattle.tables.specs.Steps.{hashed, right_steps}
use Rattle.passes.specs.Passes.{left_rows_of, Memory, memory, Sized}
use Rattle.passes.proofs.WordsPassed as P
use Rattle.prefix_tree.specs.Sharing.{Holds, left_string}
use Rattle.prefix_tree.specs.declared.Counts.{Counts}
use Rattle.sheet_passes.specs.Passing.{pass_of, Grown, count_over, HoldsSome, FramePassed, WordShared}

if-some : (P Q : Counts → Type 0) (p : Option Counts) → ((s : Counts) → P s → Q s) → IfSome p P → IfSome p Q
if-some P Q None f x = tt
if-some P Q (Some s) f x = f s x

-- the left pass over the frame of a word reads # and the word
left-string : (w : Str) → left_string (frame w) ≡ 0 ∷ w
left-string w =
    let e : length (frame w) - 1 ≡ suc (length w) = omega (arith, frame_long w) in
    ap (λ (k : ℕ). take k (frame w)) e ∙ ap (λ (v : Str). 0 ∷ v) (take-append_seam w (0 ∷ []))

module _ (words : List ℕ) (l r : ℕ) (fit : Bool) (list : List ℕ) (w : Str) (b : ℕ) (found left right : List ℕ) {part : ℕ} (found-for : FoundFor list w part)
    (sized : Sized (memory found left right)) (inside : b < frame_size) (t : List ℕ) (n steps : ℕ) where
  abbrev found' : List ℕ
  found' = set found b part

  abbrev same : Memory
  same = memory found' left right

  abbrev these : List Word
  these = unlisted (says_of list) (word b w ∷ [])

  pub shared-listed : HoldsSome fit (left_rows_of words l) t n → 0 < part → WordShared words l r fit list w b (memory found left right) same t n steps t (Some (record { nodes = n; steps = steps }))
  shared-listed g h =
      let e : these ≡ [] = P.unlisted-out (says_of list) (word b w) [] (found-for.some h) in
      record {
        sized = refl;
        grown = record { tree = g.tree; steps-are = omega (arith, ap right_steps e); few = omega arith; more = omega arith };
        shares = λ ws o. record {
          taken = λ k. k;
          passed = λ k. P.word-listed words l r fit list w b k found left right part found-for sized inside h;
          holds = subst (λ (x : List Str). Holds (left_rows_of words l) x t n) (sym (ap (λ (v : List Word). ws ++ hashed v) e ∙ append-nil ws)) o;
        };
      }

  module _ (none : part ≡ 0) where
    pub shared-unfit : fit ≡ false → WordShared words l r fit list w b (memory found left right) same t n steps t None
    shared-unfit e =
        record {
          sized = refl;
          grown = tt;
          shares = λ ws o. record {
            taken = λ _. 0;
            passed = λ k. P.word-unfit words l r fit list w b k found left right part found-for sized inside none e;
            holds = tt;
          };
        }

    pub shared-passes : fit ≡ true → {f : Str} → f ≡ frame w → {left₁ right₁ left₂ right₂ left' right' : List ℕ} → left' ≡ take b left ++ left₂ → right' ≡ take b right ++ right₂
        → length left' ≡ length left → length right' ≡ length right → {t' : List ℕ} {p : Option Counts} → FramePassed words l r f t n steps left₁ right₁ t' left₂ right₂ p
        → WordShared words l r fit list w b (memory found left right) (memory found' left' right') t n steps t' p
    shared-passes e {f} is {left₁} {right₁} {left₂} {right₂} {left'} {right'} x y a c {t'} {p} q =
        let u : these ≡ word b w ∷ [] = P.unlisted-in (says_of list) (word b w) [] (found-for.none none) in
        let k : length f ≡ length w + 2 = ap length is ∙ frame_long w in
        record {
          sized = q.sized;
          grown = if-some (Grown true l (length f - 1) (length f - 1) n steps t') (Grown fit l (length w + 1) (right_steps these) n steps t') p
              (λ s g. record { tree = λ _. g.tree refl; steps-are = omega (arith, g.steps-are, ap right_steps u); few = omega (arith, g.few); more = g.more }) q.grown;
          shares = λ ws o. record {
            taken = count_over words l r f;
            passed = λ m. P.word-passes words l r fit list w b m found left right part found-for sized inside none e f is left₂ right₂ left' right' x y a c
                (pass_of p (count_over words l r f m)) ((q.shares ws o).both m);
            holds = subst (λ (z : List Str). IfSome p (λ s. Holds (left_rows_of words l) (ws ++ z) t' s.nodes))
                (ap (λ (s : Str). s ∷ []) (ap left_string is ∙ left-string w) ∙ sym (ap hashed u)) (q.shares ws o).holds;
          };
        }
