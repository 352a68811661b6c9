-- The words of a name in turn: the loop's invariant, what one word does to it, and what it comes to.
-- Assumes nothing.
use mathlib.Core.Path.{◌≡◌, refl, sym, ap, ◌∙◌, subst}
use Prim.Native.Nat.{ℕ, suc, ◌+◌, ◌*◌, ◌≤◌, ◌<◌}
use native.Mathlib.Omega.{arith}
use mathlib.Core.Bool.{Bool, true}
use mathlib.Core.List.{List, [], ◌∷◌, ◌++◌, append-nil, append_assoc}
use lib.ListN.{length}
use Rattle.rules.specs.Names.{SoundName}
use Rattle.std.specs.Prelude.{Some, None}
use Rattle.exceptions.specs.Judging.{says_of}
use Rattle.fitting.specs.Fitting.{Str}
use Rattle.speech.specs.Words.{Word, word, words_in, unless, unlisted, word_at, end_at, words_from, WordOf}
use Rattle.speech.specs.Places.{frame_size}
use Rattle.reading.proofs.NameWords.{words_begin, words_step, words_past, word_long}
use Rattle.tables.specs.Steps.{hashed, right_steps}
use Rattle.passes.specs.Passes.{max_steps, left_rows_of, Memory, Sized}
use Rattle.passes.proofs.WordsPassed as P
use Rattle.prefix_tree.specs.Tree.{Room, Tree}
use Rattle.prefix_tree.specs.Sharing.{Holds}
use Rattle.prefix_tree.specs.declared.Counts.{Counts}
use Rattle.sheet_passes.specs.Passing.{HoldsSome, WordShared, NameShared}

-- ---- words one after another

unlisted_first : (m : Str → Str) (v : Word) (vs : List Word) → unlisted m (v ∷ vs) ≡ unlisted m (v ∷ []) ++ unlisted m vs
unlisted_first m v vs = by (m v.letters)
  where
    by : (p : Str) → unless p (v ∷ unlisted m vs) (unlisted m vs) ≡ unless p (v ∷ []) [] ++ unlisted m vs
    by [] = refl
    by (x ∷ p) = refl

pub hashed_append : (a b : List Word) → hashed (a ++ b) ≡ hashed a ++ hashed b
hashed_append [] b = refl
hashed_append (v ∷ a) b = ap (λ (l : List Str). (0 ∷ v.letters) ∷ l) (hashed_append a b)

pub rights_append : (a b : List Word) → right_steps (a ++ b) ≡ right_steps a + right_steps b
rights_append [] b = omega arith
rights_append (v ∷ a) b = omega (arith, rights_append a b)

one_few : (m : Str → Str) (v : Word) → right_steps (unlisted m (v ∷ [])) ≤ length v.letters + 1
one_few m v = by (m v.letters)
  where
    by : (p : Str) → right_steps (unless p (v ∷ []) []) ≤ length v.letters + 1
    by [] = omega arith
    by (x ∷ p) = omega arith

-- ---- the loop

-- the words that pass, of a name and of what it has from b on
abbrev passing : List ℕ → Str → List Word
passing list name = unlisted (says_of list) (words_in name)

abbrev passing_from : List ℕ → Str → ℕ → List Word
passing_from list name b = unlisted (says_of list) (words_from name b)

module _ (words : List ℕ) (l r : ℕ) (fit : Bool) (list : List ℕ) (name : Str) where
  -- for the strings ws that the tree held before
  pub record Together (ws : List Str) (m : Memory) (t : List ℕ) (p : Counts) (b : ℕ) : Type 0 where
    pub strings : List Str
    pub holds : Holds (left_rows_of words l) strings t p.nodes
    pub same : ws ++ hashed (passing list name) ≡ strings ++ hashed (passing_from list name b)
    pub taken : ℕ
    pub passed : P.PassedTo words l r fit list name m taken b

  pub record SharedTo (t₀ : List ℕ) (n₀ steps₀ : ℕ) (m : Memory) (t : List ℕ) (p : Counts) (b : ℕ) : Type 0 where
    pub sized : length t ≡ length t₀
    pub tree : fit ≡ true → Tree t p.nodes l
    pub few : p.nodes ≤ n₀ + b
    pub more : n₀ ≤ p.nodes
    pub done : ℕ
    pub done-few : done ≤ b
    pub rights : right_steps (passing list name) ≡ done + right_steps (passing_from list name b)
    pub steps-are : p.steps + n₀ ≡ steps₀ + p.nodes + done
    pub shares : (ws : List Str) → Holds (left_rows_of words l) ws t₀ n₀ → Together ws m t p b

  pub shared-begin : (t : List ℕ) (n steps : ℕ) (m : Memory) → Sized m → HoldsSome fit (left_rows_of words l) t n → SharedTo t n steps m t (record { nodes = n; steps = steps }) 0
  shared-begin t n steps m s g =
      record {
        sized = refl;
        tree = g.tree;
        few = omega arith;
        more = omega arith;
        done = 0;
        done-few = omega arith;
        rights = ap (λ (vs : List Word). right_steps (unlisted (says_of list) vs)) (sym (words_begin name)) ∙ omega arith;
        steps-are = omega arith;
        shares = λ ws h. record {
          strings = ws;
          holds = h;
          same = ap (λ (vs : List Word). ws ++ hashed (unlisted (says_of list) vs)) (sym (words_begin name));
          taken = 0;
          passed = P.passed-begin words l r fit list name m s;
        };
      }

module _ {words : List ℕ} {l r : ℕ} {fit : Bool} {list : List ℕ} {name : Str} {t₀ : List ℕ} {n₀ steps₀ : ℕ} {m : Memory} {t : List ℕ} {p : Counts} {b : ℕ}
    (s : SharedTo words l r fit list name t₀ n₀ steps₀ m t p b) (sound : SoundName name) (g₀ : HoldsSome fit (left_rows_of words l) t₀ n₀) where
  here : Together words l r fit list name g₀.strings m t p b
  here = s.shares g₀.strings g₀.holds

  pub holds-here : HoldsSome fit (left_rows_of words l) t p.nodes
  holds-here = record { strings = here.strings; tree = s.tree; holds = here.holds }

  pub sized-here : Sized m
  sized-here = here.passed.sized

  pub near : b ≤ suc (length name)
  near = here.passed.near

  pub steps-few : steps₀ + 4 * frame_size ≤ max_steps → p.steps + 2 * frame_size ≤ max_steps
  steps-few h = omega (arith, s.steps-are, s.few, s.done-few, near, sound.short)

  pub name-end : length name < b → NameShared words l r fit list name m t₀ n₀ steps₀ t (Some p)
  name-end h =
      let none : passing_from list name b ≡ [] = ap (unlisted (says_of list)) (words_past name b h) in
      record {
        sized = s.sized;
        grown = record { tree = s.tree; steps-are = omega (arith, s.steps-are, s.rights, ap right_steps none); few = omega (arith, s.few, near); more = s.more };
        short = omega (arith, s.rights, s.done-few, near, ap right_steps none);
        shares = λ ws o. let k = s.shares ws o in record {
          taken = k.taken;
          passed = P.passed-end words l r fit list name sound m k.taken b k.passed h;
          holds = subst (λ (x : List Str). Holds (left_rows_of words l) x t p.nodes) (sym (k.same ∙ ap (λ (vs : List Word). k.strings ++ hashed vs) none ∙ append-nil k.strings)) k.holds;
        };
      }

  module _ (h : b ≤ length name) {e : ℕ} (is : e ≡ end_at name b) where
    abbrev w : Str
    w = word_at name b

    abbrev this : List Word
    this = unlisted (says_of list) (word b w ∷ [])

    pub word-here : WordOf name b e
    word-here = P.passed-word words l r fit list name sound m here.taken b here.passed h e is

    pub room-here : Room t₀ (n₀ + (length name + 1)) → Room t (p.nodes + (length w + 1))
    room-here o =
        let x = word_long name b h in
        record { few = omega (arith, s.few, o.few); words = omega (arith, s.few, s.sized, o.words) }

    split_over : passing_from list name b ≡ this ++ passing_from list name e
    split_over =
        ap (unlisted (says_of list)) (words_step name b h ∙ ap (λ (x : ℕ). word b w ∷ words_from name x) (sym is))
        ∙ unlisted_first (says_of list) (word b w) (words_from name e)

    pub name-bad : {m' : Memory} {t' : List ℕ} → WordShared words l r fit list w b m m' t p.nodes p.steps t' None → NameShared words l r fit list name m' t₀ n₀ steps₀ t' None
    name-bad {m'} {t'} o =
        record {
          sized = o.sized ∙ s.sized;
          grown = tt;
          short = tt;
          shares = λ ws q. let k = s.shares ws q in let x = o.shares k.strings k.holds in record {
            taken = x.taken k.taken;
            passed = P.passed-bad words l r fit list name sound m k.taken b k.passed h e is m' None (x.passed k.taken) refl;
            holds = tt;
          };
        }

    pub name-next : {m' : Memory} {t' : List ℕ} {p' : Counts} → WordShared words l r fit list w b m m' t p.nodes p.steps t' (Some p') → SharedTo words l r fit list name t₀ n₀ steps₀ m' t' p' e
    name-next {m'} {t'} {p'} o =
        record {
          sized = o.sized ∙ s.sized;
          tree = o.grown.tree;
          few = omega (arith, o.grown.few, s.few);
          more = omega (arith, o.grown.more, s.more);
          done = s.done + right_steps this;
          done-few = omega (arith, s.done-few, one_few (says_of list) (word b w));
          rights = omega (arith, s.rights, ap right_steps split_over ∙ rights_append this (passing_from list name e));
          steps-are = omega (arith, s.steps-are, o.grown.steps-are);
          shares = λ ws q. let k = s.shares ws q in let x = o.shares k.strings k.holds in record {
            strings = k.strings ++ hashed this;
            holds = x.holds;
            same = k.same ∙ (ap (λ (vs : List Word). k.strings ++ hashed vs) split_over ∙ (ap (λ (y : List Str). k.strings ++ y) (hashed_append this (passing_from list name e))
                ∙ sym (append_assoc k.strings (hashed this) (hashed (passing_from list name e)))));
            taken = x.taken k.taken;
            passed = P.passed-next words l r fit list name sound m k.taken b k.passed h e is m' (Some (x.taken k.taken)) (x.passed k.taken) refl;
          };
        }
