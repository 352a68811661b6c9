-- The four words of a new node and the one of its parent, written one after the other.
-- Assumes nothing.
use mathlib.Core.Path.{◌≡◌, ◌∙◌}
use mathlib.Core.Logic.{◌≢◌}
use Prim.Native.Nat.{ℕ, ◌+◌, ◌*◌, ◌<◌}
use native.Mathlib.Omega.{arith}
use mathlib.Core.List.{List}
use lib.ListN.{length, get_or, set, length-set}
use lib.Seq.{get_or-set_same, get_or-set_other}
use Rattle.prefix_tree.specs.Tree.{node_size, Room, first_of, Added}

module _ (t : List ℕ) (q n c s : ℕ) (l : q < n) (room : Room t (n + 1)) where
  abbrev t₁ : List ℕ
  t₁ = set t (node_size * n) 0

  abbrev t₂ : List ℕ
  t₂ = set t₁ (node_size * n + 1) (first_of t q)

  abbrev t₃ : List ℕ
  t₃ = set t₂ (node_size * n + 2) c

  abbrev t₄ : List ℕ
  t₄ = set t₃ (node_size * n + 3) s

  abbrev t₅ : List ℕ
  t₅ = set t₄ (node_size * q) n

  len₁ : length t₁ ≡ length t
  len₁ = length-set t (node_size * n) 0

  len₂ : length t₂ ≡ length t
  len₂ = length-set t₁ (node_size * n + 1) (first_of t q) ∙ len₁

  len₃ : length t₃ ≡ length t
  len₃ = length-set t₂ (node_size * n + 2) c ∙ len₂

  len₄ : length t₄ ≡ length t
  len₄ = length-set t₃ (node_size * n + 3) s ∙ len₃

  in₅ : (x : ℕ) → x ≢ node_size * q → get_or t₅ x 0 ≡ get_or t₄ x 0
  in₅ x d = get_or-set_other t₄ (node_size * q) x n 0 d

  in₄ : (x : ℕ) → x ≢ node_size * n + 3 → get_or t₄ x 0 ≡ get_or t₃ x 0
  in₄ x d = get_or-set_other t₃ (node_size * n + 3) x s 0 d

  in₃ : (x : ℕ) → x ≢ node_size * n + 2 → get_or t₃ x 0 ≡ get_or t₂ x 0
  in₃ x d = get_or-set_other t₂ (node_size * n + 2) x c 0 d

  in₂ : (x : ℕ) → x ≢ node_size * n + 1 → get_or t₂ x 0 ≡ get_or t₁ x 0
  in₂ x d = get_or-set_other t₁ (node_size * n + 1) x (first_of t q) 0 d

  in₁ : (x : ℕ) → x ≢ node_size * n → get_or t₁ x 0 ≡ get_or t x 0
  in₁ x d = get_or-set_other t (node_size * n) x 0 0 d

  -- what lies before node n, but for the parent's first word
  before : (x : ℕ) → x < node_size * n → x ≢ node_size * q → get_or t₅ x 0 ≡ get_or t x 0
  before x h d = in₅ x d ∙ in₄ x (omega arith) ∙ in₃ x (omega arith) ∙ in₂ x (omega arith) ∙ in₁ x (omega arith)

  pub laid : Added t q n c s t₅
  laid =
      record {
        sized = length-set t₄ (node_size * q) n ∙ len₄;
        latest = record {
          parent = get_or-set_same t₄ (node_size * q) n 0 (omega (arith, len₄, room.words));
          firsts = λ k h d. before (node_size * k) (omega arith) (λ e. d (omega arith));
          childless = in₅ (node_size * n) (omega arith) ∙ in₄ (node_size * n) (omega arith) ∙ in₃ (node_size * n) (omega arith) ∙ in₂ (node_size * n) (omega arith)
              ∙ get_or-set_same t (node_size * n) 0 0 (omega (arith, room.words));
          before = in₅ (node_size * n + 1) (omega arith) ∙ in₄ (node_size * n + 1) (omega arith) ∙ in₃ (node_size * n + 1) (omega arith)
              ∙ get_or-set_same t₁ (node_size * n + 1) (first_of t q) 0 (omega (arith, len₁, room.words));
          nexts = λ k h. before (node_size * k + 1) (omega arith) (omega arith);
          under = in₅ (node_size * n + 2) (omega arith) ∙ in₄ (node_size * n + 2) (omega arith) ∙ get_or-set_same t₂ (node_size * n + 2) c 0 (omega (arith, len₂, room.words));
          keys = λ k h. before (node_size * k + 2) (omega arith) (omega arith);
        };
        state-is = in₅ (node_size * n + 3) (omega arith) ∙ get_or-set_same t₃ (node_size * n + 3) s 0 (omega (arith, len₃, room.words));
        states = λ k h. before (node_size * k + 3) (omega arith) (omega arith);
      }
