-- What the calls on a lent list ask of the descent, and what they give.
-- Assumes nothing.
use mathlib.Core.Path.{◌≡◌, sym, ap, ap₂, ◌∙◌, subst}
use Prim.Native.Nat.{ℕ, ◌≤◌, ◌<◌}
use native.Mathlib.Omega.{arith}
use mathlib.Core.Bool.{true, false}
use mathlib.Core.List.{List, []}
use lib.ListN.{length, take}
use lib.Seq.{length-take-le}
use borrow.Author.Tests.{le-leb, lt-leb}
use Rattle.rules.specs.Memory.{over}
use Rattle.rules.specs.Refusals.{wrote, refused}
use Rattle.automaton.specs.Automaton.{Str, rows_of}
use Rattle.automaton.specs.Listing.{readout}
use Rattle.packing.specs.Packing.{unpack, StateAsks}
use Rattle.phone_strings.specs.Packed.{AllPacked}
use Rattle.exceptions.specs.Layout.{words_of, start_of}
use Rattle.exceptions.specs.Judging.{is_list}
use Rattle.exceptions.proofs.Decided.{list_long, list_facts}
use Rattle.exceptions.proofs.Sizes.{size_is, words_are}
use Rattle.readout.specs.Texts.{Wrote, TextAsks, TextGives}
use Rattle.readout.specs.ReadOut.{list_text, reading, read_out}
use Rattle.readout.proofs.Appending.{wrote_is, wrote_over}
use Rattle.readout.proofs.Longest.{list_state, longest_text}

-- ---- the descent from the start

module _ (list : List ℕ) (ok : is_list list ≡ true) where
  pub words_size : 35886 ≡ length (take 35886 list)
  words_size = let l = list_long list ok in let s = size_is in sym (length-take-le 35886 list (omega arith))

  module _ (n : ℕ) (e : n ≡ start_of (take 35886 list)) where
    start_text : readout unpack (rows_of (take 35886 list)) 64 n [] ≡ list_text list
    unfolding list_text
    start_text =
        ap₂ (λ (ws : List ℕ) (q : ℕ). readout unpack (rows_of ws) 64 q []) (words_are list) (e ∙ ap start_of (words_are list))

    pub start_asks : (path : Str) → length path ≡ 64 → TextAsks (take 35886 list) n n path 0 64 (readout unpack (rows_of (take 35886 list)) 64 n []) 0
    start_asks path l =
        let w = words_are list in
        let t : length (readout unpack (rows_of (take 35886 list)) 64 n []) ≡ length (list_text list) = ap length start_text in
        let b = longest_text list ok in
        record {
          state = subst (λ (q : ℕ). StateAsks (take 35886 list) q q) (sym e) (subst (λ (ws : List ℕ). StateAsks ws (start_of ws) (start_of ws)) (sym w) (list_state (words_of list) (list_facts list ok)));
          packed = subst (λ (q : ℕ). AllPacked (rows_of (take 35886 list)) q) (sym e) (subst (λ (ws : List ℕ). AllPacked (rows_of ws) (start_of ws)) (sym w) (list_facts list ok).phones);
          deep = omega arith;
          letters = omega arith;
          few = omega arith;
        }

    pub start_gives : (out out' : List ℕ) (r : ℕ) (path path' : Str) → TextGives (readout unpack (rows_of (take 35886 list)) 64 n []) 0 out out' r 0 path path' → Wrote (list_text list) 0 out out' r
    start_gives out out' r path path' g = wrote_is (readout unpack (rows_of (take 35886 list)) 64 n []) (list_text list) 0 out out' r start_text g.wrote

-- ---- the answers

module _ (list out : List ℕ) where
  pub read_none : is_list list ≡ false → reading (refused 17 0) out ≡ read_out list out
  unfolding read_out
  read_none e = rw e

  module _ (ok : is_list list ≡ true) (n : ℕ) (en : n ≡ length (list_text list)) where
    pub read_room : length out < n → reading (refused 15 n) out ≡ read_out list out
    unfolding read_out
    read_room h = rw (ok, ← en, lt-leb _ _ h)

    pub read_done : n ≤ length out → (out' : List ℕ) (r : ℕ) → Wrote (list_text list) 0 out out' r → reading (wrote n) out' ≡ read_out list out
    unfolding read_out
    read_done h out' r w =
        let z : out' ≡ over (list_text list) out = wrote_over (list_text list) out out' r w (omega arith) in
        let g : length (list_text list) ≤ length out = omega arith in
        rw (ok, le-leb _ _ g) (ap₂ (λ (k : ℕ) (y : List ℕ). reading (wrote k) y) en z)
