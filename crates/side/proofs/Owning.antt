-- Each place is put into the set of its pattern's own state.
-- Assumes nothing.
use mathlib.Core.Path.{◌≡◌, refl, sym, ap, ap₂, ◌∙◌}
use Prim.Native.Nat.{ℕ, zero, suc, ◌+◌, ◌*◌, ◌/◌, ◌%◌, ◌^◌, ◌<◌}
use native.Mathlib.Omega.{arith}
use native.Mathlib.Decide.{dec_le}
use native.Mathlib.Numerals.{add-one}
use mathlib.Core.Logic.{◌≢◌}
use mathlib.Core.Bool.{Bool, true, false, ◌&&◌, ◌||◌, or-false, and-false}
use mathlib.Core.List.{List, [], ◌∷◌, ◌++◌}
use lib.Dec.{eqb, eqb→eq, eqb-suc-suc, eqb-zero-suc, eqb-suc-zero}
use lib.Bits.{bit_or}
use lib.ListN.{length, get_or, take, length-take}
use lib.Seq.{take-suc}
use borrow.Author.Tests.{eqb-false, ne_eqb, eq-eqb}
use Rattle.rules.specs.Limits.{max_rules}
use Rattle.rules.proofs.Cases.{by_bool}
use Rattle.fitting.specs.Fitting.{Str, same}
use Rattle.tables.specs.States.{member, index, states}
use Rattle.tables.proofs.Truth.{true_eq}
use Rattle.tables.proofs.Suffix.{same_refl, same_eq}
use Rattle.tables.specs.Words.{pack, set_size}
use Rattle.tables.proofs.Numbering.{get_d_index, index_get_d, distinct_states}
use Rattle.tables.proofs.Sets.{pack_put}
use Rattle.side.specs.Wrote.{Wrote}
use Rattle.side.specs.Filled.{at_place, owns, word, Owned}
use Rattle.side.proofs.Levels.{word_ext, pack_ext}

at_snoc : (t : Str → Bool) (l : List Str) (x : Str) (p : ℕ) → at_place t (l ++ (x ∷ [])) p ≡ (at_place t l p || (eqb p (length l) && t x))
at_snoc t [] x zero = refl
at_snoc t [] x (suc p) = rw (eqb-suc-zero p)
at_snoc t (y ∷ l) x zero = rw (eqb-zero-suc (length l)) (sym (or-false (t y)))
at_snoc t (y ∷ l) x (suc p) = rw (eqb-suc-suc p (length l)) (at_snoc t l x p)

pack_none : (n : ℕ) → pack (λ _. false) n ≡ 0
unfolding pack
pack_none zero = refl
pack_none (suc n) = rw (pack_none n)

pub none_owned : (pats : List Str) (xs ys : List ℕ) → Wrote xs 0 (set_size * length (states pats)) (λ _. 0) ys → Owned pats 0 ys
none_owned pats xs ys w =
    record {
      words = λ q j h l.
          let e : 0 + (set_size * q + j) ≡ set_size * q + j = omega arith in
          ap (λ (k : ℕ). get_or ys k 0) (sym e) ∙ w.wrote (set_size * q + j) (omega arith) ∙ sym (pack_none 64);
    }

module _ (pats : List Str) (i : ℕ) (h : i < length pats) (s : Str) where
  abbrev p : Str
  p = get_or pats i []

  more : (k : ℕ) → owns (take (i + 1) pats) s k ≡ (owns (take i pats) s k || (eqb k i && same p s))
  more k =
      let e : take (i + 1) pats ≡ take i pats ++ (p ∷ []) = ap (λ (n : ℕ). take n pats) (add-one i) ∙ take-suc pats i [] h in
      let l : length (take i pats) ≡ i = simp length-take (omega arith) in
      ap (λ (x : List Str). owns x s k) e ∙ at_snoc (λ x. same x s) (take i pats) p k ∙ ap (λ (n : ℕ). owns (take i pats) s k || (eqb k n && same p s)) l

  -- nothing is put in
  stays : (j : ℕ) → ((b : ℕ) → b < 64 → (eqb (64 * j + b) i && same p s) ≡ false) → word (owns (take i pats) s) j ≡ word (owns (take (i + 1) pats) s) j
  stays j f = word_ext (owns (take i pats) s) (owns (take (i + 1) pats) s) j (λ b l. sym (more (64 * j + b) ∙ rw (f b l) (or-false (owns (take i pats) s (64 * j + b)))))

  put_in : same p s ≡ true → bit_or (word (owns (take i pats) s) (i / 64)) (2 ^ (i % 64)) ≡ word (owns (take (i + 1) pats) s) (i / 64)
  put_in t =
      sym (pack_put (λ b. owns (take i pats) s (64 * (i / 64) + b)) 64 (i % 64) (omega arith))
      ∙ word_at
    where
      test : (b : ℕ) → eqb b (i % 64) ≡ (eqb (64 * (i / 64) + b) i && same p s)
      test b =
          by_bool (eqb b (i % 64))
          (λ u. let e = eqb→eq b (i % 64) (true_eq (eqb b (i % 64)) u) in
          u ∙ sym (rw (t, eq-eqb (64 * (i / 64) + b) i (omega arith))))
          (λ u. u ∙ sym (rw (ne_eqb (64 * (i / 64) + b) i (λ e. eqb-false b (i % 64) u (omega arith)))))

      word_at : pack (λ b. owns (take i pats) s (64 * (i / 64) + b) || eqb b (i % 64)) 64 ≡ word (owns (take (i + 1) pats) s) (i / 64)
      word_at =
          pack_ext 64 _ _ (λ b l. ap (λ (x : Bool). owns (take i pats) s (64 * (i / 64) + b) || x) (test b) ∙ sym (more (64 * (i / 64) + b)))

untouched : (xs ys : List ℕ) (a k : ℕ) (g : ℕ → ℕ) → Wrote xs a 1 g ys → (k ≡ a → ⊥) → get_or ys k 0 ≡ get_or xs k 0
untouched xs ys a k g w d = go (dec_le (suc k) a)
  where
    go : Dec (k < a) → get_or ys k 0 ≡ get_or xs k 0
    go (yes y) = w.below k y
    go (no y) = w.above k (omega arith)

module _ (pats : List Str) (i : ℕ) (h : i < length pats) (q : ℕ) (xs ys : List ℕ) (own : Owned pats i xs) where
  abbrev st : List Str
  st = states pats

  pub put : member (get_or pats i []) st ≡ true → q ≡ index (get_or pats i []) st → Wrote xs (set_size * q + i / 64) 1 (λ _. bit_or (get_or xs (set_size * q + i / 64) 0) (2 ^ (i % 64))) ys → i < max_rules → Owned pats (i + 1) ys
  put m e w few = record { words = λ k j l n. at k j l n }
    where
      other : (k j : ℕ) → k < length st → j < set_size → (set_size * k + j ≡ set_size * q + i / 64 → ⊥) → ((b : ℕ) → b < 64 → (eqb (64 * j + b) i && same (get_or pats i []) (get_or st k [])) ≡ false)
          → get_or ys (set_size * k + j) 0 ≡ word (owns (take (i + 1) pats) (get_or st k [])) j
      other k j l n d f =
          untouched xs ys (set_size * q + i / 64) (set_size * k + j) _ w d ∙ own.words k j l n ∙ stays pats i h (get_or st k []) j f

      str : get_or st q [] ≡ get_or pats i []
      str = ap (λ (x : ℕ). get_or st x []) e ∙ get_d_index (get_or pats i []) st m

      at : (k j : ℕ) → k < length st → j < set_size → get_or ys (set_size * k + j) 0 ≡ word (owns (take (i + 1) pats) (get_or st k [])) j
      at k j l n =
          by_bool (eqb k q)
          (λ u.
          let a : k ≡ q = eqb→eq k q (true_eq (eqb k q) u) in
          by_bool (eqb j (i / 64))
          (λ v.
          let b : j ≡ i / 64 = eqb→eq j (i / 64) (true_eq (eqb j (i / 64)) v) in
          let c : set_size * k + j ≡ set_size * q + i / 64 + 0 = omega arith in
          let t : same (get_or pats i []) (get_or st q []) ≡ true = ap (same (get_or pats i [])) str ∙ same_refl (get_or pats i []) in
          ap (λ (x : ℕ). get_or ys x 0) c ∙ w.wrote 0 (omega arith)
          ∙ ap (λ (x : ℕ). bit_or x (2 ^ (i % 64))) (own.words q (i / 64) (omega arith) (omega arith))
          ∙ put_in pats i h (get_or st q []) t
          ∙ sym (ap₂ (λ (x y : ℕ). word (owns (take (i + 1) pats) (get_or st x [])) y) a b))
          (λ v. other k j l n (λ c. eqb-false j (i / 64) v (omega arith))
          (λ b m'. rw (ne_eqb (64 * j + b) i (λ c. eqb-false j (i / 64) v (omega arith))))))
          (λ u. other k j l n (λ c. eqb-false k q u (omega arith))
          (λ b m'. rw (differs k l (eqb-false k q u)) (and-false (eqb (64 * j + b) i))))
        where
          differs : (k : ℕ) → k < length st → k ≢ q → same (get_or pats i []) (get_or st k []) ≡ false
          differs k l d =
              by_bool (same (get_or pats i []) (get_or st k []))
              (λ t. absurd (d (sym (index_get_d st (distinct_states pats) k l) ∙ ap (λ (x : Str). index x st) (sym (same_eq (get_or pats i []) (get_or st k []) t)) ∙ sym e)))
              (λ t. t)
