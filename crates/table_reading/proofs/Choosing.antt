-- Reading by reached letters: what the place found at one gives, and the loop of reading (reading/proofs/Loop) with these choices.
-- Assumes nothing.
use Rattle.std.specs.Prelude.{Err, Ok}
use Prim.Native.Nat.{ℕ, zero, suc, ◌+◌, ◌-◌, ◌*◌, ◌≤◌, ◌<◌}
use native.Mathlib.Nat.{le_of_suc-le-suc, not-suc-le-zero}
use native.Mathlib.Decide.{dec_le}
use native.Mathlib.Omega.{arith}
use mathlib.Core.Path.{◌≡◌, refl, sym, ap, ap₂, ◌∙◌, subst}
use mathlib.Core.Bool.{Bool, true, false, cond}
use mathlib.Core.List.{List, [], ◌∷◌}
use mathlib.Core.Option.{Option as Maybe, none, some}
use lib.ListN.{length, get_or, set}
use Rattle.std.specs.Prelude.{Some, None, Result}
use Rattle.rules.proofs.Cases.{by_bool}
use Rattle.rules.specs.Limits.{max_target}
use Rattle.rules.specs.Shape.{Entry}
use Rattle.image.specs.State.{no_entry}
use Rattle.image.specs.Image.{valid, entry_at, count_of, total_of, literals_of, origins_of}
use Rattle.classes.specs.Ordinal.{origin}
use Rattle.image.proofs.Literals.{total_is}
use Rattle.literals.specs.Places.{literal_entry}
use Rattle.literals.proofs.Places.{literal_applied}
use Rattle.fitting.specs.Fitting.{Str, fits}
use Rattle.fitting.specs.Reading.{Application, apply, Choice, chosen, nothing, unusable, past, Targets}
use Rattle.speech.specs.Places.{part_of, apply_at, ReadBy}
use Rattle.speech.specs.declared.Unread.TheVariants.{Uncovered, BadTables}
use Rattle.reading.proofs.Expansion.{literals_targets}
use Rattle.reading.proofs.Loop.{Going, going_begin}
use Rattle.reading.proofs.Plain.{going_part, read_none, read_unusable, read_end}
use Rattle.tables.specs.Words.{set_size}
use Rattle.tables.specs.Walk.{lookup}
use Rattle.table_reading.specs.Letters.{found_of, lowest_shared, count_shared, choice_by, choices_by, choice_of, Chooses}
use Rattle.table_reading.specs.declared.Chosen.{Chosen}
use Rattle.table_reading.specs.declared.Unusable.{Unusable}

-- ---- the rule at the place found

pub found_none : (o : Maybe ℕ) → found_of o ≡ None → o ≡ none
found_none none e = refl
found_none (some p) e = let z : ◌≡◌ {A = ℕ} 0 1 = cc in absurd (omega arith)

pub found_some : (o : Maybe ℕ) (p : ℕ) → found_of o ≡ Some p → o ≡ some p
found_some none p e = let z : ◌≡◌ {A = ℕ} 0 1 = cc in absurd (omega arith)
found_some (some q) p e = let g : q ≡ p = cc in ap some g

lookup_past : (t : Entry → Bool) (n : ℕ) (rs : List Entry) (p : ℕ) → length rs ≤ p → lookup t n rs (some p) ≡ unusable
lookup_past t n [] p h = refl
lookup_past t n (r ∷ rs) zero h = absurd (not-suc-le-zero h)
lookup_past t n (r ∷ rs) (suc p) h = lookup_past t n rs p (le_of_suc-le-suc h)

lookup_in : (t : Entry → Bool) (n : ℕ) (rs : List Entry) (p : ℕ) → p < length rs → lookup t n rs (some p) ≡ cond (t (get_or rs p no_entry)) (chosen (apply n (get_or rs p no_entry))) unusable
lookup_in t n [] p h = absurd (not-suc-le-zero h)
lookup_in t n (r ∷ rs) zero h = refl
lookup_in t n (r ∷ rs) (suc p) h = lookup_in t n rs p (le_of_suc-le-suc h)

module _ (image ss : List ℕ) (s t : ℕ) (f : List ℕ) (i : ℕ) where
  pub none_shared : lowest_shared ss s t ≡ none → choice_by image ss s t f i ≡ nothing
  unfolding choice_by
  none_shared e = ap (lookup (λ r. fits r.rule f i) (count_shared ss s t) (literals_of image)) e

  module _ (ok : valid image ≡ true) (p : ℕ) (e : lowest_shared ss s t ≡ some p) where
    pub place_past : total_of image ≤ p → choice_by image ss s t f i ≡ unusable
    unfolding choice_by
    place_past h =
        ap (lookup (λ r. fits r.rule f i) (count_shared ss s t) (literals_of image)) e
        ∙ lookup_past (λ r. fits r.rule f i) (count_shared ss s t) (literals_of image) p (omega (arith, total_is image ok))

    module _ (h : p < total_of image) where
      place_in : choice_by image ss s t f i ≡ cond (fits (literal_entry image p).rule f i) (chosen (apply (count_shared ss s t) (literal_entry image p))) unusable
      unfolding choice_by
      place_in =
          ap (lookup (λ r. fits r.rule f i) (count_shared ss s t) (literals_of image)) e
          ∙ lookup_in (λ r. fits r.rule f i) (count_shared ss s t) (literals_of image) p (omega (arith, total_is image ok))

      pub place_unfit : fits (literal_entry image p).rule f i ≡ false → choice_by image ss s t f i ≡ unusable
      place_unfit q = place_in ∙ ap (λ (b : Bool). cond b (chosen (apply (count_shared ss s t) (literal_entry image p))) unusable) q

      -- the numbered rule at o is applied
      pub place_fits : fits (literal_entry image p).rule f i ≡ true → (o : ℕ) → o ≡ (get_or (origins_of image) p (origin 0 0)).place
          → choice_by image ss s t f i ≡ chosen (apply (count_shared ss s t) (entry_at image o))
      place_fits q o u =
          place_in ∙ (ap (λ (b : Bool). cond b (chosen (apply (count_shared ss s t) (literal_entry image p))) unusable) q
          ∙ ap chosen (literal_applied image ok p h o u (count_shared ss s t)))

-- ---- the loop of reading, `Going`, with these choices

-- reading goes on past the target of a rule that is looked up
lookup_past_target : (t : Entry → Bool) (n : ℕ) (rs : List Entry) → Targets rs → (o : Maybe ℕ) (i : ℕ) (a : Application) → lookup t n rs o ≡ chosen a → i < past i a
lookup_past_target t n rs h none i a e = let z : ◌≡◌ {A = ℕ} 0 1 = cc in absurd (omega arith)
lookup_past_target t n rs h (some p) i a e =
    go (dec_le (length rs) p)
  where
    on : (get_or rs p no_entry).rule.target ≡ a.target → p < length rs → i < past i a
    on q l = let g : 0 < length a.target = subst (λ (y : Str). 0 < length y) q (h p l) in omega arith

    go : Dec (length rs ≤ p) → i < past i a
    go (yes y) = let x : unusable ≡ chosen a = sym (lookup_past t n rs p y) ∙ e in let z : ◌≡◌ {A = ℕ} 0 1 = cc in absurd (omega arith)
    go (no y) =
        by_bool (t (get_or rs p no_entry))
        (λ b. let x : chosen (apply n (get_or rs p no_entry)) ≡ chosen a = sym (lookup_in t n rs p (omega arith) ∙ rw b) ∙ e in
        let q : (get_or rs p no_entry).rule.target ≡ a.target = cc in on q (omega arith))
        (λ b. let x : unusable ≡ chosen a = sym (lookup_in t n rs p (omega arith) ∙ rw b) ∙ e in let z : ◌≡◌ {A = ℕ} 0 1 = cc in absurd (omega arith))

module _ (image ss : List ℕ) (base : ℕ) (left right f : List ℕ) where
  abbrev choose : ℕ → Choice
  choose = choices_by image ss base left right f

  -- what is told by the sets of the two states remembered for i is the choice at i
  pub by_states : (i l r : ℕ) → l ≡ get_or left i 0 → r ≡ get_or right i 0 → (x : Result Chosen Unusable) → Chooses image (choice_by image ss (set_size * l) (base + set_size * r) f i) i x → choice_of image x ≡ choose i
  by_states i l r el er x c = c.is ∙ ap₂ (λ (y z : ℕ). choice_by image ss (set_size * y) (base + set_size * z) f i) el er

  -- the loop has `parts` and `count`, and stands at i
  abbrev pub Gone : List ℕ → ℕ → ℕ → Type 0
  Gone parts count i = Going choose (length f - 2) (apply_at image) (count_of image) parts count i

module _ (image ss : List ℕ) (base : ℕ) (left right f : List ℕ) (ok : valid image ≡ true) where
  abbrev made : ℕ → Choice
  made = choose image ss base left right f

  abbrev Read : List ℕ → ℕ → ℕ → Type 0
  Read = Gone image ss base left right f

  ahead : (i : ℕ) (a : Application) → made i ≡ chosen a → i < past i a
  unfolding choice_by
  ahead i a e = lookup_past_target (λ q. fits q.rule f i) _ (literals_of image) (literals_targets image ok) (lowest_shared ss (set_size * get_or left i 0) (base + set_size * get_or right i 0)) i a e

  pub begin : (parts : List ℕ) → length f - 2 ≤ length parts → Read parts 0 1
  begin = going_begin made (length f - 2) ahead (apply_at image) (count_of image)

  module _ (parts : List ℕ) (count i : ℕ) (g : Read parts count i) where
    module _ (h : i ≤ length f - 2) where
      pub next : (p n : ℕ) → made i ≡ chosen (apply n (entry_at image p)) → p < count_of image → (x : ℕ) → x ≡ part_of p n → (l : ℕ) → l ≡ length (entry_at image p).rule.target → 1 ≤ l → l ≤ max_target
          → Read (set parts count x) (count + 1) (i + l)
      next p n e u x is = going_part made (length f - 2) ahead image ok parts count i g h p n e u x is

      -- no rule is chosen
      pub unusable_here : made i ≡ unusable → ReadBy image made (length f - 2) parts (Err BadTables)
      unusable_here = read_unusable image made (length f - 2) ahead parts count i g h

      pub none_here : made i ≡ nothing → ReadBy image made (length f - 2) parts (Err (Uncovered i))
      none_here = read_none image made (length f - 2) ahead parts count i g h

    pub done : length f - 2 < i → ReadBy image made (length f - 2) parts (Ok count)
    done = read_end image made (length f - 2) ahead parts count i g
