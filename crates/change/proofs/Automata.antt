-- Automata that say a map: the rows of a list are one; what is asked of the map alone holds of every map that says the same.
-- Assumes nothing.
use mathlib.Core.Path.{◌≡◌, refl, sym, ap, ◌∙◌}
use Prim.Native.Nat.{ℕ, zero, suc, max}
use native.Mathlib.Omega.{arith}
use mathlib.Core.List.{[]}
use lib.ListN.{length}
use Rattle.rules.specs.Limits.{max_name}
use Rattle.automaton.specs.Automaton.{Str, Rows, phones_at, look, Letters, Sound}
use Rattle.automaton.specs.Listing.{names}
use Rattle.automaton.proofs.NameLengths.{blank_says}
use Rattle.packing.specs.Packing.{unpack}
use Rattle.change.specs.Change.{Automaton, Within}
use Rattle.change.proofs.Groups.{Canonical, regroup, regroup_none, regrouped, look_end}
use Rattle.change.proofs.NameCounts.{names_same}

-- sound rows, whose groups u turns into phones; the blank row alone is the automaton of one state
pub rows_automaton : (f : Rows) (n : ℕ) → Sound f n → (u : Str → Str) → u [] ≡ [] → Automaton (λ w. u (look f n w)) (max 1 n)
rows_automaton f zero s u e =
    record {
      next = λ q c. 0;
      phones = λ q. [];
      start = 1;
      first = omega arith;
      last = omega arith;
      inside = λ q c h p l. omega arith;
      ended = λ c p l. refl;
      none = refl;
      says = λ w t. sym (ap u (blank_says f s.blank w t) ∙ e);
    }
rows_automaton f (suc n) s u e =
    record {
      next = f;
      phones = λ q. u (phones_at f q);
      start = suc n;
      first = omega arith;
      last = omega arith;
      inside = λ q c h p l. let x = s.earlier q c (omega arith) (omega arith) in omega arith;
      ended = λ c p l. s.blank c (omega arith);
      none = ap u (blank_says f s.blank [] tt) ∙ e;
      says = λ w t. ap u (sym (look_end f (suc n) w));
    }

-- ---- maps that say the same

module _ (m m' : Str → Str) (a : (w : Str) → Letters w → m w ≡ m' w) where
  pub automaton_ext : (k : ℕ) → Automaton m k → Automaton m' k
  automaton_ext k b =
      record {
        next = b.next;
        phones = b.phones;
        start = b.start;
        first = b.first;
        last = b.last;
        inside = b.inside;
        ended = b.ended;
        none = b.none;
        says = λ w t. b.says w t ∙ a w t;
      }

  pub within_ext : Within m → Within m'
  within_ext h =
      let e : length (names max_name m) ≡ length (names max_name m') = ap length (names_same max_name m m' a) in
      let l = h.listed in
      record { listed = omega arith; states = h.states; few = h.few; automaton = automaton_ext h.states h.automaton }

-- an automaton that says the phones of packed groups says the groups, with the groups of its phones
pub groups_automaton : (M : Str → Str) → ((w : Str) → Letters w → Canonical (M w)) → (k : ℕ) → Automaton (λ w. unpack (M w)) k → Automaton M k
groups_automaton M c k b =
    record {
      next = b.next;
      phones = λ q. regroup (b.phones q);
      start = b.start;
      first = b.first;
      last = b.last;
      inside = b.inside;
      ended = b.ended;
      none = ap regroup b.none ∙ regroup_none;
      says = λ w t. ap regroup (b.says w t) ∙ regrouped (M w) (c w t);
    }
