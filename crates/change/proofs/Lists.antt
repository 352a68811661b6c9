-- The words after a change are a list that says it, or what is said passes the limits; lists that say the same have as many states and names.
-- Assumes nothing.
use mathlib.Core.Path.{◌≡◌, refl, sym, ap, ◌∙◌, subst}
use Prim.Native.Nat.{ℕ, suc, ◌≤◌, ◌<◌}
use native.Mathlib.Omega.{arith}
use mathlib.Core.Bool.{Bool, true, false, cond}
use mathlib.Core.List.{List, [], ◌∷◌}
use lib.ListN.{length, take}
use borrow.Author.Tests.{eqb-true}
use lib.Dec.{eqb}
use Rattle.rules.specs.Limits.{max_name, max_listed, max_states}
use Rattle.automaton.specs.Automaton.{Str, rows_of, look, Letters, same, changed}
use Rattle.automaton.specs.Listing.{own, names}
use Rattle.automaton.proofs.Tests.{by_bool, clash}
use Rattle.automaton.proofs.Endings.{reached}
use Rattle.measures.specs.Measures.{Short}
use Rattle.states.specs.States.{Written}
use Rattle.packing.specs.Packing.{group_at, count, groups_of, unpack}
use Rattle.packing.proofs.Bytes.{groups-good, pack_within, packed_is}
use Rattle.minimality.proofs.Scan.{refuted}
use Rattle.exceptions.specs.Layout.{start_of, phones_for, names_in, states_in}
use Rattle.exceptions.specs.Judging.{IsList}
use Rattle.exceptions.proofs.States.{unpack_none}
use Rattle.change.specs.Change.{Automaton, Within}
use Rattle.change.specs.Steps.{GroupsAsk, after_groups, names_after, Built, Crowded, Rebuilt, PhonesAsk, Relisted}
use Rattle.change.proofs.Pigeonhole.{marked_all}
use Rattle.change.proofs.Fewest.{fewest}
use Rattle.change.proofs.Groups.{Canonical, unpack_some, groups_same, said_groups, changed_groups, changed_phones, all_packed}
use Rattle.change.proofs.NameCounts.{names_alike, names_same, own_alike, names_all}
use Rattle.change.proofs.Automata.{rows_automaton, automaton_ext, groups_automaton}

-- ---- lists that say the same

said : (ws : List ℕ) (w : Str) → phones_for ws w ≡ unpack (look (rows_of ws) (start_of ws) w)
unfolding phones_for
said ws w = refl

list_groups : (ws : List ℕ) → IsList ws → (w : Str) → Letters w → Canonical (look (rows_of ws) (start_of ws) w)
list_groups ws l = said_groups (rows_of ws) (start_of ws) l.sound l.phones

-- a list that says the phones of such groups says the groups
says_groups : (ws : List ℕ) → IsList ws → (M : Str → Str) → ((w : Str) → Letters w → Canonical (M w)) → ((w : Str) → Letters w → phones_for ws w ≡ unpack (M w))
    → (w : Str) → Letters w → look (rows_of ws) (start_of ws) w ≡ M w
says_groups ws l M c a w t = groups_same (look (rows_of ws) (start_of ws) w) (M w) (list_groups ws l w t) (c w t) (sym (said ws w) ∙ a w t)

-- a list has no more states than any automaton that says the same
pub smallest : (ws : List ℕ) → IsList ws → (k : ℕ) → Automaton (phones_for ws) k → states_in ws ≤ k
unfolding phones_for states_in
smallest ws l k a =
    let f = fewest (rows_of ws) (start_of ws) k l.sound (look (rows_of ws) (start_of ws)) (λ w t. refl)
    (groups_automaton (look (rows_of ws) (start_of ws)) (list_groups ws l) k a) (λ x. 1) (λ x p h o. reached (rows_of ws) (start_of ws) l.sound l.needed x p h) in
    let e = marked_all (suc (start_of ws)) in
    let b = a.first in
    let c = a.last in
    omega arith

list_automaton : (ws : List ℕ) → IsList ws → Automaton (phones_for ws) (states_in ws)
unfolding phones_for states_in
list_automaton ws l = rows_automaton (rows_of ws) (start_of ws) l.sound unpack unpack_none

module _ (ws ws' : List ℕ) (l : IsList ws) (l' : IsList ws') (a : (w : Str) → Letters w → phones_for ws w ≡ phones_for ws' w) where
  -- lists that say the same have as many names
  pub same_names : names_in ws ≡ names_in ws'
  unfolding names_in
  same_names =
      sym (names_all (rows_of ws) (start_of ws) l.sound l.letters)
      ∙ (ap length (names_same 64 (look (rows_of ws) (start_of ws)) (look (rows_of ws') (start_of ws'))
      (says_groups ws l (look (rows_of ws') (start_of ws')) (list_groups ws' l') (λ w t. a w t ∙ said ws' w)))
      ∙ names_all (rows_of ws') (start_of ws') l'.sound l'.letters)

  -- and as many states
  pub same_states : states_in ws ≡ states_in ws'
  same_states =
      let x = smallest ws l (states_in ws') (automaton_ext (phones_for ws') (phones_for ws) (λ w t. sym (a w t)) (states_in ws') (list_automaton ws' l')) in
      let y = smallest ws' l' (states_in ws) (automaton_ext (phones_for ws) (phones_for ws') a (states_in ws) (list_automaton ws l)) in
      omega arith

-- ---- a change

same_is : (w name : Str) → same w name ≡ true → w ≡ name
same_is [] [] e = refl
same_is [] (y ∷ name) e = clash e refl
same_is (x ∷ w) [] e = clash e refl
same_is (x ∷ w) (y ∷ name) e =
    by_bool (eqb x y)
    (λ q. let r : same w name ≡ true = rw q at e in let z = eqb-true x y q in let i = same_is w name r in cc)
    (λ q. clash e (rw q))

-- a name of at most 64 letters leaves the names so
changed_short : (name p : Str) (m : Str → Str) (w : Str) → length name ≤ 64 → ((m w ≡ [] → ⊥) → length w ≤ 64) → (changed name p m w ≡ [] → ⊥) → length w ≤ 64
changed_short name p m w h a ne =
    by_bool (same w name)
    (λ e. let z : length w ≡ length name = ap length (same_is w name e) in omega arith)
    (λ e. a (λ o. ne (ap (λ (b : Bool). cond b p (m w)) e ∙ o)))

-- a name of some letters leaves what is said of the empty one
changed_empty : (name p : Str) (m : Str → Str) → 0 < length name → changed name p m [] ≡ m []
changed_empty [] p m h = absurd (omega arith)
changed_empty (c ∷ name) p m h = refl

few_states : (ws : List ℕ) → start_of ws ≤ max_states → states_in ws ≤ max_states
unfolding states_in
few_states ws h = omega arith

module _ (ws : List ℕ) (name p : Str) (a : PhonesAsk ws name p) where
  pub groups_ask : GroupsAsk ws name (groups_of p)
  groups_ask = record { list = a.list; size = a.size; few = a.few; letters = a.letters; phones = groups-good p a.phones }

  after-groups : (w : Str) → Letters w → Canonical (after_groups ws name (groups_of p) w)
  after-groups = changed_groups name p (look (rows_of ws) (start_of ws)) a.phones (list_groups ws a.list)

  after_phones : (w : Str) → unpack (after_groups ws name (groups_of p) w) ≡ changed name p (phones_for ws) w
  unfolding phones_for
  after_phones w = changed_phones name p (look (rows_of ws) (start_of ws)) a.phones w

  module _ (ws' : List ℕ) (b : Built (after_groups ws name (groups_of p)) ws') where
    after_short : Short (rows_of ws') (start_of ws')
    after_short w t ne =
        changed_short name (groups_of p) (look (rows_of ws) (start_of ws)) w a.few (a.list.letters w t) (λ o. ne (b.says w t ∙ o))

    pub after_list : names_after ws name (groups_of p) ≤ max_listed → IsList ws'
    unfolding names_after names_in
    after_list h =
        let n = names_all (rows_of ws') (start_of ws') b.sound after_short in
        let e : length (names 64 (look (rows_of ws') (start_of ws'))) ≡ length (names 64 (after_groups ws name (groups_of p))) =
        ap length (names_same 64 (look (rows_of ws') (start_of ws')) (after_groups ws name (groups_of p)) b.says) in
        record {
          states = b.states;
          laid = b.laid;
          sound = b.sound;
          needed = b.needed;
          phones = all_packed (rows_of ws') (start_of ws') b.sound b.needed (λ w t. subst Canonical (sym (b.says w t)) (after-groups w t));
          names = omega arith;
          letters = after_short;
          lettered = b.says [] tt ∙ (changed_empty name (groups_of p) (look (rows_of ws) (start_of ws)) a.some ∙ a.list.lettered);
        }

    pub after_says : (w : Str) → Letters w → phones_for ws' w ≡ changed name p (phones_for ws) w
    after_says w t = said ws' w ∙ (ap unpack (b.says w t) ∙ after_phones w)

  -- ---- the limits

  own_after : (w : Str) → Letters w → own (changed name p (phones_for ws) w) ≡ own (after_groups ws name (groups_of p) w)
  own_after w t =
      let g = after_groups ws name (groups_of p) w in
      ap own (sym (after_phones w)) ∙ own_alike (unpack g) g (unpack_some g (after-groups w t)) (λ e. ap unpack e ∙ unpack_none)

  names-after : length (names max_name (changed name p (phones_for ws))) ≡ names_after ws name (groups_of p)
  unfolding names_after
  names-after = ap length (names_alike max_name (changed name p (phones_for ws)) (after_groups ws name (groups_of p)) own_after)

  too_many_names : (names_after ws name (groups_of p) ≤ max_listed → ⊥) → Within (changed name p (phones_for ws)) → ⊥
  too_many_names ne h = let e = names-after in let l = h.listed in ne (omega arith)

  too_many_states : Crowded (after_groups ws name (groups_of p)) → Within (changed name p (phones_for ws)) → ⊥
  too_many_states c h =
      c h.states h.few
      (groups_automaton (after_groups ws name (groups_of p)) after-groups h.states
      (automaton_ext (changed name p (phones_for ws)) (λ w. unpack (after_groups ws name (groups_of p) w)) (λ w t. sym (after_phones w)) h.states h.automaton))

  within : names_after ws name (groups_of p) ≤ max_listed → (ws' : List ℕ) → IsList ws' → ((w : Str) → Letters w → phones_for ws' w ≡ changed name p (phones_for ws) w)
      → Within (changed name p (phones_for ws))
  within h ws' l b =
      let e = names-after in
      let f = l.states in
      record {
        listed = omega arith;
        states = states_in ws';
        few = few_states ws' f;
        automaton = automaton_ext (phones_for ws') (changed name p (phones_for ws)) b (states_in ws') (list_automaton ws' l);
      }

  pub names_full : (names_after ws name (groups_of p) ≤ max_listed → ⊥) → Relisted ws name p ws false
  names_full ne =
      record { limits = refuted (Within (changed name p (phones_for ws))) (too_many_names ne); list = λ z. clash z refl; says = λ z. clash z refl; kept = λ z. refl }

  pub relisted : names_after ws name (groups_of p) ≤ max_listed → (ws' : List ℕ) (r : Bool) → Rebuilt ws name (groups_of p) ws' r → Relisted ws name p ws' r
  relisted h ws' r b =
      record {
        limits = record { yes = λ z. within h ws' (after_list ws' (b.done z) h) (after_says ws' (b.done z)); no = λ z. too_many_states (b.full z).0 };
        list = λ z. after_list ws' (b.done z) h;
        says = λ z. after_says ws' (b.done z);
        kept = λ z. (b.full z).1;
      }

  -- the groups as they are packed into k of the words that held m₀
  module _ (k : ℕ) (m₀ m : List ℕ) (room : 22 ≤ length m₀) (u : (k ≡ count p) × Written (group_at p) 0 k m₀ m) where
    pub packed_within : k ≤ length m
    packed_within = pack_within p k m₀ m a.phones.few room u

    packed : take k m ≡ groups_of p
    packed = packed_is p k m₀ m u.0 u.1 packed_within

    pub packed_ask : GroupsAsk ws name (take k m)
    packed_ask = subst (GroupsAsk ws name) (sym packed) groups_ask

    pub packed_listed : names_after ws name (groups_of p) ≤ max_listed → (ws' : List ℕ) (r : Bool) → Rebuilt ws name (take k m) ws' r → Relisted ws name p ws' r
    packed_listed h ws' r b = relisted h ws' r (subst (λ (g : Str). Rebuilt ws name g ws' r) packed b)
