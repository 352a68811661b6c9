-- What the functions that judge and count a list find, and that it is what `is_list`, `name_count` and `state_count` say.
-- Assumes nothing.
use mathlib.Core.Path.{◌≡◌, refl, sym, ap, ◌∙◌, subst}
use Prim.Native.Nat.{ℕ, suc, ◌+◌, ◌≤◌, ◌<◌, min, max}
use native.Mathlib.Nat.{not-suc-le-zero}
use native.Mathlib.Omega.{arith}
use mathlib.Core.Bool.{Bool, true, false, cond, not, ◌&&◌}
use mathlib.Core.List.{List, [], ◌∷◌}
use lib.Dec.{eqb, leb}
use lib.ListN.{length, take}
use lib.Seq.{length-take-le, get_or-take}
use borrow.Author.Tests.{leb-true, leb-false, le-leb, lt-leb}
use Rattle.rules.specs.Limits.{max_listed, max_states}
use Rattle.automaton.specs.Automaton.{Rows, rows_of, unless_zero, up_to, phones_at, Laid, look, Sound, Needed}
use Rattle.automaton.specs.Totals.{total}
use Rattle.automaton.proofs.Tests.{by_nat, clash}
use Rattle.automaton.proofs.NameLengths.{blank_says}
use Rattle.minimality.specs.Judging.{Decides, Listed, ListAsks}
use Rattle.minimality.proofs.Scan.{decided, refuted}
use Rattle.measures.specs.Measures.{CountAsks, Short, Depth, DeepAsks}
use Rattle.measures.proofs.Deep.{short_yes, short_no}
use Rattle.phone_strings.specs.Packed.{AllPacked}
use Rattle.exceptions.specs.Layout.{list_size, startWord, words_of, start_of, names_in, states_in}
use Rattle.exceptions.specs.Judging.{IsList, listed, is_list, JudgeAsks, NamesAsk}
use Rattle.exceptions.specs.Calls.{name_count, state_count}
use Rattle.exceptions.proofs.Sizes.{size_is, start_word}
use Rattle.exceptions.proofs.Deciding.{affirmed, decides_same, decides_eq, decides_le}
use Rattle.exceptions.proofs.Decided.{listed_decides, list_long}

-- ---- the clauses of names

-- a count that is capped just above the limit
pub few_found : (k t r : ℕ) → r ≡ min (suc k) t → Decides (t ≤ k) (leb r k)
few_found k t r e = decided (r ≤ k) (t ≤ k) (leb r k) (λ h. omega arith) (λ h. omega arith) (decides_le r k)

-- the empty list has no name
pub none_short : (f : Rows) (n : ℕ) → Sound f n → n ≡ 0 → Decides (Short f n) true
none_short f n s e = affirmed (Short f n) (λ w t ne. absurd (ne (ap (λ (q : ℕ). look f q w) e ∙ blank_says f s.blank w t)))

pub short_found : (f : Rows) (n r : ℕ) → Depth f n r → (n ≡ 0 → ⊥) → Decides (Short f n) (leb r 64)
short_found f n r d nz =
    record { yes = λ e. short_yes f n r d (leb-true r 64 e); no = λ e. short_no f n r d (leb-false r 64 e) (omega arith) }

pub lettered_found : (f : Rows) (q v : ℕ) → v ≡ f q 64 → Decides (phones_at f q ≡ []) (eqb v 0)
unfolding phones_at
lettered_found f q v e =
    decided (v ≡ 0) (phones_at f q ≡ []) (eqb v 0)
    (λ z. ap (λ (x : ℕ). unless_zero x (up_to 21 (λ k. f q (64 + suc k)))) (sym e ∙ z))
    (λ p. by_nat v (λ z. z) (λ y s. absurd (some_not_none y (up_to 21 (λ k. f q (64 + suc k))) (sym (ap (λ (x : ℕ). unless_zero x (up_to 21 (λ k. f q (64 + suc k)))) (sym e ∙ s)) ∙ p))))
    (decides_eq v 0)
  where
    some_not_none : (x : ℕ) (l : List ℕ) → suc x ∷ l ≡ [] → ⊥
    some_not_none x l e = let z : ◌≡◌ {A = ℕ} 0 1 = cc in omega arith

-- ---- the names of an automaton

module _ (ws : List ℕ) (n : ℕ) (marks : List ℕ) (a : NamesAsk ws n marks) where
  -- the clauses are said of the start
  at_start : (P : ℕ → Type 0) → P n → P (start_of ws)
  at_start P p = subst P a.start p

  at_n : (P : ℕ → Type 0) → P (start_of ws) → P n
  at_n P p = subst P (sym a.start) p

  pub phones_fail : (AllPacked (rows_of ws) n → ⊥) → Decides (IsList ws) false
  phones_fail x = refuted (IsList ws) (λ l. x (at_n (AllPacked (rows_of ws)) l.phones))

  pub count_fails : (total (rows_of ws) n ≤ max_listed → ⊥) → Decides (IsList ws) false
  unfolding names_in
  count_fails x = refuted (IsList ws) (λ l. x (at_n (λ q. total (rows_of ws) q ≤ max_listed) l.names))

  pub short_fails : (Short (rows_of ws) n → ⊥) → Decides (IsList ws) false
  short_fails x = refuted (IsList ws) (λ l. x (at_n (Short (rows_of ws)) l.letters))

  pub names_decided : (r : Bool) → AllPacked (rows_of ws) n → total (rows_of ws) n ≤ max_listed → Short (rows_of ws) n → Decides (phones_at (rows_of ws) n ≡ []) r → Decides (IsList ws) r
  unfolding names_in
  names_decided r p c s d =
      decided (phones_at (rows_of ws) n ≡ []) (IsList ws) r
      (λ e. record {
        states = at_start (λ q. q ≤ max_states) a.states;
        laid = at_start (Laid ws) a.automaton.laid;
        sound = at_start (Sound (rows_of ws)) a.automaton.sound;
        needed = at_start (Needed (rows_of ws)) a.automaton.needed;
        phones = at_start (AllPacked (rows_of ws)) p;
        names = at_start (λ q. total (rows_of ws) q ≤ max_listed) c;
        letters = at_start (Short (rows_of ws)) s;
        lettered = at_start (λ q. phones_at (rows_of ws) q ≡ []) e;
      })
      (λ l. at_n (λ q. phones_at (rows_of ws) q ≡ []) l.lettered) d

  -- what measuring them asks, in scratch that has been written
  pub depth_ask : (m : List ℕ) → length m ≡ length marks → DeepAsks ws n 0 m
  depth_ask m e =
      let r = a.room in
      record { sound = a.automaton.sound; states = a.states; laid = a.automaton.laid; room = omega arith; inside = omega arith; measured = λ x l. absurd (not-suc-le-zero l) }

-- ---- words of a start n

pub states_fail : (ws : List ℕ) (n : ℕ) → n ≡ start_of ws → max_states < n → Decides (IsList ws) false
states_fail ws n e h = refuted (IsList ws) (λ l. let m = l.states in omega arith)

pub automaton_fails : (ws : List ℕ) (n : ℕ) → n ≡ start_of ws → (Listed ws n → ⊥) → Decides (IsList ws) false
automaton_fails ws n e x =
    refuted (IsList ws) (λ l. x (subst (Listed ws) (sym e) (record { laid = l.laid; sound = l.sound; needed = l.needed })))

pub automaton_ask : (ws heads marks : List ℕ) (n : ℕ) → JudgeAsks ws heads marks → n ≤ max_states → ListAsks ws heads marks n
automaton_ask ws heads marks n a h =
    let z = a.size in
    let r = a.room in
    record { states = omega arith; memory = omega (arith, size_is); small = omega (arith, size_is); keys = a.keys; room = omega arith }

pub names_ask : (ws heads marks marks' : List ℕ) (n : ℕ) → JudgeAsks ws heads marks → n ≡ start_of ws → n ≤ max_states → length marks' ≡ length marks → Listed ws n → NamesAsk ws n marks'
names_ask ws heads marks marks' n a e h l y = let r = a.room in record { start = e; states = h; automaton = y; room = omega arith }

-- ---- the answers

pub listed_found : (ws : List ℕ) (r : Bool) → Decides (IsList ws) r → r ≡ listed ws (start_of ws)
listed_found ws r d = decides_same (IsList ws) r (listed ws (start_of ws)) d (listed_decides ws)

pub no_names : (ws : List ℕ) (r : Bool) → Decides (IsList ws) r → not r ≡ true → 0 ≡ cond (listed ws (start_of ws)) (names_in ws) 0
no_names ws true d e = clash refl (sym e)
no_names ws false d e = ap (λ (b : Bool). cond b (names_in ws) 0) (listed_found ws false d)

pub names_found : (ws : List ℕ) (r : Bool) (n v : ℕ) → Decides (IsList ws) r → not r ≡ false → n ≡ start_of ws → v ≡ min 1001 (total (rows_of ws) n) → v ≡ cond (listed ws (start_of ws)) (names_in ws) 0
unfolding names_in
names_found ws false n v d e g h = clash refl e
names_found ws true n v d e g h =
    let m : total (rows_of ws) (start_of ws) ≤ 1000 = (d.yes refl).names in
    let t : total (rows_of ws) n ≡ total (rows_of ws) (start_of ws) = ap (total (rows_of ws)) g in
    let u : v ≡ total (rows_of ws) (start_of ws) = below_cap 1000 (total (rows_of ws) n) (total (rows_of ws) (start_of ws)) v t m h in
    u ∙ ap (λ (b : Bool). cond b (total (rows_of ws) (start_of ws)) 0) (listed_found ws true d)
  where
    below_cap : (k s t v : ℕ) → s ≡ t → t ≤ k → v ≡ min (suc k) s → v ≡ t
    below_cap k s t v a b c = omega arith

pub list_counts : (ws : List ℕ) (n : ℕ) (m : List ℕ) → IsList ws → n ≡ start_of ws → suc max_states ≤ length m → CountAsks ws n 0 m
list_counts ws n m l e h =
    let s = l.states in
    record {
      sound = subst (Sound (rows_of ws)) (sym e) l.sound;
      states = omega arith;
      laid = subst (Laid ws) (sym e) l.laid;
      room = omega arith;
      inside = omega arith;
      counted = λ x h. absurd (not-suc-le-zero h);
    }

-- ---- a lent list; k is its size, as the functions write it

pub front_size : (k : ℕ) (list : List ℕ) → k ≤ length list → k ≡ length (take k list)
front_size k list h = sym (length-take-le k list h)

module _ (list : List ℕ) (k : ℕ) (e : k ≡ list_size) where
  pub front_is : k ≤ length list → length (take k list) ≡ list_size
  front_is h = sym (front_size k list h) ∙ e

  pub list_short : length list < k → false ≡ is_list list
  unfolding is_list
  list_short h = ap (λ (b : Bool). b && listed (words_of list) (start_of (words_of list))) (sym (lt-leb list_size (length list) (omega arith)))

  pub list_found : (r : Bool) → k ≤ length list → r ≡ listed (take k list) (start_of (take k list)) → r ≡ is_list list
  unfolding is_list
  list_found r h g =
      g ∙ (ap (λ (j : ℕ). listed (take j list) (start_of (take j list))) e
      ∙ ap (λ (b : Bool). b && listed (words_of list) (start_of (words_of list))) (sym (le-leb list_size (length list) (omega arith))))

  pub count_short : length list < k → 0 ≡ name_count list
  unfolding name_count
  count_short h = ap (λ (b : Bool). cond b (names_in (words_of list)) 0) (list_short h)

  pub count_found : (v : ℕ) → k ≤ length list → v ≡ cond (listed (take k list) (start_of (take k list))) (names_in (take k list)) 0 → v ≡ name_count list
  unfolding name_count
  count_found v h g =
      g ∙ (ap (λ (b : Bool). cond b (names_in (take k list)) 0) (list_found (listed (take k list) (start_of (take k list))) h refl)
      ∙ ap (λ (j : ℕ). cond (is_list list) (names_in (take j list)) 0) e)

-- ---- the states of a list

pub start_kept : (list : List ℕ) → start_of (words_of list) ≡ start_of list
unfolding start_of
start_kept list = get_or-take list_size list startWord 0 (let a = size_is in let b = start_word in omega arith)

pub no_states : (list : List ℕ) (r : Bool) → r ≡ is_list list → not r ≡ true → 0 ≡ state_count list
unfolding state_count
no_states list true g h = clash refl (sym h)
no_states list false g h = ap (λ (b : Bool). cond b (states_in (words_of list)) 0) g

pub states_found : (list : List ℕ) (r : Bool) (n v : ℕ) → r ≡ is_list list → not r ≡ false → n ≡ start_of list → v ≡ max 1 n → v ≡ state_count list
unfolding state_count states_in
states_found list false n v g h e m = clash refl h
states_found list true n v g h e m =
    m ∙ (ap (max 1) (e ∙ sym (start_kept list)) ∙ ap (λ (b : Bool). cond b (max 1 (start_of (words_of list))) 0) g)

pub list-size : (list : List ℕ) (r : Bool) → r ≡ is_list list → not r ≡ false → list_size ≤ length list
list-size list true g h = list_long list (sym g)
list-size list false g h = clash refl h
