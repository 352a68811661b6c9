-- Groups of phones as they are packed: their phones tell them; those that a list says are such, and so are those that a change gives.
-- Assumes nothing.
use mathlib.Core.Path.{◌≡◌, refl, sym, ap, ap₂, ◌∙◌, subst}
use Prim.Native.Nat.{ℕ, suc, ◌+◌, ◌*◌, ◌/◌, ◌%◌, ◌≤◌, ◌<◌}
use native.Mathlib.Omega.{arith}
use mathlib.Core.Bool.{Bool, cond}
use mathlib.Core.List.{[], ◌∷◌}
use lib.ListN.{length, get_or, get_or-eq_default}
use Rattle.automaton.specs.Automaton.{Str, Rows, up_to, phones_at, end_state, look, Letters, Padded, Sound, Needed, same, changed}
use Rattle.automaton.proofs.Tests.{by_bool, by_less, by_same, by_nat}
use Rattle.automaton.proofs.Change.{up_to_ext}
use Rattle.automaton.proofs.Endings.{up_to_same, reached}
use Rattle.packing.specs.Packing.{Bytes, group_at, groups_of, digit, byte_of, unpack, byte_at}
use Rattle.packing.proofs.Bytes.{up_to_list, byte_back, digit_none, unpack_pack, groups-good}
use Rattle.packing.proofs.StatePhones.{up_to_long, up_to_all}
use Rattle.phone_strings.specs.Packed.{Packed, AllPacked}
use Rattle.change.proofs.Fewest.{end_inside}

-- byte j of numbers of three bytes
abbrev byte_in : (ℕ → ℕ) → ℕ → ℕ
byte_in u j = digit (j % 3) (u (j / 3))

-- the groups are those of numbers of three bytes, none but 0 after a 0; no byte but 0 after a 0, and at most 64 before it
pub record Canonical (g : Str) : Type 0 where
  pub group : ℕ → ℕ
  pub is : g ≡ up_to 22 group
  pub padded : Padded 22 group
  pub small : (k : ℕ) → k < 22 → group k < 16777216
  pub bytes : Padded 66 (byte_in group)
  pub short : byte_in group 64 ≡ 0

-- ---- told by their phones

unpack_is : (g : Str) (c : Canonical g) → unpack g ≡ up_to 64 (byte_in c.group)
unfolding unpack byte_of
unpack_is g c =
    ap (λ (t : Str). up_to 64 (byte_of t)) c.is
    ∙ up_to_ext 64 (byte_of (up_to 22 c.group)) (byte_in c.group) (λ k l. ap (digit (k % 3)) (up_to_all 22 c.group c.padded (k / 3) (omega arith)))

late_bytes : (g : Str) (c : Canonical g) (k : ℕ) → 64 ≤ k → k < 66 → byte_in c.group k ≡ 0
late_bytes g c k l h =
    by_same k 64
    (λ o. ap (byte_in c.group) o ∙ c.short)
    (λ o. let z : k ≡ 65 = omega arith in ap (byte_in c.group) z ∙ c.bytes 64 (omega arith) c.short)

-- the groups of phones
pub regroup : Str → Str
regroup p = up_to 22 (group_at p)

pub regroup_none : regroup [] ≡ []
unfolding regroup group_at
regroup_none = refl

module _ (g : Str) (c : Canonical g) where
  few : length (unpack g) ≤ 64
  unfolding unpack
  few = up_to_long 64 (byte_of g)

  byte_said : (j : ℕ) → j < 66 → get_or (unpack g) j 0 ≡ byte_in c.group j
  byte_said j o =
      by_less j 64
      (λ l. ap (λ (t : Str). get_or t j 0) (unpack_is g c) ∙ up_to_all 64 (byte_in c.group) (λ m i. c.bytes m (omega arith)) j l)
      (λ l. let h = few in get_or-eq_default (unpack g) 0 (omega arith) ∙ sym (late_bytes g c j l o))

  group_said : (k : ℕ) → k < 22 → group_at (unpack g) k ≡ c.group k
  unfolding group_at
  group_said k o =
      let at : (d : ℕ) → d < 3 → get_or (unpack g) (3 * k + d) 0 ≡ digit d (c.group k) = λ d l.
      let x : (3 * k + d) % 3 ≡ d = omega arith in
      let y : (3 * k + d) / 3 ≡ k = omega arith in
      byte_said (3 * k + d) (omega arith) ∙ ap₂ (λ (i j : ℕ). digit i (c.group j)) x y in
      let z : 3 * k ≡ 3 * k + 0 = omega arith in
      let a : get_or (unpack g) (3 * k) 0 ≡ c.group k % 256 = ap (λ (j : ℕ). get_or (unpack g) j 0) z ∙ at 0 (omega arith) in
      let b : get_or (unpack g) (3 * k + 1) 0 ≡ c.group k / 256 % 256 = at 1 (omega arith) in
      let e : get_or (unpack g) (3 * k + 2) 0 ≡ c.group k / 65536 = at 2 (omega arith) in
      omega arith

  pub regrouped : regroup (unpack g) ≡ g
  unfolding regroup
  regrouped = up_to_ext 22 (group_at (unpack g)) c.group group_said ∙ sym c.is

-- groups without phones are none
pub unpack_some : (g : Str) → Canonical g → unpack g ≡ [] → g ≡ []
unpack_some g c e = sym (regrouped g c) ∙ (ap regroup e ∙ regroup_none)

pub groups_same : (g h : Str) → Canonical g → Canonical h → unpack g ≡ unpack h → g ≡ h
groups_same g h a b e = sym (regrouped g a) ∙ (ap regroup e ∙ regrouped h b)

-- ---- what states say

pub state_groups : (f : Rows) (n : ℕ) → Sound f n → (q : ℕ) → q ≤ n → Packed f q → Canonical (phones_at f q)
unfolding phones_at byte_at
state_groups f n s q h p =
    record { group = λ k. f q (64 + k); is = refl; padded = s.padded q h; small = λ k l. s.bytes q k h l; bytes = p.padded; short = p.short }

-- and a state that says such groups is packed
pub groups_state : (f : Rows) (n : ℕ) → Sound f n → (q : ℕ) → q ≤ n → Canonical (phones_at f q) → Packed f q
unfolding phones_at byte_at
groups_state f n s q h c =
    let e : (k : ℕ) → k < 22 → f q (64 + k) ≡ c.group k = up_to_same 22 (λ k. f q (64 + k)) c.group (s.padded q h) c.padded c.is in
    let b : (j : ℕ) → j < 66 → byte_in (λ k. f q (64 + k)) j ≡ byte_in c.group j = λ j l. ap (digit (j % 3)) (e (j / 3) (omega arith)) in
    record {
      padded = λ j l z. b (suc j) l ∙ c.bytes j l (sym (b j (omega arith)) ∙ z);
      short = b 64 (omega arith) ∙ c.short;
    }

-- ---- packed phones

pub packed_groups : (p : Str) → Bytes p → Canonical (groups_of p)
unfolding byte_of
packed_groups p t =
    let g = groups-good p t in
    let b : (j : ℕ) → byte_in (λ k. get_or (groups_of p) k 0) j ≡ get_or p j 0 = byte_back p t in
    record {
      group = λ k. get_or (groups_of p) k 0;
      is = sym (up_to_list 22 (groups_of p) g.few g.sounded);
      padded = λ k l z. by_less k (length (groups_of p)) (λ o. let y = g.sounded k o in absurd (omega arith)) (λ o. get_or-eq_default (groups_of p) 0 (omega arith));
      small = λ k l. by_less k (length (groups_of p)) (λ o. g.bytes k o) (λ o. let y : get_or (groups_of p) k 0 ≡ 0 = get_or-eq_default (groups_of p) 0 o in omega arith);
      bytes = λ j l z. b (suc j) ∙ by_less j (length p) (λ o. let y = t.sounded j o in let x = b j in absurd (omega arith)) (λ o. get_or-eq_default p 0 (omega arith));
      short = b 64 ∙ get_or-eq_default p 0 t.few;
    }

-- ---- what a list says, and what is said after a change

pub look_end : (f : Rows) (q : ℕ) (w : Str) → look f q w ≡ phones_at f (end_state f q w)
look_end f q [] = refl
look_end f q (c ∷ w) = look_end f (f q c) w

pub said_groups : (f : Rows) (n : ℕ) → Sound f n → AllPacked f n → (w : Str) → Letters w → Canonical (look f n w)
said_groups f n s p w t =
    let h = end_inside f n s n (omega arith) w t in
    subst Canonical (sym (look_end f n w)) (state_groups f n s (end_state f n w) h (p (end_state f n w) h))

pub changed_groups : (name p : Str) (m : Str → Str) → Bytes p → ((w : Str) → Letters w → Canonical (m w)) → (w : Str) → Letters w → Canonical (changed name (groups_of p) m w)
changed_groups name p m t a w l =
    by_bool (same w name)
    (λ e. subst Canonical (ap (λ (b : Bool). cond b (groups_of p) (m w)) (sym e)) (packed_groups p t))
    (λ e. subst Canonical (ap (λ (b : Bool). cond b (groups_of p) (m w)) (sym e)) (a w l))

-- a change of groups is the change of phones
pub changed_phones : (name p : Str) (m : Str → Str) → Bytes p → (w : Str) → unpack (changed name (groups_of p) m w) ≡ changed name p (λ v. unpack (m v)) w
changed_phones name p m t w =
    by_bool (same w name)
    (λ e. ap (λ (b : Bool). unpack (cond b (groups_of p) (m w))) e ∙ (unpack_pack p t ∙ ap (λ (b : Bool). cond b p (unpack (m w))) (sym e)))
    (λ e. ap (λ (b : Bool). unpack (cond b (groups_of p) (m w))) e ∙ ap (λ (b : Bool). cond b p (unpack (m w))) (sym e))

-- where all that is said is packed, so is every state: each is reached by a name
pub all_packed : (f : Rows) (n : ℕ) → Sound f n → Needed f n → ((w : Str) → Letters w → Canonical (look f n w)) → AllPacked f n
unfolding byte_at
all_packed f n s a c q h =
    by_nat q
    (λ z.
    let b : (j : ℕ) → j < 66 → digit (j % 3) (f q (64 + j / 3)) ≡ 0 = λ j l.
    ap (digit (j % 3)) (ap (λ (x : ℕ). f x (64 + j / 3)) z ∙ s.blank (64 + j / 3) (omega arith)) ∙ digit_none (j % 3) in
    record { padded = λ j l o. b (suc j) l; short = b 64 (omega arith) })
    (λ y z.
    let r = reached f n s a q (omega arith) h in
    groups_state f n s q h (subst Canonical (look_end f n r.0 ∙ ap (phones_at f) r.2) (c r.0 r.1)))
