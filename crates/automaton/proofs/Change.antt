-- A change of one name by rows added after the others: each row of the name's path with one successor replaced, found again or added.
-- Assumes nothing.
use mathlib.Core.Path.{◌≡◌, refl, sym, ap, ap₂, ◌∙◌, subst}
use Prim.Native.Nat.{ℕ, zero, suc, ◌+◌, ◌≤◌, ◌<◌, max}
use native.Mathlib.Nat.{not-suc-le-zero}
use native.Mathlib.Omega.{arith}
use mathlib.Core.Bool.{Bool, cond, ◌&&◌}
use mathlib.Core.List.{[], ◌∷◌}
use lib.ListN.{length, get_or, get_or-eq_default}
use borrow.Author.Tests.{eq-eqb, ne_eqb}
use Rattle.automaton.specs.Automaton.{Str, Rows, unless_zero, up_to, phones_at, look, Letters, Padded, Alike, Sound, same, changed}
use Rattle.automaton.specs.Changes.{Keeps, Phones, WithSuccessor, WithPhones, First, Put}
use Rattle.automaton.proofs.Tests.{by_less, by_same, by_nat}

-- ---- equal rows say the same

pub up_to_ext : (n : ℕ) (g h : ℕ → ℕ) → ((k : ℕ) → k < n → g k ≡ h k) → up_to n g ≡ up_to n h
up_to_ext zero g h e = refl
up_to_ext (suc n) g h e = ap₂ unless_zero (e zero (omega arith)) (up_to_ext n (λ k. g (suc k)) (λ k. h (suc k)) (λ k l. e (suc k) (omega arith)))

pub phones_ext : (f g : Rows) (i j : ℕ) → ((k : ℕ) → k < 22 → f i (64 + k) ≡ g j (64 + k)) → phones_at f i ≡ phones_at g j
unfolding phones_at
phones_ext f g i j e = up_to_ext 22 (λ k. f i (64 + k)) (λ k. g j (64 + k)) e

pub look_alike : (f : Rows) (i j : ℕ) → Alike f i j → (w : Str) → Letters w → look f i w ≡ look f j w
look_alike f i j a [] t = phones_ext f f i j (λ k l. a (64 + k) (omega arith))
look_alike f i j a (c ∷ w) t = ap (λ (v : ℕ). look f v w) (a c (let l = t.1 in omega arith))

pub look_keeps : (f g : Rows) (n : ℕ) → Sound f n → Keeps f g n → (q : ℕ) → q ≤ n → (w : Str) → Letters w → look g q w ≡ look f q w
look_keeps f g n s kp q h [] t = phones_ext g f q q (λ k l. kp q (64 + k) h (omega arith))
look_keeps f g n s kp q h (c ∷ w) t =
    let l = t.1 in
    let x = s.earlier q c h l in
    ap (λ (v : ℕ). look g v w) (kp q c h (omega arith)) ∙ look_keeps f g n s kp (f q c) (omega arith) w t.2

-- ---- soundness of rows found again or added

pub keeps_sound : (f g : Rows) (n : ℕ) → Sound f n → Keeps f g n → Sound g n
keeps_sound f g n s kp =
    record {
      blank = λ k l. kp 0 k (omega arith) l ∙ s.blank k l;
      unused = λ q h. kp q 0 h (omega arith) ∙ s.unused q h;
      earlier = λ q c h l. let x = s.earlier q c h l in let e = kp q c h (omega arith) in omega arith;
      padded = λ q h k l z. kp q (64 + suc k) h (omega arith) ∙ s.padded q h k l (sym (kp q (64 + k) h (omega arith)) ∙ z);
      bytes = λ q k h l. let x = s.bytes q k h l in let e = kp q (64 + k) h (omega arith) in omega arith;
      apart = λ i j a b e. s.apart i j a b (λ k l. sym (kp i k a l) ∙ (e k l ∙ kp j k b l));
    }

-- a row that may be a state, after n
pub record Fit (g : Rows) (n : ℕ) : Type 0 where
  pub unused : g (suc n) 0 ≡ 0
  pub earlier : (c : ℕ) → c < 64 → g (suc n) c ≤ n
  pub padded : Padded 22 (λ k. g (suc n) (64 + k))
  pub bytes : (k : ℕ) → k < 22 → g (suc n) (64 + k) < 16777216

at_most : (q n : ℕ) → q ≤ suc n → (q ≡ suc n → ⊥) → q ≤ n
at_most q n h ne = omega arith

added : (g : Rows) (n : ℕ) → Sound g n → Fit g n → ((j : ℕ) → j ≤ n → Alike g j (suc n) → ⊥) → Sound g (suc n)
added g n s t fresh =
    record {
      blank = s.blank;
      unused = λ q h. by_same q (suc n) (λ e. ap (λ (v : ℕ). g v 0) e ∙ t.unused) (λ ne. s.unused q (at_most q n h ne));
      earlier = λ q c h l.
          by_same q (suc n)
          (λ e. let x = t.earlier c l in let y : g q c ≡ g (suc n) c = ap (λ (v : ℕ). g v c) e in omega arith)
          (λ ne. s.earlier q c (at_most q n h ne) l);
      padded = λ q h.
          by_same q (suc n)
          (λ e. subst (λ (v : ℕ). Padded 22 (λ k. g v (64 + k))) (sym e) t.padded)
          (λ ne. s.padded q (at_most q n h ne));
      bytes = λ q k h l.
          by_same q (suc n)
          (λ e. let x = t.bytes k l in let y : g q (64 + k) ≡ g (suc n) (64 + k) = ap (λ (v : ℕ). g v (64 + k)) e in omega arith)
          (λ ne. s.bytes q k (at_most q n h ne) l);
      apart = λ i j a b e.
          by_same i (suc n)
          (λ p. by_same j (suc n) (λ q. p ∙ sym q)
          (λ ne. absurd (fresh j (at_most j n b ne) (λ k l. sym (e k l) ∙ ap (λ (v : ℕ). g v k) p))))
          (λ ni. by_same j (suc n)
          (λ q. absurd (fresh i (at_most i n a ni) (λ k l. e k l ∙ ap (λ (v : ℕ). g v k) q)))
          (λ ne. s.apart i j (at_most i n a ni) (at_most j n b ne) e));
    }

-- the row after n found again, or added
pub interned : (g : Rows) (n i : ℕ) → Sound g n → Fit g n → First g (suc n) i → Sound g (max n i)
interned g n i s t o =
    by_less n i
    (λ l.
    let w = o.within in
    let e : max n i ≡ suc n = omega arith in
    subst (λ (v : ℕ). Sound g v) (sym e) (added g n s t (λ j h. o.none j (omega arith))))
    (λ l. let e : max n i ≡ n = omega arith in subst (λ (v : ℕ). Sound g v) (sym e) s)

-- ---- one successor replaced

with_successor_fit : (f g : Rows) (n q c r : ℕ) → Sound f n → q ≤ n → 0 < c → c < 64 → r ≤ n → WithSuccessor f g n q c r → Fit g n
with_successor_fit f g n q c r s h z l o t =
    record {
      unused = t.others 0 (omega arith) (λ e. absurd (omega arith)) ∙ s.unused q h;
      earlier = λ d m.
          by_same d c
          (λ e. let x : g (suc n) d ≡ g (suc n) c = ap (g (suc n)) e in let y = t.there in omega arith)
          (λ ne. let x = t.others d (omega arith) ne in let y = s.earlier q d h m in omega arith);
      padded = λ k m e.
          t.others (64 + suc k) (omega arith) (λ e. absurd (omega arith))
          ∙ s.padded q h k m (sym (t.others (64 + k) (omega arith) (λ e. absurd (omega arith))) ∙ e);
      bytes = λ k m.
          let x = t.others (64 + k) (omega arith) (λ e. absurd (omega arith)) in let y = s.bytes q k h m in omega arith;
    }

-- from the row with the successor under c replaced, a name that begins with c goes on from r
with_successor_look : (f g : Rows) (n q c r : ℕ) → Sound f n → q ≤ n → 0 < c → c < 64 → WithSuccessor f g n q c r
    → (name p : Str) (m : Str → Str)
    → ((w : Str) → Letters w → look g r w ≡ changed name p (λ (v : Str). m (c ∷ v)) w)
    → ((w : Str) → Letters w → look f q w ≡ m w)
    → (w : Str) → Letters w → look g (suc n) w ≡ changed (c ∷ name) p m w
with_successor_look f g n q c r s h z l t name p m a b [] u = phones_ext g f (suc n) q (λ k o. t.others (64 + k) (omega arith) (λ e. absurd (omega arith))) ∙ b [] tt
with_successor_look f g n q c r s h z l t name p m a b (d ∷ w) u =
    by_same d c
    (λ e.
    ap (λ (v : ℕ). look g (g (suc n) v) w) e
    ∙ (ap (λ (v : ℕ). look g v w) t.there
    ∙ (a w u.2
    ∙ (ap (λ (v : ℕ). cond (same w name) p (m (v ∷ w))) (sym e)
    ∙ ap (λ (v : Bool). cond (v && same w name) p (m (d ∷ w))) (sym (eq-eqb d c e))))))
    (λ ne.
    let o = u.1 in
    let x = s.earlier q d h o in
    ap (λ (v : ℕ). look g v w) (t.others d (omega arith) ne)
    ∙ (look_keeps f g n s t.keeps (f q d) (omega arith) w u.2
    ∙ (b (d ∷ w) u
    ∙ ap (λ (v : Bool). cond (v && same w name) p (m (d ∷ w))) (sym (ne_eqb d c ne)))))

-- the change below c made, row q with_successor to it, and the with_successor row found or added
pub put_next : (f : Rows) (n q c : ℕ) (name p : Str) (g : Rows) (m r : ℕ) (h : Rows) (i : ℕ)
    → Sound f n → q ≤ n → 0 < c → c < 64
    → Put f n (f q c) name p g m r → WithSuccessor g h m q c r → First h (suc m) i
    → Put f n q (c ∷ name) p h (max m i) i
put_next f n q c name p g m r h i s a z l u t o =
    let lo = u.least in
    let hi = u.most in
    let w = o.within in
    let qm : q ≤ m = omega arith in
    let fit : Fit h m = with_successor_fit g h m q c r u.sound qm z l u.root t in
    let hm : Sound h m = keeps_sound g h m u.sound t.keeps in
    record {
      least = omega arith;
      most = omega arith;
      root = omega arith;
      sound = interned h m i hm fit o;
      keeps = λ x k b d. t.keeps x k (omega arith) d ∙ u.keeps x k b d;
      says = λ w d.
          look_alike h i (suc m) o.alike w d
          ∙ with_successor_look g h m q c r u.sound qm z l t name p (look f q)
          (λ v e. look_keeps g h m u.sound t.keeps r u.root v e ∙ u.says v e)
          (λ v e. look_keeps f g n s u.keeps q a v e) w d;
    }

-- ---- the phones replaced

up_to_list : (n : ℕ) (p : Str) → length p ≤ n → ((k : ℕ) → k < length p → 0 < get_or p k 0) → up_to n (λ k. get_or p k 0) ≡ p
up_to_list zero [] h a = refl
up_to_list zero (x ∷ p) h a = absurd (not-suc-le-zero h)
up_to_list (suc n) [] h a = refl
up_to_list (suc n) (x ∷ p) h a =
    by_nat x (λ e. let l = a 0 (omega arith) in absurd (omega arith))
    (λ y e. ap (λ (v : ℕ). unless_zero v (up_to n (λ k. get_or p k 0))) e
    ∙ ap₂ (λ (v : ℕ) (l : Str). v ∷ l) (sym e) (up_to_list n p (omega arith) (λ k l. a (suc k) (omega arith))))

phones_padded : (p : Str) → Phones p → Padded 22 (λ k. get_or p k 0)
phones_padded p t k l e =
    by_less k (length p)
    (λ m. let x = t.sounded k m in absurd (omega arith))
    (λ m. get_or-eq_default p 0 (omega arith))

with_phones_fit : (f g : Rows) (n q : ℕ) (p : Str) → Sound f n → q ≤ n → Phones p → WithPhones f g n q p → Fit g n
with_phones_fit f g n q p s h t v =
    record {
      unused = v.others 0 (omega arith) ∙ s.unused q h;
      earlier = λ c l. let x = v.others c l in let y = s.earlier q c h l in omega arith;
      padded = λ k l e. v.there (suc k) l ∙ phones_padded p t k l (sym (v.there k (omega arith)) ∙ e);
      bytes = λ k l.
          let x = v.there k l in
          by_less k (length p)
          (λ m. let y = t.bytes k m in omega arith)
          (λ m. let y : get_or p k 0 ≡ 0 = get_or-eq_default p 0 m in omega arith);
    }

with_phones_look : (f g : Rows) (n q : ℕ) (p : Str) → Sound f n → q ≤ n → Phones p → WithPhones f g n q p → (w : Str) → Letters w → look g (suc n) w ≡ changed [] p (look f q) w
unfolding phones_at
with_phones_look f g n q p s h t v [] u = up_to_ext 22 (λ k. g (suc n) (64 + k)) (λ k. get_or p k 0) v.there ∙ up_to_list 22 p t.few t.sounded
with_phones_look f g n q p s h t v (c ∷ w) u =
    let l = u.1 in
    let x = s.earlier q c h l in
    ap (λ (y : ℕ). look g y w) (v.others c l) ∙ look_keeps f g n s v.keeps (f q c) (omega arith) w u.2

-- the phones of row q replaced, and that row found or added
pub put_end : (f : Rows) (n q : ℕ) (p : Str) (h : Rows) (i : ℕ)
    → Sound f n → q ≤ n → Phones p → WithPhones f h n q p → First h (suc n) i
    → Put f n q [] p h (max n i) i
put_end f n q p h i s a t v o =
    let w = o.within in
    record {
      least = omega arith;
      most = omega arith;
      root = omega arith;
      sound = interned h n i (keeps_sound f h n s v.keeps) (with_phones_fit f h n q p s a t v) o;
      keeps = v.keeps;
      says = λ w d. look_alike h i (suc n) o.alike w d ∙ with_phones_look f h n q p s a t v w d;
    }
