-- What a name's last state says is what the list says of the name, and what a look-up answers for it.
-- Assumes nothing.
use mathlib.Core.Path.{◌≡◌, refl, sym, ap, ap₂, ◌∙◌, subst}
use Prim.Native.Nat.{ℕ, ◌+◌, ◌-◌, ◌≤◌, ◌<◌}
use native.Mathlib.Omega.{arith}
use mathlib.Core.Bool.{Bool, true, cond}
use mathlib.Core.List.{List, [], ◌∷◌, ◌++◌, append_assoc}
use lib.ListN.{length, get_or, take, drop, get_or-append}
use lib.Seq.{length-take-le, take-length, ext_get_or, get_or-append-add, get_or-drop, get_or-take, paste, length-paste}
use native.Mathlib.Nat.{add_assoc}
use borrow.Author.Tests.{le-leb, lt-leb}
use Rattle.rules.specs.Limits.{max_listed_phones}
use Rattle.rules.specs.Memory.{over}
use Rattle.rules.proofs.Memory.{over_length}
use Rattle.automaton.specs.Automaton.{Str, Rows, rows_of, phones_at, Laid, end_state, look, Letters, Sound}
use Rattle.automaton.proofs.Tests.{by_less}
use Rattle.states.specs.States.{Written, EndAsks}
use Rattle.packing.specs.Packing.{unpack, byte_of, said, StateAsks}
use Rattle.packing.proofs.StatePhones.{up_to_long}
use Rattle.phone_strings.specs.Packed.{Packed}
use Rattle.phone_strings.specs.Groups.{byte_from, HoldsPhones}
use Rattle.exceptions.specs.Layout.{list_size, words_of, start_of, phones_for, phones_ending}
use Rattle.exceptions.specs.Judging.{IsList, is_list, says_of, KnownList, StateOf}
use Rattle.exceptions.specs.Calls.{looking_up, looked_up, EndsIn, EndsInList, StateIn}
use Rattle.std.specs.Prelude.{Option, Some, None}
use Rattle.exceptions.specs.declared.Lookup.TheVariants.{Unlisted, Given, NoRoom}
use Rattle.exceptions.proofs.Sizes.{words_are}
use Rattle.exceptions.proofs.Decided.{list_long, list_facts}

-- ---- the state in which a name ends

look_end : (f : Rows) (q : ℕ) (w : Str) → look f q w ≡ phones_at f (end_state f q w)
look_end f q [] = refl
look_end f q (c ∷ w) = look_end f (f q c) w

end_inside : (f : Rows) (n : ℕ) → Sound f n → (q : ℕ) → q ≤ n → (w : Str) → Letters w → end_state f q w ≤ n
end_inside f n s q h [] t = h
end_inside f n s q h (c ∷ w) t = let x = s.earlier q c h t.1 in end_inside f n s (f q c) (omega arith) w t.2

-- ---- answers, by what is said

said_none : (p out : List ℕ) → length p ≡ 0 → looking_up Unlisted out ≡ looked_up p out
unfolding looked_up
said_none [] out e = refl
said_none (x ∷ p) out e = absurd (omega arith)

said_long : (p out : List ℕ) → length out < length p → looking_up (NoRoom (length p)) out ≡ looked_up p out
unfolding looked_up
said_long [] out h = absurd (omega arith)
said_long (x ∷ p) out h = rw (lt-leb _ _ h)

said_fits : (p out : List ℕ) → (length p ≡ 0 → ⊥) → length p ≤ length out → looking_up (Given (length p)) (over p out) ≡ looked_up p out
unfolding looked_up
said_fits [] out ne h = absurd (ne refl)
said_fits (x ∷ p) out ne h = rw (le-leb _ _ h)

-- ---- phones written one after another

pub over_written : (p : List ℕ) (v : ℕ → ℕ) (out out' : List ℕ) → length p ≤ length out → Written v 0 (length p) out out' → ((j : ℕ) → j < length p → get_or p j 0 ≡ v j) → out' ≡ over p out
over_written p v out out' h w e =
    ext_get_or 0 out' (over p out) (w.long ∙ sym (over_length p out h))
    (λ j l. by_less j (length p)
    (λ i.
    let z : j ≡ 0 + j = omega arith in
    ap (λ (t : ℕ). get_or out' t 0) z ∙ (w.done j i ∙ (sym (e j i) ∙ sym (get_or-append p (drop (length p) out) 0 j i))))
    (λ i.
    let z : length p + (j - length p) ≡ j = omega arith in
    w.after j (omega arith) ∙ (ap (λ (t : ℕ). get_or out t 0) (sym z)
    ∙ (sym (get_or-append-add p (drop (length p) out) (j - length p) 0 ∙ get_or-drop (length p) out (j - length p) 0) ∙ ap (λ (t : ℕ). get_or (over p out) t 0) z))))

-- the same from a place on
paste_written : (p : List ℕ) (v : ℕ → ℕ) (at : ℕ) (out out' : List ℕ) → at + length p ≤ length out → Written v at (length p) out out' → ((j : ℕ) → j < length p → get_or p j 0 ≡ v j)
    → out' ≡ paste out at p (length p)
paste_written p v at out out' h w e =
    ext_get_or 0 out' (paste out at p (length p)) (w.long ∙ sym (length-paste out at p (length p) h (omega arith)))
    (λ j l. by_less j at
    (λ i. w.before j i ∙ sym (front j i))
    (λ i. by_less j (at + length p)
    (λ k.
    let z : at + (j - at) ≡ j = omega arith in
    ap (λ (t : ℕ). get_or out' t 0) (sym z) ∙ (w.done (j - at) (omega arith) ∙ (sym (e (j - at) (omega arith)) ∙ sym (ap (λ (t : ℕ). get_or (paste out at p (length p)) t 0) (sym z) ∙ middle (j - at) (omega arith)))))
    (λ k.
    let z : at + length p + (j - (at + length p)) ≡ j = omega arith in
    w.after j (omega arith) ∙ (ap (λ (t : ℕ). get_or out t 0) (sym z) ∙ sym (ap (λ (t : ℕ). get_or (paste out at p (length p)) t 0) (sym z) ∙ back (j - (at + length p)))))))
  where
    whole : take at out ++ take (length p) p ++ drop (at + length p) out ≡ take at out ++ (p ++ drop (at + length p) out)
    whole = append_assoc (take at out) (take (length p) p) (drop (at + length p) out) ∙ ap (λ (l : List ℕ). take at out ++ (l ++ drop (at + length p) out)) (take-length p)

    long : length (take at out) ≡ at
    long = length-take-le at out (omega arith)

    front : (j : ℕ) → j < at → get_or (paste out at p (length p)) j 0 ≡ get_or out j 0
    front j i = ap (λ (l : List ℕ). get_or l j 0) whole ∙ (get_or-append (take at out) _ 0 j (omega (arith, long)) ∙ get_or-take at out j 0 i)

    past : (t : ℕ) → get_or (paste out at p (length p)) (at + t) 0 ≡ get_or (p ++ drop (at + length p) out) t 0
    past t =
        ap (λ (l : List ℕ). get_or l (at + t) 0) whole
        ∙ (ap (λ (x : ℕ). get_or (take at out ++ (p ++ drop (at + length p) out)) (x + t) 0) (sym long) ∙ get_or-append-add (take at out) (p ++ drop (at + length p) out) t 0)

    middle : (t : ℕ) → t < length p → get_or (paste out at p (length p)) (at + t) 0 ≡ get_or p t 0
    middle t i = past t ∙ get_or-append p (drop (at + length p) out) 0 t i

    back : (t : ℕ) → get_or (paste out at p (length p)) (at + length p + t) 0 ≡ get_or out (at + length p + t) 0
    back t =
        ap (λ (x : ℕ). get_or (paste out at p (length p)) x 0) (add_assoc at (length p) t)
        ∙ (past (length p + t) ∙ (get_or-append-add p (drop (at + length p) out) t 0 ∙ get_or-drop (at + length p) out t 0))

-- ---- a look-up, where n is the start and the name ends in state q

module _ (ws : List ℕ) (name : Str) (l : IsList ws) (t : Letters name) (n : ℕ) (e : n ≡ start_of ws) where
  sound_to : Sound (rows_of ws) n
  sound_to = subst (λ (x : ℕ). Sound (rows_of ws) x) (sym e) l.sound

  pub end_asks : EndAsks ws n name
  end_asks = record { sound = sound_to; laid = subst (λ (x : ℕ). Laid ws x) (sym e) l.laid; letters = t }

  module _ (q : ℕ) (g : q ≡ end_state (rows_of ws) n name) where
    pub state_asks : StateAsks ws n q
    state_asks =
        let i = end_inside (rows_of ws) n sound_to n (omega arith) name t in
        let m = l.states in
        record { sound = sound_to; states = omega arith; laid = end_asks.laid; inside = omega arith }

    says : phones_for ws name ≡ said (rows_of ws) q
    unfolding phones_for said
    says =
        ap unpack (ap (λ (x : ℕ). look (rows_of ws) x name) (sym e) ∙ (look_end (rows_of ws) n name ∙ ap (phones_at (rows_of ws)) (sym g)))

    pub packed : Packed (rows_of ws) q
    packed = let h = state_asks.inside in l.phones q (omega arith)

    module _ (i k : ℕ) (s : HoldsPhones ws q i k) where
      pub ends_absent : k ≡ 0 → phones_for ws name ≡ []
      ends_absent z = says ∙ none_said (said (rows_of ws) q) (sym s.count ∙ z)
        where
          none_said : (p : Str) → length p ≡ 0 → p ≡ []
          none_said [] z = refl
          none_said (x ∷ p) z = absurd (omega arith)

      pub ends_here : (k ≡ 0 → ⊥) → (q ≤ start_of ws) × (phones_ending ws q ≡ phones_for ws name) × (1 ≤ length (phones_for ws name))
      ends_here ne =
          let h = state_asks.inside in
          let z : (length (said (rows_of ws) q) ≡ 0) → ⊥ = λ y. ne (s.count ∙ y) in
          (omega arith, sym says, subst (λ (p : Str). 1 ≤ length p) (sym says) (omega arith))

    module _ (i k : ℕ) (s : HoldsPhones ws q i k) (out : List ℕ) where
      answer : looked_up (said (rows_of ws) q) out ≡ looked_up (phones_for ws name) out
      answer = ap (λ (p : Str). looked_up p out) (sym says)

      pub unlisted : k ≡ 0 → looking_up Unlisted out ≡ looked_up (phones_for ws name) out
      unlisted z = said_none (said (rows_of ws) q) out (sym s.count ∙ z) ∙ answer

      pub no_room : length out < k → looking_up (NoRoom k) out ≡ looked_up (phones_for ws name) out
      no_room h = let z = s.count in ap (λ (x : ℕ). looking_up (NoRoom x) out) s.count ∙ (said_long (said (rows_of ws) q) out (omega arith) ∙ answer)

      pub given : (k ≡ 0 → ⊥) → k ≤ length out → (out' : List ℕ) → Written (byte_from ws i) 0 k out out' → looking_up (Given k) out' ≡ looked_up (phones_for ws name) out
      given ne h out' w =
          let z = s.count in
          let p = said (rows_of ws) q in
          let v = over_written p (byte_from ws i) out out' (omega arith) (subst (λ (x : ℕ). Written (byte_from ws i) 0 x out out') s.count w) (λ j b. s.same j (omega arith)) in
          ap₂ (λ (x : ℕ) (y : List ℕ). looking_up (Given x) y) s.count v ∙ (said_fits p out (λ y. ne (s.count ∙ y)) (omega arith) ∙ answer)

-- ---- the words of a lent list

pub list_words : (list : List ℕ) → is_list list ≡ true → (list_size ≤ length (take 35886 list)) × IsList (take 35886 list)
list_words list h =
    let e = length-take-le list_size list (list_long list h) in
    subst (λ (ws : List ℕ). (list_size ≤ length ws) × IsList ws) (sym (words_are list)) (omega arith, list_facts list h)

pub list_state : (list : List ℕ) (q : ℕ) → StateOf list q → StateIn (take 35886 list) q
list_state list q s =
    let l = list_words list s.lent in
    record { size = l.0; list = l.1; inside = subst (λ (ws : List ℕ). q ≤ start_of ws) (sym (words_are list)) s.inside }

-- ---- a state of words that are a list

pub asks_of : (ws : List ℕ) (q n : ℕ) → StateIn ws q → n ≡ start_of ws → StateAsks ws n q × Packed (rows_of ws) q
asks_of ws q n s e = (
  record {
    sound = subst (λ (x : ℕ). Sound (rows_of ws) x) (sym e) s.list.sound;
    states = let m = s.list.states in omega arith;
    laid = subst (λ (x : ℕ). Laid ws x) (sym e) s.list.laid;
    inside = let h = s.inside in omega arith;
  },
  s.list.phones q s.inside,
)

-- its phones, written from a place on
pub phones_pasted : (ws : List ℕ) (q i k at : ℕ) (out out' : List ℕ) → HoldsPhones ws q i k → at + length (phones_ending ws q) ≤ length out → Written (byte_from ws i) at k out out'
    → out' ≡ paste out at (phones_ending ws q) (length (phones_ending ws q))
phones_pasted ws q i k at out out' s h w =
    paste_written (phones_ending ws q) (byte_from ws i) at out out' h (subst (λ (x : ℕ). Written (byte_from ws i) at x out out') s.count w) (λ j b. s.same j (rw s.count b))

-- ---- what judged words say

pub says_list : (list : List ℕ) → is_list list ≡ true → (w : Str) → says_of list w ≡ phones_for (words_of list) w
unfolding says_of
says_list list h w = ap (λ (b : Bool). cond b (phones_for (words_of list) w) []) (le-leb list_size (length list) (list_long list h))

pub says_none : (list : List ℕ) → length list < list_size → (w : Str) → says_of list w ≡ []
unfolding says_of
says_none list h w = ap (λ (b : Bool). cond b (phones_for (words_of list) w) []) (lt-leb list_size (length list) h)

empty_unsaid : (ws : List ℕ) → IsList ws → phones_for ws [] ≡ []
unfolding phones_for unpack byte_of
empty_unsaid ws l = ap unpack l.lettered

-- the empty word is never listed
pub says_empty : (list : List ℕ) → KnownList list → says_of list [] ≡ []
says_empty list k =
    by_less (length list) list_size (λ i. says_none list i []) (λ i. let h = k (omega arith) in says_list list h [] ∙ empty_unsaid (words_of list) (list_facts list h))

-- no name has more phones
pub phones-most : (ws : List ℕ) (w : Str) → length (phones_for ws w) ≤ max_listed_phones
unfolding phones_for unpack
phones-most ws w = up_to_long 64 (byte_of (look (rows_of ws) (start_of ws) w))

-- what a state found in the words of a lent list says
pub ends_list : (list : List ℕ) → is_list list ≡ true → (w : Str) (r : Option ℕ) → EndsIn (take 35886 list) w r → EndsInList list w r
ends_list list h w r e = by r (subst (λ (ws : List ℕ). EndsIn ws w r) (words_are list) e)
  where
    by : (r : Option ℕ) → EndsIn (words_of list) w r → EndsInList list w r
    by (Some q) x = (record { lent = h; inside = x.0 }, x.1 ∙ sym (says_list list h w), subst (λ (p : Str). 1 ≤ length p) (sym (says_list list h w)) x.2)
    by None x = says_list list h w ∙ x
