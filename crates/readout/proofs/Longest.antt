-- A read-out has at most 130,000 bytes: 1,000 names, each with at most 64 letters, 64 phones and the two counts.
-- Assumes nothing.
use mathlib.Core.Path.{◌≡◌, refl, ap}
use Prim.Native.Nat.{ℕ, zero, suc, ◌+◌, ◌*◌, ◌≤◌, ◌<◌}
use native.Mathlib.Omega.{arith}
use mathlib.Core.Bool.{true}
use mathlib.Core.List.{List, [], ◌∷◌, ◌++◌, map}
use lib.ListN.{length, length-append, length-map}
use Rattle.automaton.specs.Automaton.{Str, rows_of, phones_at, look}
use Rattle.automaton.specs.Listing.{each, own, names, own_text, readout}
use Rattle.automaton.proofs.Totals.{total_64}
use Rattle.packing.specs.Packing.{unpack, said, StateAsks}
use Rattle.packing.proofs.StatePhones.{phones-long}
use Rattle.exceptions.specs.Layout.{words_of, start_of, names_in}
use Rattle.exceptions.specs.Judging.{IsList, is_list}
use Rattle.exceptions.proofs.Decided.{list_facts}
use Rattle.readout.specs.Texts.{most_text}
use Rattle.readout.specs.ReadOut.{list_text}
use Rattle.exceptions.proofs.States.{unpack_none}
use Rattle.readout.proofs.Entries.{entry_length}

each_long : (g : ℕ → List ℕ) (k : ℕ → List Str) (c n : ℕ) → ((d : ℕ) → c ≤ d → d < c + n → length (g d) ≤ 130 * length (k d)) → length (each g c n) ≤ 130 * length (each k c n)
each_long g k c zero a = omega arith
each_long g k c (suc n) a =
    let h = a c (omega arith) (omega arith) in
    let i = each_long g k (suc c) n (λ d u v. a d (omega arith) (omega arith)) in
    let x = length-append (g c) (each g (suc c) n) in
    let y = length-append (k c) (each k (suc c) n) in
    omega arith

spoken_long : (path p : Str) → length path ≤ 64 → length p ≤ 64 → length (own_text path p) ≤ 130
spoken_long path [] a b = omega arith
spoken_long path (x ∷ p) a b = let l = entry_length path (x ∷ p) in omega arith

own_long : (path g : Str) → length path ≤ 64 → length (unpack g) ≤ 64 → length (own_text path (unpack g)) ≤ 130 * length (own g)
own_long path [] a b = let e : length (own_text path (unpack [])) ≡ 0 = ap (λ (p : Str). length (own_text path p)) unpack_none in omega arith
own_long path (x ∷ g) a b = let s = spoken_long path (unpack (x ∷ g)) a b in omega arith

readout_long : (ws : List ℕ) (n h q : ℕ) (path : Str) → StateAsks ws n q → length path + h ≤ 64 → length (readout unpack (rows_of ws) h q path) ≤ 130 * length (names h (look (rows_of ws) q))
unfolding readout names said
readout_long ws n zero q path s l = own_long path (phones_at (rows_of ws) q) (omega arith) (phones-long ws n q s)
readout_long ws n (suc h) q path s l =
    let f = rows_of ws in
    let i = s.inside in
    let t = own_text path (unpack (phones_at (rows_of ws) q)) in
    let g : ℕ → List ℕ = λ c. readout unpack (rows_of ws) h (rows_of ws q c) (path ++ (c ∷ [])) in
    let k : ℕ → List Str = λ c. map (λ (w : Str). c ∷ w) (names h (look (rows_of ws) (rows_of ws q c))) in
    let a = own_long path (phones_at (rows_of ws) q) (omega arith) (phones-long ws n q s) in
    let b = each_long g k 1 63
    (λ d u v.
    let e = s.sound.earlier q d i (omega arith) in
    let p = length-append path (d ∷ []) in
    let m : length (k d) ≡ length (names h (look (rows_of ws) (rows_of ws q d))) = length-map (names h (look (rows_of ws) (rows_of ws q d))) (λ (w : Str). d ∷ w) in
    let r = readout_long ws n h (rows_of ws q d) (path ++ (d ∷ [])) (record { sound = s.sound; states = s.states; laid = s.laid; inside = omega arith }) (omega arith) in
    omega arith) in
    let x = length-append t (each g 1 63) in
    let y = length-append (own (phones_at (rows_of ws) q)) (each k 1 63) in
    omega arith

none_or : {A : Type 0} (p : Str) → (p ≡ [] → A) → ((p ≡ [] → ⊥) → A) → A
none_or [] f g = f refl
none_or (x ∷ p) f g = g (λ e. let z : ◌≡◌ {A = ℕ} 0 1 = cc in absurd (omega arith))

-- the names of a list have at most 64 letters each, so that those of at most 64 letters are all
names-few : (ws : List ℕ) → IsList ws → length (names 64 (look (rows_of ws) (start_of ws))) ≤ 1000
unfolding names_in
names-few ws l =
    let e = total_64 (rows_of ws) (start_of ws) l.sound
    (λ w t h. none_or (look (rows_of ws) (start_of ws) w) (λ z. z) (λ ne. let b = l.letters w t ne in absurd (omega arith))) in
    let c = l.names in
    omega arith

pub list_state : (ws : List ℕ) → IsList ws → StateAsks ws (start_of ws) (start_of ws)
list_state ws l = record { sound = l.sound; states = l.states; laid = l.laid; inside = omega arith }

pub words_long : (ws : List ℕ) → IsList ws → length (readout unpack (rows_of ws) 64 (start_of ws) []) ≤ most_text
words_long ws l =
    let a = readout_long ws (start_of ws) 64 (start_of ws) [] (list_state ws l) (omega arith) in
    let b = names-few ws l in
    omega arith

pub longest_text : (list : List ℕ) → is_list list ≡ true → length (list_text list) ≤ 130000
unfolding list_text
longest_text list e = words_long (words_of list) (list_facts list e)
