-- The phones and the numbers of parts, gathered in the same way and written one part at a time.
-- Assumes nothing.
use Prim.Native.Nat.{ℕ, ◌+◌, ◌-◌, ◌≤◌, ◌<◌}
use mathlib.Core.Path.{◌≡◌, refl, sym, ap, ap₂, ◌∙◌, subst}
use mathlib.Core.Bool.{true, false, cond}
use mathlib.Core.List.{List, [], ◌∷◌, ◌++◌, map, append_assoc, append-nil, map-append}
use native.Mathlib.Decide.{dec_le}
use native.Mathlib.Omega.{arith}
use native.Mathlib.Numerals.{add-one}
use borrow.Author.Tests.{lt-ltb, le-ltb}
use lib.Dec.{leb, ltb}
use lib.ListN.{length, get_or, take, drop, set, length-append, take-append-drop}
use lib.Seq.{take-suc, paste, paste-zero, set_split, append_snoc, take_all, take-length}
use Rattle.rules.specs.Limits.{max_rules, max_listed_phones}
use Rattle.rules.specs.Memory.{over}
use Rattle.rules.proofs.Cases.{by_bool}
use Rattle.rules.proofs.Memory.{over_length, over_paste}
use Rattle.packing.proofs.StatePhones.{phones-long}
use Rattle.exceptions.specs.Layout.{words_of, phones_ending}
use Rattle.exceptions.specs.Judging.{StateOf}
use Rattle.exceptions.proofs.Sizes.{words_are}
use Rattle.exceptions.proofs.Looking.{list_state, asks_of}
use Rattle.image.specs.Image.{valid, entry_at}
use Rattle.image.proofs.Entries.{entry_shaped}
use Rattle.fitting.specs.Reading.{Piece, listed}
use Rattle.speech.specs.Places.{place_in, fitting_in, piece_at, part_at, parts_at, rules_among, PartIn, PartGiven, AllGiven}
use Rattle.speech.specs.Speech.{speaks, phones_in, phones_of, numbers_in, numbers_of, contested_in, spoken, refused, saying, delivered}
use Rattle.speech.specs.declared.Spoken.{Spoken}

-- ---- what is gathered from pieces: their phones, or their numbers

pub record Gathers (all : List Piece → List ℕ) (each : Piece → List ℕ) : Type 0 where
  pub none : all [] ≡ []
  pub more : (x : Piece) (xs : List Piece) → all (x ∷ xs) ≡ each x ++ all xs

pub phones_gather : Gathers phones_of phones_in
phones_gather = record { none = refl; more = λ x xs. refl }

pub numbers_gather : Gathers numbers_of numbers_in
numbers_gather = record { none = refl; more = λ x xs. refl }

-- k parts written over xs, up to `to`; `f p` is the piece of part p
pub record Written (all : List Piece → List ℕ) (f : ℕ → Piece) (ps xs zs : List ℕ) (k to : ℕ) : Type 0 where
  pub inside : k ≤ length ps
  pub upto : to ≡ length (all (map f (take k ps)))
  pub holds : zs ≡ over (all (map f (take k ps))) xs

module _ (all : List Piece → List ℕ) (each : Piece → List ℕ) (g : Gathers all each) where
  gather_append : (a b : List Piece) → all (a ++ b) ≡ all a ++ all b
  gather_append [] b = ap (λ (l : List ℕ). l ++ all b) (sym g.none)
  gather_append (x ∷ a) b =
      g.more x (a ++ b)
      ∙ (ap (λ (l : List ℕ). each x ++ l) (gather_append a b)
      ∙ (sym (append_assoc (each x) (all a) (all b)) ∙ ap (λ (l : List ℕ). l ++ all b) (sym (g.more x a))))

  gather_one : (x : Piece) → all (x ∷ []) ≡ each x
  gather_one x = g.more x [] ∙ (ap (λ (l : List ℕ). each x ++ l) g.none ∙ append-nil (each x))

  module _ (f : ℕ → Piece) (ps : List ℕ) where
    gather_most : (k : ℕ) → length (all (map f (take k ps))) ≤ length (all (map f ps))
    gather_most k =
        let e : all (map f ps) ≡ all (map f (take k ps)) ++ all (map f (drop k ps)) =
        ap (λ (l : List ℕ). all (map f l)) (sym (take-append-drop k ps)) ∙ (ap all (map-append f (take k ps) (drop k ps)) ∙ gather_append (map f (take k ps)) (map f (drop k ps))) in
        omega (arith, ap length e, length-append (all (map f (take k ps))) (all (map f (drop k ps))))

    -- one part more
    module _ (k : ℕ) (h : k < length ps) where
      gather_next : all (map f (take (k + 1) ps)) ≡ all (map f (take k ps)) ++ each (f (get_or ps k 0))
      gather_next =
          ap (λ (l : List ℕ). all (map f l)) (ap (λ (n : ℕ). take n ps) (add-one k) ∙ take-suc ps k 0 h)
          ∙ (ap all (map-append f (take k ps) (get_or ps k 0 ∷ []))
          ∙ (gather_append (map f (take k ps)) (f (get_or ps k 0) ∷ []) ∙ ap (λ (l : List ℕ). all (map f (take k ps)) ++ l) (gather_one (f (get_or ps k 0)))))

      pub gather_count : length (all (map f (take (k + 1) ps))) ≡ length (all (map f (take k ps))) + length (each (f (get_or ps k 0)))
      gather_count = ap length gather_next ∙ length-append (all (map f (take k ps))) (each (f (get_or ps k 0)))

    pub written_begin : (xs : List ℕ) → Written all f ps xs xs 0 0
    written_begin xs = record { inside = omega arith; upto = sym (ap length g.none); holds = ap (λ (l : List ℕ). over l xs) (sym g.none) }

    module _ (xs zs : List ℕ) (k to : ℕ) (w : Written all f ps xs zs k to) where
      pub written_count : length ps ≤ k → to ≡ length (all (map f ps))
      written_count h = w.upto ∙ ap (λ (l : List ℕ). length (all (map f l))) (take_all k ps h)

      pub written_end : length ps ≤ k → zs ≡ over (all (map f ps)) xs
      written_end h = w.holds ∙ ap (λ (l : List ℕ). over (all (map f l)) xs) (take_all k ps h)

      pub written_next : k < length ps → (to' : ℕ) (zs' : List ℕ) → to' ≡ to + length (each (f (get_or ps k 0))) → zs' ≡ paste zs to (each (f (get_or ps k 0))) (length (each (f (get_or ps k 0))))
          → Written all f ps xs zs' (k + 1) to'
      written_next h to' zs' e z =
          let t = each (f (get_or ps k 0)) in
          record {
            inside = omega arith;
            upto = omega (arith, gather_count k h, w.upto);
            holds = z
                ∙ (ap (λ (l : List ℕ). paste l to t (length t)) w.holds
                ∙ (over_paste (all (map f (take k ps))) xs to (length t) t (sym w.upto) (omega arith)
                ∙ ap (λ (l : List ℕ). over l xs) (ap (λ (l : List ℕ). all (map f (take k ps)) ++ l) (take-length t) ∙ sym (gather_next k h))));
          }

      module _ (room : length (all (map f ps)) ≤ length xs) where
        pub written_length : length zs ≡ length xs
        written_length = ap length w.holds ∙ over_length (all (map f (take k ps))) xs (omega (arith, gather_most k))

        pub written_room : k < length ps → to + length (each (f (get_or ps k 0))) ≤ length zs
        written_room h = omega (arith, written_length, gather_count k h, gather_most (k + 1), w.upto)

-- ---- a part is a rule or a state of the list

-- what a state of the list says
state_phones : (list : List ℕ) (q : ℕ) → StateOf list q → length (phones_ending (words_of list) q) ≤ max_listed_phones
state_phones list q s = subst (λ (ws : List ℕ). length (phones_ending ws q) ≤ max_listed_phones) (words_are list) (phones-long _ _ q (asks_of _ q _ (list_state list q s) refl).0)

module _ (image list : List ℕ) where
  module _ (p q : ℕ) (e : q ≡ place_in p) where
    rule_part : q < max_rules → part_at image list p ≡ piece_at image p
    rule_part h = rw (lt-ltb (place_in p) max_rules (omega arith)) refl

    pub rule_phones : q < max_rules → phones_in (part_at image list p) ≡ (entry_at image q).rule.phones
    rule_phones h = ap phones_in (rule_part h) ∙ ap (λ (x : ℕ). (entry_at image x).rule.phones) (sym e)

    pub rule_numbers : q < max_rules → numbers_in (part_at image list p) ≡ (entry_at image q).number ∷ []
    rule_numbers h = ap numbers_in (rule_part h) ∙ ap (λ (x : ℕ). (entry_at image x).number ∷ []) (sym e)

    pub rule_contested : q < max_rules → contested_in (part_at image list p) ≡ cond (ltb 1 (fitting_in p)) 1 0
    rule_contested h = ap contested_in (rule_part h)

    listed_part : max_rules ≤ q → part_at image list p ≡ listed (phones_ending (words_of list) (q - max_rules))
    listed_part h = rw (le-ltb (place_in p) max_rules (omega arith)) (ap (λ (x : ℕ). listed (phones_ending (words_of list) (x - max_rules))) (sym e))

    pub listed_phones : max_rules ≤ q → phones_in (part_at image list p) ≡ phones_ending (words_of list) (q - max_rules)
    listed_phones h = ap phones_in (listed_part h)

    pub listed_numbers : max_rules ≤ q → numbers_in (part_at image list p) ≡ []
    listed_numbers h = ap numbers_in (listed_part h)

    pub listed_contested : max_rules ≤ q → contested_in (part_at image list p) ≡ 0
    listed_contested h = ap contested_in (listed_part h)

  -- neither has more phones than a listed word may
  pub part_most : valid image ≡ true → (p : ℕ) → PartIn image list p → length (phones_in (part_at image list p)) ≤ max_listed_phones
  part_most ok p i = go (dec_le max_rules (place_in p))
    where
      go : Dec (max_rules ≤ place_in p) → length (phones_in (part_at image list p)) ≤ max_listed_phones
      go (yes h) = omega (arith, ap length (listed_phones p _ refl h), state_phones list (place_in p - max_rules) (i.state h))
      go (no n) =
          let h : place_in p < max_rules = omega arith in
          omega (arith, ap length (rule_phones p _ refl h), (entry_shaped image ok (place_in p) (i.rule h)).phones-most)

  one_number : (p : ℕ) → length (numbers_in (part_at image list p)) ≡ cond (ltb (place_in p) max_rules) 1 0
  one_number p = by_bool (ltb (place_in p) max_rules) (λ e. rw e refl) (λ e. rw e refl)

  -- each rule gives its number
  pub numbers_count : (ps : List ℕ) → length (numbers_of (parts_at image list ps)) ≡ rules_among ps
  numbers_count [] = refl
  numbers_count (p ∷ ps) = length-append (numbers_in (part_at image list p)) (numbers_of (parts_at image list ps)) ∙ ap₂ ◌+◌ (one_number p) (numbers_count ps)

-- one part written: its phones, and its number where it has one
module _ (x : Piece) (from to : Spoken) (phones numbers phones' numbers' t : List ℕ) (a : phones_in x ≡ t) (e : to.phones ≡ from.phones + length t)
    (s : phones' ≡ paste phones from.phones t (length t)) where
  given_phones : phones' ≡ paste phones from.phones (phones_in x) (length (phones_in x))
  given_phones = s ∙ ap (λ (l : List ℕ). paste phones from.phones l (length l)) (sym a)

  pub given_rule : (n c : ℕ) → numbers_in x ≡ n ∷ [] → contested_in x ≡ c → to.numbers ≡ from.numbers + 1 → to.contested ≡ from.contested + c → from.numbers < length numbers
      → numbers' ≡ set numbers from.numbers n → PartGiven x from phones numbers to phones' numbers'
  given_rule n c b y i j u w =
      let k = from.numbers in
      record {
        phone = e ∙ ap (λ (l : List ℕ). from.phones + length l) (sym a);
        number = i ∙ ap (λ (l : List ℕ). k + length l) (sym b);
        contested = j ∙ ap (λ (m : ℕ). from.contested + m) (sym y);
        phones-are = given_phones;
        numbers-are = w
            ∙ (set_split numbers k n u
            ∙ (ap (λ (m : ℕ). take k numbers ++ n ∷ drop m numbers) (sym (add-one k))
            ∙ (sym (append_snoc (take k numbers) n (drop (k + 1) numbers)) ∙ ap (λ (l : List ℕ). paste numbers k l (length l)) (sym b))));
      }

  pub given_listed : numbers_in x ≡ [] → contested_in x ≡ 0 → to.numbers ≡ from.numbers → to.contested ≡ from.contested → numbers' ≡ numbers
      → PartGiven x from phones numbers to phones' numbers'
  given_listed b y i j w = record {
    phone = e ∙ ap (λ (l : List ℕ). from.phones + length l) (sym a);
    number = omega (arith, ap length b);
    contested = omega arith;
    phones-are = given_phones;
    numbers-are = w ∙ (paste-zero numbers from.numbers [] ∙ ap (λ (l : List ℕ). paste numbers from.numbers l (length l)) (sym b));
  }

-- ---- the cases of `delivered`

module _ (rs : List Piece) (phones numbers : List ℕ) where
  pub phones_short : leb (length (phones_of rs)) (length phones) ≡ false → (m : ℕ) → m ≡ length (phones_of rs) → saying (refused 4 m) phones numbers ≡ delivered (speaks rs 0) phones numbers
  phones_short h m a = rw (a, h)

  module _ (h : leb (length (phones_of rs)) (length phones) ≡ true) where
    pub numbers_short : leb (length (numbers_of rs)) (length numbers) ≡ false → (m : ℕ) → m ≡ length (numbers_of rs) → saying (refused 5 m) phones numbers ≡ delivered (speaks rs 0) phones numbers
    numbers_short u m b = rw (b, h, u)

    pub both_written : leb (length (numbers_of rs)) (length numbers) ≡ true → (g : Spoken) → AllGiven rs g → (phones' numbers' : List ℕ) → phones' ≡ over (phones_of rs) phones → numbers' ≡ over (numbers_of rs) numbers
        → saying (spoken g.phones g.numbers g.contested) phones' numbers' ≡ delivered (speaks rs 0) phones numbers
    both_written u g a phones' numbers' p q = rw (p, q, a.phones, a.numbers, a.contested, h, u)
