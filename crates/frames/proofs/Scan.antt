-- What the scan of a line has found so far: what remains from here gives the whole line, and the frame's bytes so far stand in the lent ones.
-- Assumes nothing.
use Rattle.std.proofs.Common.{◌≡◌, ℕ, zero, suc, ◌+◌, ◌-◌, ◌%◌, ◌<◌, ◌≤◌, Bool, true, false, cond, eqb, leb, List, [], ◌∷◌, ◌++◌, length, get_or, take, drop, set, sym, refl, ap, ◌∙◌, ap₂, append_assoc, append-nil, add-one, arith, length-append, length-drop, drop_of_length-le, length-take, length-take-le, get_or-drop, take_all, drop-cons, drop-drop, eq-eqb, ne_eqb, eqb-true, leb-false, leb-true}
use Rattle.std.specs.Prelude.{Some, None}
use borrow.Author.Tests.{eqb-false}
use lib.Seq.{take-append-le, set_out}
use Rattle.rules.specs.Memory.{over}
use Rattle.rules.proofs.Memory.{over_length, over_snoc}
use Rattle.rules.proofs.Cases.{by_bool}
use Rattle.frames.specs.Lines.{total, complement, Parsed, after, guard, read_line, checked, sound_line, pair_of, decoded, report, past_line, line_after}
use Rattle.frames.specs.Lines.Parsed.{Bad, Good}
use Rattle.frames.proofs.Lines.{total_append}
use Rattle.frames.proofs.Pairs.{read_pair, decoded_pair, read_unpaired, decoded_unpaired, read_end, decoded_end, pair_room}

-- ---- the bytes in hand, before what a line goes on with

abbrev after_all : List ℕ → Parsed → Parsed
after_all [] l = l
after_all (b ∷ f) l = after b (after_all f l)

after_snoc : (f : List ℕ) (b : ℕ) (l : Parsed) → after_all (f ++ (b ∷ [])) l ≡ after_all f (after b l)
after_snoc [] b l = refl
after_snoc (a ∷ f) b l = ap (after a) (after_snoc f b l)

after_end : (f rest : List ℕ) → after_all f (Good [] rest) ≡ Good f rest
after_end [] rest = refl
after_end (a ∷ f) rest = ap (after a) (after_end f rest)

after_bad : (f : List ℕ) → after_all f Bad ≡ Bad
after_bad [] = refl
after_bad (a ∷ f) = ap (after a) (after_bad f)

-- a byte more, stored where there is room
stored_next : (xs f : List ℕ) (b : ℕ) → set (over (take (length xs) f) xs) (length f) b ≡ over (take (length xs) (f ++ (b ∷ []))) xs
stored_next xs f b =
    by_bool (leb (length xs) (length f))
    (λ e.
    let h : length xs ≤ length f = leb-true (length xs) (length f) e in
    let t : length (take (length xs) f) ≡ length xs = length-take-le (length xs) f h in
    set_out (over (take (length xs) f) xs) (length f) b (omega (arith, over_length (take (length xs) f) xs (omega arith)))
    ∙ ap (λ (l : List ℕ). over l xs) (sym (take-append-le (length xs) f (b ∷ []) h)))
    (λ e.
    let h : length f < length xs = leb-false (length xs) (length f) e in
    ap (λ (l : List ℕ). set (over l xs) (length f) b) (take_all (length xs) f (omega arith))
    ∙ (over_snoc f xs (length f) b refl h
    ∙ ap (λ (l : List ℕ). over l xs) (sym (take_all (length xs) (f ++ (b ∷ [])) (omega (arith, length-append f (b ∷ [])))))))

pub record Scan (s : List ℕ) (at : ℕ) (xs frame : List ℕ) (sum last len i : ℕ) : Type 0 where
  pub done : List ℕ
  pub ahead : read_line (drop at s) ≡ after_all done (read_line (drop i s))
  pub bytes : decoded (drop at s) ≡ done ++ decoded (drop i s)
  pub stored : frame ≡ over (take (length xs) done) xs
  pub summed : total done % 256 ≡ (sum + last) % 256
  pub sum-byte : sum < 256
  pub last_byte : last < 256
  pub counted : length done ≡ len
  pub within : length done ≤ i

pub scan_start : (s : List ℕ) (at : ℕ) (xs : List ℕ) → Scan s at xs xs 0 0 0 at
scan_start s at xs = record {
  done = [];
  ahead = refl;
  bytes = refl;
  stored = start (length xs);
  summed = refl;
  sum-byte = omega arith;
  last_byte = omega arith;
  counted = refl;
  within = omega arith;
}
  where
    start : (n : ℕ) → xs ≡ over (take n []) xs
    start zero = refl
    start (suc n) = refl

guarded : (len : ℕ) (a b : Bool) (l : Parsed) → cond a (cond b (report len l) (report len Bad)) (report len Bad) ≡ report len (guard a (guard b l))
guarded len true true l = refl
guarded len true false l = refl
guarded len false b l = refl

-- the last byte is the one that the sum of those before it asks for, where all add to zero
ends_sum : (sum last : ℕ) → sum < 256 → last < 256 → eqb last (complement sum) ≡ eqb ((sum + last) % 256) 0
ends_sum sum last h g =
    by_bool (eqb last (complement sum))
    (λ e. let u = eqb-true last (complement sum) e in e ∙ sym (eq-eqb ((sum + last) % 256) 0 (omega arith)))
    (λ e. let u = eqb-false last (complement sum) e in e ∙ sym (ne_eqb ((sum + last) % 256) 0 (λ z. u (omega arith))))

module _ (s : List ℕ) (at : ℕ) (xs frame : List ℕ) (sum last len i : ℕ) (c : Scan s at xs frame sum last len i) where
  pub scan_len : len ≤ i
  scan_len = rw (← c.counted) c.within

  pub scan_length : length frame ≡ length xs
  scan_length = ap length c.stored ∙ over_length (take (length xs) c.done) xs (omega (arith, length-take (length xs) c.done))

  at_front : get_or (drop i s) 0 0 ≡ get_or s i 0
  at_front = get_or-drop i s 0 0 ∙ ap (λ (n : ℕ). get_or s n 0) (omega arith)

  -- no byte more is read
  shut : decoded (drop i s) ≡ [] → frame ≡ over (take (length xs) (decoded (drop at s))) xs
  shut e =
      let d : decoded (drop at s) ≡ c.done = c.bytes ∙ (ap (λ (l : List ℕ). c.done ++ l) e ∙ append-nil c.done) in
      c.stored ∙ ap (λ (l : List ℕ). over (take (length xs) l) xs) (sym d)

  unsound : read_line (drop i s) ≡ Bad → None ≡ report (length s) (sound_line (drop at s))
  unfolding sound_line
  unsound r =
      let a : read_line (drop at s) ≡ Bad = c.ahead ∙ (ap (after_all c.done) r ∙ after_bad c.done) in
      ap (λ (l : Parsed). report (length s) (checked l)) (sym a)

  -- the text ends inside the line
  pub out_line : length s ≤ i → None ≡ report (length s) (sound_line (drop at s))
  out_line h = unsound (rw (drop_of_length-le s h))

  pub out_bytes : length s ≤ i → frame ≡ over (take (length xs) (decoded (drop at s))) xs
  unfolding decoded
  out_bytes h = shut (rw (drop_of_length-le s h))

  module _ (h : i < length s) where
    -- the line ends here
    pub end_bytes : get_or s i 0 ≡ 10 → frame ≡ over (take (length xs) (decoded (drop at s))) xs
    end_bytes e = shut (decoded_end (drop i s) (at_front ∙ e))

    pub end_line : get_or s i 0 ≡ 10
        → cond (leb 2 len) (cond (eqb last (complement sum)) (Some (record { next = i + 1; len = len })) None) None ≡ report (length s) (sound_line (drop at s))
    unfolding sound_line
    end_line e =
        let f = c.done in
        let rest = drop (i + 1) s in
        let r : read_line (drop i s) ≡ Good [] rest = read_end (drop i s) (omega (arith, length-drop i s)) (at_front ∙ e) ∙ ap (Good []) (drop-drop 1 i s) in
        let a : read_line (drop at s) ≡ Good f rest = c.ahead ∙ (ap (after_all f) r ∙ after_end f rest) in
        let n : i + 1 ≡ length s - length rest = omega (arith, length-drop (i + 1) s) in
        rw (n, ← c.counted, ends_sum sum last c.sum-byte c.last_byte, ← c.summed)
        (guarded (length s) (leb 2 (length f)) (eqb (total f % 256) 0) (Good f rest) ∙ ap (λ (m : Parsed). report (length s) (checked m)) (sym a))

    module _ (ne : get_or s i 0 ≡ 10 → ⊥) where
      front_ne : get_or (drop i s) 0 0 ≡ 10 → ⊥
      front_ne q = ne (sym at_front ∙ q)

      -- no pair of digits stands here
      pub fault_line : None ≡ pair_of (drop i s) → None ≡ report (length s) (sound_line (drop at s))
      fault_line e = unsound (read_unpaired (drop i s) front_ne e)

      pub fault_bytes : None ≡ pair_of (drop i s) → frame ≡ over (take (length xs) (decoded (drop at s))) xs
      fault_bytes e = shut (decoded_unpaired (drop i s) front_ne e)

      module _ (b : ℕ) (e : Some b ≡ pair_of (drop i s)) where
        pub scan_room : i + 2 ≤ length s
        scan_room = omega (arith, pair_room b (drop i s) e, length-drop i s)

        pub scan_next : (r : ℕ) → r ≡ (sum + last) % 256 → b < 256 → (z : List ℕ) → z ≡ set frame len b → Scan s at xs z r b (len + 1) (i + 2)
        scan_next r q v z w =
            let f = c.done in
            let l : read_line (drop i s) ≡ after b (read_line (drop (i + 2) s)) =
            read_pair b (drop i s) front_ne e ∙ ap (λ (m : List ℕ). after b (read_line m)) (drop-drop 2 i s) in
            let d : decoded (drop i s) ≡ b ∷ decoded (drop (i + 2) s) =
            decoded_pair b (drop i s) front_ne e ∙ ap (λ (m : List ℕ). b ∷ decoded m) (drop-drop 2 i s) in
            record {
              done = f ++ (b ∷ []);
              ahead = c.ahead ∙ (ap (after_all f) l ∙ sym (after_snoc f b (read_line (drop (i + 2) s))));
              bytes = c.bytes ∙ (ap (λ (m : List ℕ). f ++ m) d ∙ sym (append_assoc f (b ∷ []) (decoded (drop (i + 2) s))));
              stored = w ∙ (ap₂ (λ (y : List ℕ) (n : ℕ). set y n b) c.stored (sym c.counted) ∙ stored_next xs f b);
              summed = let t : r ≡ total f % 256 = q ∙ sym c.summed in omega (arith, total_append f (b ∷ []), t);
              sum-byte = omega (arith, q);
              last_byte = v;
              counted = omega (arith, length-append f (b ∷ []), c.counted);
              within = omega (arith, length-append f (b ∷ []), c.within);
            }

-- ---- a search for a line's end

pub record Search (s : List ℕ) (at i : ℕ) : Type 0 where
  pub ahead : past_line (drop at s) ≡ past_line (drop i s)

module _ (s : List ℕ) (at i : ℕ) (c : Search s at i) where
  pub search_out : length s ≤ i → length s ≡ line_after s at
  unfolding line_after
  search_out h =
      let e : past_line (drop at s) ≡ [] = c.ahead ∙ rw (drop_of_length-le s h) in
      rw e (omega arith)

  module _ (h : i < length s) where
    here : drop i s ≡ get_or s i 0 ∷ drop (i + 1) s
    here = rw add-one (drop-cons s i 0 h)

    pub search_end : get_or s i 0 ≡ 10 → i + 1 ≡ line_after s at
    unfolding line_after
    search_end e =
        let q : past_line (drop at s) ≡ drop (i + 1) s = c.ahead ∙ rw (here, eq-eqb _ _ e) in
        rw q (omega (arith, length-drop (i + 1) s))

    pub search_next : (get_or s i 0 ≡ 10 → ⊥) → Search s at (i + 1)
    search_next e = record { ahead = c.ahead ∙ rw (here, ne_eqb _ _ e) }
