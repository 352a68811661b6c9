-- Many names in one call: while names are answered in turn, what stands and what is to come make the same lot.
-- Assumes nothing.
use Rattle.std.specs.Prelude.{Result}
use Prim.Native.Nat.{ℕ, ◌+◌, ◌-◌, ◌*◌, ◌≤◌}
use mathlib.Core.Path.{◌≡◌, refl, sym, ap, ap₂, ◌∙◌}
use mathlib.Core.Bool.{true, false}
use mathlib.Core.List.{List, [], ◌∷◌, ◌++◌}
use native.Mathlib.Omega.{arith}
use lib.Dec.{leb}
use lib.ListN.{length, get_or, take, drop, length-drop, take-append-drop}
use borrow.Rule.Slice.PartMut.{mid_of, put_mid}
use borrow.Author.Tests.{leb-true}
use Rattle.rules.specs.Memory.{over}
use Rattle.rules.proofs.Memory.{over_length, put_tail, tail_is}
use Rattle.rules.proofs.Cases.{by_bool}
use Rattle.fitting.specs.Fitting.{Str}
use Rattle.speech.specs.Speech.{Outcome, speaks, declines, phones_of, numbers_of, Said, told_of, saying, delivered, refused}
use Rattle.speech.specs.declared.Spoken.{Spoken}
use Rattle.rules.specs.declared.Refusal.{Refusal}
use Rattle.tables.specs.Walk.{Walked}
use Rattle.many_names.specs.Names.{names_in, name_at, has_next}
use Rattle.many_names.specs.Codes.{phones_given, numbers_given}
use Rattle.many_names.specs.Many.{reply_size, replied, Lot, then, each, rest, whole, Within, next_name, Next}
use Rattle.many_names.specs.declared.Progress.{Progress}
use Rattle.many_names.proofs.Runs.{part_take, part_drop, part_in, part_length, put_over, put-length}
use Rattle.many_names.proofs.Names.{next-count, next-whole, names-next, names-end}

-- ---- the lot

-- an answer gives no more than the lent memory has, which keeps its length
pub record Fitting (s : Said) (phones numbers : List ℕ) : Type 0 where
  pub phones-fit : phones_given s.told ≤ length phones
  pub numbers_fit : numbers_given s.told ≤ length numbers
  pub phones-keep : length s.phones ≡ length phones
  pub numbers_keep : length s.numbers ≡ length numbers

abbrev pub Fits : (Str → List ℕ → List ℕ → Walked) → Type 0
Fits f = (n : Str) (phones numbers : List ℕ) → Fitting (f n phones numbers).said phones numbers

lot_is : (l m : Lot) → l.count ≡ m.count → l.replies ≡ m.replies → l.phones ≡ m.phones → l.numbers ≡ m.numbers → l ≡ m
lot_is l m a b c d = λ i. record { count = a i; replies = b i; phones = c i; numbers = d i }

abbrev pub start : Progress
start = record { at = 0; count = 0; phones = 0; numbers = 0 }

-- the lot of the call is that of what stands with what is to come; p lies in the lent memory, which keeps its lengths
pub record Going (f : Str → List ℕ → List ℕ → Walked) (names : List ℕ) (k : ℕ) (ph₀ nu₀ re₀ ph nu re : List ℕ) (p : Progress) : Type 0 where
  pub same : whole f names k ph nu re p ≡ whole f names k ph₀ nu₀ re₀ start
  pub within : Within f names k ph nu re p
  pub phones-long : length ph ≡ length ph₀
  pub numbers-long : length nu ≡ length nu₀
  pub replies-long : length re ≡ length re₀

module _ (f : Str → List ℕ → List ℕ → Walked) (names : List ℕ) (k : ℕ) where
  pub begin : (ph nu re : List ℕ) → reply_size * k ≤ length re → Going f names k ph nu re ph nu re start
  begin ph nu re h = record {
    same = refl;
    within = record { at_in = omega arith; phones-in = omega arith; numbers-in = omega arith; count-in = omega arith; replies-in = h };
    phones-long = refl;
    numbers-long = refl;
    replies-long = refl;
  }

  module _ (ph nu re : List ℕ) (p : Progress) (i : Within f names k ph nu re p) (h : has_next names p.at p.count k ≡ true)
      (ph' nu' re' : List ℕ) (p' : Progress) (x : Next f names ph nu re p ph' nu' re' p') where
    abbrev w : Walked
    w = next_name f names ph nu re p

    replies-room : reply_size * p.count + reply_size ≤ length re
    replies-room = omega (arith, i.replies-in, next-count names p.at p.count k h)

    reply_end : reply_size * p'.count ≡ reply_size * p.count + length (replied w)
    reply_end = omega (arith, x.count_next)

    replies_put : re' ≡ take (reply_size * p.count) re ++ (replied w ++ drop (reply_size * p'.count) re)
    replies_put = x.replies-now ∙ ap (λ (m : ℕ). take (reply_size * p.count) re ++ (replied w ++ drop m re)) (sym reply_end)

    rest_is : rest f names k ph nu p ≡ then w (rest f names k ph' nu' p')
    rest_is =
        let ns : names_in (k - p.count) (drop p.at names) ≡ name_at names p.at ∷ names_in (k - p'.count) (drop p'.at names) =
        names-next names p.at p.count k h ∙ ap₂ (λ (m n : ℕ). name_at names p.at ∷ names_in (k - m) (drop n names)) (sym x.count_next) (sym x.at_next) in
        let dp = part_drop p.phones (phones_given w.said.told) p'.phones ph w.said.phones ph' i.phones-in x.phones-next x.phones-now in
        let dn = part_drop p.numbers (numbers_given w.said.told) p'.numbers nu w.said.numbers nu' i.numbers-in x.numbers-next x.numbers-now in
        ap (λ (l : List Str). each f l (drop p.phones ph) (drop p.numbers nu)) ns
        ∙ ap₂ (λ (u v : List ℕ). then w (each f (names_in (k - p'.count) (drop p'.at names)) u v)) (sym dp) (sym dn)

    whole_is : whole f names k ph' nu' re' p' ≡ whole f names k ph nu re p
    whole_is =
        let l = rest f names k ph' nu' p' in
        lot_is (whole f names k ph' nu' re' p') (whole f names k ph nu re p)
        (omega (arith, x.count_next, ap (λ (m : Lot). m.count) rest_is))
        (put_over (reply_size * p.count) (reply_size * p'.count) re (replied w) re' (omega (arith, replies-room)) reply_end replies_put l.replies
        ∙ ap (λ (m : Lot). take (reply_size * p.count) re ++ over m.replies (drop (reply_size * p.count) re)) (sym rest_is))
        (part_take p.phones (phones_given w.said.told) p'.phones ph w.said.phones ph' i.phones-in x.phones-next x.phones-now l.phones
        ∙ ap (λ (m : Lot). take p.phones ph ++ m.phones) (sym rest_is))
        (part_take p.numbers (numbers_given w.said.told) p'.numbers nu w.said.numbers nu' i.numbers-in x.numbers-next x.numbers-now l.numbers
        ∙ ap (λ (m : Lot). take p.numbers nu ++ m.numbers) (sym rest_is))

    fit_phones : Fits f → phones_given w.said.told ≤ length w.said.phones
    fit_phones fits =
        let a = fits (name_at names p.at) (drop p.phones ph) (drop p.numbers nu) in
        omega (arith, a.phones-fit, a.phones-keep)

    fit_numbers : Fits f → numbers_given w.said.told ≤ length w.said.numbers
    fit_numbers fits =
        let a = fits (name_at names p.at) (drop p.phones ph) (drop p.numbers nu) in
        omega (arith, a.numbers_fit, a.numbers_keep)

    replies_keep : length re' ≡ length re
    replies_keep = put-length (reply_size * p.count) (reply_size * p'.count) re (replied w) re' (omega (arith, replies-room)) reply_end replies_put (omega (arith, replies-room, x.count_next))

    phones-keep : Fits f → length ph' ≡ length ph
    phones-keep fits =
        part_length p.phones (phones_given w.said.told) p'.phones ph w.said.phones ph' i.phones-in x.phones-next x.phones-now (fits (name_at names p.at) (drop p.phones ph) (drop p.numbers nu)).phones-keep

    numbers_keep : Fits f → length nu' ≡ length nu
    numbers_keep fits =
        part_length p.numbers (numbers_given w.said.told) p'.numbers nu w.said.numbers nu' i.numbers-in x.numbers-next x.numbers-now (fits (name_at names p.at) (drop p.phones ph) (drop p.numbers nu)).numbers_keep

    within_next : Fits f → Within f names k ph' nu' re' p'
    within_next fits = record {
      at_in = omega (arith, x.at_next, next-whole names p.at p.count k h);
      phones-in = part_in p.phones (phones_given w.said.told) p'.phones ph w.said.phones ph' i.phones-in x.phones-next x.phones-now (fit_phones fits);
      numbers-in = part_in p.numbers (numbers_given w.said.told) p'.numbers nu w.said.numbers nu' i.numbers-in x.numbers-next x.numbers-now (fit_numbers fits);
      count-in = omega (arith, x.count_next, next-count names p.at p.count k h);
      replies-in = omega (arith, i.replies-in, replies_keep);
    }

  -- one name more
  pub next : Fits f → (ph₀ nu₀ re₀ ph nu re : List ℕ) (p : Progress) → Going f names k ph₀ nu₀ re₀ ph nu re p → has_next names p.at p.count k ≡ true
      → (ph' nu' re' : List ℕ) (p' : Progress) → Next f names ph nu re p ph' nu' re' p' → Going f names k ph₀ nu₀ re₀ ph' nu' re' p'
  next fits ph₀ nu₀ re₀ ph nu re p g h ph' nu' re' p' x = record {
    same = whole_is ph nu re p g.within h ph' nu' re' p' x ∙ g.same;
    within = within_next ph nu re p g.within h ph' nu' re' p' x fits;
    phones-long = phones-keep ph nu re p g.within h ph' nu' re' p' x fits ∙ g.phones-long;
    numbers-long = numbers_keep ph nu re p g.within h ph' nu' re' p' x fits ∙ g.numbers-long;
    replies-long = replies_keep ph nu re p g.within h ph' nu' re' p' x ∙ g.replies-long;
  }

  -- no name more: what stands is the lot
  whole_end : (ph nu re : List ℕ) (p : Progress) → has_next names p.at p.count k ≡ false
      → whole f names k ph nu re p ≡ record { count = p.count; replies = re; phones = ph; numbers = nu }
  whole_end ph nu re p h =
      let r : rest f names k ph nu p ≡ record { count = 0; replies = []; phones = drop p.phones ph; numbers = drop p.numbers nu } =
      ap (λ (l : List Str). each f l (drop p.phones ph) (drop p.numbers nu)) (names-end names p.at p.count k h) in
      lot_is (whole f names k ph nu re p) (record { count = p.count; replies = re; phones = ph; numbers = nu })
      (omega (arith, ap (λ (m : Lot). m.count) r))
      (ap (λ (m : Lot). take (reply_size * p.count) re ++ over m.replies (drop (reply_size * p.count) re)) r ∙ take-append-drop (reply_size * p.count) re)
      (ap (λ (m : Lot). take p.phones ph ++ m.phones) r ∙ take-append-drop p.phones ph)
      (ap (λ (m : Lot). take p.numbers nu ++ m.numbers) r ∙ take-append-drop p.numbers nu)

  whole_start : (ph nu re : List ℕ)
      → whole f names k ph nu re start
      ≡ record { count = (each f (names_in k names) ph nu).count; replies = over (each f (names_in k names) ph nu).replies re; phones = (each f (names_in k names) ph nu).phones; numbers = (each f (names_in k names) ph nu).numbers }
  whole_start ph nu re =
      let z : k - 0 ≡ k = omega arith in
      let r : rest f names k ph nu start ≡ each f (names_in k names) ph nu = ap (λ (j : ℕ). each f (names_in j names) ph nu) z in
      lot_is (whole f names k ph nu re start) (record { count = (each f (names_in k names) ph nu).count; replies = over (each f (names_in k names) ph nu).replies re; phones = (each f (names_in k names) ph nu).phones; numbers = (each f (names_in k names) ph nu).numbers })
      (omega (arith, ap (λ (m : Lot). m.count) r)) (ap (λ (m : Lot). over m.replies re) r) (ap (λ (m : Lot). m.phones) r) (ap (λ (m : Lot). m.numbers) r)

  module _ (ph₀ nu₀ re₀ ph nu re : List ℕ) (p : Progress) (g : Going f names k ph₀ nu₀ re₀ ph nu re p) (h : has_next names p.at p.count k ≡ false) where
    ended : ◌≡◌ {A = Lot} (record { count = p.count; replies = re; phones = ph; numbers = nu })
        (record { count = (each f (names_in k names) ph₀ nu₀).count; replies = over (each f (names_in k names) ph₀ nu₀).replies re₀; phones = (each f (names_in k names) ph₀ nu₀).phones; numbers = (each f (names_in k names) ph₀ nu₀).numbers })
    ended = sym (whole_end ph nu re p h) ∙ (g.same ∙ whole_start ph₀ nu₀ re₀)

    pub end-count : p.count ≡ (each f (names_in k names) ph₀ nu₀).count
    end-count = ap (λ (m : Lot). m.count) ended

    pub end-replies : re ≡ over (each f (names_in k names) ph₀ nu₀).replies re₀
    end-replies = ap (λ (m : Lot). m.replies) ended

    pub end-phones : ph ≡ (each f (names_in k names) ph₀ nu₀).phones
    end-phones = ap (λ (m : Lot). m.phones) ended

    pub end-numbers : nu ≡ (each f (names_in k names) ph₀ nu₀).numbers
    end-numbers = ap (λ (m : Lot). m.numbers) ended

-- ---- what a name comes to gives no more than the lent memory has

kept : (n p : ℕ) (phones numbers : List ℕ) → Fitting (saying (refused n p) phones numbers) phones numbers
kept n p phones numbers = record { phones-fit = omega arith; numbers_fit = omega arith; phones-keep = refl; numbers_keep = refl }

pub delivered-fit : (o : Outcome) (phones numbers : List ℕ) → Fitting (delivered o phones numbers) phones numbers
delivered-fit (declines n p steps) phones numbers = kept n p phones numbers
delivered-fit (speaks xs steps) phones numbers =
    by_bool (leb (length (phones_of xs)) (length phones))
    (λ a. by_bool (leb (length (numbers_of xs)) (length numbers))
    (λ b.
    let h = leb-true (length (phones_of xs)) (length phones) a in
    let k = leb-true (length (numbers_of xs)) (length numbers) b in
    rw (a, b) (record { phones-fit = h; numbers_fit = k; phones-keep = over_length (phones_of xs) phones h; numbers_keep = over_length (numbers_of xs) numbers k }))
    (λ b. rw (a, b) (kept 5 (length (numbers_of xs)) phones numbers)))
    (λ a. rw a (kept 4 (length (phones_of xs)) phones numbers))

-- ---- one name, as the code answers it

module _ (f : Str → List ℕ → List ℕ → Walked) (fits : Fits f) (names ph nu re : List ℕ) (p : Progress) (n : ℕ) (here : n ≡ get_or names p.at 0) (s : Result Spoken Refusal) (steps : ℕ) (zs ys : List ℕ)
    (e : record { said = saying (told_of s) zs ys; steps = steps } ≡ f (take (p.at + 1 + n - (p.at + 1)) (drop (p.at + 1) names)) (mid_of p.phones (length ph - p.phones) ph) (mid_of p.numbers (length nu - p.numbers) nu)) where
  abbrev given : Walked
  given = record { said = saying (told_of s) zs ys; steps = steps }

  named : given ≡ next_name f names ph nu re p
  named =
      let size : p.at + 1 + n - (p.at + 1) ≡ get_or names p.at 0 = omega (arith, here) in
      e ∙ (ap (λ (k : ℕ). f (take k (drop (p.at + 1) names)) (mid_of p.phones (length ph - p.phones) ph) (mid_of p.numbers (length nu - p.numbers) nu)) size
      ∙ ap₂ (f (name_at names p.at)) (tail_is p.phones ph) (tail_is p.numbers nu))

  -- what the answer gives has room after what was given before
  pub phones-room : (g : ℕ) → g ≡ phones_given (told_of s) → p.phones ≤ length ph → p.phones + g ≤ length ph
  phones-room g h k =
      let a = (fits (name_at names p.at) (drop p.phones ph) (drop p.numbers nu)).phones-fit in
      let b : phones_given (told_of s) ≡ phones_given (next_name f names ph nu re p).said.told = ap (λ (x : Walked). phones_given x.said.told) named in
      omega (arith, a, b, h, k, length-drop p.phones ph)

  pub numbers-room : (g : ℕ) → g ≡ numbers_given (told_of s) → p.numbers ≤ length nu → p.numbers + g ≤ length nu
  numbers-room g h k =
      let a = (fits (name_at names p.at) (drop p.phones ph) (drop p.numbers nu)).numbers_fit in
      let b : numbers_given (told_of s) ≡ numbers_given (next_name f names ph nu re p).said.told = ap (λ (x : Walked). numbers_given x.said.told) named in
      omega (arith, a, b, h, k, length-drop p.numbers nu)

  pub next-is : (g h : ℕ) → g ≡ phones_given (told_of s) → h ≡ numbers_given (told_of s) → (re' : List ℕ)
      → re' ≡ take (reply_size * p.count) re ++ (replied given ++ drop (reply_size * p.count + reply_size) re)
      → Next f names ph nu re p (put_mid p.phones (length ph - p.phones) ph zs) (put_mid p.numbers (length nu - p.numbers) nu ys) re'
      (record { at = p.at + 1 + n; count = p.count + 1; phones = p.phones + g; numbers = p.numbers + h })
  next-is g h eg eh re' er = record {
    at_next = ap (λ (k : ℕ). p.at + 1 + k) here;
    count_next = refl;
    phones-next = ap (λ (k : ℕ). p.phones + k) (eg ∙ ap (λ (x : Walked). phones_given x.said.told) named);
    numbers-next = ap (λ (k : ℕ). p.numbers + k) (eh ∙ ap (λ (x : Walked). numbers_given x.said.told) named);
    phones-now = put_tail p.phones ph zs ∙ ap (λ (x : Walked). take p.phones ph ++ x.said.phones) named;
    numbers-now = put_tail p.numbers nu ys ∙ ap (λ (x : Walked). take p.numbers nu ++ x.said.numbers) named;
    replies-now = er ∙ ap (λ (x : Walked). take (reply_size * p.count) re ++ (replied x ++ drop (reply_size * p.count + reply_size) re)) named;
  }
