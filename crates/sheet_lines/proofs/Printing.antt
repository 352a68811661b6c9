-- Lines printed from replies. While names are printed in turn, the lines so far and those to come are the lines of all.
-- Assumes nothing.
use Prim.Native.Nat.{ℕ, zero, suc, ◌+◌, ◌-◌, ◌*◌, ◌%◌, ◌≤◌, ◌<◌}
use mathlib.Core.Path.{◌≡◌, refl, sym, ap, ap₂, ◌∙◌, subst}
use mathlib.Core.Bool.{Bool, cond}
use mathlib.Core.List.{List, [], ◌++◌, append_assoc, append-nil}
use native.Mathlib.Omega.{arith}
use lib.ListN.{length, get_or, take, drop, length-append, length-drop}
use lib.Seq.{drop-drop, length-take-le}
use borrow.Rule.Slice.PartMut.{mid_of, put_mid}
use borrow.Author.Tests.{eq-eqb, ne_eqb}
use Rattle.rules.specs.Memory.{over}
use Rattle.rules.specs.Refusals.{accepted, reply_code}
use Rattle.rules.proofs.Memory.{over_length, over_rest, tail_is}
use Rattle.speech.specs.Speech.{Told, spoken, refused}
use Rattle.lines.specs.Printed.{refused_body, printed}
use Rattle.lines.proofs.Printed.{length_printed}
use Rattle.answer_lines.specs.Answers.{longest_line, spoken_body, told_body, ToldWithin}
use Rattle.answer_lines.proofs.Fields.{length_spoken}
use Rattle.many_names.specs.Codes.{phones_given, numbers_given}
use Rattle.many_names.specs.Many.{reply_size}
use Rattle.command_parts.specs.Answers.{contested_after}
use Rattle.sheet_lines.specs.declared.NamePrinted.{NamePrinted}
use Rattle.sheet_lines.specs.SheetLines.{told_by, name_line, name_lines, contested_by, Printable, AllPrintable, longest_lines, PutName, PutNames}

-- ---- a name's line, by the code of its reply

module _ (replies : List ℕ) where
  abbrev said_by : Told
  said_by = spoken (get_or replies 1 0) (get_or replies 2 0) (get_or replies 4 0)

  abbrev refused_by : Told
  refused_by = refused (get_or replies 0 0) (get_or replies 1 0)

  told_spoken : get_or replies 0 0 ≡ reply_code accepted → told_by replies ≡ said_by
  told_spoken e = ap (λ (b : Bool). cond b said_by refused_by) (eq-eqb (get_or replies 0 0) (reply_code accepted) e)

  told_refused : (get_or replies 0 0 ≡ reply_code accepted → ⊥) → told_by replies ≡ refused_by
  told_refused e = ap (λ (b : Bool). cond b said_by refused_by) (ne_eqb (get_or replies 0 0) (reply_code accepted) e)

  pub spoken_within : (phones numbers : ℕ) → get_or replies 0 0 ≡ reply_code accepted → Printable replies phones numbers
      → (get_or replies 1 0 ≤ phones) × (get_or replies 2 0 ≤ numbers) × (get_or replies 4 0 ≤ get_or replies 2 0)
  spoken_within phones numbers e h = subst (λ (t : Told). ToldWithin t phones numbers) (told_spoken e) h.within

  module _ (phones numbers : List ℕ) (before len c : ℕ) (out out' : List ℕ) where
    named : (p n : ℕ) (t : Told) → told_by replies ≡ t → len ≡ length (printed (told_body t 0 phones numbers)) → out' ≡ over (printed (told_body t 0 phones numbers)) out
        → p ≡ phones_given t → n ≡ numbers_given t → c ≡ contested_after t before
        → PutName replies phones numbers before (record { len = len; phones = p; numbers = n; contested = c }) out out'
    named p n t e l b hp hn hc = record {
      many = l ∙ ap (λ (x : Told). length (printed (told_body x 0 phones numbers))) (sym e);
      bytes = b ∙ ap (λ (x : Told). over (printed (told_body x 0 phones numbers)) out) (sym e);
      said = hp ∙ ap phones_given (sym e);
      numbered = hn ∙ ap numbers_given (sym e);
      counted = hc ∙ ap (λ (x : Told). contested_after x before) (sym e);
    }

    pub name_spoken : get_or replies 0 0 ≡ reply_code accepted → Printable replies (length phones) (length numbers) → length numbers ≤ 64
        → len ≡ length (printed (spoken_body 0 (take (get_or replies 1 0) phones) (take (get_or replies 2 0) numbers)))
        → out' ≡ over (printed (spoken_body 0 (take (get_or replies 1 0) phones) (take (get_or replies 2 0) numbers))) out
        → c ≡ get_or replies 4 0 % 256
        → PutName replies phones numbers before (record { len = len; phones = get_or replies 1 0; numbers = get_or replies 2 0; contested = c }) out out'
    name_spoken e h few l b hc =
        let w = spoken_within (length phones) (length numbers) e h in
        named (get_or replies 1 0) (get_or replies 2 0) said_by (told_spoken e) l b refl refl (omega (arith, hc, w.1, w.2, few))

    pub name_refused : (number : ℕ) → (get_or replies 0 0 ≡ reply_code accepted → ⊥) → Printable replies (length phones) (length numbers)
        → number ≡ get_or replies 0 0 % 256 → len ≡ 15 → out' ≡ over (printed (refused_body number (get_or replies 1 0))) out → c ≡ before
        → PutName replies phones numbers before (record { len = len; phones = 0; numbers = 0; contested = c }) out out'
    name_refused number e h m l b hc =
        let k : number ≡ get_or replies 0 0 = omega (arith, m, h.coded) in
        named 0 0 refused_by (told_refused e) (l ∙ sym (length_printed (refused_body (get_or replies 0 0) (get_or replies 1 0))))
        (b ∙ ap (λ (x : ℕ). over (printed (refused_body x (get_or replies 1 0))) out) k) refl refl hc

-- ---- how long a line is

length_told : (t : Told) (phones numbers : List ℕ) → ToldWithin t (length phones) (length numbers)
    → length (printed (told_body t 0 phones numbers)) ≡ 15 + 2 * phones_given t + 4 * numbers_given t
length_told (spoken p n c) phones numbers w =
    omega (
      arith,
      length_printed (spoken_body 0 (take p phones) (take n numbers)),
      length_spoken 0 (take p phones) (take n numbers),
      length-take-le p phones w.0,
      length-take-le n numbers w.1,
    )
length_told (refused n p) phones numbers w = length_printed (refused_body n p) ∙ refl

given_within : (t : Told) (p n : ℕ) → ToldWithin t p n → (phones_given t ≤ p) × (numbers_given t ≤ n)
given_within (spoken p n c) a b w = (w.0, w.1)
given_within (refused n p) a b w = (omega arith, omega arith)

-- ---- names printed in turn

module _ (names : ℕ) (replies phones numbers : List ℕ) (before : ℕ) (out₀ : List ℕ) where
  -- k names are printed: their replies, phones and numbers end where the next name's begin
  pub record Printing (k said numbered last at : ℕ) (out : List ℕ) : Type 0 where
    pub to-come : ℕ
    pub lines : List ℕ
    pub all : k + to-come ≡ names
    pub said_in : said ≤ length phones
    pub numbered-in : numbered ≤ length numbers
    pub at-is : length lines ≡ at
    pub short : at ≤ 15 * k + 2 * said + 4 * numbered
    pub bytes : out ≡ over lines out₀
    pub whole : lines ++ name_lines to-come (drop (reply_size * k) replies) (drop said phones) (drop numbered numbers) ≡ name_lines names replies phones numbers
    pub counted : contested_by to-come (drop (reply_size * k) replies) last ≡ contested_by names replies before
    pub printable : AllPrintable to-come (drop (reply_size * k) replies) (length (drop said phones)) (length (drop numbered numbers))

  pub begin : AllPrintable names replies (length phones) (length numbers) → Printing 0 0 0 before 0 out₀
  begin h = record {
    to-come = names;
    lines = [];
    all = omega arith;
    said_in = omega arith;
    numbered-in = omega arith;
    at-is = refl;
    short = omega arith;
    bytes = refl;
    whole = refl;
    counted = refl;
    printable = h;
  }

  module _ (room : longest_lines names (length phones) (length numbers) + longest_line ≤ length out₀) (k said numbered last at : ℕ) (out : List ℕ)
      (i : Printing k said numbered last at out) where
    abbrev reply : ℕ
    reply = reply_size * k

    pub printing_length : length out ≡ length out₀
    printing_length = ap length i.bytes ∙ over_length i.lines out₀ (omega (arith, room, i.at-is, i.short, i.said_in, i.numbered-in, i.all))

    pub printing_room : longest_line ≤ length out - at
    printing_room = omega (arith, room, printing_length, i.short, i.said_in, i.numbered-in, i.all)

    printable_next : (n : ℕ) → k + n ≡ names → k < names → AllPrintable n (drop reply replies) (length (drop said phones)) (length (drop numbered numbers))
        → Printable (drop reply replies) (length (drop said phones)) (length (drop numbered numbers))
    printable_next zero e h a = absurd (omega arith)
    printable_next (suc n) e h a = a.0

    -- the reply of the next name can be printed, as parts that run to the end are lent
    pub printing_printable : k < names → Printable (mid_of reply (length replies - reply) replies) (length (mid_of said (length phones - said) phones)) (length (mid_of numbered (length numbers - numbered) numbers))
    printing_printable h =
        subst (λ (l : List ℕ). Printable (mid_of reply (length replies - reply) replies) (length (mid_of said (length phones - said) phones)) (length l)) (sym (tail_is numbered numbers))
        (subst (λ (l : List ℕ). Printable (mid_of reply (length replies - reply) replies) (length l) (length (drop numbered numbers))) (sym (tail_is said phones))
        (subst (λ (l : List ℕ). Printable l (length (drop said phones)) (length (drop numbered numbers))) (sym (tail_is reply replies))
        (printable_next i.to-come i.all h i.printable)))

    module _ (r : NamePrinted) (z : List ℕ)
        (x : PutName (mid_of reply (length replies - reply) replies) (mid_of said (length phones - said) phones) (mid_of numbered (length numbers - numbered) numbers) last r (mid_of at (length out - at) out) z) where
      abbrev rs : List ℕ
      rs = drop reply replies

      abbrev ps : List ℕ
      ps = drop said phones

      abbrev ns : List ℕ
      ns = drop numbered numbers

      put_name : PutName rs ps ns last r (mid_of at (length out - at) out) z
      put_name =
          subst (λ (l : List ℕ). PutName rs ps l last r (mid_of at (length out - at) out) z) (tail_is numbered numbers)
          (subst (λ (l : List ℕ). PutName rs l (mid_of numbered (length numbers - numbered) numbers) last r (mid_of at (length out - at) out) z) (tail_is said phones)
          (subst (λ (l : List ℕ). PutName l (mid_of said (length phones - said) phones) (mid_of numbered (length numbers - numbered) numbers) last r (mid_of at (length out - at) out) z) (tail_is reply replies) x))

      next_replies : drop reply_size rs ≡ drop (reply_size * (k + 1)) replies
      next_replies = let e : reply + reply_size ≡ reply_size * (k + 1) = omega arith in drop-drop reply_size reply replies ∙ ap (λ (n : ℕ). drop n replies) e

      next_phones : drop (phones_given (told_by rs)) ps ≡ drop (said + r.phones) phones
      next_phones = drop-drop (phones_given (told_by rs)) said phones ∙ ap (λ (n : ℕ). drop (said + n) phones) (sym put_name.said)

      next_numbers : drop (numbers_given (told_by rs)) ns ≡ drop (numbered + r.numbers) numbers
      next_numbers = drop-drop (numbers_given (told_by rs)) numbered numbers ∙ ap (λ (n : ℕ). drop (numbered + n) numbers) (sym put_name.numbered)

      next_with : (n : ℕ) → k + n ≡ names → k < names
          → i.lines ++ name_lines n rs ps ns ≡ name_lines names replies phones numbers
          → contested_by n rs last ≡ contested_by names replies before
          → AllPrintable n rs (length ps) (length ns)
          → Printing (k + 1) (said + r.phones) (numbered + r.numbers) r.contested (at + r.len) (put_mid at (length out - at) out z)
      next_with zero e h w q a = absurd (omega arith)
      next_with (suc n) e h w q a =
          let g = given_within (told_by rs) (length ps) (length ns) a.0.within in
          let long = length_told (told_by rs) ps ns a.0.within in
          record {
            to-come = n;
            lines = i.lines ++ name_line rs ps ns;
            all = omega (arith, e);
            said_in = omega (arith, i.said_in, g.0, put_name.said, length-drop said phones);
            numbered-in = omega (arith, i.numbered-in, g.1, put_name.numbered, length-drop numbered numbers);
            at-is = omega (arith, length-append i.lines (name_line rs ps ns), i.at-is, put_name.many);
            short = omega (arith, i.short, put_name.many, long, put_name.said, put_name.numbered);
            bytes = over_rest i.lines out₀ (name_line rs ps ns) out z at i.bytes i.at-is put_name.bytes;
            whole = append_assoc i.lines (name_line rs ps ns) _
                ∙ (ap (λ (l : List ℕ). i.lines ++ (name_line rs ps ns ++ name_lines n l (drop (said + r.phones) phones) (drop (numbered + r.numbers) numbers))) (sym next_replies)
                ∙ (ap₂ (λ (u v : List ℕ). i.lines ++ (name_line rs ps ns ++ name_lines n (drop reply_size rs) u v)) (sym next_phones) (sym next_numbers) ∙ w));
            counted = ap₂ (λ (l : List ℕ) (m : ℕ). contested_by n l m) (sym next_replies) put_name.counted ∙ q;
            printable = subst (λ (l : List ℕ). AllPrintable n l (length (drop (said + r.phones) phones)) (length (drop (numbered + r.numbers) numbers))) next_replies
                (subst (λ (m : ℕ). AllPrintable n (drop reply_size rs) m (length (drop (numbered + r.numbers) numbers))) (sym (length-drop (phones_given (told_by rs)) ps) ∙ ap length next_phones)
                (subst (λ (m : ℕ). AllPrintable n (drop reply_size rs) (length ps - phones_given (told_by rs)) m) (sym (length-drop (numbers_given (told_by rs)) ns) ∙ ap length next_numbers) a.1));
          }

      -- one name more
      pub next : k < names → Printing (k + 1) (said + r.phones) (numbered + r.numbers) r.contested (at + r.len) (put_mid at (length out - at) out z)
      next h = next_with i.to-come i.all h i.whole i.counted i.printable

  module _ (k said numbered last at : ℕ) (out : List ℕ) where
    ended_lines : (n : ℕ) → k + n ≡ names → names ≤ k → (l : List ℕ) → l ++ name_lines n (drop (reply_size * k) replies) (drop said phones) (drop numbered numbers) ≡ name_lines names replies phones numbers
        → l ≡ name_lines names replies phones numbers
    ended_lines zero e h l w = sym (append-nil l) ∙ w
    ended_lines (suc n) e h l w = absurd (omega arith)

    ended_counted : (n : ℕ) → k + n ≡ names → names ≤ k → contested_by n (drop (reply_size * k) replies) last ≡ contested_by names replies before → last ≡ contested_by names replies before
    ended_counted zero e h w = w
    ended_counted (suc n) e h w = absurd (omega arith)

    -- no name more
    pub printed_all : Printing k said numbered last at out → names ≤ k → PutNames names replies phones numbers before (record { len = at; contested = last }) out₀ out
    printed_all i h =
        let e = ended_lines i.to-come i.all h i.lines i.whole in
        record {
          many = sym i.at-is ∙ ap length e;
          bytes = i.bytes ∙ ap (λ (l : List ℕ). over l out₀) e;
          short = omega (arith, i.short, i.said_in, i.numbered-in, i.all);
          counted = ended_counted i.to-come i.all h i.counted;
        }
