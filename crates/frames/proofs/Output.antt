-- Laws of a frame that goes out byte by byte.
--     sent-then, sent-as                    bytes after bytes; equal ones
--     sent-next, sent-length                where the next byte goes; the lent bytes stay as many
--     sum-so-far                            the running sum is that of the frame's bytes so far, modulo 256
--     line-sent                             a frame that was begun, sent and ended: its line
--     Sending                               a loop that sends the bytes of one element of a list after the other
-- Assumes nothing.
use Rattle.std.proofs.Common.{◌≡◌, ℕ, ◌+◌, ◌*◌, ◌/◌, ◌%◌, ◌<◌, ◌≤◌, List, [], ◌∷◌, ◌++◌, length, get_or, take, drop, set, sym, refl, ap, ◌∙◌, subst, append_assoc, append-nil, add-one, arith, length-append, take-append-drop, length-take-le, take_all, take-suc}
use native.Mathlib.Nat.{mod-add-mod}
use Rattle.rules.specs.Memory.{over, over_at}
use Rattle.rules.proofs.Memory.{over_snoc, over-at, over_at_length}
use Rattle.frames.specs.Lines.{digit, digits, line_of, total, complement, sum_byte, framed}
use Rattle.frames.specs.declared.writer.Writer.{Writer}
use Rattle.frames.specs.Output.{Output, output, begun, sent_byte, sent, Sent, ended, fields}
use Rattle.frames.proofs.Lines.{total_append}

-- ---- lent bytes, filled from a place on

module _ (xs : List ℕ) (from : ℕ) (h : from ≤ length xs) where
  abbrev front : List ℕ
  front = take from xs

  long : length front ≡ from
  long = length-take-le from xs h

  whole : xs ≡ over front xs
  whole = sym (ap (λ (n : ℕ). front ++ drop n xs) long ∙ take-append-drop from xs)

  overlaid : (ys : List ℕ) → over_at from ys xs ≡ over (front ++ ys) xs
  overlaid ys = over-at front xs ys xs from whole long

  -- more from there on
  pub over_more : (p ys w : List ℕ) (at : ℕ) → w ≡ over_at from p xs → at ≡ from + length p → over_at at ys w ≡ over_at from (p ++ ys) xs
  over_more p ys w at e l =
      over-at (front ++ p) xs ys w at (e ∙ overlaid p) (omega (arith, length-append front p, long))
      ∙ (ap (λ (z : List ℕ). over z xs) (append_assoc front p ys) ∙ sym (overlaid (p ++ ys)))

  -- one element more
  set_more : (p w : List ℕ) (at a : ℕ) → w ≡ over_at from p xs → at ≡ from + length p → at < length xs → set w at a ≡ over_at from (p ++ (a ∷ [])) xs
  set_more p w at a e l k =
      ap (λ (z : List ℕ). set z at a) (e ∙ overlaid p)
      ∙ (over_snoc (front ++ p) xs at a (omega (arith, length-append front p, long)) k
      ∙ (ap (λ (z : List ℕ). over z xs) (append_assoc front p (a ∷ [])) ∙ sym (overlaid (p ++ (a ∷ [])))))

-- two elements
pub set_two : (xs : List ℕ) (at x y : ℕ) → at + 1 < length xs → set (set xs at x) (at + 1) y ≡ over_at at (x ∷ y ∷ []) xs
set_two xs at x y h =
    set_more xs at (omega arith) (x ∷ []) (set xs at x) (at + 1) y
    (set_more xs at (omega arith) [] xs at x (sym (take-append-drop at xs)) (omega arith) (omega arith)) (omega arith) h

-- ---- bytes after bytes

pub same_output : {t u : List ℕ} {m n r s : ℕ} → t ≡ u → m ≡ n → r ≡ s
    → ◌≡◌ {A = Output} (record { text = t; next = m; sum = r }) (record { text = u; next = n; sum = s })
same_output e f g = rw (e, f, g)

sent_append : (a b : List ℕ) (o : Output) → sent (a ++ b) o ≡ sent b (sent a o)
unfolding sent
sent_append [] b o = refl
sent_append (x ∷ a) b o = sent_append a b (sent_byte x o)

pub sent_then : {a b : List ℕ} {o p q : Output} → Sent a o p → Sent b p q → Sent (a ++ b) o q
sent_then {a} {b} {o} e f = record { equal = f.equal ∙ (ap (sent b) e.equal ∙ sym (sent_append a b o)) }

pub sent_as : {a b : List ℕ} {o p : Output} → a ≡ b → Sent a o p → Sent b o p
sent_as {a} {b} {o} {p} e f = subst (λ (l : List ℕ). Sent l o p) e f

pub sent_next : (bytes : List ℕ) (o : Output) → (sent bytes o).next ≡ o.next + 2 * length bytes
unfolding sent
sent_next [] o = omega arith
sent_next (b ∷ bytes) o = omega (arith, sent_next bytes (sent_byte b o))

pub sent_length : (bytes : List ℕ) (o : Output) → o.next + 2 * length bytes ≤ length o.text → length (sent bytes o).text ≡ length o.text
unfolding sent
sent_length [] o h = refl
sent_length (b ∷ bytes) o h =
    let l = over_at_length (digit (b / 16) ∷ digit (b % 16) ∷ []) o.text o.next (omega arith) in
    sent_length bytes (sent_byte b o) (omega arith) ∙ l

-- ---- the running sum

pub sum_more : (bytes : List ℕ) (s b : ℕ) → s ≡ total bytes % 256 → (s + b) % 256 ≡ total (bytes ++ (b ∷ [])) % 256
sum_more bytes s b e =
    let t : total bytes + b ≡ total (bytes ++ (b ∷ [])) = omega (arith, total_append bytes (b ∷ [])) in
    ap (λ (n : ℕ). (n + b) % 256) e ∙ (mod-add-mod (total bytes) 256 b ∙ ap (λ (n : ℕ). n % 256) t)

-- the bytes of p have gone out, then further ones: wherever they go, the sum is that of all
pub sum_so_far : (bytes p : List ℕ) (o : Output) → o.sum ≡ total p % 256 → (sent bytes o).sum ≡ total (p ++ bytes) % 256
unfolding sent
sum_so_far [] p o e = e ∙ ap (λ (l : List ℕ). total l % 256) (sym (append-nil p))
sum_so_far (b ∷ bytes) p o e =
    sum_so_far bytes (p ++ (b ∷ [])) (sent_byte b o) (sum_more p o.sum b e) ∙ ap (λ (l : List ℕ). total l % 256) (append_assoc p (b ∷ []) bytes)

-- ---- lines

digits_append : (f g : List ℕ) → digits (f ++ g) ≡ digits f ++ digits g
digits_append [] g = refl
digits_append (b ∷ f) g = ap (λ (l : List ℕ). digit (b / 16) ∷ digit (b % 16) ∷ l) (digits_append f g)

pub length_digits : (f : List ℕ) → length (digits f) ≡ 2 * length f
length_digits [] = refl
length_digits (b ∷ f) = omega (arith, length_digits f)

module _ (text : List ℕ) (at : ℕ) (h : at ≤ length text) where
  -- what stands there after the bytes of p and further ones
  texts : (bytes p : List ℕ) (o : Output) → o.text ≡ over_at at (digits p) text → o.next ≡ at + length (digits p)
      → (sent bytes o).text ≡ over_at at (digits (p ++ bytes)) text
  unfolding sent
  texts [] p o e n = e ∙ ap (λ (l : List ℕ). over_at at (digits l) text) (sym (append-nil p))
  texts (b ∷ bytes) p o e n =
      let d = digits_append p (b ∷ []) in
      texts bytes (p ++ (b ∷ [])) (sent_byte b o)
      (over_more text at h (digits p) (digits (b ∷ [])) o.text o.next e n ∙ ap (λ (l : List ℕ). over_at at l text) (sym d))
      (omega (arith, n, ap length d, length-append (digits p) (digits (b ∷ []))))
      ∙ ap (λ (l : List ℕ). over_at at (digits l) text) (append_assoc p (b ∷ []) bytes)

  pub line_sent : {body z : List ℕ} {w : Writer} {o : Output} → w ≡ begun at → Sent body (output w text) o → z ≡ ended o → z ≡ over_at at (line_of (framed body)) text
  unfolding ended sum_byte
  line_sent {body} {z} {w} {o} b g f =
      let begin = output (begun at) text in
      let e : o ≡ sent body begin = g.equal ∙ ap (λ (v : Writer). sent body (output v text)) b in
      let t : o.text ≡ over_at at (digits body) text = ap (λ (q : Output). q.text) e ∙ texts body [] begin (sym (take-append-drop at text)) (omega arith) in
      let n : o.next ≡ at + length (digits body) = omega (arith, ap (λ (q : Output). q.next) e, sent_next body begin, length_digits body) in
      let s : o.sum ≡ total body % 256 = ap (λ (q : Output). q.sum) e ∙ sum_so_far body [] begin refl in
      let last = sum_byte body ∷ [] in
      let d : digits body ++ line_of last ≡ line_of (framed body) =
      sym (append_assoc (digits body) (digits last) (10 ∷ [])) ∙ ap (λ (l : List ℕ). l ++ (10 ∷ [])) (sym (digits_append body last)) in
      f ∙ (ap (λ (k : ℕ). over_at o.next (line_of (complement k ∷ [])) o.text) s
      ∙ (over_more text at h (digits body) (line_of last) o.text o.next t n ∙ ap (λ (l : List ℕ). over_at at l text) d))

-- the last byte has gone out, and then 0A
pub ended_by : (w r : Writer) (xs z : List ℕ) (b : ℕ) → w.at + 3 ≤ length xs → b ≡ complement w.sum → Sent (b ∷ []) (output w xs) (output r z)
    → set z r.at 10 ≡ ended (output w xs)
unfolding sent ended
ended_by w r xs z b h e s =
    let t : z ≡ over_at w.at (digits (b ∷ [])) xs = ap (λ (o : Output). o.text) s.equal in
    let n : r.at ≡ w.at + 2 = ap (λ (o : Output). o.next) s.equal in
    set_more xs w.at (omega arith) (digits (b ∷ [])) z r.at 10 t (omega arith) (omega arith)
    ∙ ap (λ (n : ℕ). over_at w.at (line_of (n ∷ [])) xs) e

-- ---- a loop over the elements of a list

fields_append : (bytes : ℕ → List ℕ) (l m : List ℕ) → fields bytes (l ++ m) ≡ fields bytes l ++ fields bytes m
fields_append bytes [] m = refl
fields_append bytes (n ∷ l) m = ap (λ (z : List ℕ). bytes n ++ z) (fields_append bytes l m) ∙ sym (append_assoc (bytes n) (fields bytes l) (fields bytes m))

-- a list is its bytes, each by itself
pub single : (l : List ℕ) → fields (λ b. b ∷ []) l ≡ l
single [] = refl
single (b ∷ l) = ap (λ (z : List ℕ). b ∷ z) (single l)

-- the elements before place k have gone out
pub record Sending (bytes : ℕ → List ℕ) (xs : List ℕ) (start here : Output) (k : ℕ) : Type 0 where
  pub within : k ≤ length xs
  pub sent : Sent (fields bytes (take k xs)) start here

module _ (bytes : ℕ → List ℕ) (xs : List ℕ) (start : Output) where
  pub sending_start : Sending bytes xs start start 0
  unfolding sent
  sending_start = record { within = omega arith; sent = record { equal = refl } }

  module _ (here : Output) (k : ℕ) (p : Sending bytes xs start here k) where
    module _ (h : k < length xs) where
      next : fields bytes (take (k + 1) xs) ≡ fields bytes (take k xs) ++ bytes (get_or xs k 0)
      next =
          let t : take (k + 1) xs ≡ take k xs ++ (get_or xs k 0 ∷ []) = rw add-one (take-suc xs k 0 h) in
          ap (fields bytes) t ∙ (fields_append bytes (take k xs) (get_or xs k 0 ∷ []) ∙ ap (λ (z : List ℕ). fields bytes (take k xs) ++ z) (append-nil (bytes (get_or xs k 0))))

      pub sending_next : (there : Output) → Sent (bytes (get_or xs k 0)) here there → Sending bytes xs start there (k + 1)
      sending_next there e = record { within = omega arith; sent = sent_as (sym next) (sent_then p.sent e) }

    pub sending_end : length xs ≤ k → Sent (fields bytes xs) start here
    sending_end h = sent_as (ap (fields bytes) (take_all k xs h)) p.sent

    part : (j : ℕ) → length (fields bytes (take j xs)) ≤ length (fields bytes xs)
    part j = omega (arith, ap (λ (l : List ℕ). length (fields bytes l)) (take-append-drop j xs), ap length (fields_append bytes (take j xs) (drop j xs)), length-append (fields bytes (take j xs)) (fields bytes (drop j xs)))

    module _ (room : start.next + 2 * length (fields bytes xs) ≤ length start.text) where
      pub sending_length : length here.text ≡ length start.text
      sending_length = ap (λ (o : Output). length o.text) p.sent.equal ∙ sent_length (fields bytes (take k xs)) start (omega (arith, part k))

      -- the next element has room
      pub sending_room : k < length xs → here.next + 2 * length (bytes (get_or xs k 0)) ≤ length here.text
      sending_room h =
          omega (
            arith,
            room,
            sending_length,
            ap (λ (o : Output). o.next) p.sent.equal,
            sent_next (fields bytes (take k xs)) start,
            part (k + 1),
            ap length (next h),
            length-append (fields bytes (take k xs)) (bytes (get_or xs k 0)),
          )
