-- Rules put in, taken out and moved in place: what the moved bytes are, and that they are the slots of the changed list.
-- Assumes nothing.
use Prim.Native.Nat.{ℕ, zero, suc, ◌+◌, ◌-◌, ◌*◌, ◌/◌, ◌%◌, ◌≤◌, ◌<◌}
use mathlib.Core.Path.{◌≡◌, refl, sym, ap, ap₂, ◌∙◌, subst}
use mathlib.Core.List.{List, [], ◌∷◌, ◌++◌, append_assoc}
use native.Mathlib.Omega.{arith}
use lib.ListN.{length, get_or, take, drop, length-drop, take-append-drop}
use lib.Seq.{paste, take-paste, drop-paste, take_at, drop_at, take-take, take-add, drop-drop, take-append-le, take-append-add, drop-append-add, length-take-le, get_or-drop}
use Rattle.rules.specs.Limits.{max_rules}
use Rattle.rules.specs.declared.Numbered.{Numbered}
use Rattle.rule_bytes.proofs.Fields.{bytes_rule}
use Rattle.image.specs.State.{Ledger, relist, no_numbered, insert_at, remove_at, relocated}
use Rattle.image.specs.Image.{head_size, slot_size, image_size, slot_of, bytes_of, slot_start, listed, flat, head_of, ledger_of, laid, with_head, with_rule, rules_in, numbered_at, count_of, last_of, edits_of}
use Rattle.image.proofs.Scan.{length_listed, slot_get}

-- each element is a byte
abbrev pub Small : List ℕ → Type 0
Small s = (k : ℕ) → get_or s k 0 < 256

small_drop : (n : ℕ) (s : List ℕ) → Small s → Small (drop n s)
small_drop n s h k = subst (λ (x : ℕ). x < 256) (sym (get_or-drop n s k 0)) (h (n + k))

-- a slot read and written again is the same bytes
bytes_slot : (s : List ℕ) → slot_size ≤ length s → get_or s 1 0 < 256 → bytes_of (slot_of s) ≡ take slot_size s
unfolding bytes_of slot_of
bytes_slot [] h u = absurd (omega arith)
bytes_slot (a ∷ []) h u = absurd (omega arith)
bytes_slot (a ∷ b ∷ t) h u =
    let x : (256 * a + b) / 256 ≡ a = omega arith in
    let y : (256 * a + b) % 256 ≡ b = omega arith in
    rw (x, y, bytes_rule t (omega arith))

flat_append : (l m : List Numbered) → flat (l ++ m) ≡ flat l ++ flat m
flat_append [] m = refl
flat_append (x ∷ l) m = ap (λ (q : List ℕ). bytes_of x ++ q) (flat_append l m) ∙ sym (append_assoc (bytes_of x) (flat l) (flat m))

flat_listed : (n : ℕ) (s : List ℕ) → Small s → slot_size * n ≤ length s → flat (listed n s) ≡ take (slot_size * n) s
flat_listed zero s h u = refl
flat_listed (suc n) s h u =
    let e : slot_size + slot_size * n ≡ slot_size * suc n = omega arith in
    ap₂ ◌++◌ (bytes_slot s (omega arith) (h 1)) (flat_listed n (drop slot_size s) (small_drop slot_size s h) (simp length-drop (omega arith)))
    ∙ (sym (take-add slot_size (slot_size * n) s) ∙ ap (λ (k : ℕ). take k s) e)

take_listed : (p n : ℕ) (s : List ℕ) → p ≤ n → take p (listed n s) ≡ listed p s
take_listed zero n s h = refl
take_listed (suc p) zero s h = absurd (omega arith)
take_listed (suc p) (suc n) s h = ap (λ (q : List Numbered). slot_of s ∷ q) (take_listed p n (drop slot_size s) (omega arith))

drop_listed : (p m : ℕ) (s : List ℕ) → drop p (listed (p + m) s) ≡ listed m (drop (slot_size * p) s)
drop_listed zero m s = let e : 0 + m ≡ m = omega arith in ap (λ (k : ℕ). listed k s) e
drop_listed (suc p) m s =
    let e : suc p + m ≡ suc (p + m) = omega arith in
    let f : slot_size + slot_size * p ≡ slot_size * suc p = omega arith in
    ap (λ (k : ℕ). drop (suc p) (listed k s)) e
    ∙ (drop_listed p m (drop slot_size s) ∙ ap (listed m) (drop-drop (slot_size * p) slot_size s ∙ ap (λ (k : ℕ). drop k s) f))

module _ {ℓ} {A : Type ℓ} where
  insert_split : (p : ℕ) (x : A) (l : List A) → p ≤ length l → insert_at p x l ≡ take p l ++ (x ∷ drop p l)
  insert_split zero x l h = refl
  insert_split (suc p) x [] h = absurd (omega arith)
  insert_split (suc p) x (y ∷ l) h = ap (λ (m : List A). y ∷ m) (insert_split p x l (omega arith))

  remove_split : (k : ℕ) (l : List A) → k < length l → remove_at k l ≡ take k l ++ drop (suc k) l
  remove_split k [] h = absurd (omega arith)
  remove_split zero (y ∷ l) h = refl
  remove_split (suc k) (y ∷ l) h = ap (λ (m : List A). y ∷ m) (remove_split k l (omega arith))

  pub length_remove_at : (k : ℕ) (l : List A) → k < length l → length (remove_at k l) ≡ length l - 1
  length_remove_at k [] h = absurd (omega arith)
  length_remove_at zero (y ∷ l) h = omega arith
  length_remove_at (suc k) (y ∷ l) h = omega (arith, length_remove_at k l (omega arith))

  pub length_insert_at : (p : ℕ) (x : A) (l : List A) → p ≤ length l → length (insert_at p x l) ≡ length l + 1
  length_insert_at zero x l h = omega arith
  length_insert_at (suc p) x [] h = absurd (omega arith)
  length_insert_at (suc p) x (y ∷ l) h = omega (arith, length_insert_at p x l (omega arith))

  -- an element moved up, and moved down
  move_up : (k q : ℕ) (x : A) (l : List A) → k + q < length l
      → insert_at (k + q) x (remove_at k l) ≡ take k l ++ (take q (drop (suc k) l) ++ (x ∷ drop (suc (k + q)) l))
  move_up k q x l h =
      let a : length (take k l) ≡ k = length-take-le k l (omega arith) in
      let r : remove_at k l ≡ take k l ++ drop (suc k) l = remove_split k l (omega arith) in
      let e : length (take k l) + q ≡ k + q = omega arith in
      let f : suc k + q ≡ suc (k + q) = omega arith in
      insert_split (k + q) x (remove_at k l) (omega (arith, length_remove_at k l (omega arith)))
      ∙ (ap₂ (λ (u v : List A). u ++ (x ∷ v))
      (ap (take (k + q)) r ∙ (ap (λ (n : ℕ). take n (take k l ++ drop (suc k) l)) (sym e) ∙ take-append-add (take k l) (drop (suc k) l) q))
      (ap (drop (k + q)) r ∙ (ap (λ (n : ℕ). drop n (take k l ++ drop (suc k) l)) (sym e) ∙ (drop-append-add (take k l) (drop (suc k) l) q
      ∙ (drop-drop q (suc k) l ∙ ap (λ (n : ℕ). drop n l) f))))
      ∙ append_assoc (take k l) (take q (drop (suc k) l)) (x ∷ drop (suc (k + q)) l))

  move_down : (p q : ℕ) (x : A) (l : List A) → p + q < length l
      → insert_at p x (remove_at (p + q) l) ≡ take p l ++ (x ∷ (take q (drop p l) ++ drop (suc (p + q)) l))
  move_down p q x l h =
      let a : length (take (p + q) l) ≡ p + q = length-take-le (p + q) l (omega arith) in
      let b : length (take p l) ≡ p = length-take-le p l (omega arith) in
      let r : remove_at (p + q) l ≡ take (p + q) l ++ drop (suc (p + q)) l = remove_split (p + q) l h in
      let s : take (p + q) l ≡ take p l ++ take q (drop p l) = take-add p q l in
      let t : remove_at (p + q) l ≡ take p l ++ (take q (drop p l) ++ drop (suc (p + q)) l) =
      r ∙ (ap (λ (u : List A). u ++ drop (suc (p + q)) l) s ∙ append_assoc (take p l) (take q (drop p l)) (drop (suc (p + q)) l)) in
      insert_split p x (remove_at (p + q) l) (omega (arith, length_remove_at (p + q) l h))
      ∙ ap₂ (λ (u v : List A). u ++ (x ∷ v))
      (ap (take p) t ∙ take_at (take p l) (take q (drop p l) ++ drop (suc (p + q)) l) p b)
      (ap (drop p) t ∙ drop_at (take p l) (take q (drop p l) ++ drop (suc (p + q)) l) p b)

-- the slots of the rules from a on, m of them, as bytes of the image
abbrev run : List ℕ → ℕ → ℕ → List ℕ
run img a m = take (slot_size * m) (drop (slot_start a) img)

module _ (img : List ℕ) (small : Small img) (n : ℕ) (fits : slot_start n ≤ length img) where
  -- the slots of the first p rules
  front : (p : ℕ) → p ≤ n → flat (take p (rules_in n img)) ≡ take (slot_size * p) (drop head_size img)
  front p h =
      ap flat (take_listed p n (drop head_size img) h)
      ∙ flat_listed p (drop head_size img) (small_drop head_size img small) (simp length-drop (omega arith))

  back_at : (a m : ℕ) → a + m ≡ n → drop a (rules_in n img) ≡ listed m (drop (slot_start a) img)
  back_at a m e =
      ap (λ (k : ℕ). drop a (listed k (drop head_size img))) (sym e)
      ∙ (drop_listed a m (drop head_size img) ∙ ap (listed m) (drop-drop (slot_size * a) head_size img))

  middle : (a q m : ℕ) → a + m ≡ n → q ≤ m → flat (take q (drop a (rules_in n img))) ≡ run img a q
  middle a q m e h =
      ap (λ (l : List Numbered). flat (take q l)) (back_at a m e)
      ∙ (ap flat (take_listed q m (drop (slot_start a) img) h)
      ∙ flat_listed q (drop (slot_start a) img) (small_drop (slot_start a) img small) (simp length-drop (omega arith)))

  -- the slots from a on and what lies past the slots in use
  rest : (a m : ℕ) → a + m ≡ n → flat (drop a (rules_in n img)) ++ drop (slot_start n) img ≡ drop (slot_start a) img
  rest a m e =
      let f : slot_start a + slot_size * m ≡ slot_start n = omega arith in
      ap₂ ◌++◌
      (ap flat (back_at a m e) ∙ flat_listed m (drop (slot_start a) img) (small_drop (slot_start a) img small) (simp length-drop (omega arith)))
      (ap (λ (k : ℕ). drop k img) (sym f) ∙ sym (drop-drop (slot_size * m) (slot_start a) img))
      ∙ take-append-drop (slot_size * m) (drop (slot_start a) img)

  -- the body of the image once a rule was put in, was taken out, or was moved
  pub insert_body : (p m : ℕ) (x : Numbered) → p + m ≡ n
      → flat (insert_at p x (rules_in n img)) ≡ take (slot_size * p) (drop head_size img) ++ (bytes_of x ++ run img p m)
  insert_body p m x e =
      ap flat (insert_split p x (rules_in n img) (omega (arith, length_listed n (drop head_size img))))
      ∙ (flat_append (take p (rules_in n img)) (x ∷ drop p (rules_in n img))
      ∙ ap₂ (λ (u v : List ℕ). u ++ (bytes_of x ++ v)) (front p (omega arith))
      (ap flat (back_at p m e) ∙ flat_listed m (drop (slot_start p) img) (small_drop (slot_start p) img small) (simp length-drop (omega arith))))

  pub remove_body : (k m : ℕ) → suc k + m ≡ n
      → flat (remove_at k (rules_in n img)) ≡ take (slot_size * k) (drop head_size img) ++ run img (suc k) m
  remove_body k m e =
      ap flat (remove_split k (rules_in n img) (omega (arith, length_listed n (drop head_size img))))
      ∙ (flat_append (take k (rules_in n img)) (drop (suc k) (rules_in n img))
      ∙ ap₂ ◌++◌ (front k (omega arith))
      (ap flat (back_at (suc k) m e) ∙ flat_listed m (drop (slot_start (suc k)) img) (small_drop (slot_start (suc k)) img small) (simp length-drop (omega arith))))

  pub up_body : (k q : ℕ) (x : Numbered) → k + q < n
      → flat (insert_at (k + q) x (remove_at k (rules_in n img))) ++ drop (slot_start n) img
      ≡ take (slot_size * k) (drop head_size img) ++ (run img (suc k) q ++ (bytes_of x ++ drop (slot_start (suc (k + q))) img))
  up_body k q x h =
      let l : List Numbered = rules_in n img in
      ap (λ (t : List Numbered). flat t ++ drop (slot_start n) img) (move_up k q x l (omega (arith, length_listed n (drop head_size img))))
      ∙ (ap (λ (t : List ℕ). t ++ drop (slot_start n) img)
      (flat_append (take k l) (take q (drop (suc k) l) ++ (x ∷ drop (suc (k + q)) l))
      ∙ ap₂ ◌++◌ (front k (omega arith))
      (flat_append (take q (drop (suc k) l)) (x ∷ drop (suc (k + q)) l)
      ∙ ap (λ (t : List ℕ). t ++ (bytes_of x ++ flat (drop (suc (k + q)) l))) (middle (suc k) q (n - suc k) (omega arith) (omega arith))))
      ∙ (simp append_assoc
      (ap (λ (t : List ℕ). take (slot_size * k) (drop head_size img) ++ (run img (suc k) q ++ (bytes_of x ++ t))) (rest (suc (k + q)) (n - suc (k + q)) (omega arith)))))

  pub down_body : (p q : ℕ) (x : Numbered) → p + q < n
      → flat (insert_at p x (remove_at (p + q) (rules_in n img))) ++ drop (slot_start n) img
      ≡ take (slot_size * p) (drop head_size img) ++ (bytes_of x ++ (run img p q ++ drop (slot_start (suc (p + q))) img))
  down_body p q x h =
      let l : List Numbered = rules_in n img in
      ap (λ (t : List Numbered). flat t ++ drop (slot_start n) img) (move_down p q x l (omega (arith, length_listed n (drop head_size img))))
      ∙ (ap (λ (t : List ℕ). t ++ drop (slot_start n) img)
      (flat_append (take p l) (x ∷ (take q (drop p l) ++ drop (suc (p + q)) l))
      ∙ ap₂ (λ (u v : List ℕ). u ++ (bytes_of x ++ v)) (front p (omega arith))
      (flat_append (take q (drop p l)) (drop (suc (p + q)) l)
      ∙ ap (λ (t : List ℕ). t ++ flat (drop (suc (p + q)) l)) (middle p q (n - p) (omega arith) (omega arith))))
      ∙ (simp append_assoc
      (ap (λ (t : List ℕ). take (slot_size * p) (drop head_size img) ++ (bytes_of x ++ (run img p q ++ t))) (rest (suc (p + q)) (n - suc (p + q)) (omega arith)))))

-- ---- the bytes after the copies

take_before : (d : List ℕ) (a at : ℕ) (t : List ℕ) (n : ℕ) → a ≤ at → at ≤ length d → take a (paste d at t n) ≡ take a d
take_before d a at t n h u =
    let l : length (take at d) ≡ at = length-take-le at d u in
    ap (take a) (append_assoc (take at d) (take n t) (drop (at + n) d))
    ∙ (take-append-le a (take at d) (take n t ++ drop (at + n) d) (omega arith) ∙ take-take a at d h)

drop_from : (d : List ℕ) (at : ℕ) (t : List ℕ) (n : ℕ) → at ≤ length d → drop at (paste d at t n) ≡ take n t ++ drop (at + n) d
drop_from d at t n u =
    ap (drop at) (append_assoc (take at d) (take n t) (drop (at + n) d))
    ∙ drop_at (take at d) (take n t ++ drop (at + n) d) at (length-take-le at d u)

-- the head goes
headless : (d : List ℕ) (q : ℕ) (r : List ℕ) → head_size + q ≤ length d → drop head_size (take (head_size + q) d ++ r) ≡ take q (drop head_size d) ++ r
headless d q r h =
    let l : length (take head_size d) ≡ head_size = length-take-le head_size d (omega arith) in
    ap (λ (t : List ℕ). drop head_size (t ++ r)) (take-add head_size q d)
    ∙ (ap (drop head_size) (append_assoc (take head_size d) (take q (drop head_size d)) r) ∙ drop_at (take head_size d) (take q (drop head_size d) ++ r) head_size l)

-- q slots from place p on are moved up by one, and y is put at p
pub opened : (d e f : List ℕ) (p q m : ℕ) (y : List ℕ) → slot_start (suc (p + q)) ≤ length d → m ≡ slot_size * q
    → e ≡ paste d (slot_start p + slot_size) (drop (slot_start p) d) m
    → f ≡ take (slot_start p) e ++ (y ++ drop (slot_start p + slot_size) e)
    → drop head_size f ≡ take (slot_size * p) (drop head_size d) ++ (y ++ (run d p q ++ drop (slot_start (suc (p + q))) d))
opened d e f p q m y h z u v =
    let w : slot_start p + slot_size + m ≡ slot_start (suc (p + q)) = omega arith in
    let a : take (slot_start p) e ≡ take (slot_start p) d =
    ap (take (slot_start p)) u ∙ take_before d (slot_start p) (slot_start p + slot_size) (drop (slot_start p) d) m (omega arith) (omega arith) in
    let b : drop (slot_start p + slot_size) e ≡ run d p q ++ drop (slot_start (suc (p + q))) d =
    ap (drop (slot_start p + slot_size)) u ∙ (drop_from d (slot_start p + slot_size) (drop (slot_start p) d) m (omega arith)
    ∙ ap₂ (λ (i j : ℕ). take i (drop (slot_start p) d) ++ drop j d) z w) in
    ap (drop head_size) (v ∙ ap₂ (λ (s t : List ℕ). s ++ (y ++ t)) a b)
    ∙ headless d (slot_size * p) (y ++ (run d p q ++ drop (slot_start (suc (p + q))) d)) (omega arith)

-- q slots after place k are moved down by one
pub closed : (d e : List ℕ) (k q m : ℕ) → slot_start (suc (k + q)) ≤ length d → m ≡ slot_size * q
    → e ≡ paste d (slot_start k) (drop (slot_start k + slot_size) d) m
    → drop head_size e ≡ take (slot_size * k) (drop head_size d) ++ (run d (suc k) q ++ drop (slot_start (k + q)) d)
closed d e k q m h z u =
    let w : slot_start k + m ≡ slot_start (k + q) = omega arith in
    let s : slot_start k + slot_size ≡ slot_start (suc k) = omega arith in
    ap (drop head_size) (u ∙ (append_assoc (take (slot_start k) d) (take m (drop (slot_start k + slot_size) d)) (drop (slot_start k + m) d)
    ∙ ap₂ (λ (i j : ℕ). take (slot_start k) d ++ (take m (drop i d) ++ drop j d)) s w))
    ∙ (headless d (slot_size * k) (take m (drop (slot_start (suc k)) d) ++ drop (slot_start (k + q)) d) (omega arith)
    ∙ ap (λ (i : ℕ). take (slot_size * k) (drop head_size d) ++ (take i (drop (slot_start (suc k)) d) ++ drop (slot_start (k + q)) d)) z)

-- the same, with y then put where they end
pub closed_put : (d e f : List ℕ) (k q m : ℕ) (y : List ℕ) → slot_start (suc (k + q)) ≤ length d → m ≡ slot_size * q
    → e ≡ paste d (slot_start k) (drop (slot_start k + slot_size) d) m
    → f ≡ take (slot_start (k + q)) e ++ (y ++ drop (slot_start (k + q) + slot_size) e)
    → drop head_size f ≡ take (slot_size * k) (drop head_size d) ++ (run d (suc k) q ++ (y ++ drop (slot_start (suc (k + q))) d))
closed_put d e f k q m y h z u v =
    let w : slot_start k + m ≡ slot_start (k + q) = omega arith in
    let s : slot_start k + slot_size ≡ slot_start (suc k) = omega arith in
    let o : slot_start (k + q) + slot_size ≡ slot_start (suc (k + q)) = omega arith in
    let g : m ≤ length (drop (slot_start k + slot_size) d) = simp length-drop (omega arith) in
    let a : take (slot_start (k + q)) e ≡ take (slot_start k) d ++ run d (suc k) q =
    ap₂ take (sym w) u ∙ (take-paste d (slot_start k) (drop (slot_start k + slot_size) d) m (omega arith) g
    ∙ ap₂ (λ (i j : ℕ). take (slot_start k) d ++ take i (drop j d)) z s) in
    let b : drop (slot_start (k + q)) e ≡ drop (slot_start (k + q)) d =
    ap₂ drop (sym w) u ∙ (drop-paste d (slot_start k) (drop (slot_start k + slot_size) d) m (omega arith) g ∙ ap (λ (i : ℕ). drop i d) w) in
    let b' : drop (slot_start (k + q) + slot_size) e ≡ drop (slot_start (suc (k + q))) d =
    sym (drop-drop slot_size (slot_start (k + q)) e) ∙ (ap (drop slot_size) b ∙ (drop-drop slot_size (slot_start (k + q)) d ∙ ap (λ (i : ℕ). drop i d) o)) in
    ap (drop head_size) (v ∙ (ap₂ (λ (i j : List ℕ). i ++ (y ++ j)) a b' ∙ append_assoc (take (slot_start k) d) (run d (suc k) q) (y ++ drop (slot_start (suc (k + q))) d)))
    ∙ headless d (slot_size * k) (run d (suc k) q ++ (y ++ drop (slot_start (suc (k + q))) d)) (omega arith)

-- ---- the state laid in the image

laid_by : (g : Ledger) (d f e : List ℕ) (n : ℕ) → length g.list ≡ n → e ≡ head_of n g.last g.edits ++ drop head_size f
    → drop head_size f ≡ flat g.list ++ drop (slot_start n) d → e ≡ laid g d
laid_by g d f e n a h u =
    h ∙ (ap (λ (t : List ℕ). head_of n g.last g.edits ++ t) u
    ∙ ap (λ (i : ℕ). head_of i g.last g.edits ++ (flat g.list ++ drop (slot_start i) d)) (sym a))

module _ (d : List ℕ) (small : Small d) (fits : image_size ≤ length d) (count : ℕ) (c : count ≡ count_of d) (edits : ℕ) (m : edits ≡ edits_of d) where
  same_list : rules_in count d ≡ (ledger_of d).list
  same_list = ap (λ (n : ℕ). rules_in n d) c

  -- the state that stands in the memory afterwards, by its list from the first `count` slots
  laid_as : (change : List Numbered → List Numbered) (last : ℕ) (f z : List ℕ) (n : ℕ) → length (change (rules_in count d)) ≡ n → z ≡ with_head n last (edits + 1) f
      → drop head_size f ≡ flat (change (rules_in count d)) ++ drop (slot_start n) d → z ≡ laid (relist (ledger_of d) (change (ledger_of d).list) last) d
  laid_as change last f z n long hz u =
      laid_by (relist (ledger_of d) (change (rules_in count d)) last) d f z n long (hz ∙ ap (λ (i : ℕ). with_head n last (i + 1) f) m) u
      ∙ ap (λ (l : List Numbered). laid (relist (ledger_of d) (change l) last) d) same_list

  pub insert_laid : (x : Numbered) (last p : ℕ) (e f z : List ℕ) → p ≤ count → count < max_rules
      → e ≡ paste d (slot_start p + slot_size) (drop (slot_start p) d) (slot_size * (count - p))
      → f ≡ with_rule p x e
      → z ≡ with_head (count + 1) last (edits + 1) f
      → z ≡ laid (relist (ledger_of d) (insert_at p x (ledger_of d).list) last) d
  insert_laid x last p e f z hp hn he hf hz =
      let k : p + (count - p) ≡ count = omega arith in
      let s : slot_start (suc (p + (count - p))) ≡ slot_start (count + 1) = omega arith in
      laid_as (insert_at p x) last f z (count + 1)
      (length_insert_at p x (rules_in count d) (omega (arith, length_listed count (drop head_size d))) ∙ ap (λ (i : ℕ). i + 1) (length_listed count (drop head_size d)))
      hz
      (opened d e f p (count - p) (slot_size * (count - p)) (bytes_of x) (omega arith) refl he hf
      ∙ (ap (λ (i : ℕ). take (slot_size * p) (drop head_size d) ++ (bytes_of x ++ (run d p (count - p) ++ drop i d))) s
      ∙ (simp append_assoc refl
      ∙ ap (λ (t : List ℕ). t ++ drop (slot_start (count + 1)) d) (sym (insert_body d small count (omega arith) p (count - p) x k)))))

  module _ (last : ℕ) (l : last ≡ last_of d) (le : count ≤ max_rules) (k : ℕ) (hk : k < count) where
    same_last : (list : List Numbered) → laid (relist (ledger_of d) list last) d ≡ laid (relist (ledger_of d) list (last_of d)) d
    same_last list = ap (λ (n : ℕ). laid (relist (ledger_of d) list n) d) l

    removed_long : length (remove_at k (rules_in count d)) ≡ count - 1
    removed_long = length_remove_at k (rules_in count d) (omega (arith, length_listed count (drop head_size d))) ∙ ap (λ (i : ℕ). i - 1) (length_listed count (drop head_size d))

    pub remove_laid : (e z : List ℕ) → e ≡ paste d (slot_start k) (drop (slot_start k + slot_size) d) (slot_size * (count - 1 - k))
        → z ≡ with_head (count - 1) last (edits + 1) e
        → z ≡ laid (relist (ledger_of d) (remove_at k (ledger_of d).list) (last_of d)) d
    remove_laid e z he hz =
        let s : slot_start (k + (count - 1 - k)) ≡ slot_start (count - 1) = omega arith in
        let j : suc k + (count - 1 - k) ≡ count = omega arith in
        laid_as (remove_at k) last e z (count - 1) removed_long hz
        (closed d e k (count - 1 - k) (slot_size * (count - 1 - k)) (omega arith) refl he
        ∙ (ap (λ (i : ℕ). take (slot_size * k) (drop head_size d) ++ (run d (suc k) (count - 1 - k) ++ drop i d)) s
        ∙ (sym (append_assoc (take (slot_size * k) (drop head_size d)) (run d (suc k) (count - 1 - k)) (drop (slot_start (count - 1)) d))
        ∙ ap (λ (t : List ℕ). t ++ drop (slot_start (count - 1)) d) (sym (remove_body d small count (omega arith) k (count - 1 - k) j)))))
        ∙ same_last (remove_at k (ledger_of d).list)

    module _ (p : ℕ) (hp : p < count) (x : Numbered) (is : x ≡ numbered_at d k) (f z : List ℕ) (hz : z ≡ with_head count last (edits + 1) f) where
      move_by : drop head_size f ≡ flat (insert_at p x (remove_at k (rules_in count d))) ++ drop (slot_start count) d
          → z ≡ laid (relist (ledger_of d) (relocated k p (ledger_of d).list) (last_of d)) d
      move_by u =
          let y : x ≡ get_or (rules_in count d) k no_numbered = is ∙ sym (slot_get d count k hk) in
          laid_as (relocated k p) last f z count
          (omega (arith, removed_long, length_insert_at p (get_or (rules_in count d) k no_numbered) (remove_at k (rules_in count d)) (omega (arith, removed_long))))
          hz (u ∙ ap (λ (t : Numbered). flat (insert_at p t (remove_at k (rules_in count d))) ++ drop (slot_start count) d) y)
          ∙ same_last (relocated k p (ledger_of d).list)

      pub up_laid : (e : List ℕ) → k < p → e ≡ paste d (slot_start k) (drop (slot_start k + slot_size) d) (slot_size * (p - k))
          → f ≡ with_rule p x e
          → z ≡ laid (relist (ledger_of d) (relocated k p (ledger_of d).list) (last_of d)) d
      up_laid e lt he hf =
          let w : k + (p - k) ≡ p = omega arith in
          move_by
          (closed_put d e f k (p - k) (slot_size * (p - k)) (bytes_of x) (omega arith) refl he
          (hf ∙ ap (λ (i : ℕ). take (slot_start i) e ++ (bytes_of x ++ drop (slot_start i + slot_size) e)) (sym w))
          ∙ (sym (up_body d small count (omega arith) k (p - k) x (omega arith))
          ∙ ap (λ (i : ℕ). flat (insert_at i x (remove_at k (rules_in count d))) ++ drop (slot_start count) d) w))

      pub down_laid : (e : List ℕ) → p ≤ k → e ≡ paste d (slot_start p + slot_size) (drop (slot_start p) d) (slot_size * (k - p))
          → f ≡ with_rule p x e
          → z ≡ laid (relist (ledger_of d) (relocated k p (ledger_of d).list) (last_of d)) d
      down_laid e ge he hf =
          let w : p + (k - p) ≡ k = omega arith in
          move_by
          (opened d e f p (k - p) (slot_size * (k - p)) (bytes_of x) (omega arith) refl he hf
          ∙ (sym (down_body d small count (omega arith) p (k - p) x (omega arith))
          ∙ ap (λ (i : ℕ). flat (insert_at p x (remove_at i (rules_in count d))) ++ drop (slot_start count) d) w))
