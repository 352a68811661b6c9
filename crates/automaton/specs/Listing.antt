-- The read-out: every listed name once, in letter order, a name before its continuations, by descending from each state to its successors.
-- Assumes nothing.
use Rattle.std.specs.Prelude.{◌≡◌, ◌⊎◌, ℕ, zero, suc, ◌<◌, Bool, true, false, cond, List, [], ◌∷◌, ◌++◌, map, length}
use Rattle.automaton.specs.Automaton.{Str, Rows, phones_at}

-- there are none
abbrev pub none? : Str → Bool
none? [] = true
none? (x ∷ l) = false

-- what g gives for n letters from c on, joined
abbrev pub each : {A : Type 0} → (ℕ → List A) → ℕ → ℕ → List A
each g c zero = []
each g c (suc n) = g c ++ each g (suc c) n

-- the empty name, where it is listed
abbrev pub own : Str → List Str
own p = cond (none? p) [] ([] ∷ [])

-- the listed names of at most h letters, where m says the phones of each
unfoldable pub names : ℕ → (Str → Str) → List Str
names zero m = own (m [])
names (suc h) m = own (m []) ++ each (λ c. map (λ (w : Str). c ∷ w) (names h (λ w. m (c ∷ w)))) 1 63

-- one entry of the read-out
abbrev pub entry_text : Str → Str → List ℕ
entry_text name p = length name ∷ (name ++ (length p ∷ p))

abbrev pub own_text : Str → Str → List ℕ
own_text path p = cond (none? p) [] (entry_text path p)

-- the read-out from state q, reached by the letters of `path`, of the names with at most h letters more; u gives the phones as they are written
unfoldable pub readout : (Str → Str) → Rows → ℕ → ℕ → Str → List ℕ
readout u f zero q path = own_text path (u (phones_at f q))
readout u f (suc h) q path = own_text path (u (phones_at f q)) ++ each (λ c. readout u f h (f q c) (path ++ (c ∷ []))) 1 63

-- the entries of names, one after another
abbrev pub entries : Str → (Str → Str) → List Str → List ℕ
entries path m [] = []
entries path m (w ∷ l) = entry_text (path ++ w) (m w) ++ entries path m l

-- in strictly rising letter order, a name before its continuations
abbrev pub before? : Str → Str → Type 0
before? [] [] = ⊥
before? [] (y ∷ w) = Unit {0}
before? (x ∷ s) [] = ⊥
before? (x ∷ s) (y ∷ w) = (x < y) ⊎ ((x ≡ y) × before? s w)

-- every name of the list comes after s
abbrev pub AllAfter : Str → List Str → Type 0
AllAfter s [] = Unit {0}
AllAfter s (w ∷ l) = before? s w × AllAfter s l

abbrev pub Rising : List Str → Type 0
Rising [] = Unit {0}
Rising (w ∷ l) = AllAfter w l × Rising l
