-- The steps of a sheet: its one count, as the step function carried it, is that of the different non-empty prefixes of # followed by a word, and
-- |w| + 1 for the right pass of each word (document 02, request 8). A prefix takes a step where it is not numbered yet.
-- Assumes nothing.
use mathlib.Core.Path.{◌≡◌, refl, ap, ap₂, ◌∙◌}
use Prim.Native.Nat.{ℕ, ◌+◌, ◌-◌, ◌<◌}
use native.Mathlib.Omega.{arith}
use mathlib.Core.Bool.{true, cond, ◌||◌, or_comm, or-false}
use mathlib.Core.List.{List, [], ◌∷◌, ◌++◌}
use lib.ListN.{length, length-append}
use Rattle.rules.proofs.Cases.{by_bool}
use Rattle.fitting.specs.Fitting.{Str, starts}
use Rattle.fitting.proofs.Strings.{same_lengths}
use Rattle.speech.specs.Words.{Word}
use Rattle.tables.specs.States.{member, number_one, number_all, prefixes, all_prefixes, starts_any}
use Rattle.tables.specs.Tables.{Table}
use Rattle.tables.specs.Walk.{Step, step, again, from, pass_after, count_after, carried}
use Rattle.tables.specs.Steps.{hashed, prefixes_of, right_steps}
use Rattle.tables.proofs.Trie.{insert}
use Rattle.tables.proofs.Numbering.{member_one, member_all, member_prefixes, numbered_nil, index_lt}
use Rattle.tables.proofs.Build.{insert_prefixes, number_all_append}
use Rattle.tables.proofs.Steps.{right_count}

-- of the strings of more than n symbols, those are numbered with which a kept string begins
abbrev Numbers : ℕ → List Str → List Str → Type 0
Numbers n kept st = (p : Str) → n < length p → member p st ≡ starts_any p kept

-- and still so of the longer ones, when one string is numbered
numbers_one : (n : ℕ) (kept st : List Str) (x : Str) → Numbers n kept st → n < length x → Numbers (length x) kept (number_one st x)
numbers_one n kept st x h l p m =
    member_one p st x ∙ (rw (same_lengths p x (λ e. omega arith)) (or-false (member p st)) ∙ h p (omega arith))

-- a left pass takes a step for each prefix that it numbers
step_numbers : (t : Table) (kept st : List Str) (v : Str) (c : ℕ) (s : Step) → member v st ≡ starts_any v kept
    → (cond (starts_any v kept) (again t s c) (step t s c)).steps + length st ≡ s.steps + length (number_one st v)
step_numbers t kept st v c s e =
    by_bool (starts_any v kept) (λ b. rw (e, b)) (λ b. rw (e, b) (let l = length-append st (v ∷ []) in omega arith))

pass_numbers : (t : Table) (kept : List Str) (w u : Str) (st : List Str) (s : Step) → Numbers (length u) kept st
    → (pass_after t kept u s w).steps + length st ≡ s.steps + length (insert st u w)
pass_numbers t kept [] u st s h = refl
pass_numbers t kept (c ∷ w) u st s h =
    let v = u ++ (c ∷ []) in
    let l = length-append u (c ∷ []) in
    let a = step_numbers t kept st v c s (h v (omega arith)) in
    let i = pass_numbers t kept w v (number_one st v) (cond (starts_any v kept) (again t s c) (step t s c)) (numbers_one (length u) kept st v h (omega arith)) in
    omega arith

-- the words of a sheet in turn
carried_numbers : (tl tr : Table) (ws : List Word) (kept st : List Str) (k : ℕ) → Numbers 0 kept st → member [] st ≡ true
    → carried tl tr true kept k ws + length st ≡ k + length (number_all st (all_prefixes (hashed ws))) + right_steps ws
unfolding count_after
carried_numbers tl tr [] kept st k h m = omega arith
carried_numbers tl tr (w ∷ ws) kept st k h m =
    let s : Str = 0 ∷ w.letters in
    let after = number_all st (prefixes s) in
    let a = pass_numbers tl kept s [] st (from k) h in
    let b = right_count tr (pass_after tl kept [] (from k) s).steps w.letters in
    let n : Numbers 0 (s ∷ kept) after = λ p l. member_all p st (prefixes s) ∙ (ap₂ ◌||◌ (h p l) (member_prefixes p s) ∙ or_comm (starts_any p kept) (starts p s)) in
    let i = carried_numbers tl tr ws (s ∷ kept) after (count_after tl tr kept k w.letters) n (member_all [] st (prefixes s) ∙ rw m) in
    let f = ap length (number_all_append st (prefixes s) (all_prefixes (hashed ws))) in
    let g = ap length (insert_prefixes s st m) in
    omega arith

-- the count of a sheet, whatever its tables are
pub shared-steps : (tl tr : Table) (ws : List Word) → carried tl tr true [] 0 ws ≡ (length (prefixes_of ws) - 1) + right_steps ws
shared-steps tl tr ws =
    let a = carried_numbers tl tr ws [] ([] ∷ []) 0 (λ p l. rw (same_lengths p [] (λ e. omega arith))) refl in
    let b = index_lt [] (prefixes_of ws) (numbered_nil (hashed ws)) in
    omega arith
