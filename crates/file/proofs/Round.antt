-- Reading and writing, there and back.
--     written-reads-back   what write_file leaves in lent bytes, read by read_file into any memory that is long enough, gives an equal ruleset
--     read-written         writing the image after an accepted file gives that file
--     read-valid           the image after an accepted file is valid
--     formed               a valid image holds a well-formed ruleset
--     kept                 the image that a well-formed ruleset is laid in holds that ruleset, and is valid
-- Assumes nothing.
use Prim.Native.Nat.{ℕ, zero, suc, ◌≤◌, ◌<◌}
use mathlib.Core.Path.{◌≡◌, refl, sym, ap, ◌∙◌}
use mathlib.Core.List.{List, [], ◌∷◌}
use mathlib.Core.Bool.{true}
use native.Mathlib.Omega.{arith}
use borrow.Author.Tests.{le-leb, leb-true}
use lib.ListN.{length, get_or, take, drop}
use lib.Seq.{take-append_seam}
use lib.Dec.{leb}
use Rattle.classes.specs.Classes.{OnlyClasses}
use Rattle.rules.specs.Limits.{max_number}
use Rattle.rules.specs.Memory.{over}
use Rattle.rules.proofs.Cases.{by_bool, and_i}
use Rattle.rules.specs.Refusals.{accepted, wrote, refused}
use Rattle.classes.proofs.Bytes.{outside_in}
use Rattle.image.specs.State.{Ruleset, ruleset_of}
use Rattle.image.specs.Image.{image_size, last_of, masks_in, classes_of, whole, valid, Edited, outcome}
use Rattle.image.proofs.Stored.{valid_fine}
use Rattle.image.proofs.Whole.{whole_ledger, whole_valid}
use Rattle.frames.proofs.Lines.{Bytes}
use Rattle.file_format.specs.File.{well_formed, encode, Read, readFile}
use Rattle.file_format.specs.File.Read.{Accepted, Malformed, Broken}
use Rattle.file.specs.Loading.{ledger_for, verdict, loaded, ruleset_in, filing, filed}
use Rattle.file_format.proofs.Accepts.{accepts, accepted as accepted-was}
use Rattle.file.proofs.FirstLine.{no_decline}
use Rattle.file.proofs.Storing.{formed_ruleset, formed_fine}

-- ---- an image and its ruleset

byte_at : (d : List ℕ) (k : ℕ) → Bytes d → get_or d k 0 < 256
byte_at [] zero h = omega arith
byte_at [] (suc k) h = omega arith
byte_at (b ∷ d) zero h = h.0
byte_at (b ∷ d) (suc k) h = byte_at d k h.1

pub formed : (d : List ℕ) → Bytes d → valid d ≡ true → well_formed (ruleset_in d) ≡ true
unfolding well_formed
formed d h ok =
    let u : last_of d ≤ max_number = omega (arith, byte_at d 2 h, byte_at d 3 h) in
    and_i (le-leb (last_of d) max_number u) (valid_fine d ok).ruled

-- and the classes of class symbols only
only_classes : (d : List ℕ) → OnlyClasses (ruleset_in d).classes
unfolding classes_of
only_classes d = outside_in (masks_in d)

module _ (b : Ruleset) (v : well_formed b ≡ true) (only : OnlyClasses b.classes) (xs : List ℕ) (long : image_size ≤ length xs) where
  pub kept_valid : valid (whole (ledger_for b) xs) ≡ true
  kept_valid = whole_valid xs long (ledger_for b) (formed_fine b v) only

  pub kept : ruleset_in (whole (ledger_for b) xs) ≡ b
  kept = ap ruleset_of (whole_ledger xs long (ledger_for b) (formed_fine b v) only) ∙ formed_ruleset b v

-- ---- a file read

loaded_accepted : (file : List ℕ) (b : Ruleset) (xs : List ℕ) → image_size ≤ length xs → readFile file ≡ Accepted b → loaded file xs ≡ outcome accepted (whole (ledger_for b) xs)
unfolding loaded
loaded_accepted file b xs h e = rw (le-leb _ _ h, e)

-- what was read, of a call that accepted
record Taken (file xs : List ℕ) : Type 0 where
  pub long : image_size ≤ length xs
  pub b : Ruleset
  pub is : readFile file ≡ Accepted b

taken_by : (file xs : List ℕ) (r : Read) → readFile file ≡ r → image_size ≤ length xs → verdict r ≡ accepted → Taken file xs
taken_by file xs (Accepted b) e h v = record { long = h; b = b; is = e }
taken_by file xs (Malformed p) e h v = no_decline 13 p v
taken_by file xs (Broken p) e h v = no_decline 14 p v

taken : (file xs : List ℕ) → (loaded file xs).reply ≡ accepted → Taken file xs
unfolding loaded
taken file xs e =
    by_bool (leb image_size (length xs))
    (λ t. taken_by file xs (readFile file) refl (leb-true _ _ t) (rw t at e))
    (λ t. no_decline 0 0 (rw t at e))

pub read_valid : (file xs : List ℕ) → (loaded file xs).reply ≡ accepted → valid (loaded file xs).image ≡ true
read_valid file xs e =
    let t = taken file xs e in
    let w = accepted-was file t.b t.is in
    ap (λ (q : Edited). valid q.image) (loaded_accepted file t.b xs t.long t.is) ∙ kept_valid t.b w.formed w.only xs t.long

-- ---- a file written

filed_is : (d out : List ℕ) → valid d ≡ true → length (encode (ruleset_in d)) ≤ length out
    → filed d out ≡ filing (wrote (length (encode (ruleset_in d)))) (over (encode (ruleset_in d)) out)
unfolding filed
filed_is d out ok h = rw (ok, le-leb _ _ h)

pub read_written : (file xs out : List ℕ) → (loaded file xs).reply ≡ accepted → length file ≤ length out
    → filed (loaded file xs).image out ≡ filing (wrote (length file)) (over file out)
read_written file xs out e h =
    let t = taken file xs e in
    let w = accepted-was file t.b t.is in
    let z = whole (ledger_for t.b) xs in
    let f : encode (ruleset_in z) ≡ file = ap encode (kept t.b w.formed w.only xs t.long) ∙ sym w.was in
    ap (λ (q : Edited). filed q.image out) (loaded_accepted file t.b xs t.long t.is)
    ∙ (filed_is z out (kept_valid t.b w.formed w.only xs t.long) (omega (arith, ap length f))
    ∙ ap (λ (l : List ℕ). filing (wrote (length l)) (over l out)) f)

-- ---- a file written and read

no_wrote : {A : Type 0} (a p n : ℕ) → refused a p ≡ wrote n → A
no_wrote a p n e = let z : ◌≡◌ {A = ℕ} 0 1 = cc in absurd (omega arith)

same_wrote : (m n : ℕ) → wrote m ≡ wrote n → m ≡ n
same_wrote m n e = cc

-- what a call that wrote n bytes had and left
record Put (d out : List ℕ) (n : ℕ) : Type 0 where
  pub ok : valid d ≡ true
  pub front : take n (filed d out).bytes ≡ encode (ruleset_in d)

put : (d out : List ℕ) (n : ℕ) → (filed d out).report ≡ wrote n → Put d out n
unfolding filed
put d out n e =
    by_bool (valid d)
    (λ t.
    by_bool (leb (length (encode (ruleset_in d))) (length out))
    (λ u. record {
      ok = t;
      front =
          let f = encode (ruleset_in d) in
          let m : length f ≡ n = same_wrote (length f) n (rw (t, u) at e) in
          rw (t, u) (ap (λ (k : ℕ). take k (over f out)) (sym m) ∙ take-append_seam f (drop (length f) out));
    })
    (λ u. no_wrote 15 (length (encode (ruleset_in d))) n (rw (t, u) at e)))
    (λ t. no_wrote 0 0 n (rw t at e))

pub written_reads_back : (image out memory : List ℕ) (n : ℕ) → Bytes image → image_size ≤ length memory → (filed image out).report ≡ wrote n
    → ((loaded (take n (filed image out).bytes) memory).reply ≡ accepted)
    × (ruleset_in (loaded (take n (filed image out).bytes) memory).image ≡ ruleset_in image)
written_reads_back image out memory n h long e =
    let p = put image out n e in
    let b = ruleset_in image in
    let v = formed image h p.ok in
    let only = only_classes image in
    let l : loaded (take n (filed image out).bytes) memory ≡ outcome accepted (whole (ledger_for b) memory) =
    ap (λ (f : List ℕ). loaded f memory) p.front ∙ loaded_accepted (encode b) b memory long (accepts b v only) in
    (ap (λ (q : Edited). q.reply) l, ap (λ (q : Edited). ruleset_in q.image) l ∙ kept b v only memory long)
