-- One name of a sheet: its passes, then what reading by the remembered states comes to. The laws are those of the walk of a single name.
-- Assumes nothing.
use mathlib.Core.Path.{◌≡◌, refl, sym, ap, ◌∙◌}
use Prim.Native.Nat.{ℕ}
use mathlib.Core.Bool.{Bool, cond}
use mathlib.Core.List.{List}
use lib.ListN.{length}
use Rattle.std.specs.Prelude.{Option, Some, None, Result}
use Rattle.rules.proofs.Cases.{by_bool}
use Rattle.rules.specs.Names.{SoundName}
use Rattle.image.specs.Image.{edits_of}
use Rattle.fitting.specs.Fitting.{Str}
use Rattle.speech.specs.Speech.{at_once}
use Rattle.speech.specs.declared.Unread.{Unread}
use Rattle.tables.specs.Words.{right_sets}
use Rattle.passes.specs.Passes.{left_rows_of, Memory, Sized}
use Rattle.table_reading.specs.Letters.{Held, NameRead, FewParts}
use Rattle.walk.specs.Walked.{FitsAs}
use Rattle.walk.proofs.Walked as W
use Rattle.prefix_tree.specs.declared.Counts.{Counts}
use Rattle.sheet_passes.specs.Passing.{HoldsSome, NameShares, NameShared}
use Rattle.sheet_name.specs.Judging.{FrameJudged}

module _ {words sets : List ℕ} {l r : ℕ} {fit stale : Bool} (image : List ℕ) (fits-as : FitsAs words sets l r (edits_of image) fit stale) {list : List ℕ} {name : Str} (sound : SoundName name)
    {t : List ℕ} {n steps : ℕ} (g : HoldsSome fit (left_rows_of words l) t n) {m : Memory} {t' : List ℕ} {p : Option Counts} (o : NameShared words l r fit list name m t n steps t' p) where
  here : NameShares words l r fit list name m t' p g.strings
  here = o.shares g.strings g.holds

  pub sized-here : Sized m
  sized-here = here.passed.sized

module _ {words sets : List ℕ} {l r : ℕ} {fit stale : Bool} (image : List ℕ) (fits-as : FitsAs words sets l r (edits_of image) fit stale) {list : List ℕ} {name : Str} (sound : SoundName name)
    {t : List ℕ} {n steps : ℕ} (g : HoldsSome fit (left_rows_of words l) t n) {m : Memory} {t' : List ℕ} where
  pub judged-refused : NameShared words l r fit list name m t n steps t' None → (parts : List ℕ) → FrameJudged words sets l r fit stale image list name t n steps t' parts None
  judged-refused o parts =
      let h = here image fits-as sound g o in
      record {
        sized = o.sized;
        refused = by_bool stale
            (λ b. sym (W.through-stale image words sets l r fit stale fits-as list name sound m None h.passed refl b) ∙ sym (ap (λ (x : Bool). at_once (cond x 22 16) 0) b))
            (λ b. sym (W.through-unusable image words sets l r fit stale fits-as list name sound m None h.passed refl b) ∙ sym (ap (λ (x : Bool). at_once (cond x 22 16) 0) b));
        read = tt;
        grown = tt;
        short = tt;
        shares = tt;
      }

  module _ {p : Counts} (o : NameShared words l r fit list name m t n steps t' (Some p)) (base : ℕ) (is : base ≡ cond fit (right_sets l) 0) where
    abbrev this : NameShares words l r fit list name m t' (Some p) g.strings
    this = here image fits-as sound g o

    pub held-here : Held (length sets) base name m.found m.left m.right
    held-here = W.states-held image words sets l r fit stale fits-as list name sound m (Some this.taken) this.passed refl base is

    pub judged-read : (parts : List ℕ) (x : Result ℕ Unread) → FewParts name x → NameRead image sets base name m.found m.left m.right parts x
        → FrameJudged words sets l r fit stale image list name t n steps t' parts (Some (record { counts = p; reached = x }))
    judged-read parts x few q =
        record {
          sized = o.sized;
          refused = tt;
          read = record {
            parted = W.parts-read image words sets l r fit stale fits-as list name sound m (Some this.taken) this.passed refl base is parts x q;
            few = few;
            taken = this.taken;
            says = W.through_read image words sets l r fit stale fits-as list name sound m (Some this.taken) this.passed refl base is parts x q;
          };
          grown = o.grown;
          short = o.short;
          shares = λ ws h. (o.shares ws h).holds;
        }
