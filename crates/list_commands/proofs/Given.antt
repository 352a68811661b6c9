-- Each command's own outcome is the answer, where the first byte is the command's.
-- Assumes nothing.
use Prim.Native.Nat.{ℕ}
use mathlib.Core.Path.{◌≡◌, refl, sym, ap, ◌∙◌}
use mathlib.Core.List.{List}
use mathlib.Core.Bool.{false}
use lib.Dec.{eqb}
use lib.ListN.{length, get_or, take}
use borrow.Author.Tests.{eqb-false}
use Rattle.command_parts.specs.Answers.{leaving, Answered}
use Rattle.command_parts.specs.Fields.{back}
use Rattle.command_parts.proofs.Replies.{Gives}
use Rattle.list_commands.specs.ListCommands.{Adds, Removes, emptied_by, read_out_by, shown_text, lent_line, lent_after, stored_unit, Listed, holding, responding, Carried, Replied}

-- a command has one first byte
abbrev other : {A : Type 0} (k j n : ℕ) → eqb k j ≡ false → n ≡ k → n ≡ j → A
other k j n d p q = absurd (eqb-false k j d (sym p ∙ q))

module _ (f list : List ℕ) (lent : ℕ) (text : List ℕ) (len : ℕ) (out out' : List ℕ) where
  abbrev before : Listed
  before = holding list lent text

  abbrev kind : ℕ
  kind = get_or f 0 0

  pub by_add : (part : List ℕ) → kind ≡ 32 → Carried (Adds f (take lent list)) part len out out'
      → Replied f before (holding (back lent part list) lent text) len out out'
  by_add part k c =
      record {
        line = c.line;
        answers = record {
          adds = λ e. record { effect = leaving c.line part; meets = c.meets; is = refl };
          removes = other 32 33 kind refl k;
          reads = other 32 34 kind refl k;
          shows = other 32 35 kind refl k;
          empties = other 32 36 kind refl k;
          lends = other 32 37 kind refl k;
          stores = other 32 38 kind refl k;
        };
        many = c.many;
        bytes = c.bytes;
      }

  pub by_remove : (part : List ℕ) → kind ≡ 33 → Carried (Removes f (take lent list)) part len out out'
      → Replied f before (holding (back lent part list) lent text) len out out'
  by_remove part k c =
      record {
        line = c.line;
        answers = record {
          adds = other 33 32 kind refl k;
          removes = λ e. record { effect = leaving c.line part; meets = c.meets; is = refl };
          reads = other 33 34 kind refl k;
          shows = other 33 35 kind refl k;
          empties = other 33 36 kind refl k;
          lends = other 33 37 kind refl k;
          stores = other 33 38 kind refl k;
        };
        many = c.many;
        bytes = c.bytes;
      }

  pub by_read : (ys : List ℕ) → kind ≡ 34 → Answered (read_out_by f (take lent list) text) ys len out out'
      → Replied f before (holding list lent ys) len out out'
  by_read ys k a =
      record {
        line = (read_out_by f (take lent list) text).line;
        answers = record {
          adds = other 34 32 kind refl k;
          removes = other 34 33 kind refl k;
          reads = λ e. ap (λ (y : List ℕ). responding (read_out_by f (take lent list) text).line (holding list lent y)) a.left;
          shows = other 34 35 kind refl k;
          empties = other 34 36 kind refl k;
          lends = other 34 37 kind refl k;
          stores = other 34 38 kind refl k;
        };
        many = a.many;
        bytes = a.bytes;
      }

  pub by_show : kind ≡ 35 → Gives (shown_text f text) len out out'
      → Replied f before (before) len out out'
  by_show k g =
      record {
        line = shown_text f text;
        answers = record {
          adds = other 35 32 kind refl k;
          removes = other 35 33 kind refl k;
          reads = other 35 34 kind refl k;
          shows = λ e. refl;
          empties = other 35 36 kind refl k;
          lends = other 35 37 kind refl k;
          stores = other 35 38 kind refl k;
        };
        many = g.0;
        bytes = g.1;
      }

  pub by_clear : (part : List ℕ) → kind ≡ 36 → Answered (emptied_by f (take lent list)) part len out out'
      → Replied f before (holding (back lent part list) lent text) len out out'
  by_clear part k a =
      record {
        line = (emptied_by f (take lent list)).line;
        answers = record {
          adds = other 36 32 kind refl k;
          removes = other 36 33 kind refl k;
          reads = other 36 34 kind refl k;
          shows = other 36 35 kind refl k;
          empties = λ e. ap (λ (p : List ℕ). responding (emptied_by f (take lent list)).line (holding (back lent p list) lent text)) a.left;
          lends = other 36 37 kind refl k;
          stores = other 36 38 kind refl k;
        };
        many = a.many;
        bytes = a.bytes;
      }

  pub by_lend : (n : ℕ) → kind ≡ 37 → n ≡ lent_after f (length list) lent → Gives (lent_line f) len out out'
      → Replied f before (holding list n text) len out out'
  by_lend n k p g =
      record {
        line = lent_line f;
        answers = record {
          adds = other 37 32 kind refl k;
          removes = other 37 33 kind refl k;
          reads = other 37 34 kind refl k;
          shows = other 37 35 kind refl k;
          empties = other 37 36 kind refl k;
          lends = λ e. ap (λ (m : ℕ). responding (lent_line f) (holding list m text)) p;
          stores = other 37 38 kind refl k;
        };
        many = g.0;
        bytes = g.1;
      }

  pub by_store : (xs : List ℕ) → kind ≡ 38 → Answered (stored_unit f list) xs len out out'
      → Replied f before (holding xs lent text) len out out'
  by_store xs k a =
      record {
        line = (stored_unit f list).line;
        answers = record {
          adds = other 38 32 kind refl k;
          removes = other 38 33 kind refl k;
          reads = other 38 34 kind refl k;
          shows = other 38 35 kind refl k;
          empties = other 38 36 kind refl k;
          lends = other 38 37 kind refl k;
          stores = λ e. ap (λ (x : List ℕ). responding (stored_unit f list).line (holding x lent text)) a.left;
        };
        many = a.many;
        bytes = a.bytes;
      }
