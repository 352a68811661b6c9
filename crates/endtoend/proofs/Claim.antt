-- Demand 3 over the definitions: what the four calls give makes the claim. The edits are the ledger's (history), the build has room,
-- and the table theorem makes walk and plain reading alike, whatever the lent memory held.
-- Assumes nothing.
use Prim.Native.Nat.{ℕ, ◌≤◌}
use mathlib.Core.Path.{◌≡◌, refl, sym, ap, ◌∙◌}
use mathlib.Core.Bool.{true}
use mathlib.Core.List.{List}
use borrow.Author.Tests.{le-leb}
use lib.Dec.{leb}
use lib.ListN.{length, take, drop}
use lib.Seq.{take_at}
use Rattle.rules.specs.Memory.{over}
use Rattle.rules.proofs.Cases.{by_bool}
use Rattle.rules.specs.Refusals.{accepted}
use Rattle.classes.specs.Expansion.{expand}
use Rattle.exceptions.specs.Judging.{Listing, listing_of}
use Rattle.image.specs.State.{Ledger, rules_of}
use Rattle.image.specs.Image.{ledger_of, valid, entries_of, literals_of}
use Rattle.history.specs.Replay.{Replay, FromEmpty, Replayed}
use Rattle.history.proofs.EveryList.{replay_accepted}
use Rattle.fitting.specs.Fitting.{Str}
use Rattle.speech.specs.Speech.{Outcome, speaks, declines, phones_of, numbers_of, delivered, saying_listed, plain_outcome, plain_said}
use Rattle.speech.proofs.ListedNames.{listed_said}
use Rattle.tables.specs.Words.{edits_in, words_for, sets_for, Built, built}
use Rattle.tables.specs.Walk.{Walked, walk_said}
use Rattle.tables.proofs.Theorem.{table_theorem, steps_theorem, steps_whole}
use Rattle.tables.proofs.Stale.{built_edits}
use Rattle.tables.proofs.Steps.{listed_walked}
use Rattle.endtoend.specs.EndToEnd.{result, from_list, Lent, Given, taken_edits, ledger_after, literals_after, Enough, Claim, EndToEnd}

-- ---- what a call tells does not depend on what the lent memory held, but for its length

take_over : (ys xs : List ℕ) → take (length ys) (over ys xs) ≡ ys
take_over ys xs = take_at ys (drop (length ys) xs) (length ys) refl

delivered_result : (o : Outcome) (ps ns qs ms : List ℕ) → length ps ≡ length qs → length ns ≡ length ms
    → result (delivered o ps ns) ≡ result (delivered o qs ms)
delivered_result (declines n p steps) ps ns qs ms e f = refl
delivered_result (speaks xs steps) ps ns qs ms e f =
    by_bool (leb (length (phones_of xs)) (length qs))
    (λ a. by_bool (leb (length (numbers_of xs)) (length ms))
    (λ b. rw (e, f, a, b, take_over (phones_of xs) ps, take_over (phones_of xs) qs, take_over (numbers_of xs) ns, take_over (numbers_of xs) ms))
    (λ b. rw (e, f, a, b)))
    (λ a. rw (e, a))

plain_result : (image : List ℕ) (l : Listing) (name : Str) (ps ns qs ms : List ℕ) → length ps ≡ length qs → length ns ≡ length ms
    → result (plain_said image l name ps ns) ≡ result (plain_said image l name qs ms)
unfolding plain_said
plain_result image l name ps ns qs ms e f = delivered_result (plain_outcome image l name) ps ns qs ms e f

-- what is told of a listed name
listed_result : (p : Str) (ps ns : List ℕ) → result (saying_listed p ps ns) ≡ from_list p (length ps)
listed_result p ps ns = by_bool (leb (length p) (length ps)) (λ a. rw (a, take_over p ps)) (λ a. rw a)

-- ---- a build of a ruleset in memory that is long enough is accepted

enough_built : (image ws ss : List ℕ) → valid image ≡ true → words_for (literals_of image) ≤ length ws → sets_for (literals_of image) ≤ length ss
    → (built image ws ss).reply ≡ accepted
unfolding built
enough_built image ws ss v w s = rw (v, le-leb _ _ w, le-leb _ _ s)

-- the literal rules of the image are those of the ledger after the edits
pub state_literals : (image : List ℕ) (g : Ledger) → ledger_of image ≡ g → literals_of image ≡ expand g.classes (rules_of g)
unfolding literals_of entries_of
state_literals image g e = ap (λ (x : Ledger). expand x.classes (rules_of x)) e

module _ (m : Lent) (g : Given)
    (r : Replayed m.image m.code m.letters m.answers m.places g.replay)
    (b : g.build ≡ built g.replay.image m.words m.sets)
    (p : g.plain ≡ plain_said g.replay.image (listing_of m.list) m.name m.«plain-phones» m.«plain-numbers»)
    (w : g.walk ≡ walk_said g.replay.image (listing_of m.list) g.build.words g.build.sets m.name m.«walk-phones» m.«walk-numbers») where
  module _ (e : Enough (taken_edits m) m) where
    done : FromEmpty (taken_edits m) m.image m.answers m.places g.replay
    done = r.claim (ap (λ (x : Replay). x.reply) r.whole ∙ replay_accepted m.image m.code m.letters m.answers m.places e.image)

    literals_are : literals_of g.replay.image ≡ literals_after (taken_edits m)
    literals_are = state_literals g.replay.image (ledger_after (taken_edits m)) done.state

    ready : (built g.replay.image m.words m.sets).reply ≡ accepted
    ready =
        let x : words_for (literals_of g.replay.image) ≤ length m.words = rw literals_are e.words in
        let y : sets_for (literals_of g.replay.image) ≤ length m.sets = rw literals_are e.sets in
        enough_built g.replay.image m.words m.sets done.kept x y

    walk_is : g.walk
        ≡ walk_said g.replay.image (listing_of m.list) (built g.replay.image m.words m.sets).words (built g.replay.image m.words m.sets).sets
        m.name m.«walk-phones» m.«walk-numbers»
    walk_is =
        w ∙ ap (λ (x : Built). walk_said g.replay.image (listing_of m.list) x.words x.sets m.name m.«walk-phones» m.«walk-numbers») b

    made : Claim (taken_edits m) m g
    made = record {
      edits = done;
      tables = ap (λ (x : Built). x.reply) b ∙ ready;
      carried = ap (λ (x : Built). edits_in x.words) b ∙ (built_edits g.replay.image m.words m.sets ready ∙ done.edits);
      alike =
          ap (λ (x : Walked). result x.said) walk_is
          ∙ (ap result (table_theorem g.replay.image (listing_of m.list) m.words m.sets m.name m.«walk-phones» m.«walk-numbers» ready)
          ∙ (plain_result g.replay.image (listing_of m.list) m.name m.«walk-phones» m.«walk-numbers» m.«plain-phones» m.«plain-numbers» e.phones e.numbers
          ∙ ap result (sym p)));
      steps = λ n u.
          ap (λ (x : Walked). x.steps) walk_is
          ∙ steps_theorem g.replay.image (listing_of m.list) m.words m.sets m.name m.«walk-phones» m.«walk-numbers» ready n u;
      all_steps = λ n u h.
          ap (λ (x : Walked). x.steps) walk_is
          ∙ steps_whole g.replay.image (listing_of m.list) m.words m.sets m.name m.«walk-phones» m.«walk-numbers» ready n u h;
      listed = λ n q u. (
        ap result (p ∙ listed_said g.replay.image (listing_of m.list) m.name q m.«plain-phones» m.«plain-numbers» done.kept n u)
            ∙ listed_result q m.«plain-phones» m.«plain-numbers»,
        ap (λ (x : Walked). x.steps) (w ∙ listed_walked _ g.replay.image (listing_of m.list) m.name q m.«walk-phones» m.«walk-numbers» done.kept n u),
      );
    }

  -- the four calls, one after the other, make the claim
  pub end_to_end : EndToEnd m g
  end_to_end = record { replayed = r; built_after = b; read = p; walked = w; claim = made }
