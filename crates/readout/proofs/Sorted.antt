-- The read-out of a list is that of the names it says, sorted: every listed name once and no other, in letter order, a name before its continuations.
-- Assumes nothing.
use mathlib.Core.Path.{◌≡◌}
use Prim.Native.Nat.{ℕ}
use mathlib.Core.Bool.{true}
use mathlib.Core.List.{List, []}
use Rattle.automaton.specs.Automaton.{rows_of}
use Rattle.automaton.specs.Listing.{names, entries}
use Rattle.automaton.proofs.Listing.{listed_in, listed_only, rising, readout_is}
use Rattle.packing.specs.Packing.{unpack}
use Rattle.exceptions.specs.Layout.{words_of, start_of, phones_for}
use Rattle.exceptions.specs.Judging.{is_list}
use Rattle.exceptions.proofs.Worded.{list_worded}
use Rattle.readout.specs.ReadOut.{list_text, ReadsOut}

pub readout_lists : (list : List ℕ) → list_text list ≡ entries [] (phones_for (words_of list)) (names 64 (phones_for (words_of list)))
unfolding list_text phones_for
readout_lists list = readout_is unpack (rows_of (words_of list)) 64 (start_of (words_of list)) []

pub reads_out : (list : List ℕ) → is_list list ≡ true → ReadsOut list
reads_out list e =
    let a = list_worded list e in
    let m = phones_for (words_of list) in
    record {
      text = readout_lists list;
      all = λ w t ne. listed_in 64 m w t (a.letters w t ne).1 ne;
      only = λ w x. let r = listed_only 64 m w x in (r.0, (a.letters w r.0 r.2).0, r.1, r.2);
      order = rising 64 m;
    }
