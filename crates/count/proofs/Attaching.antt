-- A new child in the chains: they are chains of one node more, and the look-up of children finds it.
-- Assumes nothing.
use mathlib.Core.Path.{◌≡◌, ap, ◌∙◌}
use Prim.Native.Nat.{ℕ, suc, ◌+◌, ◌<◌}
use native.Mathlib.Omega.{arith}
use native.Mathlib.Decide.{dec_le}
use mathlib.Core.List.{List}
use lib.ListN.{length, get_or, set, length-set}
use lib.Seq.{get_or-set_same, get_or-set_other}
use Rattle.tables.specs.Siblings.{seek, LatestChild, Attached}
use Rattle.tables.proofs.Siblings.{siblings_fall, latest_siblings, latest_child}
use Rattle.count.specs.Chains.{at, child_of, Room, Linked, Chains, Alike}

pub chain_linked : (fi nx ky : List ℕ) (n : ℕ) → Chains fi nx ky n → (q : ℕ) → q < n → Linked fi nx ky q
chain_linked fi nx ky n ch q h =
    let g = ch.siblings.heads q h in
    record {
      node = omega (arith, ch.room.firsts);
      nexts = omega (arith, ch.room.nexts);
      keys = omega (arith, ch.room.keys);
      falling = siblings_fall (at fi) (at nx) n ch.siblings q h;
    }

-- a node without children, and that is none
pub chains_more : (fi nx ky : List ℕ) (n : ℕ) → Chains fi nx ky n → Room (n + 1) fi nx ky → Chains fi nx ky (n + 1)
chains_more fi nx ky n ch room =
    record {
      room = room;
      siblings = record { heads = λ q h. head q h (dec_le (suc q) n); falling = λ s p h. fall s p h (dec_le (suc s) n) };
      firsts_zero = λ k h. ch.firsts_zero k (omega arith);
      nexts_zero = λ k h. ch.nexts_zero k (omega arith);
    }
  where
    head : (q : ℕ) → q < n + 1 → Dec (q < n) → get_or fi q 0 < n + 1
    head q h (yes y) = let g = ch.siblings.heads q y in omega arith
    head q h (no y) = let g = ch.firsts_zero q (omega arith) in omega arith

    fall : (s : ℕ) → 0 < s → s < n + 1 → Dec (s < n) → get_or nx s 0 < s
    fall s p h (yes y) = ch.siblings.falling s p y
    fall s p h (no y) = let g = ch.nexts_zero s (omega arith) in omega arith

module _ (fi nx ky : List ℕ) (q n c : ℕ) (l : q < n) (ch : Chains fi nx ky n) (room : Room (n + 1) fi nx ky) where
  abbrev fi' : List ℕ
  fi' = set fi q n

  abbrev nx' : List ℕ
  nx' = set nx n (get_or fi q 0)

  abbrev ky' : List ℕ
  ky' = set ky n c

  latest : LatestChild (at fi) (at nx) (at ky) (at fi') (at nx') (at ky') q n c
  latest =
      record {
        parent = get_or-set_same fi q n 0 (omega (arith, room.firsts));
        firsts = λ k h d. get_or-set_other fi q k n 0 d;
        childless = get_or-set_other fi q n n 0 (omega arith) ∙ ch.firsts_zero n (omega arith);
        before = get_or-set_same nx n (get_or fi q 0) 0 (omega (arith, room.nexts));
        nexts = λ k h. get_or-set_other nx n k (get_or fi q 0) 0 (omega arith);
        under = get_or-set_same ky n c 0 (omega (arith, room.keys));
        keys = λ k h. get_or-set_other ky n k c 0 (omega arith);
      }

  pub attached_alike : Alike fi nx ky fi' nx' ky'
  attached_alike = record { firsts = length-set fi q n; nexts = length-set nx n (get_or fi q 0); keys = length-set ky n c }

  pub attached_chains : Chains fi' nx' ky' (n + 1)
  attached_chains =
      record {
        room = record {
          firsts = omega (arith, room.firsts, attached_alike.firsts);
          nexts = omega (arith, room.nexts, attached_alike.nexts);
          keys = omega (arith, room.keys, attached_alike.keys);
        };
        siblings = latest_siblings (at fi) (at nx) (at ky) (at fi') (at nx') (at ky') q n c l ch.siblings latest;
        firsts_zero = λ k h. get_or-set_other fi q k n 0 (omega arith) ∙ ch.firsts_zero k (omega arith);
        nexts_zero = λ k h. get_or-set_other nx n k (get_or fi q 0) 0 (omega arith) ∙ ch.nexts_zero k (omega arith);
      }

  -- a search that looks at as many nodes as before
  as_before : (k e : ℕ) → child_of fi' nx' ky' k e ≡ seek (length nx) (at nx') (at ky') (get_or fi' k 0) e
  as_before k e = ap (λ (m : ℕ). seek m (at nx') (at ky') (get_or fi' k 0) e) attached_alike.nexts

  pub attached_child : Attached (child_of fi nx ky) (child_of fi' nx' ky') q n c
  attached_child =
      let x = latest_child (at fi) (at nx) (at ky) (at fi') (at nx') (at ky') q n c l ch.siblings latest (length nx) (omega (arith, room.nexts)) in
      record {
        child = as_before q c ∙ x.child;
        row = λ e. as_before n e ∙ x.row e;
        other = λ k e h d. as_before k e ∙ x.other k e h d;
      }
