-- The numbers that a host gets of the exceptions list.
-- Assumes nothing.
use Prim.Native.Nat.{ℕ, ◌≤◌, ◌<◌}
use mathlib.Core.Path.{◌≡◌, ap, ◌∙◌}
use mathlib.Core.Bool.{Bool, true, false, cond}
use mathlib.Core.List.{List}
use native.Mathlib.Omega.{arith}
use Rattle.rules.specs.Refusals.{Reply, accepted, declined, reply_code, Report}
use Rattle.rules.proofs.Cases.{by_bool}
use Rattle.exceptions.specs.Layout.{words_of, start_of, states_in}
use Rattle.exceptions.specs.Judging.{is_list, judged_list}
use Rattle.exceptions.specs.Calls.{Emptied, emptying, name_count, state_count}
use Rattle.exceptions.proofs.Decided.{list_facts}
use Rattle.readout.specs.ReadOut.{ReadOut, reading}
use Rattle.host.specs.Files.{written_code, bytes_or_place}

pub judged_is : (list : List ℕ) (b : Bool) → is_list list ≡ b → reply_code (judged_list list) ≡ cond b (reply_code accepted) 17
judged_is list true h = ap (λ (t : Bool). reply_code (cond t accepted (declined 17 0))) h
judged_is list false h = ap (λ (t : Bool). reply_code (cond t accepted (declined 17 0))) h

-- names and states are numbers of 16 bits
pub names_small : (list : List ℕ) → name_count list < 65536
unfolding name_count
names_small list =
    by_bool (is_list list)
    (λ i. let h = (list_facts list i).names in rw i (omega (arith, h)))
    (λ i. rw i (omega arith))

states_few : (ws : List ℕ) → start_of ws ≤ 4096 → states_in ws < 65536
unfolding states_in
states_few ws h = omega (arith, h)

pub states_small : (list : List ℕ) → state_count list < 65536
unfolding state_count
states_small list =
    by_bool (is_list list)
    (λ i. let h = states_few (words_of list) (list_facts list i).states in rw i h)
    (λ i. rw i (omega arith))

-- the empty list
module _ (a : Reply) (list : List ℕ) (e : Emptied) (h : emptying a list ≡ e) where
  pub emptied_code : (r : ℕ) → r ≡ reply_code a → r ≡ reply_code e.reply
  emptied_code r c = c ∙ ap (λ (x : Emptied). reply_code x.reply) h

  pub emptied_list : list ≡ e.list
  emptied_list = ap (λ (x : Emptied). x.list) h

-- the read_out
module _ (w : Report) (out : List ℕ) (f : ReadOut) (h : reading w out ≡ f) where
  pub read_code : (r : ℕ) → r ≡ written_code w → r ≡ written_code f.report
  read_code r c = c ∙ ap (λ (x : ReadOut). written_code x.report) h

  pub read_bytes : (r : ℕ) → r ≡ bytes_or_place w → r ≡ bytes_or_place f.report
  read_bytes r c = c ∙ ap (λ (x : ReadOut). bytes_or_place x.report) h

  pub read_out : out ≡ f.bytes
  read_out = ap (λ (x : ReadOut). x.bytes) h
