-- `literals::literal_end` meets its contract: its target, then, unless it has no contexts, its right context and its left context.
-- Assumes nothing.
use Prim.Native.Nat.{ℕ, ◌+◌, ◌≤◌}
use mathlib.Core.Path.{sym, ap, ◌∙◌}
use native.Mathlib.Omega.{arith}
use lib.ListN.{length, drop}
use Rattle.classes.specs.Masks.{classes_in}
use Rattle.classes.specs.Ordinal.{literal_at}
use Rattle.fitting.specs.Fitting.{starts}
use Rattle.literals.specs.Matching.{started, rule_with}
use Rattle.literals.proofs.Fitting.{no_target, past_target, no_right, by_left, no_contexts}
use Rattle.literals.proofs.Ends.{ended_no, ended_yes, ended_at, end_none, end_some}
use Rattle.literals.proofs.literal_end.Goals as goal

pub returns-then-end-eq0 : goal.returns-then-end-eq0
returns-then-end-eq0 c = let t = c.args.target.now in
    let some : 1 ≤ c.args.i + length t = omega (arith, c.requires.1.1.1.0) in
    end_none (literal_at (classes_in c.args.masks.now) (rule_with c.args.left.now c.args.target.now c.args.right.now) c.args.j) c.args.frame.now c.args.i (sym (no_target (classes_in c.args.masks.now) c.args.left.now c.args.target.now c.args.right.now c.args.j c.args.frame.now c.args.i (ended_no (c.args.i + length t) some _ _ c.target_end-end.ensures c.if-end-eq0.true)))

pub returns-then-left-right-eq0 : goal.returns-then-left-right-eq0
returns-then-left-right-eq0 c = let t = c.args.target.now in
    let some : 1 ≤ c.args.i + length t = omega (arith, c.requires.1.1.1.0) in
    let found = ended_yes (c.args.i + length t) some (starts t (drop c.args.i c.args.frame.now)) _ c.target_end-end.ensures c.if-end-eq0.false in
    ended_at _ _ _ c.target_end-end.ensures found ∙ end_some (literal_at (classes_in c.args.masks.now) (rule_with c.args.left.now c.args.target.now c.args.right.now) c.args.j) c.args.frame.now c.args.i (sym (no_contexts (classes_in c.args.masks.now) c.args.left.now c.args.target.now c.args.right.now c.args.j c.args.frame.now c.args.i found c.if-left-right-eq0.true))

pub starts_choice-requires : goal.starts_choice-requires
starts_choice-requires c = let t = c.args.target.now in
    let some : 1 ≤ c.args.i + length t = omega (arith, c.requires.1.1.1.0) in
    let found = ended_yes (c.args.i + length t) some (starts t (drop c.args.i c.args.frame.now)) _ c.target_end-end.ensures c.if-end-eq0.false in
    let at = ended_at _ _ _ c.target_end-end.ensures found in
    (c.requires.0, (c.requires.1.1.0, omega (arith, at, past_target (classes_in c.args.masks.now) c.args.left.now c.args.target.now c.args.right.now c.args.j c.args.frame.now c.args.i found (omega (arith, c.requires.1.1.1.1)))))

pub returns-in_default : goal.returns-in_default
returns-in_default c = let t = c.args.target.now in
    let some : 1 ≤ c.args.i + length t = omega (arith, c.requires.1.1.1.0) in
    let found = ended_yes (c.args.i + length t) some (starts t (drop c.args.i c.args.frame.now)) _ c.target_end-end.ensures c.if-end-eq0.false in
    let at = ended_at _ _ _ c.target_end-end.ensures found in
    let e = ap (λ (n : ℕ). started (classes_in c.args.masks.now) c.args.right.now (drop n c.args.frame.now) c.args.j) at in
    end_none (literal_at (classes_in c.args.masks.now) (rule_with c.args.left.now c.args.target.now c.args.right.now) c.args.j) c.args.frame.now c.args.i (sym (no_right (classes_in c.args.masks.now) c.args.left.now c.args.target.now c.args.right.now c.args.j c.args.frame.now c.args.i found (sym e ∙ (sym c.starts_choice.ensures ∙ c.in_default.is))))

pub returns-then-not-ends_choice : goal.returns-then-not-ends_choice
returns-then-not-ends_choice c = let t = c.args.target.now in
    let some : 1 ≤ c.args.i + length t = omega (arith, c.requires.1.1.1.0) in
    let found = ended_yes (c.args.i + length t) some (starts t (drop c.args.i c.args.frame.now)) _ c.target_end-end.ensures c.if-end-eq0.false in
    let at = ended_at _ _ _ c.target_end-end.ensures found in
    let e = ap (λ (n : ℕ). started (classes_in c.args.masks.now) c.args.right.now (drop n c.args.frame.now) c.args.j) at in
    end_none (literal_at (classes_in c.args.masks.now) (rule_with c.args.left.now c.args.target.now c.args.right.now) c.args.j) c.args.frame.now c.args.i (sym (by_left (classes_in c.args.masks.now) c.args.left.now c.args.target.now c.args.right.now c.args.j c.args.frame.now c.args.i found _ (sym e ∙ (sym c.starts_choice.ensures ∙ c.in-Some.is)) _ c.ends_choice.ensures) ∙ c.if-not-ends_choice.true)

pub returns : goal.returns
returns c = let t = c.args.target.now in
    let some : 1 ≤ c.args.i + length t = omega (arith, c.requires.1.1.1.0) in
    let found = ended_yes (c.args.i + length t) some (starts t (drop c.args.i c.args.frame.now)) _ c.target_end-end.ensures c.if-end-eq0.false in
    let at = ended_at _ _ _ c.target_end-end.ensures found in
    let e = ap (λ (n : ℕ). started (classes_in c.args.masks.now) c.args.right.now (drop n c.args.frame.now) c.args.j) at in
    at ∙ end_some (literal_at (classes_in c.args.masks.now) (rule_with c.args.left.now c.args.target.now c.args.right.now) c.args.j) c.args.frame.now c.args.i (sym (by_left (classes_in c.args.masks.now) c.args.left.now c.args.target.now c.args.right.now c.args.j c.args.frame.now c.args.i found _ (sym e ∙ (sym c.starts_choice.ensures ∙ c.in-Some.is)) _ c.ends_choice.ensures) ∙ c.if-not-ends_choice.false)
