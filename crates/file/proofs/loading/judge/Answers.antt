-- `file::loading::judge` meets its contract: the head, then the classes, then the rules.
-- Assumes nothing.
use mathlib.Core.Path.{refl, sym, ap, ◌∙◌}
use mathlib.Core.List.{[]}
use native.Mathlib.Omega.{arith}
use Rattle.std.proofs.lemmas.Result.{err_from_is_err_and}
use lib.ListN.{length, drop}
use Rattle.classes.specs.Classes.{Classes}
use Rattle.classes.proofs.Bytes.{length_masks}
use Rattle.file_format.specs.File.{read_defined, read_rules}
use Rattle.file.specs.Loading.{verdict}
use Rattle.file.proofs.FirstLine.{head_refused, head_within, head_on}
use Rattle.file.proofs.ClassReading.{after_broken, after_within, after_rules, after_held}
use Rattle.file.proofs.loading.judge.Goals as goal

pub returns-in_err-head : goal.returns-in_err-head
returns-in_err-head c =
    let p = err_from_is_err_and c.from_residual.result c.from_residual.ensures.1 in rw (p.1, p.2) (head_refused c.args.file.now c.in_err-head.field-0.0 c.in_err-head.ensures)

pub read_classes-requires : goal.read_classes-requires
read_classes-requires c = (head_within c.args.file.now c.in_ok-head.head c.in_ok-head.ensures, refl)

pub returns-in_err-at : goal.returns-in_err-at
returns-in_err-at c =
    let a = c.args in
    let h = c.in_ok-head in
    let p = err_from_is_err_and c.from_residual-in_err-at.result c.from_residual-in_err-at.ensures.1 in rw (p.1, p.2) (sym (after_broken a.file.now h.head.next c.in_err-at.field-0.0 c.in_err-at.ensures.end h.head.last h.head.count) ∙ ap verdict (head_on a.file.now h.head h.ensures))

pub judge_rules-requires : goal.judge_rules-requires
judge_rules-requires c = let a = c.args in let h = c.in_ok-head in let r = c.read_classes in let n = length_masks (read_defined (drop h.head.next a.file.now)).classes in (after_within a.file.now h.head.next c.in_ok-at.at c.in_ok-at.ensures.end, (omega (arith, ap length r.ensures.classes), refl))

pub returns : goal.returns
returns c = let a = c.args in let h = c.in_ok-head in let r = c.read_classes in let t = c.in_ok-at in c.judge_rules.ensures ∙ ap verdict (ap (λ (k : Classes). read_rules (length a.file.now) h.head.last k h.head.count [] (drop t.at a.file.now)) (after_held a.file.now h.head.next t.at t.ensures.end _ r.ensures.classes) ∙ (after_rules a.file.now h.head.next t.at t.ensures.end (head_within a.file.now h.head h.ensures) h.head.last h.head.count ∙ head_on a.file.now h.head h.ensures))
