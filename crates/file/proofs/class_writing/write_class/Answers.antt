-- `file::class_writing::write_class` meets its contract.
-- Assumes nothing.
use mathlib.Core.Path.{sym, ap, ◌∙◌}
use mathlib.Core.List.{List}
use Prim.Native.Nat.{ℕ}
use native.Mathlib.Omega.{arith}
use Rattle.rules.specs.Memory.{over_at}
use Rattle.classes.specs.Masks.{letters_in}
use Rattle.classes.proofs.Letters.{letters_some}
use Rattle.frames.proofs.Output.{line_sent}
use Rattle.file.proofs.ClassOutput.{no_bytes, class-line}
use borrow.Author.Rules.{rules}
use Rattle.file.proofs.class_writing.write_class.Goals as goal

pub returns-then-mask-eq0 : goal.returns-then-mask-eq0
returns-then-mask-eq0 c = let a = c.args in
    let told = no_bytes a.symbol a.mask c.if-mask-eq0.true a.at a.out.now in
    record {
      next = told.0;
      bytes = told.1;
    }

pub put_class-body-requires : goal.put_class-body-requires
put_class-body-requires c = let a = c.args in let p = c.requires in let b = c.ranges.mask in let l = class-line a.symbol (letters_in a.mask) (letters_some a.mask (omega arith) (search rules)) in (omega (arith, p.0, l.1, c.begin-start.ensures.next), p.1)

pub end-requires : goal.end-requires
end-requires c = let a = c.args in let p = c.requires in let l = class-line a.symbol (letters_in a.mask) (letters_some a.mask (omega arith) (search rules)) in omega (arith, p.0, l.1, c.begin-start.ensures.next, c.put_class-body.ensures.next)

pub returns : goal.returns
returns c = let a = c.args in let p = c.requires in let l = class-line a.symbol (letters_in a.mask) (letters_some a.mask (omega arith) (search rules)) in let s = c.begin-start.ensures in let q = c.put_class-body.ensures in let z = c.end.ensures in
    record {
      next = omega (arith, l.1, s.next, q.next, z.next);
      bytes = line_sent a.out.now a.at (omega (arith, p.0)) s.begun q.sent z.line ∙ ap (λ (w : List ℕ). over_at a.at w a.out.now) (sym l.0);
    }
