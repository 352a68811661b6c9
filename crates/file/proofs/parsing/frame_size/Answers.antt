-- `file::parsing::frame_size` meets its contract: its lengths say how many bytes a frame has.
-- Assumes nothing.
use native.Mathlib.Omega.{arith}
use lib.ListN.{drop}
use Rattle.frames.specs.Lines.{decoded}
use Rattle.file.proofs.Parts.{frame_fits}
use borrow.Author.Rules.{rules}
use Rattle.file.proofs.parsing.frame_size.Goals as goal

pub byte_at-requires : goal.byte_at-requires
byte_at-requires c = omega (arith, (frame_fits (decoded (drop c.args.at c.args.file.now)) c.requires).whole)

pub byte_at-requires-2 : goal.byte_at-requires-2
byte_at-requires-2 c = omega (arith, (frame_fits (decoded (drop c.args.at c.args.file.now)) c.requires).whole)

pub byte_at-requires-3 : goal.byte_at-requires-3
byte_at-requires-3 c = omega (arith, (frame_fits (decoded (drop c.args.at c.args.file.now)) c.requires).whole)

pub byte_at-requires-4 : goal.byte_at-requires-4
byte_at-requires-4 c = omega (arith, (frame_fits (decoded (drop c.args.at c.args.file.now)) c.requires).whole)

pub returns : goal.returns
returns c = let u = (frame_fits (decoded (drop c.args.at c.args.file.now)) c.requires) in
    let n = u.whole in
    let l = u.left in
    let t = u.target in
    let r = u.right in
    let p = u.phones in
    (omega (arith, c.byte_at.ensures, c.byte_at-2.ensures, c.byte_at-3.ensures, c.byte_at-4.ensures), omega (arith, c.byte_at.ensures, c.byte_at-2.ensures, c.byte_at-3.ensures, c.byte_at-4.ensures))
