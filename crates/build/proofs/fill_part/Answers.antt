-- One side is filled from its patterns.
-- Assumes nothing.
use mathlib.Core.Path.{ap, ◌∙◌}
use mathlib.Core.List.{List}
use Prim.Native.Nat.{ℕ, ◌*◌, ◌≤◌}
use native.Mathlib.Omega.{arith}
use lib.ListN.{length}
use Rattle.rules.specs.Memory.{over}
use Rattle.tables.specs.Words.{row_size, set_size}
use Rattle.side.specs.Patterns.{state_count}
use Rattle.build.proofs.Whole.{side_ok, side_count, side_counted, side-rows, side-sets}
use Rattle.build.proofs.fill_part.Goals as goal

pub lay_side-requires : goal.lay_side-requires
lay_side-requires c = (c.requires.0, c.requires.3)

pub fill_side-requires : goal.fill_side-requires
fill_side-requires c = let p = c.lay_side in
    let n = side_count _ _ _ _ _ c.requires.0 p.ensures in
    let g : row_size * state_count p.new.pats p.new.lens c.args.n ≤ length c.args.rows.now = omega (arith, n, c.requires.1) in
    let h : set_size * state_count p.new.pats p.new.lens c.args.n ≤ length c.args.sets.now = omega (arith, n, c.requires.2) in
    (side_ok _ _ _ _ _ c.requires.0 p.ensures, g, h)

pub returns : goal.returns
returns c = let p = c.lay_side.ensures in
    let f = c.fill_side.ensures in
    record {
      rows = f.rows ∙ ap (λ (x : List ℕ). over x c.args.rows.now) (side-rows _ _ _ _ _ c.requires.0 p);
      sets = f.sets ∙ ap (λ (x : List ℕ). over x c.args.sets.now) (side-sets _ _ _ _ _ c.requires.0 p);
      count = side_counted _ _ _ _ _ c.requires.0 p _ f.count;
    }
