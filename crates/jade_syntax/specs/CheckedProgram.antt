-- A program with what its names stand for.
use Rattle.std.specs.Prelude.{◌≡◌, List, []}
use Rattle.jade_syntax.specs.declared.tree.Program.{Program}
use Rattle.jade_syntax.specs.declared.stands.Stand.{Stand}
use Rattle.jade_syntax.specs.Image.{program}
use Rattle.jade_syntax.specs.PlacedImage.{placed_program}
use Rattle.jade_syntax.specs.StaticFaults.{static_faults}
use Rattle.jade_syntax.specs.Numbering.{numbering}

-- a program, and what its names stand for, in text order
pub record CheckedProgram : Type 0 where
  pub program : Program
  pub stands : List Stand

-- nothing is wrong with a program before it runs, and its names are numbered
pub record IsChecked (p : Program) (stands : List Stand) : Type 0 where
  pub faultless : static_faults (placed_program p) ≡ []
  pub numbered : stands ≡ numbering (program p)
