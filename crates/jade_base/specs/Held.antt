-- The content of an object as a task holds it.
use Rattle.std.specs.Prelude.{List, ℤ}
use Rattle.jade_base.specs.declared.rights.Mode.{Mode}

-- the mode of the hold, and the numbers in the cells, in order
pub record Held : Type 0 where
  pub mode : Mode
  pub cells : List ℤ
