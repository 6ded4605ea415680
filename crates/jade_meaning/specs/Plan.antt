-- What a run is planned by.
use Rattle.std.specs.Prelude.{ℕ, ℤ, List}
use Rattle.jade_syntax.specs.declared.tree.Program.{Program}

-- a program, a number for each of its inputs, and the steps that a task may begin
pub record RunPlan : Type 0 where
  pub program : Program
  pub numbers : List ℤ
  pub limit : ℕ
