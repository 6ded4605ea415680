-- The counts of a task.
use Rattle.std.specs.Prelude.{ℕ, suc}

-- the steps that a task has begun, those of them in its present part, and the children that it has made
pub record Tallied : Type 0 where
  pub taken : ℕ
  pub part : ℕ
  pub children : ℕ

-- one more step
abbrev pub stepped : Tallied → Tallied
stepped c = record { taken = suc c.taken; part = suc c.part; children = c.children }

-- one more child, after which another part begins
abbrev pub parted : Tallied → Tallied
parted c = record { taken = c.taken; part = 0; children = suc c.children }
