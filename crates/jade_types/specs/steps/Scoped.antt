-- The names in scope, as code keeps them: locals, the newest first, and the items by name.
use Rattle.std.specs.Prelude.{List, ◌++◌, map}
use Rattle.jade_syntax.specs.Abstract.{Name}
use Rattle.jade_syntax.specs.StaticFaults.{Names, known}
use Rattle.jade_types.specs.declared.faults.names.Meaning.{Meaning}
use Rattle.jade_types.specs.steps.Meanings.{meant}

-- the locals in scope, and the items
pub record Scoped : Type 0 where
  pub locals : Names
  pub items : Names

-- all names in scope: a local hides an item of its name
abbrev pub in_scope : Scoped → Names
in_scope s = s.locals ++ s.items

-- names with what they stand for, as names in scope
abbrev pub as_names : List (Name × Meaning) → Names
as_names items = map (λ i. known i.0 (meant i.1)) items
