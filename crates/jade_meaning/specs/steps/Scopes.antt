-- The variables in scope, as code keeps them: the newest last.
use Rattle.std.specs.Prelude.{List, map, reverse}
use Rattle.jade_meaning.specs.declared.scope.Bound.{Bound}
use Rattle.jade_meaning.specs.Course.{Binding, Environment}

-- a variable by its name's bytes
abbrev pub binding : Bound → Binding
binding b = record { name = b.name.now; value = b.value }

-- the variables in scope, the newest first
abbrev pub in_scope : List Bound → Environment
in_scope bs = reverse (map binding bs)
