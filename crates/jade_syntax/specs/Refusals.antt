-- What the errors of the crate say.
use Rattle.std.specs.Prelude.{◌≡◌, ℕ, List, false}
use Rattle.jade_syntax.specs.declared.name.NameError.{NameError}
use Rattle.jade_syntax.specs.declared.name.NameError.TheVariants.{Shape, Memory}
use Rattle.jade_syntax.specs.Names.{is_name}

-- bytes are refused where they are no name; want of memory says nothing of them
abbrev pub IsNameRefusal : List ℕ → NameError → Type 0
IsNameRefusal bytes Shape = is_name bytes ≡ false
IsNameRefusal bytes Memory = Unit {0}
