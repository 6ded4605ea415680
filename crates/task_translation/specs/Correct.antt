-- What is proved of the code of a program.
use Rattle.std.specs.Prelude.{◌≡◌, ℕ, ℤ, List, length}
use Rattle.jade_syntax.specs.Abstract.{AbstractProgram}
use Rattle.jade_meaning.specs.Course.{root_spec, root_course}
use Rattle.code_meaning.specs.Meaning.{Body, code_course}
use Rattle.task_translation.specs.Compile.{compiled, inputs_in}

-- bodies go on to do what the program does, whatever numbers it is given, as many as it has inputs
abbrev pub Follows : List Body → AbstractProgram → (limit : ℕ) → Type 0
Follows bodies p limit =
    (numbers : List ℤ) → length numbers ≡ inputs_in p.items → code_course bodies numbers limit (root_spec p) ≡ root_course p numbers limit

-- the code of a program does
abbrev pub CodeFollows : AbstractProgram → (limit : ℕ) → Type 0
CodeFollows p limit = Follows (compiled p) p limit
