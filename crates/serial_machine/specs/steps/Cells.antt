-- The cells of objects that are held.
use Rattle.std.specs.Prelude.{ℕ, List, [], map, Option, Some, None, ℤ}
use Rattle.jade_base.specs.Held.{Held}
use Rattle.jade_meaning.specs.Specification.{numbers}
use Rattle.task_machine.specs.Playing.{Contents}

-- the cells of an object
abbrev pub cells_in : Option Held → List ℤ
cells_in None = []
cells_in (Some h) = h.cells

-- the cells of the first n objects
abbrev pub cells_held : ℕ → Contents → List (List ℤ)
cells_held n k = map (λ o. cells_in (k o)) (numbers 0 n)
