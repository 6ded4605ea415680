-- The cells of a content, its own or shared.
use Rattle.std.specs.Prelude.{Bool, true, false, List, ℤ}
use Rattle.jade_base.specs.declared.content.Cells.{Cells}
use Rattle.jade_base.specs.declared.content.Cells.TheVariants.{Own, Shared}

-- the numbers in the cells, whoever else has them
abbrev pub cells_of : Cells → List ℤ
cells_of (Own xs) = xs.items
cells_of (Shared xs) = xs

-- whether nobody else has them
abbrev pub is_own : Cells → Bool
is_own (Own xs) = true
is_own (Shared xs) = false
