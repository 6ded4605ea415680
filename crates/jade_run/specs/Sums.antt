-- Sums of cells, over the whole numbers: no sum is cut off.
use Rattle.std.specs.Prelude.{List, map, fold, ℤ, pos, ◌+ℤ◌}

-- the sum of numbers
abbrev pub sum_of : List ℤ → ℤ
sum_of numbers = fold ◌+ℤ◌ (pos 0) numbers

-- the sum of all cells of all objects
abbrev pub sum_of_cells : List (List ℤ) → ℤ
sum_of_cells objects = sum_of (map sum_of objects)
