-- Objects by their numbers.
use Rattle.std.specs.Prelude.{ℕ, zero, suc, List, [], ◌∷◌}
use Rattle.object_shelf.specs.Views.{ObjectView}

-- an object by its number; past the last one nothing
abbrev pub shelf_at : List ObjectView → ℕ → ObjectView
shelf_at [] o = record { queue = []; content = []; turns = [] }
shelf_at (s ∷ ss) zero = s
shelf_at (s ∷ ss) (suc o) = shelf_at ss o
