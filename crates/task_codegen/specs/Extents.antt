-- The objects that a name stands for, as the meaning has them.
use Rattle.std.specs.Prelude.{◌≡◌, ℕ, ◌+◌, List, [], ◌∷◌, length, Option, Some, None}
use Rattle.std.specs.Map.{lookup}
use Rattle.jade_syntax.specs.declared.tree.Item.{Item}
use Rattle.jade_syntax.specs.Abstract.{Name}
use Rattle.jade_syntax.specs.Numbering.{same_name}
use Rattle.jade_syntax.specs.Objects.{sizes}
use Rattle.jade_meaning.specs.declared.resolve.Range.{Range}
use Rattle.jade_meaning.specs.Course.{range_from}

-- what was found of a name, or no objects, after all that there are
abbrev pub range_or_none : (objects : ℕ) → Option Range → Range
range_or_none objects None = record { first = objects; count = 0; size = 0 }
range_or_none objects (Some r) = r

-- each name is found with the objects for which it stands in these items
pub record Finds (items : List Item) (named : List (Name × Range)) : Type 0 where
  pub at : (x : Name) → range_or_none (length (sizes items)) (lookup (same_name x) named) ≡ range_from 0 x items

-- an item was declared before others, the first of whose objects had the number `next`, and has the number `first` now
pub record Declares (before after : List (Name × Range)) (item : Item) (next first : ℕ) : Type 0 where
  pub counted : first + length (sizes (item ∷ [])) ≡ next
  pub at : (x : Name) (objects : ℕ) (rest : List Item) → range_or_none objects (lookup (same_name x) before) ≡ range_from next x rest
      → range_or_none objects (lookup (same_name x) after) ≡ range_from first x (item ∷ rest)
