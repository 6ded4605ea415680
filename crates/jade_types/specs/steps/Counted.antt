-- The items that were gone through.
use Rattle.std.specs.Prelude.{◌≡◌, ℕ, ◌-◌, nat_le, List, [], ◌∷◌, ◌++◌, sum, length, Option, Some, None, if◌then◌else◌}
use Rattle.jade_syntax.specs.declared.tree.Item.{Item}
use Rattle.jade_syntax.specs.Abstract.{Name}
use Rattle.jade_syntax.specs.declared.objects.TheConstants.{INPUT_LIMIT, OBJECT_LIMIT, CELL_LIMIT}
use Rattle.jade_syntax.specs.Objects.{input_names, sizes}
use Rattle.jade_syntax.specs.StaticFaults.{Site, Declares, Counts, item_known, item_place, item_names, amount_sites, counted}
use Rattle.jade_types.specs.declared.faults.items.Room.{Room}
use Rattle.jade_types.specs.declared.faults.names.Meaning.{Meaning}
use Rattle.jade_types.specs.declared.faults.notes.Notes.{Notes}
use Rattle.jade_types.specs.steps.Noted.{Noted}
use Rattle.jade_types.specs.steps.Scoped.{as_names}

-- what is left of the most that is allowed, or nothing where that is exceeded
abbrev pub left_of : (most n : ℕ) → Option ℕ
left_of most n = if nat_le n most then Some (most - n) else None

-- the room that these items leave
pub record Leaves (items : List Item) (room : Room) : Type 0 where
  pub inputs : room.inputs ≡ left_of INPUT_LIMIT (length (input_names items))
  pub objects : room.objects ≡ left_of OBJECT_LIMIT (length (sizes items))
  pub cells : room.cells ≡ left_of CELL_LIMIT (sum (sizes items))

-- what is known of the items that were gone through: their names, and the room that those leave that count
pub record Behind (before : List Item) (known : List (Name × Meaning)) (room : Room) : Type 0 where
  pub names : as_names known ≡ item_names before
  pub left : Leaves (counted before) room

-- the places of one item after others
abbrev pub places_of : (before : List Item) → Item → List Site
places_of before i = Declares (item_known i).name (item_place i) (item_names before) ∷ Counts before i ∷ amount_sites i

-- an item was gone through
pub record PassedItem (old new : Notes) (before : List Item) (i : Item) (known : List (Name × Meaning)) (room : Room) : Type 0 where
  pub noted : Noted old new (places_of before i)
  pub behind : Behind (before ++ i ∷ []) known room
