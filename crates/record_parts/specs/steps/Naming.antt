-- Turns that are told object by object.
use Rattle.std.specs.Prelude.{◌≡◌, ℕ, ◌+◌, List, ◌++◌, map, slice_get, [], Some}
use Rattle.jade_syntax.specs.declared.tree.Item.{Item}
use Rattle.jade_syntax.specs.Objects.{labels}
use Rattle.run_record.specs.declared.turns.LabelledTurn.{LabelledTurn}
use Rattle.record_parts.specs.Labels.{label_text, turns_on_one}

-- the turns on an object by these paths, under its label
pub record IsTurnOn (items : List Item) (object : ℕ) (taken : List (List ℕ)) (turn : LabelledTurn) : Type 0 where
  pub called : slice_get (map label_text (labels items)) object ≡ Some turn.label
  pub by : turn.paths ≡ taken

-- the turns on an object by these paths were put last, if there are any
pub record AddsTurns (items : List Item) (object : ℕ) (taken : List (List ℕ)) (before after : List LabelledTurn) : Type 0 where
  pub added : (label : List ℕ) → slice_get (map label_text (labels items)) object ≡ Some label → after ≡ before ++ turns_on_one label taken

-- the turns at a place are those on an object
pub record IsNext (items : List Item) (object : ℕ) (turns : List LabelledTurn) (place : ℕ) : Type 0 where
  pub turn : LabelledTurn
  pub there : slice_get turns place ≡ Some turn
  pub called : slice_get (map label_text (labels items)) object ≡ Some turn.label

-- the paths of the turns at a place and the next place, where those are on an object, and else no paths and the same place
pub data IsNextList (items : List Item) (object : ℕ) (turns : List LabelledTurn) (place : ℕ) (found : List (List ℕ)) (next : ℕ) : Type 0 where
  taken : (here : IsNext items object turns place) → found ≡ here.turn.paths → next ≡ place + 1 → IsNextList items object turns place found next
  none : (IsNext items object turns place → ⊥) → found ≡ [] → next ≡ place → IsNextList items object turns place found next
