-- What the slots hold at the end of a run.
use Rattle.std.specs.Prelude.{◌≡◌, ◌<◌, ℕ, Bool, false, List, [], map, Option, Some, None, ℤ, slice_index_or}
use Rattle.std.specs.Mem.Slots.Ownership.{Filled}
use Rattle.object_shelf.specs.Views.{ObjectView}
use Rattle.task_roll.specs.declared.note.PartNote.{PartNote}
use Rattle.schedule_core.specs.Plain.{Reached}
use Rattle.schedule_core.specs.Soundness.{EntriesAreOwned, ReportsAreSerial}
use Rattle.jade_meaning.specs.Plan.{RunPlan}
use Rattle.object_table.specs.Tallies.{TallyView}
use Rattle.object_table.specs.Views.{shelf_of, core_notes}
use Rattle.object_table.specs.declared.slot.Slot.{Slot}
use Rattle.object_table.specs.declared.slot.Slot.TheVariants as slot

abbrev pub or_none : Option (List ℤ) → List ℤ
or_none None = []
or_none (Some xs) = xs

-- the content at home in a slot
abbrev pub cells_in : Slot → List ℤ
cells_in (slot.Object x) = or_none x.home
cells_in slot.Away = []
cells_in (slot.Roll r) = []

-- the turns on the object in a slot
abbrev pub turns_at : Slot → List (List ℕ)
turns_at (slot.Object x) = x.turns
turns_at slot.Away = []
turns_at (slot.Roll r) = []

-- the notes in a slot
abbrev pub notes_in : Slot → List PartNote
notes_in (slot.Roll r) = r.notes
notes_in slot.Away = []
notes_in (slot.Object x) = []

-- so many of a table's slots are empty, and the others are full
abbrev pub Emptied : List Bool → ℕ → ℕ → Type 0
Emptied fs i n = Filled fs i n × ((k : ℕ) → k < i → slice_index_or fs k false ≡ false)

abbrev pub on_shelf : ObjectView → Slot
on_shelf x = slot.Object (shelf_of x)

-- the objects that events reach with no task live, and the roll's slot, in which all notes lie
pub record LastSlots (key : RunPlan) (xs : List Slot) (y : Slot) : Type 0 where
  pub count : ℕ
  pub shelves : List ObjectView
  pub tally : TallyView
  pub reached : Reached key.program key.numbers key.limit count [] shelves (core_notes tally.notes)
  pub objects : xs ≡ map on_shelf shelves
  pub roll : y ≡ slot.Roll tally

-- what is true of every core of a plan at its end
pub record EndLaws (key : RunPlan) : Type 0 where
  pub reports : ReportsAreSerial key.program key.numbers key.limit
  pub owned : EntriesAreOwned key.program key.numbers key.limit
