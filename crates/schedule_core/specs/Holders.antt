-- Who holds an object, in words of plain data alone.
use Rattle.std.specs.Prelude.{◌≡◌, ℕ, true, List, Some, ℤ, slice_get, is_some}
use Rattle.jade_syntax.specs.declared.tree.Program.{Program}
use Rattle.object_shelf.specs.declared.queue.Entry.{Entry}
use Rattle.object_shelf.specs.Views.{ObjectView}
use Rattle.object_shelf.specs.Shelves.{find}
use Rattle.schedule_core.specs.declared.steps.Seat.{Seat}
use Rattle.task_roll.specs.declared.note.PartNote.{PartNote}
use Rattle.schedule_core.specs.Plain.{Reached}
use Rattle.schedule_core.specs.ByNumber.{shelf_at}

-- a live task has this path
pub record IsLive (roll : List Seat) (p : List ℕ) : Type 0 where
  pub place : ℕ
  pub seat : Seat
  pub live : slice_get roll place ≡ Some seat
  pub path : seat.path ≡ p

-- An entry with a hold is that of a live task. So a child that is about to be made holds nothing.
pub record HoldersAreLive (p : Program) (ns : List ℤ) (limit : ℕ) : Type 0 where
  pub holder : (k : ℕ) (roll : List Seat) (ss : List ObjectView) (notes : List PartNote) → Reached p ns limit k roll ss notes
      → (o : ℕ) (q : List ℕ) (e : Entry) → find q (shelf_at ss o).queue ≡ Some e → is_some e.hold ≡ true → IsLive roll q
