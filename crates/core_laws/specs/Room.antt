-- That the children of a task can be counted.
use Rattle.std.specs.Prelude.{◌≡◌, ◌<◌, ◌≤◌, ℕ, List, Some, ℤ, slice_get}
use Rattle.jade_syntax.specs.declared.tree.Program.{Program}
use Rattle.jade_meaning.specs.declared.walker.Act.TheVariants as act
use Rattle.jade_meaning.specs.Walk.{upcoming, First, act_of}
use Rattle.object_shelf.specs.Views.{ObjectView}
use Rattle.task_roll.specs.declared.note.PartNote.{PartNote}
use Rattle.schedule_core.specs.declared.steps.Seat.{Seat}
use Rattle.schedule_core.specs.Plain.{Reached}

-- A live task has made no more children than it may begin steps, and fewer where it is to make one next.
pub record ChildrenAreFew (p : Program) (ns : List ℤ) (limit : ℕ) : Type 0 where
  pub made : (k : ℕ) (roll : List Seat) (ss : List ObjectView) (notes : List PartNote) → Reached p ns limit k roll ss notes
      → (i : ℕ) (s : Seat) → slice_get roll i ≡ Some s → s.children ≤ limit
  pub next : (k : ℕ) (roll : List Seat) (ss : List ObjectView) (notes : List PartNote) → Reached p ns limit k roll ss notes
      → (i : ℕ) (s : Seat) → slice_get roll i ≡ Some s → First (upcoming s.walker) (λ x. act_of x ≡ act.Enroll) → s.children < limit
