-- What live tasks have yet to do of the meaning, by any turn lists that go on from those in the objects.
use Rattle.std.specs.Prelude.{◌≡◌, ◌≤◌, ℕ, List, ◌∷◌, ◌++◌, Some, ℤ, slice_get}
use Rattle.std.specs.List.{filter_map}
use Rattle.jade_syntax.specs.declared.tree.Program.{Program}
use Rattle.jade_syntax.specs.Image.{program}
use Rattle.jade_syntax.specs.Objects.{sizes}
use Rattle.jade_meaning.specs.Serial.{Path, Mark, zeros, at_object, deeds_at}
use Rattle.jade_meaning.specs.Laws.{Every, deeds, but_turn}
use Rattle.jade_meaning.specs.Turns.{marks_by}
use Rattle.object_shelf.specs.Views.{ObjectView}
use Rattle.task_roll.specs.declared.note.PartNote.{PartNote}
use Rattle.schedule_core.specs.declared.steps.Seat.{Seat}
use Rattle.schedule_core.specs.ByNumber.{shelf_at}
use Rattle.schedule_core.specs.Plain.{Reached}
use Rattle.schedule_core.specs.Remains.{turns_among}
use Rattle.schedule_core.specs.Serially.{events_done}
use Rattle.schedule_core.specs.Soundness.{and_then, turns_of}
use Rattle.schedule_core.specs.Works.{Work, works_on, worked}

-- the path of a live task, of a child that it has yet to make, or of a task below such a child
pub data IsAhead (s : Seat) (p : Path) : Type 0 where
  itself : p ≡ s.path → IsAhead s p
  unborn : (child : ℕ) (rest : Path) → s.children ≤ child → p ≡ s.path ++ (child ∷ rest) → IsAhead s p

-- a deed of a live task or of one that it has yet to bring about
pub record IsYetToDo (roll : List Seat) (m : Mark) : Type 0 where
  pub place : ℕ
  pub seat : Seat
  pub live : slice_get roll place ≡ Some seat
  pub ahead : IsAhead seat m.path

-- The deeds of a run that are left, and the writes and turns on each object that are gone: these come first among those of the run, and the
-- object's content is what they make of zeros.
pub record WhatIsLeft (p : Program) (run : List Mark) (roll : List Seat) (ss : List ObjectView) : Type 0 where
  pub left : List Mark
  pub each : Every (IsYetToDo roll) left
  -- of a live task's own deeds all are left but those that it has done
  pub own : (i : ℕ) (s : Seat) → slice_get roll i ≡ Some s
      → filter_map but_turn (deeds_at s.path run) ≡ deeds (events_done s.walker) ++ filter_map but_turn (deeds_at s.path left)
  pub gone : ℕ → List Work
  pub first : (o : ℕ) → works_on o run ≡ gone o ++ works_on o left
  pub content : (o : ℕ) → (shelf_at ss o).content ≡ worked (gone o) (at_object (zeros (sizes p.items)) o)
  -- and the turns among them are those that the object tells of
  pub turns : (o : ℕ) → turns_among (gone o) ≡ turns_of ss o

-- By all turn lists that go on from those in the objects.
pub record SomeIsLeft (p : Program) (ns : List ℤ) (limit : ℕ) : Type 0 where
  pub what : (k : ℕ) (roll : List Seat) (ss : List ObjectView) (notes : List PartNote) → Reached p ns limit k roll ss notes → (rest : ℕ → List Path)
      → WhatIsLeft p (marks_by (program p) ns limit (and_then ss rest)) roll ss
