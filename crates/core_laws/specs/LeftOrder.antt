-- In which order the works that are left stand.
use Rattle.std.specs.Prelude.{◌≡◌, ◌<◌, ◌≤◌, ℕ, List, ◌∷◌, ◌++◌, Some, ℤ, slice_get}
use Rattle.jade_syntax.specs.declared.tree.Program.{Program}
use Rattle.jade_syntax.specs.Image.{program}
use Rattle.jade_meaning.specs.Laws.{Every}
use Rattle.jade_meaning.specs.Serial.{Path, Mark}
use Rattle.jade_meaning.specs.Turns.{marks_by}
use Rattle.object_shelf.specs.Views.{ObjectView}
use Rattle.task_roll.specs.declared.note.PartNote.{PartNote}
use Rattle.schedule_core.specs.declared.steps.Seat.{Seat}
use Rattle.schedule_core.specs.Plain.{Reached}
use Rattle.schedule_core.specs.Soundness.{and_then}
use Rattle.schedule_core.specs.Works.{Work, Wrote, Turned, works_on}
use Rattle.core_laws.specs.KeyOrder.{task_of_work, key_of_work, TakesTurn}
use Rattle.core_laws.specs.WhatIsLeft.{WhatIsLeft}

-- a work of a part that a live task, or one that it has yet to bring about, has not ended: its key goes on from the task's path by a number that is
-- no less than that of its children
pub record IsLeftTo (s : Seat) (w : Work) : Type 0 where
  pub child : ℕ
  pub rest : Path
  pub from : s.children ≤ child
  pub key : key_of_work w ≡ s.path ++ (child ∷ rest)

-- it is left to one of the live tasks
pub record IsLeftToOne (roll : List Seat) (w : Work) : Type 0 where
  pub place : ℕ
  pub seat : Seat
  pub live : slice_get roll place ≡ Some seat
  pub left : IsLeftTo seat w

-- of a write
abbrev pub Owned : List Seat → Work → Type 0
Owned roll (Wrote q k c v) = IsLeftToOne roll (Wrote q k c v)
Owned roll (Turned q) = Unit {0}

-- Each write that is left is left to a live task; and a work that is left to a task stands before those left to tasks later on the roll, unless both
-- are of tasks that take their turns on the object.
pub record LeftInOrder (p : Program) (run : List Mark) (roll : List Seat) (ss : List ObjectView) : Type 0 where
  pub what : WhatIsLeft p run roll ss
  pub writes : (o : ℕ) → Every (Owned roll) (works_on o what.left)
  pub order : (o i j : ℕ) (w x : Work) → slice_get (works_on o what.left) i ≡ Some w → slice_get (works_on o what.left) j ≡ Some x → i < j
      → (a b : ℕ) (s t : Seat) → slice_get roll a ≡ Some s → slice_get roll b ≡ Some t → IsLeftTo s w → IsLeftTo t x → b < a
      → TakesTurn (task_of_work w) (works_on o run) × TakesTurn (task_of_work x) (works_on o run)

-- By all turn lists that go on from those in the objects.
pub record SomeLeftInOrder (p : Program) (ns : List ℤ) (limit : ℕ) : Type 0 where
  pub left : (k : ℕ) (roll : List Seat) (ss : List ObjectView) (notes : List PartNote) → Reached p ns limit k roll ss notes → (rest : ℕ → List Path)
      → LeftInOrder p (marks_by (program p) ns limit (and_then ss rest)) roll ss
