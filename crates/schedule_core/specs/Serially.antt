-- Where live tasks stand in the meaning by any turn lists that go on from those in the objects, in words of plain data alone.
use Rattle.std.specs.Prelude.{◌≡◌, ℕ, List, [], ◌∷◌, ◌++◌, take, Some, ℤ, slice_get}
use Rattle.jade_syntax.specs.declared.tree.Program.{Program}
use Rattle.jade_syntax.specs.Image.{program}
use Rattle.jade_meaning.specs.Talk.{Task, Event, Wants, talk}
use Rattle.jade_meaning.specs.Serial.{Path, Mark, DidCreate, reads_at}
use Rattle.jade_meaning.specs.Laws.{child_path, root_task}
use Rattle.jade_meaning.specs.Turns.{marks_by}
use Rattle.jade_meaning.specs.Walks.{Walk}
use Rattle.jade_meaning.specs.Walk.{task_of, upcoming, First}
use Rattle.object_shelf.specs.Views.{ObjectView}
use Rattle.schedule_core.specs.declared.steps.Seat.{Seat}
use Rattle.task_roll.specs.declared.note.PartNote.{PartNote}
use Rattle.schedule_core.specs.Plain.{Reached, value_at}
use Rattle.schedule_core.specs.Soundness.{and_then}

-- the events that a task has told so far
abbrev pub events_done : Walk → List Event
events_done w = take w.done (talk (task_of w) w.answers)

-- the task at a path in a run: that of `main`, or one that the run creates
pub data IsTask (run : List Mark) (root : Task) : Path → Task → Type 0 where
  is_root : IsTask run root (0 ∷ []) root
  is_created : {q : Path} {t : Task} (parent : Path) (k steps : ℕ) (front back : List Mark) → q ≡ child_path parent k
      → run ≡ front ++ (record { path = parent; children = k; deed = DidCreate t steps } ∷ back) → IsTask run root q t

-- one list begins with another
pub record Begins {A : Type 0} (whole start : List A) : Type 0 where
  pub rest : List A
  pub is : whole ≡ start ++ rest

-- A live task is the meaning's task at its path, and has done the first of its events there: by all turn lists that go on from those in the
-- objects.
pub record TasksAreSerial (p : Program) (ns : List ℤ) (limit : ℕ) : Type 0 where
  pub task : (k : ℕ) (roll : List Seat) (ss : List ObjectView) (notes : List PartNote) → Reached p ns limit k roll ss notes → (rest : ℕ → List Path)
      → (i : ℕ) (s : Seat) → slice_get roll i ≡ Some s
      → IsTask (marks_by (program p) ns limit (and_then ss rest)) (root_task (program p) ns limit) s.path (task_of s.walker)
  -- its reads were answered as the first of those that the meaning has there
  pub answers : (k : ℕ) (roll : List Seat) (ss : List ObjectView) (notes : List PartNote) → Reached p ns limit k roll ss notes → (rest : ℕ → List Path)
      → (i : ℕ) (s : Seat) → slice_get roll i ≡ Some s
      → Begins (reads_at s.path (marks_by (program p) ns limit (and_then ss rest))) s.walker.answers
  -- its events so far are the first of those that it has with all the reads of the meaning
  pub events : (k : ℕ) (roll : List Seat) (ss : List ObjectView) (notes : List PartNote) → Reached p ns limit k roll ss notes → (rest : ℕ → List Path)
      → (i : ℕ) (s : Seat) → slice_get roll i ≡ Some s
      → Begins (talk (task_of s.walker) (reads_at s.path (marks_by (program p) ns limit (and_then ss rest)))) (events_done s.walker)

-- And so a read is answered as the next one that the meaning has there: what a live task is to read next is the value of its next read in the
-- meaning, by all turn lists that go on from those in the objects.
pub record ReadsAreSerial (p : Program) (ns : List ℤ) (limit : ℕ) : Type 0 where
  pub read : (k : ℕ) (roll : List Seat) (ss : List ObjectView) (notes : List PartNote) → Reached p ns limit k roll ss notes → (rest : ℕ → List Path)
      → (i : ℕ) (s : Seat) → slice_get roll i ≡ Some s → (o c : ℕ) → First (upcoming s.walker) (λ x. x ≡ Wants o c)
      → Begins (reads_at s.path (marks_by (program p) ns limit (and_then ss rest))) (s.walker.answers ++ value_at o c s.path ss ∷ [])
