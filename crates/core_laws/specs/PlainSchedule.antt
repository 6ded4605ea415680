-- Who may go on in a program without the word `cm`, and how many events it has.
use Rattle.std.specs.Prelude.{◌≡◌, ◌≤◌, ℕ, ◌+◌, true, List, [], ◌∷◌, length, ℤ}
use Rattle.jade_syntax.specs.declared.tree.Program.{Program}
use Rattle.jade_syntax.specs.Abstract.{AbstractProgram}
use Rattle.jade_syntax.specs.Image.{program}
use Rattle.jade_meaning.specs.Laws.{root_task}
use Rattle.jade_meaning.specs.Serial.{serial_run, reads_at}
use Rattle.jade_meaning.specs.Talk.{talk}
use Rattle.jade_meaning.specs.Walk.{upcoming, First}
use Rattle.object_shelf.specs.Views.{ObjectView}
use Rattle.task_roll.specs.declared.note.PartNote.{PartNote}
use Rattle.schedule_core.specs.declared.steps.Seat.{Seat}
use Rattle.schedule_core.specs.Counts.{events_of_all}
use Rattle.schedule_core.specs.Plain.{Reached, free_in}

-- all events of the tasks of the plain serial run: of `main`, and of each task that is created there
abbrev pub serial_total : AbstractProgram → List ℤ → ℕ → ℕ
serial_total p ns limit =
    let run = serial_run p ns limit in
    length (talk (root_task p ns limit) (reads_at (0 ∷ []) run)) + events_of_all run run

pub record PlainSchedule (p : Program) (ns : List ℤ) (limit : ℕ) : Type 0 where
  -- the first live task may go on
  pub goes_on : (k : ℕ) (s : Seat) (seats : List Seat) (ss : List ObjectView) (notes : List PartNote) → Reached p ns limit k (s ∷ seats) ss notes
      → First (upcoming s.walker) (λ e. free_in e s.path ss ≡ true)
  -- no more events are done than the tasks of the serial run have
  pub bounded : (k : ℕ) (roll : List Seat) (ss : List ObjectView) (notes : List PartNote) → Reached p ns limit k roll ss notes
      → k ≤ serial_total (program p) ns limit
