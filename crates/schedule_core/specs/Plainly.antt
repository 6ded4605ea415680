-- What the clauses say where no task of a program commutes: those of the core without commuting updates, on the plain serial run.
use Rattle.std.specs.Prelude.{◌≡◌, ℕ, List, [], map, Some, ℤ, slice_get}
use Rattle.jade_syntax.specs.declared.tree.Program.{Program}
use Rattle.jade_syntax.specs.Abstract.{AbstractProgram}
use Rattle.jade_syntax.specs.Image.{program}
use Rattle.jade_meaning.specs.Talk.{talk}
use Rattle.jade_meaning.specs.Serial.{Path, serial_run, reads_at}
use Rattle.jade_meaning.specs.Laws.{Every, root_task}
use Rattle.jade_meaning.specs.Turns.{marks_by}
use Rattle.jade_meaning.specs.Report.{reported}
use Rattle.jade_meaning.specs.Answer.{parts_by_key}
use Rattle.jade_meaning.specs.Walk.{task_of}
use Rattle.jade_syntax.specs.Objects.{sizes}
use Rattle.object_shelf.specs.Views.{ObjectView}
use Rattle.schedule_core.specs.declared.steps.Seat.{Seat}
use Rattle.task_roll.specs.declared.note.PartNote.{PartNote}
use Rattle.schedule_core.specs.Notes.{note_of, told}
use Rattle.schedule_core.specs.Plain.{Reached}
use Rattle.schedule_core.specs.Serially.{IsTask, Begins, events_done}
use Rattle.schedule_core.specs.Remains.{Woven, IsUnended}

-- the law of the meaning for a program without the word `cm`
abbrev pub RunsSerially : AbstractProgram → List ℤ → ℕ → Type 0
RunsSerially p ns limit = (turns : ℕ → List Path) → marks_by p ns limit turns ≡ serial_run p ns limit

pub record NotedPlainly (p : Program) (ns : List ℤ) (limit : ℕ) (roll : List Seat) (notes : List PartNote) : Type 0 where
  pub unended : List PartNote
  pub each : Every (IsUnended roll) unended
  pub woven : Woven notes unended (map note_of (parts_by_key (serial_run (program p) ns limit)))

pub record PlainCore (p : Program) (ns : List ℤ) (limit : ℕ) : Type 0 where
  pub task : (k : ℕ) (roll : List Seat) (ss : List ObjectView) (notes : List PartNote) → Reached p ns limit k roll ss notes
      → (i : ℕ) (s : Seat) → slice_get roll i ≡ Some s → IsTask (serial_run (program p) ns limit) (root_task (program p) ns limit) s.path (task_of s.walker)
  pub answers : (k : ℕ) (roll : List Seat) (ss : List ObjectView) (notes : List PartNote) → Reached p ns limit k roll ss notes
      → (i : ℕ) (s : Seat) → slice_get roll i ≡ Some s → Begins (reads_at s.path (serial_run (program p) ns limit)) s.walker.answers
  pub events : (k : ℕ) (roll : List Seat) (ss : List ObjectView) (notes : List PartNote) → Reached p ns limit k roll ss notes
      → (i : ℕ) (s : Seat) → slice_get roll i ≡ Some s
      → Begins (talk (task_of s.walker) (reads_at s.path (serial_run (program p) ns limit))) (events_done s.walker)
  pub noted : (k : ℕ) (roll : List Seat) (ss : List ObjectView) (notes : List PartNote) → Reached p ns limit k roll ss notes → NotedPlainly p ns limit roll notes
  pub reports : (k : ℕ) (ss : List ObjectView) (notes : List PartNote) → Reached p ns limit k [] ss notes
      → told ss notes ≡ reported (sizes p.items) (serial_run (program p) ns limit)
