-- That picks decide a whole schedule: whichever states they reach after so many events, these are alike.
use Rattle.std.specs.Prelude.{◌≡◌, ℕ, List, [], map, ℤ}
use Rattle.jade_base.specs.declared.report.Report.{Report}
use Rattle.jade_syntax.specs.declared.tree.Program.{Program}
use Rattle.jade_meaning.specs.Serial.{Path}
use Rattle.jade_meaning.specs.Talk.{Task}
use Rattle.jade_meaning.specs.Walk.{task_of}
use Rattle.object_shelf.specs.Views.{ObjectView}
use Rattle.task_roll.specs.declared.note.PartNote.{PartNote}
use Rattle.schedule_core.specs.declared.steps.Seat.{Seat}
use Rattle.schedule_core.specs.Picks.{Picked, Played}

-- where a live task stands: its path, how many children it has made, what it does, the answers that it was given, and how many of its events are
-- done; all that it does from here on follows from that
pub record Standing : Type 0 where
  pub path : Path
  pub children : ℕ
  pub task : Task
  pub answers : List ℤ
  pub done : ℕ

abbrev pub standing : Seat → Standing
standing s = record { path = s.path; children = s.children; task = task_of s.walker; answers = s.walker.answers; done = s.walker.done }

-- Two states that the same picks reach by as many events have the same objects and notes, and their live tasks stand alike; there is one number of
-- events after which no task is live, and one report.
pub record PicksDecide (p : Program) (ns : List ℤ) (limit : ℕ) (picks : List ℕ) : Type 0 where
  pub tasks : (k : ℕ) (roll roll' : List Seat) (ss ss' : List ObjectView) (notes notes' : List PartNote) → Picked p ns limit picks k roll ss notes
      → Picked p ns limit picks k roll' ss' notes' → map standing roll ≡ map standing roll'
  pub objects : (k : ℕ) (roll roll' : List Seat) (ss ss' : List ObjectView) (notes notes' : List PartNote) → Picked p ns limit picks k roll ss notes
      → Picked p ns limit picks k roll' ss' notes' → ss ≡ ss'
  pub notes : (k : ℕ) (roll roll' : List Seat) (ss ss' : List ObjectView) (notes notes' : List PartNote) → Picked p ns limit picks k roll ss notes
      → Picked p ns limit picks k roll' ss' notes' → notes ≡ notes'
  pub events : (k k' : ℕ) (ss ss' : List ObjectView) (notes notes' : List PartNote) → Picked p ns limit picks k [] ss notes
      → Picked p ns limit picks k' [] ss' notes' → k ≡ k'
  pub report : (r r' : Report) → Played p ns limit picks r → Played p ns limit picks r' → r ≡ r'
