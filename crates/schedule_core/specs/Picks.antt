-- A whole schedule by picks.
use Rattle.std.specs.Prelude.{◌≡◌, ◌≤◌, ◌⊎◌, ℕ, zero, suc, List, [], ◌∷◌, length, ℤ}
use Rattle.jade_base.specs.declared.report.Report.{Report}
use Rattle.jade_syntax.specs.declared.tree.Program.{Program}
use Rattle.jade_syntax.specs.Objects.{sizes}
use Rattle.object_shelf.specs.Views.{ObjectView}
use Rattle.schedule_core.specs.declared.steps.Seat.{Seat}
use Rattle.task_roll.specs.declared.note.PartNote.{PartNote}
use Rattle.schedule_core.specs.Notes.{told}
use Rattle.schedule_core.specs.Plain.{NotedIn, picked, root_seat, root_shelves}

-- the pick of a turn; 0, so the first, when the picks are used up
abbrev pub pick_at : List ℕ → ℕ → ℕ
pick_at [] k = 0
pick_at (n ∷ ns) zero = n
pick_at (n ∷ ns) (suc k) = pick_at ns k

-- a turn that has the pick of the k-th event: past the last pick all turns are alike
abbrev pub IsTurn : List ℕ → (turn k : ℕ) → Type 0
IsTurn ns turn k = (turn ≡ k) ⊎ ((length ns ≤ turn) × (length ns ≤ k))

-- what so many events reach where the i-th is, of the allowed ones in the order of the roll, the one numbered by the i-th pick modulo their
-- count
pub data Picked (p : Program) (ns : List ℤ) (limit : ℕ) (picks : List ℕ) : ℕ → List Seat → List ObjectView → List PartNote → Type 0 where
  begins : Picked p ns limit picks 0 (root_seat p ns limit ∷ []) (root_shelves (sizes p.items)) []
  goes_on : {k : ℕ} {roll roll' : List Seat} {ss ss' : List ObjectView} {notes notes' : List PartNote} → Picked p ns limit picks k roll ss notes →
      NotedIn roll ss notes (picked (pick_at picks k) ss roll) roll' ss' notes' → Picked p ns limit picks (suc k) roll' ss' notes'

-- the report of the state without a live task that these picks reach
pub record Played (p : Program) (ns : List ℤ) (limit : ℕ) (picks : List ℕ) (report : Report) : Type 0 where
  pub events : ℕ
  pub shelves : List ObjectView
  pub notes : List PartNote
  pub reached : Picked p ns limit picks events [] shelves notes
  pub told : report ≡ told shelves notes
