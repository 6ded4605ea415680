-- That live tasks can go on in step with turn lists that are full.
use Rattle.std.specs.Prelude.{◌≡◌, ◌≢◌, ℕ, true, List, [], ◌∷◌, Some, ℤ, slice_get}
use Rattle.jade_base.specs.declared.rights.Mode.TheVariants.{Commuting}
use Rattle.jade_syntax.specs.declared.tree.Program.{Program}
use Rattle.jade_syntax.specs.Image.{program}
use Rattle.jade_meaning.specs.Serial.{Path}
use Rattle.jade_meaning.specs.Talk.{Take}
use Rattle.jade_meaning.specs.Turns.{Full}
use Rattle.jade_meaning.specs.Walk.{upcoming, First}
use Rattle.object_shelf.specs.Views.{ObjectView}
use Rattle.task_roll.specs.declared.note.PartNote.{PartNote}
use Rattle.schedule_core.specs.declared.steps.Seat.{Seat}
use Rattle.schedule_core.specs.Plain.{Reached, next_free}
use Rattle.schedule_core.specs.Serially.{Begins}
use Rattle.schedule_core.specs.Soundness.{and_then}

-- A live task that can go on in step with the turns to come: its next event is allowed, and if that takes an object for commuting, the task is the
-- one whose turn comes next there.
pub record GoesInStep (roll : List Seat) (ss : List ObjectView) (rest : ℕ → List Path) : Type 0 where
  pub place : ℕ
  pub seat : Seat
  pub live : slice_get roll place ≡ Some seat
  pub free : next_free ss seat ≡ true
  pub turn : (o : ℕ) → First (upcoming seat.walker) (λ e. e ≡ Take o Commuting) → Begins (rest o) (seat.path ∷ [])

-- Full turn lists that begin with the turns so far are played to their end: while some task is live, one can go on in step with them, and once
-- none is they are the turns so far.
pub record FullListsGoOn (p : Program) (ns : List ℤ) (limit : ℕ) : Type 0 where
  pub goes : (k : ℕ) (roll : List Seat) (ss : List ObjectView) (notes : List PartNote) → Reached p ns limit k roll ss notes → (rest : ℕ → List Path)
      → Full (program p) ns limit (and_then ss rest) → roll ≢ [] → GoesInStep roll ss rest
  pub ends : (k : ℕ) (ss : List ObjectView) (notes : List PartNote) → Reached p ns limit k [] ss notes → (rest : ℕ → List Path)
      → Full (program p) ns limit (and_then ss rest) → (o : ℕ) → rest o ≡ []
