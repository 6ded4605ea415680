-- What is true of every core that allowed events reach, clause by clause, in words of plain data alone.
use Rattle.std.specs.Prelude.{◌≡◌, ◌≢◌, ◌<◌, ◌⊎◌, ℕ, true, false, List, [], ◌∷◌, ◌++◌, map, Some, None, ℤ, slice_get, is_some}
use Rattle.jade_base.specs.declared.rights.Mode.{Mode}
use Rattle.jade_base.specs.declared.rights.Mode.TheVariants.{Reading, Commuting}
use Rattle.jade_syntax.specs.declared.tree.Program.{Program}
use Rattle.jade_syntax.specs.Image.{program}
use Rattle.jade_meaning.specs.Report.{report}
use Rattle.jade_meaning.specs.Serial.{Path}
use Rattle.jade_meaning.specs.Turns.{Full, turns_in}
use Rattle.object_shelf.specs.declared.queue.Entry.{Entry}
use Rattle.object_shelf.specs.Shelves.{same_path, find, takes_out, changes, blocker_in, keeper_in}
use Rattle.object_shelf.specs.Order.{stands_before, is_ordered}
use Rattle.jade_meaning.specs.Laws.{child_path}
use Rattle.object_shelf.specs.Views.{ObjectView}
use Rattle.schedule_core.specs.declared.steps.Seat.{Seat}
use Rattle.task_roll.specs.declared.note.PartNote.{PartNote}
use Rattle.schedule_core.specs.Notes.{told}
use Rattle.schedule_core.specs.Plain.{Reached, NotedIn}
use Rattle.jade_meaning.specs.Talk.{Event, Enter, Enroll, Take, TouchRead, TouchWrite, Wants, Give, Leave, Shift, Resign}
use Rattle.schedule_core.specs.ByNumber.{shelf_at}
use Rattle.schedule_core.specs.Mirror.{GoesOn}

-- the turn lists in the objects
abbrev pub turn_lists_of : List ObjectView → List (List Path)
turn_lists_of ss = map (λ s. s.turns) ss

abbrev pub turns_of : List ObjectView → ℕ → List Path
turns_of ss = turns_in (turn_lists_of ss)

-- lists that begin with those of the objects
abbrev pub and_then : List ObjectView → (ℕ → List Path) → ℕ → List Path
and_then ss rest o = turns_of ss o ++ rest o

-- With no live task the turn lists in the objects are full, and what there is to report is the meaning's report by them.
pub record ReportsAreSerial (p : Program) (ns : List ℤ) (limit : ℕ) : Type 0 where
  pub full : (k : ℕ) (ss : List ObjectView) (notes : List PartNote) → Reached p ns limit k [] ss notes → Full (program p) ns limit (turns_of ss)
  pub reports : (k : ℕ) (ss : List ObjectView) (notes : List PartNote) → Reached p ns limit k [] ss notes
      → told ss notes ≡ report (program p) ns limit (turns_of ss)

-- The first live task may go on, or the task may that has out the content which the first is to take for commuting.
pub record NeverStuck (p : Program) (ns : List ℤ) (limit : ℕ) : Type 0 where
  pub goes_on : (k : ℕ) (s : Seat) (seats : List Seat) (ss : List ObjectView) (notes : List PartNote) → Reached p ns limit k (s ∷ seats) ss notes
      → GoesOn (s ∷ seats) ss s

-- an entry of a path that is held for reading, and seen, and stands before that of another path
pub record ReadsBefore (d : Entry) (p q : List ℕ) : Type 0 where
  pub reads : d.hold ≡ Some Reading
  pub read_only : changes d.rights ≡ false
  pub version : is_some d.version ≡ true
  pub earlier : stands_before p q ≡ true

-- Who holds an object beside another: one task alone has its content out, for writing or for commuting, and who holds it then beside that
-- task is a reader that is seen and stands before it.
pub record HeldAlone (p : Program) (ns : List ℤ) (limit : ℕ) : Type 0 where
  pub one : (k : ℕ) (roll : List Seat) (ss : List ObjectView) (notes : List PartNote) → Reached p ns limit k roll ss notes
      → (o : ℕ) (q r : List ℕ) (d e : Entry) → find q (shelf_at ss o).queue ≡ Some d → takes_out d.hold ≡ true
      → find r (shelf_at ss o).queue ≡ Some e → takes_out e.hold ≡ true → same_path q r ≡ true
  pub readers : (k : ℕ) (roll : List Seat) (ss : List ObjectView) (notes : List PartNote) → Reached p ns limit k roll ss notes
      → (o : ℕ) (q r : List ℕ) (d e : Entry) → same_path q r ≡ false → find q (shelf_at ss o).queue ≡ Some d → is_some d.hold ≡ true
      → find r (shelf_at ss o).queue ≡ Some e → takes_out e.hold ≡ true → ReadsBefore d q r

-- Live tasks and entries stand in the serial order of tasks.
pub record InSerialOrder (p : Program) (ns : List ℤ) (limit : ℕ) : Type 0 where
  pub tasks : (k : ℕ) (roll : List Seat) (ss : List ObjectView) (notes : List PartNote) → Reached p ns limit k roll ss notes
      → (i j : ℕ) (s t : Seat) → slice_get roll i ≡ Some s → slice_get roll j ≡ Some t → i < j → stands_before s.path t.path ≡ true
  pub queues : (k : ℕ) (roll : List Seat) (ss : List ObjectView) (notes : List PartNote) → Reached p ns limit k roll ss notes
      → (o : ℕ) → is_ordered (shelf_at ss o).queue ≡ true

-- a live task whose own entry, or whose next child's, has this path
pub record Owner (roll : List Seat) (p : List ℕ) : Type 0 where
  pub place : ℕ
  pub seat : Seat
  pub live : slice_get roll place ≡ Some seat
  pub own : (p ≡ seat.path) ⊎ (p ≡ child_path seat.path seat.children)

-- Each entry is that of a live task, or of the child that a live task is about to make.
pub record EntriesAreOwned (p : Program) (ns : List ℤ) (limit : ℕ) : Type 0 where
  pub owner : (k : ℕ) (roll : List Seat) (ss : List ObjectView) (notes : List PartNote) → Reached p ns limit k roll ss notes
      → (o j : ℕ) (e : Entry) → slice_get (shelf_at ss o).queue j ≡ Some e → Owner roll e.path

-- an event that neither enters a child on an object nor ends its task's own entry there
abbrev pub Spares : ℕ → Event → Type 0
Spares o (Enter q a) = q ≢ o
Spares o (Leave q) = q ≢ o
Spares o (Enroll t n) = Unit {0}
Spares o (Take q m) = Unit {0}
Spares o (TouchRead q c v) = Unit {0}
Spares o (TouchWrite q c v) = Unit {0}
Spares o (Wants q c) = Unit {0}
Spares o (Give q) = Unit {0}
Spares o (Shift q a) = Unit {0}
Spares o (Resign b n) = Unit {0}

-- What no entry keeps a path from stays so: after each event of another task, and after each of its own but those that enter a child
-- on the object or end its entry there. A hold for commuting also waits while the content is
-- out, of which the second clause does not speak.
pub record StaysEnabled (p : Program) (ns : List ℤ) (limit : ℕ) : Type 0 where
  pub unblocked : (k : ℕ) (roll : List Seat) (ss : List ObjectView) (notes : List PartNote) → Reached p ns limit k roll ss notes
      → (place : ℕ) (roll' : List Seat) (ss' : List ObjectView) (notes' : List PartNote) (step : NotedIn roll ss notes place roll' ss' notes')
      → (q : List ℕ) (o : ℕ) (m : Mode) → (same_path step.step.seat.path q ≡ true → Spares o step.step.event)
      → blocker_in q m (shelf_at ss o).queue ≡ None → blocker_in q m (shelf_at ss' o).queue ≡ None
  pub free : (k : ℕ) (roll : List Seat) (ss : List ObjectView) (notes : List PartNote) → Reached p ns limit k roll ss notes
      → (place : ℕ) (roll' : List Seat) (ss' : List ObjectView) (notes' : List PartNote) (step : NotedIn roll ss notes place roll' ss' notes')
      → (q : List ℕ) (o : ℕ) (m : Mode) → m ≢ Commuting → (same_path step.step.seat.path q ≡ true → Spares o step.step.event)
      → keeper_in q m (shelf_at ss o).queue ≡ None → keeper_in q m (shelf_at ss' o).queue ≡ None
