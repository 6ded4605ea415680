-- Which rights the entries of an object have, in words of plain data alone.
use Rattle.std.specs.Prelude.{◌≡◌, ℕ, List, [], ◌∷◌, ◌++◌, Option, Some, None, ℤ, nat_eq, slice_get, if◌then◌else◌}
use Rattle.jade_base.specs.declared.rights.Rights.{Rights}
use Rattle.jade_base.specs.Rights.{no_rights, has_rights}
use Rattle.jade_syntax.specs.declared.tree.Program.{Program}
use Rattle.jade_meaning.specs.Specification.{rights_on}
use Rattle.jade_meaning.specs.Talk.{Task, Event, Enter, Enroll, Take, TouchRead, TouchWrite, Wants, Give, Leave, Shift, Resign}
use Rattle.jade_meaning.specs.Laws.{Every, child_path, deed_of}
use Rattle.jade_meaning.specs.Walk.{upcoming, task_of}
use Rattle.object_shelf.specs.declared.queue.Entry.{Entry}
use Rattle.object_shelf.specs.Views.{ObjectView}
use Rattle.object_shelf.specs.Shelves.{find}
use Rattle.schedule_core.specs.declared.steps.Seat.{Seat}
use Rattle.task_roll.specs.declared.note.PartNote.{PartNote}
use Rattle.schedule_core.specs.Plain.{Reached}
use Rattle.schedule_core.specs.ByNumber.{shelf_at}
use Rattle.schedule_core.specs.Serially.{events_done}

-- a task's rights on an object once it has done an event
abbrev pub rights_then : ℕ → Event → Rights → Rights
rights_then o (Shift q b) a = if nat_eq o q then b else a
rights_then o (Leave q) a = if nat_eq o q then no_rights else a
rights_then o (Enter q b) a = a
rights_then o (Enroll t n) a = a
rights_then o (Take q m) a = a
rights_then o (TouchRead q c v) a = a
rights_then o (TouchWrite q c v) a = a
rights_then o (Wants q c) a = a
rights_then o (Give q) a = a
rights_then o (Resign b n) a = a

-- and once it has done some events
abbrev pub rights_after : ℕ → List Event → Rights → Rights
rights_after o [] a = a
rights_after o (e ∷ es) a = rights_after o es (rights_then o e a)

-- the rights that a live task has on an object: those of its specification, as its events so far have changed them
abbrev pub rights_now : Seat → ℕ → Rights
rights_now s o = rights_after o (events_done s.walker) (rights_on (task_of s.walker).spec o)

-- rights, if they are some
abbrev pub if_some : Rights → Option Rights
if_some a = if has_rights a then Some a else None

-- the rights of an entry, if there is one
abbrev pub rights_of : Option Entry → Option Rights
rights_of None = None
rights_of (Some e) = Some e.rights

-- An entry of a live task's next child: the next deed of the task is to create this child, and the entry has the child's rights.
pub record ChildEntry (s : Seat) (o : ℕ) (e : Entry) : Type 0 where
  pub child : Task
  pub steps : ℕ
  pub before : List Event
  pub later : List Event
  pub next : upcoming s.walker ≡ before ++ (Enroll child steps ∷ later)
  pub no_deed : Every (λ x. deed_of x ≡ None) before
  pub rights : e.rights ≡ rights_on child.spec o

-- Entries have exactly the rights of their tasks.
pub record EntriesHaveRights (p : Program) (ns : List ℤ) (limit : ℕ) : Type 0 where
  -- a live task has an entry exactly where it has rights now, and the entry has exactly these
  pub own : (k : ℕ) (roll : List Seat) (ss : List ObjectView) (notes : List PartNote) → Reached p ns limit k roll ss notes
      → (i : ℕ) (s : Seat) → slice_get roll i ≡ Some s → (o : ℕ) → rights_of (find s.path (shelf_at ss o).queue) ≡ if_some (rights_now s o)
  -- the entry of a child that is about to be made has the rights that the child begins with
  pub child : (k : ℕ) (roll : List Seat) (ss : List ObjectView) (notes : List PartNote) → Reached p ns limit k roll ss notes
      → (i : ℕ) (s : Seat) → slice_get roll i ≡ Some s → (o : ℕ) (e : Entry)
      → find (child_path s.path s.children) (shelf_at ss o).queue ≡ Some e → ChildEntry s o e
