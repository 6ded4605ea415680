-- Which entries stand before one with a hold or a version, and that an entered child has its entry, in words of plain data alone.
use Rattle.std.specs.Prelude.{◌≡◌, ◌≢◌, ◌<◌, ◌⊎◌, ℕ, true, false, List, ◌∷◌, ◌++◌, Some, None, ℤ, slice_get, is_some}
use Rattle.jade_base.specs.declared.rights.Rights.{Rights}
use Rattle.jade_base.specs.declared.rights.Mode.TheVariants.{Reading, Writing, Commuting}
use Rattle.jade_base.specs.Rights.{has_rights, is_there}
use Rattle.jade_syntax.specs.declared.tree.Program.{Program}
use Rattle.jade_meaning.specs.Specification.{rights_on}
use Rattle.jade_meaning.specs.Talk.{Task, Event, Enter, Enroll}
use Rattle.jade_meaning.specs.Laws.{Every, child_path, deed_of}
use Rattle.jade_meaning.specs.Walk.{upcoming}
use Rattle.object_shelf.specs.declared.queue.Entry.{Entry}
use Rattle.object_shelf.specs.Views.{ObjectView}
use Rattle.object_shelf.specs.Shelves.{changes, find}
use Rattle.schedule_core.specs.declared.steps.Seat.{Seat}
use Rattle.task_roll.specs.declared.note.PartNote.{PartNote}
use Rattle.schedule_core.specs.Plain.{Reached}
use Rattle.schedule_core.specs.ByNumber.{shelf_at}
use Rattle.schedule_core.specs.EntryRights.{rights_of}

-- an entry that is seen: it may change nothing, and has a version
abbrev pub IsSeen : Entry → Type 0
IsSeen e = (changes e.rights ≡ false) × (is_some e.version ≡ true)

-- an entry that has no right to read or to write
abbrev pub OnlyCommutes : Entry → Type 0
OnlyCommutes e = (is_there e.rights.reads ≡ false) × (is_there e.rights.writes ≡ false)

-- how an entry stands before another
pub record StandsBefore (d e : Entry) : Type 0 where
  -- before the entry of a holder for writing stand only seen entries
  pub writing : e.hold ≡ Some Writing → IsSeen d
  -- before that of a holder for reading none that may change the object
  pub reading : e.hold ≡ Some Reading → changes d.rights ≡ false
  -- nor before one with a version, so before a seen one
  pub kept : is_some e.version ≡ true → changes d.rights ≡ false
  -- before that of a holder for commuting stand only seen entries and those that only commute
  pub commuting : e.hold ≡ Some Commuting → IsSeen d ⊎ OnlyCommutes d

-- Each entry of an object stands so before each that comes later.
pub record EntriesStand (p : Program) (ns : List ℤ) (limit : ℕ) : Type 0 where
  pub before : (k : ℕ) (roll : List Seat) (ss : List ObjectView) (notes : List PartNote) → Reached p ns limit k roll ss notes
      → (o i j : ℕ) (d e : Entry) → slice_get (shelf_at ss o).queue i ≡ Some d → slice_get (shelf_at ss o).queue j ≡ Some e → i < j → StandsBefore d e

-- an event that enters no child on an object
abbrev pub EntersNone : ℕ → Event → Type 0
EntersNone o x = (a : Rights) → x ≢ Enter o a

-- Where the next deed of a live task is a creation and no more is to be entered on an object before it, the child has its entry there, if it has
-- rights on the object, and exactly with these.
pub record ChildrenAreEntered (p : Program) (ns : List ℤ) (limit : ℕ) : Type 0 where
  pub entered : (k : ℕ) (roll : List Seat) (ss : List ObjectView) (notes : List PartNote) → Reached p ns limit k roll ss notes
      → (i : ℕ) (s : Seat) → slice_get roll i ≡ Some s → (child : Task) (steps : ℕ) (before later : List Event)
      → upcoming s.walker ≡ before ++ (Enroll child steps ∷ later) → Every (λ x. deed_of x ≡ None) before → (o : ℕ) → Every (EntersNone o) before
      → has_rights (rights_on child.spec o) ≡ true
      → rights_of (find (child_path s.path s.children) (shelf_at ss o).queue) ≡ Some (rights_on child.spec o)
