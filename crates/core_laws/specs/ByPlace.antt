-- What a live task has of an object, by its place in the serial order.
use Rattle.std.specs.Prelude.{◌≡◌, ℕ, suc, pred, true, false, ◌||◌, List, [], ◌∷◌, Some, ℤ, nat_eq, slice_get, if◌then◌else◌}
use Rattle.jade_base.specs.Places.{same_path, is_before, key}
use Rattle.jade_base.specs.Rights.{is_there}
use Rattle.jade_syntax.specs.declared.tree.Program.{Program}
use Rattle.jade_syntax.specs.Image.{program}
use Rattle.jade_syntax.specs.Objects.{sizes}
use Rattle.jade_meaning.specs.Laws.{child_path}
use Rattle.jade_meaning.specs.Serial.{Path, Mark, zeros, at_object}
use Rattle.jade_meaning.specs.Talk.{Event, Enter, Enroll, Take, TouchRead, TouchWrite, Wants, Give, Leave, Shift, Resign}
use Rattle.jade_meaning.specs.Turns.{marks_by}
use Rattle.object_shelf.specs.declared.queue.Entry.{Entry}
use Rattle.object_shelf.specs.Shelves.{find, content_for}
use Rattle.object_shelf.specs.Views.{ObjectView}
use Rattle.task_roll.specs.declared.note.PartNote.{PartNote}
use Rattle.schedule_core.specs.declared.steps.Seat.{Seat}
use Rattle.schedule_core.specs.ByNumber.{shelf_at}
use Rattle.schedule_core.specs.Plain.{Reached}
use Rattle.schedule_core.specs.Remains.{HasIt}
use Rattle.schedule_core.specs.Serially.{events_done}
use Rattle.schedule_core.specs.Soundness.{and_then}
use Rattle.schedule_core.specs.Works.{Work, Wrote, Turned, works_on, worked}

-- how many of some events write to an object
abbrev pub writes_among : ℕ → List Event → ℕ
writes_among o [] = 0
writes_among o (TouchWrite q c v ∷ es) = if nat_eq q o then suc (writes_among o es) else writes_among o es
writes_among o (TouchRead q c v ∷ es) = writes_among o es
writes_among o (Wants q c ∷ es) = writes_among o es
writes_among o (Enter q a ∷ es) = writes_among o es
writes_among o (Enroll t n ∷ es) = writes_among o es
writes_among o (Take q m ∷ es) = writes_among o es
writes_among o (Give q ∷ es) = writes_among o es
writes_among o (Leave q ∷ es) = writes_among o es
writes_among o (Shift q a ∷ es) = writes_among o es
writes_among o (Resign b n ∷ es) = writes_among o es

-- the writes before the place of the task at a path that has made so many children and so many of its own writes: those of parts whose keys are
-- before that of its part, and the first so many of its own
abbrev pub before_place : Path → (children own : ℕ) → List Work → List Work
before_place p n d [] = []
before_place p n d (Turned q ∷ ws) = before_place p n d ws
before_place p n d (Wrote q k c v ∷ ws) =
    if same_path q p then (if nat_eq d 0 then before_place p n 0 ws else Wrote q k c v ∷ before_place p n (pred d) ws)
    else (if is_before (key q k) (key p n) then Wrote q k c v ∷ before_place p n d ws else before_place p n d ws)

-- the content of an object at such a place in a run: what the writes before it make of zeros
abbrev pub content_before : Program → Path → (children own object : ℕ) → List Mark → List ℤ
content_before p path n d o run = worked (before_place path n d (works_on o run)) (at_object (zeros (sizes p.items)) o)

-- the same at a live task's place
abbrev pub content_at : Program → Seat → ℕ → List Mark → List ℤ
content_at p s o run = content_before p s.path s.children (writes_among o (events_done s.walker)) o run

-- What a live task holds of an object on which it does not commute, has kept or may take next is the meaning's content at its place: by all turn
-- lists that go on from those in the objects.
pub record ContentsByPlace (p : Program) (ns : List ℤ) (limit : ℕ) : Type 0 where
  pub has : (k : ℕ) (roll : List Seat) (ss : List ObjectView) (notes : List PartNote) → Reached p ns limit k roll ss notes → (rest : ℕ → List Path)
      → (i : ℕ) (s : Seat) → slice_get roll i ≡ Some s → (o : ℕ) (e : Entry) → find s.path (shelf_at ss o).queue ≡ Some e
      → is_there e.rights.reads || is_there e.rights.writes ≡ true → is_there e.rights.commutes ≡ false → HasIt s ss o e
      → content_for s.path (shelf_at ss o) ≡ content_at p s o (marks_by (program p) ns limit (and_then ss rest))
  -- and so is the version that is kept for its next child, once the rights of this child are entered, at the place where the child begins
  pub child : (k : ℕ) (roll : List Seat) (ss : List ObjectView) (notes : List PartNote) → Reached p ns limit k roll ss notes → (rest : ℕ → List Path)
      → (i : ℕ) (s : Seat) → slice_get roll i ≡ Some s → (o : ℕ) (e : Entry) → find (child_path s.path s.children) (shelf_at ss o).queue ≡ Some e
      → (xs : List ℤ) → e.version ≡ Some xs
      → xs ≡ content_before p (child_path s.path s.children) 0 0 o (marks_by (program p) ns limit (and_then ss rest))
