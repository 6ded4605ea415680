-- What is left and what a live task has in a program without the word `cm`: by its plain serial run.
use Rattle.std.specs.Prelude.{◌≡◌, ℕ, true, false, ◌||◌, List, [], ◌∷◌, ◌++◌, Some, ℤ, slice_get}
use Rattle.jade_base.specs.Rights.{is_there}
use Rattle.jade_syntax.specs.declared.tree.Program.{Program}
use Rattle.jade_syntax.specs.Image.{program}
use Rattle.jade_meaning.specs.Laws.{child_path}
use Rattle.jade_meaning.specs.Serial.{serial_run, reads_at}
use Rattle.jade_meaning.specs.Talk.{Wants}
use Rattle.jade_meaning.specs.Walk.{upcoming, First}
use Rattle.object_shelf.specs.declared.queue.Entry.{Entry}
use Rattle.object_shelf.specs.Shelves.{find, content_for}
use Rattle.object_shelf.specs.Views.{ObjectView}
use Rattle.task_roll.specs.declared.note.PartNote.{PartNote}
use Rattle.schedule_core.specs.declared.steps.Seat.{Seat}
use Rattle.schedule_core.specs.ByNumber.{shelf_at}
use Rattle.schedule_core.specs.Plain.{Reached, value_at}
use Rattle.schedule_core.specs.Remains.{HasIt}
use Rattle.schedule_core.specs.Serially.{Begins}
use Rattle.core_laws.specs.ByPlace.{content_before, content_at}
use Rattle.core_laws.specs.WhatIsLeft.{WhatIsLeft}

pub record PlainContents (p : Program) (ns : List ℤ) (limit : ℕ) : Type 0 where
  -- the writes on an object that are gone come first among those of the serial run, and make its content of zeros
  pub left : (k : ℕ) (roll : List Seat) (ss : List ObjectView) (notes : List PartNote) → Reached p ns limit k roll ss notes
      → WhatIsLeft p (serial_run (program p) ns limit) roll ss
  -- no object has turns
  pub turns : (k : ℕ) (roll : List Seat) (ss : List ObjectView) (notes : List PartNote) → Reached p ns limit k roll ss notes
      → (o : ℕ) → (shelf_at ss o).turns ≡ []
  -- no entry of a live task has a right to commute
  pub alone : (k : ℕ) (roll : List Seat) (ss : List ObjectView) (notes : List PartNote) → Reached p ns limit k roll ss notes
      → (i : ℕ) (s : Seat) → slice_get roll i ≡ Some s → (o : ℕ) (e : Entry) → find s.path (shelf_at ss o).queue ≡ Some e
      → is_there e.rights.commutes ≡ false
  -- what a live task holds of an object, has kept or may take next is the serial run's content at its place
  pub has : (k : ℕ) (roll : List Seat) (ss : List ObjectView) (notes : List PartNote) → Reached p ns limit k roll ss notes
      → (i : ℕ) (s : Seat) → slice_get roll i ≡ Some s → (o : ℕ) (e : Entry) → find s.path (shelf_at ss o).queue ≡ Some e
      → is_there e.rights.reads || is_there e.rights.writes ≡ true → HasIt s ss o e
      → content_for s.path (shelf_at ss o) ≡ content_at p s o (serial_run (program p) ns limit)
  -- and so is the version that is kept for its next child, at the place where this child begins
  pub child : (k : ℕ) (roll : List Seat) (ss : List ObjectView) (notes : List PartNote) → Reached p ns limit k roll ss notes
      → (i : ℕ) (s : Seat) → slice_get roll i ≡ Some s → (o : ℕ) (e : Entry) → find (child_path s.path s.children) (shelf_at ss o).queue ≡ Some e
      → (xs : List ℤ) → e.version ≡ Some xs → xs ≡ content_before p (child_path s.path s.children) 0 0 o (serial_run (program p) ns limit)
  -- what a live task is to read next is the value of its next read in the serial run
  pub read : (k : ℕ) (roll : List Seat) (ss : List ObjectView) (notes : List PartNote) → Reached p ns limit k roll ss notes
      → (i : ℕ) (s : Seat) → slice_get roll i ≡ Some s → (o c : ℕ) → First (upcoming s.walker) (λ x. x ≡ Wants o c)
      → Begins (reads_at s.path (serial_run (program p) ns limit)) (s.walker.answers ++ value_at o c s.path ss ∷ [])
