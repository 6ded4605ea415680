-- What is told of every core that allowed events reach, in words of plain data alone.
use Rattle.std.specs.Prelude.{◌≡◌, ◌≢◌, ℕ, Bool, true, false, List, [], ◌∷◌, ◌++◌, Option, Some, None, ℤ, slice_get, is_some}
use Rattle.jade_base.specs.declared.rights.Mode.{Mode}
use Rattle.jade_syntax.specs.declared.tree.Program.{Program}
use Rattle.jade_base.specs.declared.rights.Rights.{Rights}
use Rattle.jade_base.specs.Rights.{has_rights}
use Rattle.jade_meaning.specs.Talk.{Enter, Take, TouchWrite, Wants, Give, Leave, Shift}
use Rattle.jade_meaning.specs.Walk.{upcoming, First}
use Rattle.object_shelf.specs.declared.queue.Entry.{Entry}
use Rattle.object_shelf.specs.Views.{ObjectView}
use Rattle.object_shelf.specs.Shelves.{same_path, find, at, released, takes_out, keeper_in}
use Rattle.object_shelf.specs.Whole.{is_out}
pub use Rattle.object_shelf.specs.Takes.{MayTake}
use Rattle.schedule_core.specs.declared.steps.Seat.{Seat}
use Rattle.task_roll.specs.declared.note.PartNote.{PartNote}
use Rattle.schedule_core.specs.Fitting.{Lessened, Narrowed, may}
use Rattle.schedule_core.specs.Plain.{Reached}
use Rattle.schedule_core.specs.ByNumber.{shelf_at}

-- a path's entry, with a hold of this kind
pub record Holding (kind : Option Mode → Bool) (p : List ℕ) (es : List Entry) : Type 0 where
  pub entry : Entry
  pub there : find p es ≡ Some entry
  pub hold : kind entry.hold ≡ true

-- what a path's task finds where it gives an object up: its entry, with the hold; and where it has the content out, no entry has it
-- out once the hold has ended
pub record MayGive (p : List ℕ) (es : List Entry) : Type 0 where
  pub entry : Entry
  pub there : find p es ≡ Some entry
  pub held : is_some entry.hold ≡ true
  pub home : takes_out entry.hold ≡ true → is_out (at p released es) ≡ false

-- what a parent finds where it enters the rights of its next child: its own entry, with no fewer rights, and none of the child
pub record MayEnter (p child : List ℕ) (a : Rights) (es : List Entry) : Type 0 where
  pub entry : Entry
  pub there : find p es ≡ Some entry
  pub absent : find child es ≡ None
  pub some : has_rights a ≡ true
  pub less : Lessened a entry.rights

-- what a path's task finds where its rights on an object become others: its entry, with no fewer rights; a hold that it keeps is one
-- that the new rights allow
pub record MayShift (p : List ℕ) (a : Rights) (es : List Entry) : Type 0 where
  pub entry : Entry
  pub there : find p es ≡ Some entry
  pub some : has_rights a ≡ true
  pub less : Narrowed a entry.rights
  pub fits : may entry.hold a ≡ true

-- what a path's task finds where it has no rights on an object any more: its entry, without a hold
pub record MayLeave (p : List ℕ) (es : List Entry) : Type 0 where
  pub entry : Entry
  pub there : find p es ≡ Some entry
  pub free : entry.hold ≡ None

-- of the live tasks and the objects that so many events reach
pub record CoreTells (p : Program) (ns : List ℤ) (limit : ℕ) : Type 0 where
  -- live tasks have paths of their own
  pub apart : (k : ℕ) (roll : List Seat) (ss : List ObjectView) (notes : List PartNote) → Reached p ns limit k roll ss notes
      → (i j : ℕ) (s t : Seat) → slice_get roll i ≡ Some s → slice_get roll j ≡ Some t → i ≢ j → same_path s.path t.path ≡ false
  -- and no live task has the path of another's next child
  pub kids : (k : ℕ) (roll : List Seat) (ss : List ObjectView) (notes : List PartNote) → Reached p ns limit k roll ss notes
      → (i j : ℕ) (s t : Seat) → slice_get roll i ≡ Some s → slice_get roll j ≡ Some t → i ≢ j
      → same_path s.path (t.path ++ t.children ∷ []) ≡ false
  -- one task alone has an object's content out
  pub alone : (k : ℕ) (roll : List Seat) (ss : List ObjectView) (notes : List PartNote) → Reached p ns limit k roll ss notes
      → (o : ℕ) (q r : List ℕ) (d e : Entry) → find q (shelf_at ss o).queue ≡ Some d → takes_out d.hold ≡ true
      → find r (shelf_at ss o).queue ≡ Some e → takes_out e.hold ≡ true → same_path q r ≡ true
  -- where a take is next and no entry keeps its task from it, there is what it is to be handed
  pub takes : (k : ℕ) (roll : List Seat) (ss : List ObjectView) (notes : List PartNote) → Reached p ns limit k roll ss notes
      → (i : ℕ) (s : Seat) → slice_get roll i ≡ Some s → (o : ℕ) (m : Mode) → First (upcoming s.walker) (λ x. x ≡ Take o m)
      → keeper_in s.path m (shelf_at ss o).queue ≡ None → MayTake m s.path (shelf_at ss o).queue
  -- a write is next only where its task has the content out
  pub writes : (k : ℕ) (roll : List Seat) (ss : List ObjectView) (notes : List PartNote) → Reached p ns limit k roll ss notes
      → (i : ℕ) (s : Seat) → slice_get roll i ≡ Some s → (o c : ℕ) (v : ℤ) → First (upcoming s.walker) (λ x. x ≡ TouchWrite o c v)
      → Holding takes_out s.path (shelf_at ss o).queue
  -- a read is next only where its task holds the object
  pub reads : (k : ℕ) (roll : List Seat) (ss : List ObjectView) (notes : List PartNote) → Reached p ns limit k roll ss notes
      → (i : ℕ) (s : Seat) → slice_get roll i ≡ Some s → (o c : ℕ) → First (upcoming s.walker) (λ x. x ≡ Wants o c)
      → Holding (λ h. is_some h) s.path (shelf_at ss o).queue

-- Where a give, a change of an entry or an entry of a child is the next event of a live task, its entry is there, as the event needs it.
pub record EntriesAreThere (p : Program) (ns : List ℤ) (limit : ℕ) : Type 0 where
  pub gives : (k : ℕ) (roll : List Seat) (ss : List ObjectView) (notes : List PartNote) → Reached p ns limit k roll ss notes
      → (i : ℕ) (s : Seat) → slice_get roll i ≡ Some s → (o : ℕ) → First (upcoming s.walker) (λ x. x ≡ Give o)
      → MayGive s.path (shelf_at ss o).queue
  pub enters : (k : ℕ) (roll : List Seat) (ss : List ObjectView) (notes : List PartNote) → Reached p ns limit k roll ss notes
      → (i : ℕ) (s : Seat) → slice_get roll i ≡ Some s → (o : ℕ) (a : Rights) → First (upcoming s.walker) (λ x. x ≡ Enter o a)
      → MayEnter s.path (s.path ++ s.children ∷ []) a (shelf_at ss o).queue
  pub shifts : (k : ℕ) (roll : List Seat) (ss : List ObjectView) (notes : List PartNote) → Reached p ns limit k roll ss notes
      → (i : ℕ) (s : Seat) → slice_get roll i ≡ Some s → (o : ℕ) (a : Rights) → First (upcoming s.walker) (λ x. x ≡ Shift o a)
      → MayShift s.path a (shelf_at ss o).queue
  pub leaves : (k : ℕ) (roll : List Seat) (ss : List ObjectView) (notes : List PartNote) → Reached p ns limit k roll ss notes
      → (i : ℕ) (s : Seat) → slice_get roll i ≡ Some s → (o : ℕ) → First (upcoming s.walker) (λ x. x ≡ Leave o)
      → MayLeave s.path (shelf_at ss o).queue
