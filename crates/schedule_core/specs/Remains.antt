-- What live tasks have yet to do, by any turn lists that go on from those in the objects, and what is noted, in words of plain data alone.
use Rattle.std.specs.Prelude.{◌≡◌, ◌≤◌, ℕ, true, false, ◌||◌, is_some, List, [], ◌∷◌, ◌++◌, map, Some, None, ℤ, slice_get, nat_eq, if◌then◌else◌}
use Rattle.std.specs.List.{filter_map}
use Rattle.jade_syntax.specs.declared.tree.Program.{Program}
use Rattle.jade_syntax.specs.Image.{program}
use Rattle.jade_syntax.specs.Objects.{sizes}
use Rattle.jade_meaning.specs.Serial.{Path, Mark, zeros, at_object, deeds_at}
use Rattle.jade_meaning.specs.Laws.{Every, deeds, but_turn, child_path}
use Rattle.jade_meaning.specs.Turns.{marks_by}
use Rattle.jade_meaning.specs.Answer.{parts_by_key}
use Rattle.jade_meaning.specs.Talk.{Take}
use Rattle.jade_meaning.specs.Walk.{upcoming, First}
use Rattle.jade_base.specs.declared.rights.Mode.{Mode}
use Rattle.jade_base.specs.declared.rights.Mode.TheVariants.{Commuting}
use Rattle.jade_base.specs.Rights.{is_there}
use Rattle.jade_base.specs.Places.{is_before, key}
use Rattle.object_shelf.specs.declared.queue.Entry.{Entry}
use Rattle.object_shelf.specs.Shelves.{keeper_in, find, content_for}
use Rattle.schedule_core.specs.Places.{upto}
use Rattle.object_shelf.specs.Views.{ObjectView}
use Rattle.schedule_core.specs.declared.steps.Seat.{Seat}
use Rattle.task_roll.specs.declared.note.PartNote.{PartNote}
use Rattle.schedule_core.specs.Notes.{note_of, note_key}
use Rattle.schedule_core.specs.Plain.{Reached}
use Rattle.schedule_core.specs.ByNumber.{shelf_at}
use Rattle.schedule_core.specs.Beneath.{Within}
use Rattle.schedule_core.specs.Works.{Work, Wrote, Turned, works_on, worked}
use Rattle.schedule_core.specs.Serially.{events_done}
use Rattle.schedule_core.specs.Soundness.{and_then, turns_of}

-- the turns among works
abbrev pub turns_among : List Work → List Path
turns_among [] = []
turns_among (Wrote q k c v ∷ ws) = turns_among ws
turns_among (Turned q ∷ ws) = q ∷ turns_among ws

-- a deed of a live task, or of a child that it has yet to make and of those below it
pub record IsLeft (roll : List Seat) (m : Mark) : Type 0 where
  pub place : ℕ
  pub seat : Seat
  pub live : slice_get roll place ≡ Some seat
  pub within : Within seat.path seat.children m.path

-- The meaning's deeds that are left, and the writes and turns on each object that are gone: these come first among the meaning's, and the
-- object's content is what they make of zeros.
pub record Remains (p : Program) (ns : List ℤ) (limit : ℕ) (roll : List Seat) (ss : List ObjectView) (rest : ℕ → List Path) : Type 0 where
  pub left : List Mark
  -- each is that of a live task or of a child that one has yet to make
  pub each : Every (IsLeft roll) left
  -- of a live task's own deeds all are left but those that it has done
  pub own : (i : ℕ) (s : Seat) → slice_get roll i ≡ Some s
      → filter_map but_turn (deeds_at s.path (marks_by (program p) ns limit (and_then ss rest)))
      ≡ deeds (events_done s.walker) ++ filter_map but_turn (deeds_at s.path left)
  -- with the task and the part of each
  pub gone : ℕ → List Work
  pub first : (o : ℕ) → works_on o (marks_by (program p) ns limit (and_then ss rest)) ≡ gone o ++ works_on o left
  pub content : (o : ℕ) → (shelf_at ss o).content ≡ worked (gone o) (at_object (zeros (sizes p.items)) o)
  -- and the turns among them are those that the objects tell of
  pub turns : (o : ℕ) → turns_among (gone o) ≡ turns_of ss o

pub record WritesGoFirst (p : Program) (ns : List ℤ) (limit : ℕ) : Type 0 where
  pub remains : (k : ℕ) (roll : List Seat) (ss : List ObjectView) (notes : List PartNote) → Reached p ns limit k roll ss notes → (rest : ℕ → List Path)
      → Remains p ns limit roll ss rest

-- What a task is handed for its turn is what the works before this turn make of zeros: in the meaning by all turn lists in which its turn is
-- the next one there.
pub record TurnIsSerial (p : Program) (ns : List ℤ) (limit : ℕ) (ss : List ObjectView) (o : ℕ) (s : Seat) (lists : ℕ → List Path) : Type 0 where
  pub before : List Work
  pub after : List Work
  pub is : works_on o (marks_by (program p) ns limit lists) ≡ before ++ (Turned s.path ∷ after)
  pub content : (shelf_at ss o).content ≡ worked before (at_object (zeros (sizes p.items)) o)
  pub taken : turns_among before ≡ turns_of ss o

-- lists in which this path's turn on an object comes next
abbrev pub next_turn : ℕ → Path → (ℕ → List Path) → ℕ → List Path
next_turn o q rest x = if nat_eq x o then q ∷ rest x else rest x

pub record TurnsAreSerial (p : Program) (ns : List ℤ) (limit : ℕ) : Type 0 where
  pub handed : (k : ℕ) (roll : List Seat) (ss : List ObjectView) (notes : List PartNote) → Reached p ns limit k roll ss notes → (rest : ℕ → List Path)
      → (i : ℕ) (s : Seat) → slice_get roll i ≡ Some s → (o : ℕ) → First (upcoming s.walker) (λ x. x ≡ Take o Commuting)
      → keeper_in s.path Commuting (shelf_at ss o).queue ≡ None → TurnIsSerial p ns limit ss o s (and_then ss (next_turn o s.path rest))

-- two lists, each in its order, make up a third
pub data Woven : List PartNote → List PartNote → List PartNote → Type 0 where
  nothing : Woven [] [] []
  first : {xs ys zs : List PartNote} → (n : PartNote) → Woven xs ys zs → Woven (n ∷ xs) ys (n ∷ zs)
  second : {xs ys zs : List PartNote} → (n : PartNote) → Woven xs ys zs → Woven xs (n ∷ ys) (n ∷ zs)

-- a part that a live task, or a child that it has yet to make, has not ended: its key is the path of the task and a number that is no
-- less than the number of its children
pub record IsUnended (roll : List Seat) (n : PartNote) : Type 0 where
  pub place : ℕ
  pub seat : Seat
  pub child : ℕ
  pub rest : List ℕ
  pub live : slice_get roll place ≡ Some seat
  pub from : seat.children ≤ child
  pub key : note_key n ≡ seat.path ++ (child ∷ rest)

-- the notes, and those of the parts that are not ended yet, make up those of the meaning, by key, steps and faults with them
pub record Noted (p : Program) (ns : List ℤ) (limit : ℕ) (roll : List Seat) (ss : List ObjectView) (notes : List PartNote) (rest : ℕ → List Path) : Type 0 where
  pub unended : List PartNote
  pub each : Every (IsUnended roll) unended
  pub woven : Woven notes unended (map note_of (parts_by_key (marks_by (program p) ns limit (and_then ss rest))))

pub record NotesAreSerial (p : Program) (ns : List ℤ) (limit : ℕ) : Type 0 where
  pub noted : (k : ℕ) (roll : List Seat) (ss : List ObjectView) (notes : List PartNote) → Reached p ns limit k roll ss notes → (rest : ℕ → List Path)
      → Noted p ns limit roll ss notes rest

-- a work that does not stand before a task's place
abbrev pub Behind : Path → ℕ → Work → Type 0
Behind p n (Wrote q k c v) = is_before (key q k) (key p n) ≡ false
Behind p n (Turned q) = Unit {0}

-- it holds the object, or has a version kept, or may take it next
pub data HasIt (s : Seat) (ss : List ObjectView) (o : ℕ) (e : Entry) : Type 0 where
  holds : is_some e.hold ≡ true → HasIt s ss o e
  keeps : is_some e.version ≡ true → HasIt s ss o e
  handed : (m : Mode) → First (upcoming s.walker) (λ x. x ≡ Take o m) → keeper_in s.path m (shelf_at ss o).queue ≡ None → HasIt s ss o e

-- Of an object that a live task has a right to read or to write the task has, or would be given, what those of the gone works make of zeros that
-- stand before its place in the serial order; and where it holds the object, has a version kept or may take it, none of the works that are left
-- stands before its place.
pub record Places (p : Program) (ns : List ℤ) (limit : ℕ) (roll : List Seat) (ss : List ObjectView) (rest : ℕ → List Path) : Type 0 where
  pub remains : Remains p ns limit roll ss rest
  pub stand : (i : ℕ) (s : Seat) → slice_get roll i ≡ Some s → (o : ℕ) (e : Entry) → find s.path (shelf_at ss o).queue ≡ Some e
      → is_there e.rights.reads || is_there e.rights.writes ≡ true
      → content_for s.path (shelf_at ss o) ≡ worked (upto s.path s.children (remains.gone o)) (at_object (zeros (sizes p.items)) o)
  -- the version that is kept for its next child, once its rights are entered, is at the place where that child begins
  pub child : (i : ℕ) (s : Seat) → slice_get roll i ≡ Some s → (o : ℕ) (e : Entry) → find (child_path s.path s.children) (shelf_at ss o).queue ≡ Some e
      → (xs : List ℤ) → e.version ≡ Some xs → xs ≡ worked (upto (child_path s.path s.children) 0 (remains.gone o)) (at_object (zeros (sizes p.items)) o)
  pub behind : (i : ℕ) (s : Seat) → slice_get roll i ≡ Some s → (o : ℕ) (e : Entry) → find s.path (shelf_at ss o).queue ≡ Some e
      → is_there e.rights.reads || is_there e.rights.writes ≡ true → is_there e.rights.commutes ≡ false → HasIt s ss o e → Every (Behind s.path s.children) (works_on o remains.left)

pub record ContentsAreSerial (p : Program) (ns : List ℤ) (limit : ℕ) : Type 0 where
  pub places : (k : ℕ) (roll : List Seat) (ss : List ObjectView) (notes : List PartNote) → Reached p ns limit k roll ss notes → (rest : ℕ → List Path)
      → Places p ns limit roll ss rest

-- works of the task at a path
abbrev pub IsOf : Path → Work → Type 0
IsOf p (Wrote q k c v) = q ≡ p
IsOf p (Turned q) = ⊥

-- What a task holds for commuting is what the works before its turn, and its own since then, make of zeros: in the meaning by all turn lists that
-- go on from those in the objects.
pub record TurnIsHeld (p : Program) (ns : List ℤ) (limit : ℕ) (ss : List ObjectView) (o : ℕ) (s : Seat) (lists : ℕ → List Path) : Type 0 where
  pub before : List Work
  pub own : List Work
  pub after : List Work
  pub is : works_on o (marks_by (program p) ns limit lists) ≡ before ++ (Turned s.path ∷ (own ++ after))
  pub mine : Every (IsOf s.path) own
  pub content : (shelf_at ss o).content ≡ worked (before ++ (Turned s.path ∷ own)) (at_object (zeros (sizes p.items)) o)

pub record HeldTurns (p : Program) (ns : List ℤ) (limit : ℕ) : Type 0 where
  pub held : (k : ℕ) (roll : List Seat) (ss : List ObjectView) (notes : List PartNote) → Reached p ns limit k roll ss notes → (rest : ℕ → List Path)
      → (i : ℕ) (s : Seat) → slice_get roll i ≡ Some s → (o : ℕ) (e : Entry) → find s.path (shelf_at ss o).queue ≡ Some e → e.hold ≡ Some Commuting
      → TurnIsHeld p ns limit ss o s (and_then ss rest)
