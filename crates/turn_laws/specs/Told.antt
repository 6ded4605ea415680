-- What a task tells of the run with its turn: the take for commuting tells of the turn.
use Rattle.std.specs.Prelude.{◌≡◌, ℕ, List, [], ◌∷◌, Option, Some, None, ℤ}
use Rattle.std.specs.List.{filter_map}
use Rattle.jade_base.specs.declared.rights.Mode.{Mode}
use Rattle.jade_base.specs.declared.rights.Mode.TheVariants.{Reading, Writing, Commuting}
use Rattle.jade_syntax.specs.Abstract.{AbstractProgram}
use Rattle.jade_meaning.specs.Specification.{commuting_on}
use Rattle.jade_meaning.specs.Talk.{Task, Event, Enter, Enroll, Take, TouchRead, TouchWrite, Wants, Give, Leave, Shift, Resign, talk}
use Rattle.jade_meaning.specs.Serial.{Mark, Path, Deed, DidTurn, DidRead, DidWrite, DidCreate, DidEnd, deeds_at, read_of}
use Rattle.jade_meaning.specs.Laws.{Every, deed_of, but_turn, child_path, root_task}
use Rattle.jade_meaning.specs.Turns.{marks_by}

-- the turn of which a take in a mode tells
abbrev pub turn_in : Mode → ℕ → Option Deed
turn_in Commuting o = Some (DidTurn o)
turn_in Reading o = None
turn_in Writing o = None

-- the deed of which an event tells, a turn among them
abbrev pub told_of : Event → Option Deed
told_of (Take o m) = turn_in m o
told_of (Enter o a) = deed_of (Enter o a)
told_of (Enroll t n) = deed_of (Enroll t n)
told_of (TouchRead o c v) = deed_of (TouchRead o c v)
told_of (TouchWrite o c v) = deed_of (TouchWrite o c v)
told_of (Wants o c) = deed_of (Wants o c)
told_of (Give o) = deed_of (Give o)
told_of (Leave o) = deed_of (Leave o)
told_of (Shift o a) = deed_of (Shift o a)
told_of (Resign b n) = deed_of (Resign b n)

-- the deeds of which events tell, turns among them
abbrev pub told : List Event → List Deed
told es = filter_map told_of es

-- deeds among which there is no turn
pub record HasNoTurn (ds : List Deed) : Type 0 where
  pub same : filter_map but_turn ds ≡ ds

-- deeds of which the first is a turn on an object, and no other is a turn
pub record BeginsByTurn (o : ℕ) (ds : List Deed) : Type 0 where
  pub same : DidTurn o ∷ filter_map but_turn ds ≡ ds

-- the deeds of a task that commutes on an object, or on none
abbrev pub TurnIsFirst : Option ℕ → List Deed → Type 0
TurnIsFirst None ds = HasNoTurn ds
TurnIsFirst (Some o) ds = BeginsByTurn o ds

-- a task whose reads are answered by those of these deeds tells of exactly these deeds, and its turn, if it commutes, is the first of them
pub record TellsIts (ds : List Deed) (t : Task) : Type 0 where
  pub first : TurnIsFirst (commuting_on t.spec) ds
  pub same : told (talk t (filter_map read_of ds)) ≡ ds

-- a mark of a creation: the created task tells of the deeds that the run has at its path
abbrev pub ChildTellsIts : List Mark → Path → Deed → Type 0
ChildTellsIts ms q (DidCreate t n) = TellsIts (deeds_at q ms) t
ChildTellsIts ms q (DidTurn o) = Unit {0}
ChildTellsIts ms q (DidRead o c v) = Unit {0}
ChildTellsIts ms q (DidWrite o c v) = Unit {0}
ChildTellsIts ms q (DidEnd b n) = Unit {0}

-- each task of the serial run by turn lists tells of all that it does there, its turn first
pub record TurnIsTold (p : AbstractProgram) (ns : List ℤ) (limit : ℕ) (turns : ℕ → List Path) : Type 0 where
  pub root : TellsIts (deeds_at (0 ∷ []) (marks_by p ns limit turns)) (root_task p ns limit)
  pub children : Every (λ m. ChildTellsIts (marks_by p ns limit turns) (child_path m.path m.children) m.deed) (marks_by p ns limit turns)
