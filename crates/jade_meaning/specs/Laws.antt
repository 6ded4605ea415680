-- What is proved of the definitions.
use Rattle.std.specs.Prelude.{◌≡◌, ℕ, Bool, true, false, List, [], ◌∷◌, ◌++◌, Option, Some, None, ℤ}
use Rattle.std.specs.List.{filter_map}
use Rattle.jade_syntax.specs.Abstract.{AbstractProgram}
use Rattle.jade_meaning.specs.Course.{root_course, root_spec}
use Rattle.jade_meaning.specs.Talk.{Task, Event, Enroll, TouchRead, TouchWrite, Wants, Resign, talk}
use Rattle.jade_meaning.specs.Serial.{Mark, Path, Deed, DidTurn, DidRead, DidWrite, DidCreate, DidEnd, deeds_at, read_of, serial_run, after, zeros}
use Rattle.jade_meaning.specs.Specification.{commuting_on}
use Rattle.jade_meaning.specs.Turns.{marks_by, store_by, fill}
use Rattle.jade_syntax.specs.Objects.{sizes}

-- the read, write, created task or end of which an event tells
abbrev pub deed_of : Event → Option Deed
deed_of (Enroll t n) = Some (DidCreate t n)
deed_of (TouchRead o c v) = Some (DidRead o c v)
deed_of (TouchWrite o c v) = Some (DidWrite o c v)
deed_of (Resign b n) = Some (DidEnd b n)
deed_of _ = None

-- the deeds of which events tell
abbrev pub deeds : List Event → List Deed
deeds es = filter_map deed_of es

-- the event of an end
abbrev pub is_resign : Event → Bool
is_resign (Resign b n) = true
is_resign _ = false

-- the last event is an end
abbrev pub ends_with_resign : List Event → Bool
ends_with_resign [] = false
ends_with_resign (e ∷ []) = is_resign e
ends_with_resign (e ∷ f ∷ es) = ends_with_resign (f ∷ es)

-- a task that has come to its end
pub record IsOver (es : List Event) : Type 0 where
  pub over : ends_with_resign es ≡ true

-- a deed but a turn, of which the take for commuting tells
abbrev pub but_turn : Deed → Option Deed
but_turn (DidTurn o) = None
but_turn (DidRead o c v) = Some (DidRead o c v)
but_turn (DidWrite o c v) = Some (DidWrite o c v)
but_turn (DidCreate t n) = Some (DidCreate t n)
but_turn (DidEnd b n) = Some (DidEnd b n)

-- a task whose reads are answered by those of these deeds does these deeds, but for the turn, up to its end
pub record DoesIts (ds : List Deed) (t : Task) : Type 0 where
  pub same : deeds (talk t (filter_map read_of ds)) ≡ filter_map but_turn ds
  pub over : IsOver (talk t (filter_map read_of ds))

-- a fact of each item of a list
abbrev pub Every : {A : Type 0} → (A → Type 0) → List A → Type 0
Every P [] = Unit {0}
Every P (x ∷ xs) = P x × Every P xs

-- a mark of a creation: the created task does the deeds that the run has at its path
abbrev pub ChildDoesIts : List Mark → Path → Deed → Type 0
ChildDoesIts ms q (DidCreate t n) = DoesIts (deeds_at q ms) t
ChildDoesIts ms q _ = Unit {0}

-- the path of the child that the task at a path makes after k others
abbrev pub child_path : Path → ℕ → Path
child_path p k = p ++ k ∷ []

-- the task of `main`
abbrev pub root_task : AbstractProgram → List ℤ → ℕ → Task
root_task p ns limit = record { spec = root_spec p; course = root_course p ns limit }

-- each task of the serial run by turn lists says by itself what it does there, when its reads are answered as there
pub record TalkFollowsSerial (p : AbstractProgram) (ns : List ℤ) (limit : ℕ) (turns : ℕ → List Path) : Type 0 where
  pub root : DoesIts (deeds_at (0 ∷ []) (marks_by p ns limit turns)) (root_task p ns limit)
  pub children : Every (λ m. ChildDoesIts (marks_by p ns limit turns) (child_path m.path m.children) m.deed) (marks_by p ns limit turns)

-- a deed that creates no task that commutes
abbrev pub CreatesPlain : Deed → Type 0
CreatesPlain (DidCreate t n) = commuting_on t.spec ≡ None
CreatesPlain (DidTurn o) = Unit {0}
CreatesPlain (DidRead o c v) = Unit {0}
CreatesPlain (DidWrite o c v) = Unit {0}
CreatesPlain (DidEnd b n) = Unit {0}

-- a run by turn lists in which no task that commutes is created
pub record NoneCommutes (p : AbstractProgram) (ns : List ℤ) (limit : ℕ) (turns : ℕ → List Path) : Type 0 where
  pub each : Every (λ m. CreatesPlain m.deed) (marks_by p ns limit turns)

-- a run by turn lists that is the plain serial run, in which no task takes a turn
pub record RunsPlainly (p : AbstractProgram) (ns : List ℤ) (limit : ℕ) (turns : ℕ → List Path) : Type 0 where
  pub marks : marks_by p ns limit turns ≡ serial_run p ns limit
  pub none : (o : ℕ) → fill p ns limit turns o ≡ []

-- the contents after a run by turn lists are those after its writes
pub record ContentsFollow (p : AbstractProgram) (ns : List ℤ) (limit : ℕ) (turns : ℕ → List Path) : Type 0 where
  pub same : store_by p ns limit turns ≡ after (marks_by p ns limit turns) (zeros (sizes p.items))

-- with more answers: the same events, or more from the read that had none
pub data Extends : List Event → List Event → Type 0 where
  same_events : {es : List Event} → Extends es es
  answered : {o c : ℕ} {es : List Event} → (v : ℤ) → Extends (Wants o c ∷ []) (TouchRead o c v ∷ es)
  one_more : {e : Event} {es fs : List Event} → Extends es fs → Extends (e ∷ es) (e ∷ fs)
