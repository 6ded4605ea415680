-- What a task goes on to do, cut before its next deed: the events that come first, and the course that begins with the deed.
use Rattle.std.specs.Prelude.{ℕ, suc, List, [], ◌∷◌, ◌++◌, ℤ}
use Rattle.jade_meaning.specs.Specification.{Specification}
use Rattle.jade_meaning.specs.Course.{Course, Reads, Writes, Steps, Creates, Changes, Ends}
use Rattle.jade_meaning.specs.Talk.{Event, Enroll, TouchRead, TouchWrite, Wants, Resign, Holds, events}
use Rattle.jade_meaning.specs.Talk.{first_take, touched, creation_gives, enters, kept, change_gives, shifts, change_takes, changed, end_gives, end_leaves}

-- the events before the next read, write, creation or end, and the course that begins with it; `plan` are the holds once these
-- events are done, and `steps` those that the task has begun in its part
pub record Doing : Type 0 where
  pub pending : List Event
  pub spec : Specification
  pub plan : Holds
  pub steps : ℕ
  pub course : Course

-- with more events before
abbrev pub preceded : List Event → Doing → Doing
preceded es d = record d { pending = es ++ d.pending }

-- a course up to its next deed, from a specification and holds, with n steps of its part begun
abbrev pub opened : Course → Specification → Holds → ℕ → Doing
opened (Reads o c on) spec h n =
    record { pending = first_take spec h o; spec = spec; plan = touched spec h o; steps = n; course = Reads o c on }
opened (Writes o c v on) spec h n =
    record { pending = first_take spec h o; spec = spec; plan = touched spec h o; steps = n; course = Writes o c v on }
opened (Steps on) spec h n = opened on spec h (suc n)
opened (Creates child body on) spec h n =
    record { pending = creation_gives child h ++ enters child; spec = spec; plan = kept child h; steps = n; course = Creates child body on }
opened (Changes new on) spec h n =
    preceded (change_gives new h ++ shifts spec new ++ change_takes spec new h) (opened on new (changed spec new h) n)
opened (Ends b) spec h n =
    record { pending = end_gives spec h ++ end_leaves spec; spec = []; plan = []; steps = n; course = Ends b }

-- the events from a deed on, whose reads are answered by the list
abbrev pub from_deed : Course → Specification → Holds → ℕ → List ℤ → List Event
from_deed (Reads o c on) spec h n [] = Wants o c ∷ []
from_deed (Reads o c on) spec h n (v ∷ vs) = TouchRead o c v ∷ events (on v) spec h n vs
from_deed (Writes o c v on) spec h n vs = TouchWrite o c v ∷ events on spec h n vs
from_deed (Creates child body on) spec h n vs = Enroll (record { spec = child; course = body }) n ∷ events on spec h 0 vs
from_deed (Ends b) spec h n vs = Resign b n ∷ []
from_deed (Steps on) spec h n vs = []
from_deed (Changes new on) spec h n vs = []

-- the events that are still to come
abbrev pub to_come : Doing → List ℤ → List Event
to_come d vs = d.pending ++ from_deed d.course d.spec d.plan d.steps vs
