-- The events of one task, whose reads are answered by a list.
use Rattle.std.specs.Prelude.{ℕ, suc, Bool, true, false, not, ◌&&◌, ◌||◌, List, [], ◌∷◌, ◌++◌, map, Option, Some, None, is_none, is_some, ℤ, slice_index_or, nat_eq}
use Rattle.std.specs.Prelude.{slice_set, if◌then◌else◌}
use Rattle.std.specs.List.{flat_map}
use Rattle.jade_base.specs.declared.report.Blame.{Blame}
use Rattle.jade_base.specs.declared.rights.Rights.{Rights}
use Rattle.jade_base.specs.declared.rights.Mode.{Mode}
use Rattle.jade_base.specs.Rights.{is_immediate, has_rights, same_rights, mode_of}
use Rattle.jade_meaning.specs.Specification.{Specification, rights_on, objects, yields, same_hold, commuting_on}
use Rattle.jade_meaning.specs.Course.{Course, Reads, Writes, Steps, Creates, Changes, Ends}

-- a task: what it may touch, and what it does
pub record Task : Type 0 where
  pub spec : Specification
  pub course : Course

-- what a task tells of itself
pub data Event : Type 0 where
  Enter : ℕ → Rights → Event
  Enroll : Task → (steps : ℕ) → Event
  Take : ℕ → Mode → Event
  TouchRead : (object cell : ℕ) → ℤ → Event
  TouchWrite : (object cell : ℕ) → ℤ → Event
  -- a read that has no answer yet
  Wants : (object cell : ℕ) → Event
  Give : ℕ → Event
  Leave : ℕ → Event
  Shift : ℕ → Rights → Event
  Resign : Option Blame → (steps : ℕ) → Event

-- the mode in which each object is held, if it is
abbrev pub Holds : Type 0
Holds = List (Option Mode)

-- the hold on one object
abbrev pub held : Holds → ℕ → Option Mode
held h o = slice_index_or h o None

-- the event, where the test says so
abbrev pub when : Bool → Event → List Event
when true e = e ∷ []
when false e = []

-- an object is taken in a mode, where there is one
abbrev pub take_in : Option Mode → ℕ → List Event
take_in None o = []
take_in (Some m) o = Take o m ∷ []

-- an object that is not held is taken before it is touched
abbrev pub first_take : Specification → Holds → ℕ → List Event
first_take spec h o = if is_none (held h o) then take_in (mode_of (rights_on spec o)) o else []

-- the holds once an object is touched
abbrev pub touched : Specification → Holds → ℕ → Holds
touched spec h o = slice_set h o (mode_of (rights_on spec o))

-- the holds of a task that begins
abbrev pub start_holds : Specification → Holds
start_holds spec = map mode_of spec

-- these objects but one
abbrev pub without : ℕ → List ℕ → List ℕ
without o [] = []
without o (x ∷ xs) = if nat_eq o x then without o xs else x ∷ without o xs

-- these objects, with the one on which the task commutes, if it does, last
abbrev pub own_last : Option ℕ → List ℕ → List ℕ
own_last None os = os
own_last (Some o) os = without o os ++ o ∷ []

-- what a task takes when it begins: ascending, but the object on which it commutes last, so that it waits for nothing while it holds that one
abbrev pub start_takes : Specification → List Event
start_takes spec = flat_map (λ o. take_in (mode_of (rights_on spec o)) o) (own_last (commuting_on spec) (objects spec))

-- what is given up for a child
abbrev pub creation_gives : Specification → Holds → List Event
creation_gives child h = flat_map (λ o. when (yields (held h o) (rights_on child o)) (Give o)) (objects child)

-- the entries of a child, on each object that it has rights on
abbrev pub enters : Specification → List Event
enters child = flat_map (λ o. when (has_rights (rights_on child o)) (Enter o (rights_on child o))) (objects child)

-- the holds once a child is made
abbrev pub kept : Specification → Holds → Holds
kept child h = map (λ o. if yields (held h o) (rights_on child o) then None else held h o) (objects child)

-- at `cont`, a hold in a mode that the new rights do not have is given up
abbrev pub given_back : Specification → Holds → ℕ → Bool
given_back new h o = is_some (held h o) && not (same_hold (held h o) (mode_of (rights_on new o)))

-- what is given up at `cont`
abbrev pub change_gives : Specification → Holds → List Event
change_gives new h = flat_map (λ o. when (given_back new h o) (Give o)) (objects new)

-- the entry on an object follows its rights
abbrev pub shift : Rights → Rights → ℕ → List Event
shift old new o =
    if same_rights old new then [] else (if has_rights new then Shift o new ∷ [] else Leave o ∷ [])

-- the entries follow the rights, object by object
abbrev pub shifts : Specification → Specification → List Event
shifts old new = flat_map (λ o. shift (rights_on old o) (rights_on new o) o) (objects new)

-- a right that is immediate from now on
abbrev pub made_immediate : Rights → Rights → Bool
made_immediate old new = (is_immediate new.reads && not (is_immediate old.reads)) || (is_immediate new.writes && not (is_immediate old.writes))

-- an object that is taken at `cont`
abbrev pub taken_anew : Specification → Specification → Holds → ℕ → Bool
taken_anew old new h o = given_back new h o || (is_none (held h o) && made_immediate (rights_on old o) (rights_on new o))

-- what is taken at `cont`
abbrev pub change_takes : Specification → Specification → Holds → List Event
change_takes old new h =
    flat_map (λ o. if taken_anew old new h o then take_in (mode_of (rights_on new o)) o else []) (objects new)

-- the holds after `cont`
abbrev pub changed : Specification → Specification → Holds → Holds
changed old new h =
    map (λ o. if taken_anew old new h o then mode_of (rights_on new o) else held h o) (objects new)

-- what is given up at the end
abbrev pub end_gives : Specification → Holds → List Event
end_gives spec h = flat_map (λ o. when (is_some (held h o)) (Give o)) (objects spec)

-- the entries that end with the task
abbrev pub end_leaves : Specification → List Event
end_leaves spec = flat_map (λ o. when (has_rights (rights_on spec o)) (Leave o)) (objects spec)

-- the events of a course, from a specification and holds, with n steps of its part begun
abbrev pub events : Course → Specification → Holds → ℕ → List ℤ → List Event
events (Reads o c on) spec h n [] = first_take spec h o ++ Wants o c ∷ []
events (Reads o c on) spec h n (v ∷ vs) = first_take spec h o ++ TouchRead o c v ∷ events (on v) spec (touched spec h o) n vs
events (Writes o c v on) spec h n vs = first_take spec h o ++ TouchWrite o c v ∷ events on spec (touched spec h o) n vs
events (Steps on) spec h n vs = events on spec h (suc n) vs
events (Creates child body on) spec h n vs =
    creation_gives child h ++ enters child ++ Enroll (record { spec = child; course = body }) n ∷ events on spec (kept child h) 0 vs
events (Changes new on) spec h n vs =
    change_gives new h ++ shifts spec new ++ change_takes spec new h ++ events on new (changed spec new h) n vs
events (Ends blame) spec h n vs = end_gives spec h ++ end_leaves spec ++ Resign blame n ∷ []

-- all events of a task, whose reads are answered by the list
abbrev pub talk : Task → List ℤ → List Event
talk t answers = start_takes t.spec ++ events t.course t.spec (start_holds t.spec) 0 answers
