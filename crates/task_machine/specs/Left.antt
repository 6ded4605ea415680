-- What is left of a task's talk while it takes what is due, and gives up what it has to.
use Rattle.std.specs.Prelude.{◌≡◌, ℕ, ◌<◌, Bool, true, false, ◌||◌, nat_eq, List, [], ◌∷◌, ◌++◌, length, map, Option, Some, None, is_some, ℤ, slice_set}
use Rattle.std.specs.Prelude.{if◌then◌else◌}
use Rattle.std.specs.List.{flat_map}
use Rattle.jade_base.specs.declared.report.Blame.{Blame}
use Rattle.jade_base.specs.declared.rights.Mode.{Mode}
use Rattle.jade_base.specs.Rights.{mode_of}
use Rattle.jade_meaning.specs.Specification.{Specification, rights_on, objects, yields, commuting_on}
use Rattle.jade_meaning.specs.Course.{Course, Reads, Writes, Steps, Creates, Changes, Ends}
use Rattle.jade_meaning.specs.Talk.{Task, Event, Enroll, Take, Give, Resign, Holds, held, take_in, enters, shifts, end_leaves, given_back, taken_anew, own_last}
use Rattle.jade_meaning.specs.Talk.{change_gives, events, talk}

-- which objects are still to be taken
abbrev pub Due : Type 0
Due = ℕ → Bool

-- what is due is taken, in the modes of these rights
abbrev pub takes : Due → Specification → List Event
takes due spec = flat_map (λ o. if due o then take_in (mode_of (rights_on spec o)) o else []) (objects spec)

-- the holds once it is taken
abbrev pub planned : Due → Specification → Holds → Holds
planned due spec h = map (λ o. if due o then mode_of (rights_on spec o) else held h o) (objects spec)

-- what is left where so much is due: it is taken, and then the course is told
abbrev pub left_to_tell : Due → Course → Specification → Holds → (steps : ℕ) → List ℤ → List Event
left_to_tell due c spec h n vs = takes due spec ++ events c spec (planned due spec h) n vs

-- the same, with the object on which the task commutes last
abbrev pub takes_first : Due → Specification → List Event
takes_first due spec =
    flat_map (λ o. if due o then take_in (mode_of (rights_on spec o)) o else []) (own_last (commuting_on spec) (objects spec))

-- what is left where a task begins and so much is due
abbrev pub left_to_start : Due → Course → Specification → Holds → (steps : ℕ) → List ℤ → List Event
left_to_start due c spec h n vs = takes_first due spec ++ events c spec (planned due spec h) n vs

-- this is the object on which a task commutes, if it does
abbrev pub is_own : Option ℕ → ℕ → Bool
is_own None j = false
is_own (Some o) j = nat_eq o j

-- what is due but that object
abbrev pub others : Option ℕ → Due → Due
others own due j = if is_own own j then false else due j

-- what is due once the rights have changed
abbrev pub due_anew : Due → (old new : Specification) → Holds → Due
due_anew due old new h o = due o || taken_anew old new h o

-- what is left where the rights are to change, to `new`, and so much that was given up is due
abbrev pub left_to_change : Due → (new : Specification) → (on : Course) → (old : Specification) → Holds → (steps : ℕ) → List ℤ → List Event
left_to_change due new on old h n vs = change_gives new h ++ shifts old new ++ left_to_tell (due_anew due old new h) on new h n vs

-- nothing is due
abbrev pub no_due : Due
no_due o = false

-- what is due but one object, and what is due and one object more
abbrev pub but : ℕ → Due → Due
but o due j = if nat_eq j o then false else due j

abbrev pub and_also : ℕ → Due → Due
and_also o due j = if nat_eq j o then true else due j

-- no hold on any object
abbrev pub no_holds : Specification → Holds
no_holds spec = map (λ a. None) spec

-- a hold for each object of a specification
abbrev pub IsFull : Specification → Holds → Type 0
IsFull spec h = length h ≡ length spec

-- there is a mode for the object
abbrev pub has_mode : Specification → ℕ → Bool
has_mode spec o = is_some (mode_of (rights_on spec o))

-- where everything is due that there is a mode for, a task begins
abbrev pub BeginsDue : Due → Task → Type 0
BeginsDue due t =
    ((o : ℕ) → has_mode t.spec o ≡ true → due o ≡ true)
    → (vs : List ℤ) → talk t vs ≡ left_to_start due t.course t.spec (no_holds t.spec) 0 vs

-- this is the least object for which the test holds
pub record IsLeast (test : ℕ → Bool) (n o : ℕ) : Type 0 where
  pub within : o < n
  pub here : test o ≡ true
  pub before : (j : ℕ) → j < o → test j ≡ false

-- there is none
abbrev pub IsNone : (ℕ → Bool) → ℕ → Type 0
IsNone test n = (j : ℕ) → j < n → test j ≡ false

-- the object is due, and there is a mode for it
abbrev pub to_take : Due → Specification → ℕ → Bool
to_take due spec o = if due o then has_mode spec o else false

-- the least object that is due is taken first
abbrev pub TakesLeast : Due → Course → Specification → Holds → (steps : ℕ) → (o : ℕ) → Mode → Type 0
TakesLeast due c spec h n o m =
    IsFull spec h → IsLeast (to_take due spec) (length spec) o → mode_of (rights_on spec o) ≡ Some m
    → (vs : List ℤ) → left_to_tell due c spec h n vs ≡ Take o m ∷ left_to_tell (but o due) c spec (slice_set h o (Some m)) n vs

-- where nothing is left to take, the course is told
abbrev pub TellsOn : Due → Course → Specification → Holds → (steps : ℕ) → Type 0
TellsOn due c spec h n =
    IsFull spec h → IsNone (to_take due spec) (length spec) → ((o : ℕ) → due o ≡ true → held h o ≡ None)
    → (vs : List ℤ) → left_to_tell due c spec h n vs ≡ events c spec h n vs

-- where a task begins, the least object that is due is taken first, of those on which it does not commute
abbrev pub StartsLeast : Due → Course → Specification → Holds → (steps : ℕ) → (o : ℕ) → Mode → Type 0
StartsLeast due c spec h n o m =
    IsFull spec h → IsLeast (to_take (others (commuting_on spec) due) spec) (length spec) o → mode_of (rights_on spec o) ≡ Some m
    → (vs : List ℤ) → left_to_start due c spec h n vs ≡ Take o m ∷ left_to_start (but o due) c spec (slice_set h o (Some m)) n vs

-- where none of those is left to take, the object on which it commutes is
abbrev pub StartsOwn : Due → Course → Specification → Holds → (steps : ℕ) → (o : ℕ) → Mode → Type 0
StartsOwn due c spec h n o m =
    IsFull spec h → IsNone (to_take (others (commuting_on spec) due) spec) (length spec) → commuting_on spec ≡ Some o → due o ≡ true
    → o < length spec → mode_of (rights_on spec o) ≡ Some m
    → (vs : List ℤ) → left_to_start due c spec h n vs ≡ Take o m ∷ left_to_start (but o due) c spec (slice_set h o (Some m)) n vs

-- where nothing is left to take at the begin, the course is told
abbrev pub StartsOn : Due → Course → Specification → Holds → (steps : ℕ) → Type 0
StartsOn due c spec h n =
    IsFull spec h → ((o : ℕ) → to_take due spec o ≡ false) → ((o : ℕ) → due o ≡ true → held h o ≡ None)
    → (vs : List ℤ) → left_to_start due c spec h n vs ≡ events c spec h n vs

-- the next touch is of this object
abbrev pub Touches : ℕ → Course → Type 0
Touches o (Reads p c on) = o ≡ p
Touches o (Writes p c v on) = o ≡ p
Touches o (Steps on) = ⊥
Touches o (Creates spec body on) = ⊥
Touches o (Changes spec on) = ⊥
Touches o (Ends b) = ⊥

-- an object that is touched and not held is taken first
abbrev pub TakesTouched : Course → Specification → Holds → (steps : ℕ) → (o : ℕ) → Mode → Type 0
TakesTouched c spec h n o m =
    Touches o c → o < length h → held h o ≡ None → mode_of (rights_on spec o) ≡ Some m
    → (vs : List ℤ) → events c spec h n vs ≡ Take o m ∷ events c spec (slice_set h o (Some m)) n vs

-- what is given up for a child
abbrev pub for_child : Specification → Holds → ℕ → Bool
for_child made h o = yields (held h o) (rights_on made o)

abbrev pub GivesForChild : Specification → (body on : Course) → Specification → Holds → (steps : ℕ) → (o : ℕ) → Type 0
GivesForChild made body on spec h n o =
    IsLeast (for_child made h) (length made) o
    → (vs : List ℤ) → events (Creates made body on) spec h n vs ≡ Give o ∷ events (Creates made body on) spec (slice_set h o None) n vs

-- where nothing is to be given up, the child enters
abbrev pub Enters : Specification → (body on : Course) → Specification → Holds → (steps : ℕ) → Type 0
Enters made body on spec h n =
    length made ≡ length h → IsNone (for_child made h) (length made)
    → (vs : List ℤ) → events (Creates made body on) spec h n vs ≡ enters made ++ Enroll (record { spec = made; course = body }) n ∷ events on spec h 0 vs

-- where the rights are to change, nothing is due at first
abbrev pub ChangesFirst : Specification → Course → Specification → Holds → (steps : ℕ) → Type 0
ChangesFirst new on old h n = (vs : List ℤ) → events (Changes new on) old h n vs ≡ left_to_change no_due new on old h n vs

-- what is given up for a change is due after it
abbrev pub GivesForChange : Due → Specification → Course → Specification → Holds → (steps : ℕ) → (o : ℕ) → Type 0
GivesForChange due new on old h n o =
    IsLeast (given_back new h) (length new) o
    → (vs : List ℤ) → left_to_change due new on old h n vs ≡ Give o ∷ left_to_change (and_also o due) new on old (slice_set h o None) n vs

-- where nothing is to be given up, the entries follow the rights
abbrev pub Shifts : Due → Specification → Course → Specification → Holds → (steps : ℕ) → Type 0
Shifts due new on old h n =
    IsNone (given_back new h) (length new)
    → (vs : List ℤ) → left_to_change due new on old h n vs ≡ shifts old new ++ left_to_tell (due_anew due old new h) on new h n vs

-- what is held
abbrev pub is_held : Holds → ℕ → Bool
is_held h o = is_some (held h o)

-- what is held is given up at the end
abbrev pub GivesAtEnd : Option Blame → Specification → Holds → (steps : ℕ) → (o : ℕ) → Type 0
GivesAtEnd b spec h n o =
    IsLeast (is_held h) (length spec) o
    → (vs : List ℤ) → events (Ends b) spec h n vs ≡ Give o ∷ events (Ends b) spec (slice_set h o None) n vs

-- where nothing is held, the task leaves
abbrev pub Resigns : Option Blame → Specification → Holds → (steps : ℕ) → Type 0
Resigns b spec h n = IsNone (is_held h) (length spec) → (vs : List ℤ) → events (Ends b) spec h n vs ≡ end_leaves spec ++ Resign b n ∷ []
