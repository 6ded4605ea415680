-- What a task tells of what it holds, object by object.
use Rattle.std.specs.Prelude.{ℕ, Bool, not, ◌&&◌, ◌||◌, List, [], ◌∷◌, Option, Some, None, is_none, is_some, if◌then◌else◌}
use Rattle.std.specs.List.{flat_map}
use Rattle.jade_base.specs.declared.rights.Rights.{Rights}
use Rattle.jade_base.specs.declared.rights.Mode.{Mode}
use Rattle.jade_base.specs.Rights.{has_rights, mode_of}
use Rattle.jade_meaning.specs.declared.holds.PendingEvent.{PendingEvent}
use Rattle.jade_meaning.specs.declared.holds.PendingEvent.TheVariants as pending_event
use Rattle.jade_meaning.specs.declared.holds.Listing.{Listing}
use Rattle.jade_meaning.specs.declared.holds.Listing.TheVariants.{StartTakes, CreationGives, Enters, ChangeGives, Shifts, ChangeTakes, EndGives, EndLeaves}
use Rattle.jade_meaning.specs.declared.holds.Keeping.{Keeping}
use Rattle.jade_meaning.specs.declared.holds.Keeping.TheVariants.{AtStart, AtCreation, AtChange}
use Rattle.jade_meaning.specs.Specification.{Specification, rights_on, objects, yields, same_hold}
use Rattle.jade_meaning.specs.Talk.{Task, Event, Enter, Enroll, Take, TouchWrite, Give, Leave, Shift, Resign, Holds, held, when, take_in, shift, made_immediate}

-- the event that code tells, where the task that is created is this one
abbrev pub event_of : Task → PendingEvent → Event
event_of t (pending_event.Enter o a) = Enter o.0 a
event_of t (pending_event.Enroll n) = Enroll t n
event_of t (pending_event.Take o m) = Take o.0 m
event_of t (pending_event.Write o c v) = TouchWrite o.0 c v
event_of t (pending_event.Give o) = Give o.0
event_of t (pending_event.Leave o) = Leave o.0
event_of t (pending_event.Shift o a) = Shift o.0 a
event_of t (pending_event.Resign b n) = Resign b n

-- the event that was told, if one was
abbrev pub events_of : Task → Option PendingEvent → List Event
events_of t None = []
events_of t (Some e) = event_of t e ∷ []

-- an object that is taken at `cont`
abbrev pub is_taken_anew : (old new : Rights) → Option Mode → Bool
is_taken_anew old new hold =
    (is_some hold && not (same_hold hold (mode_of new))) || (is_none hold && made_immediate old new)

-- what is told of an object, where its rights were these and are those
abbrev pub listed : Listing → (old new : Rights) → Option Mode → ℕ → List Event
listed StartTakes old new hold o = take_in (mode_of new) o
listed CreationGives old new hold o = when (yields hold new) (Give o)
listed Enters old new hold o = when (has_rights new) (Enter o new)
listed ChangeGives old new hold o = when (is_some hold && not (same_hold hold (mode_of new))) (Give o)
listed Shifts old new hold o = shift old new o
listed ChangeTakes old new hold o = if is_taken_anew old new hold then take_in (mode_of new) o else []
listed EndGives old new hold o = when (is_some hold) (Give o)
listed EndLeaves old new hold o = when (has_rights new) (Leave o)

-- what is told of the objects, ascending
abbrev pub all_listed : Listing → (old new : Specification) → Holds → List Event
all_listed kind old new h = flat_map (λ o. listed kind (rights_on old o) (rights_on new o) (held h o) o) (objects new)

-- the hold on an object from here on
abbrev pub kept_as : Keeping → (old new : Rights) → Option Mode → Option Mode
kept_as AtStart old new hold = mode_of new
kept_as AtCreation old new hold = if yields hold new then None else hold
kept_as AtChange old new hold = if is_taken_anew old new hold then mode_of new else hold

-- the same of an object, by two specifications
abbrev pub kept_on : Keeping → (old new : Specification) → Holds → ℕ → Option Mode
kept_on kind old new h o = kept_as kind (rights_on old o) (rights_on new o) (held h o)
