-- What a task that is walked does with its next event.
use Rattle.std.specs.Prelude.{ℤ, Bool, true, false, List, [], ◌∷◌, Option, is_some, is_none}
use Rattle.jade_meaning.specs.declared.configuration.Stage.{Stage}
use Rattle.jade_meaning.specs.declared.configuration.Stage.TheVariants.{Going, Asking, Over}
use Rattle.jade_meaning.specs.declared.holds.PendingEvent.{PendingEvent}
use Rattle.jade_meaning.specs.declared.holds.PendingEvent.TheVariants as pending_event
use Rattle.jade_meaning.specs.declared.walker.Carried.{Carried}
use Rattle.jade_meaning.specs.declared.walker.Carried.TheVariants as carried

-- whether a task may go past an event that carries this, with this value
abbrev pub goes_with : Carried → Option ℤ → Bool
goes_with (carried.Read o c) v = is_some v
goes_with (carried.Ended b n) v = false
goes_with carried.Nothing v = is_none v
goes_with (carried.Rights a) v = is_none v
goes_with (carried.Mode m) v = is_none v
goes_with (carried.Write o c z) v = is_none v
goes_with (carried.Steps n) v = is_none v

-- what the read that is asked for carries
abbrev pub read_of : Stage → Carried
read_of (Asking o c) = carried.Read o c
read_of Going = carried.Nothing
read_of Over = carried.Nothing

-- whether an event of code is a creation
abbrev pub enrolls : PendingEvent → Bool
enrolls (pending_event.Enroll n) = true
enrolls (pending_event.Enter o a) = false
enrolls (pending_event.Take o m) = false
enrolls (pending_event.Write o c v) = false
enrolls (pending_event.Give o) = false
enrolls (pending_event.Leave o) = false
enrolls (pending_event.Shift o a) = false
enrolls (pending_event.Resign b n) = false

-- whether the first is one
abbrev pub creates : List PendingEvent → Bool
creates [] = false
creates (e ∷ es) = enrolls e
