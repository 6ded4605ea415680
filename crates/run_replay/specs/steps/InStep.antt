-- Which live tasks may go on where turn lists are followed.
use Rattle.std.specs.Prelude.{◌≡◌, ℕ, Bool, true, false, ◌&&◌, List, [], ◌∷◌, length, Option, Some, None, slice_get}
use Rattle.jade_base.specs.declared.rights.Mode.{Mode}
use Rattle.jade_base.specs.declared.rights.Mode.TheVariants.{Reading, Writing, Commuting}
use Rattle.jade_base.specs.Places.{same_path}
use Rattle.jade_meaning.specs.Serial.{Path}
use Rattle.jade_meaning.specs.Talk.{Event, Enter, Enroll, Take, TouchRead, TouchWrite, Wants, Give, Leave, Shift, Resign}
use Rattle.jade_meaning.specs.Walk.{upcoming}
use Rattle.object_shelf.specs.Views.{ObjectView}
use Rattle.schedule_core.specs.declared.steps.Seat.{Seat}
use Rattle.schedule_core.specs.Plain.{next_free}
use Rattle.schedule_core.specs.Soundness.{turns_of}

-- the path whose turn on an object is the next one of its list, after those that the object has had
abbrev pub next_turn : (ℕ → List Path) → List ObjectView → ℕ → Option Path
next_turn lists ss o = slice_get (lists o) (length (turns_of ss o))

abbrev pub is_path : Path → Option Path → Bool
is_path p None = false
is_path p (Some q) = same_path q p

-- an event keeps to the lists: a take for commuting does where its task's turn is the next one there
abbrev pub keeps_to : (ℕ → List Path) → List ObjectView → Path → Event → Bool
keeps_to lists ss p (Take o Commuting) = is_path p (next_turn lists ss o)
keeps_to lists ss p (Take o Reading) = true
keeps_to lists ss p (Take o Writing) = true
keeps_to lists ss p (Enter o a) = true
keeps_to lists ss p (Enroll t n) = true
keeps_to lists ss p (TouchRead o c v) = true
keeps_to lists ss p (TouchWrite o c v) = true
keeps_to lists ss p (Wants o c) = true
keeps_to lists ss p (Give o) = true
keeps_to lists ss p (Leave o) = true
keeps_to lists ss p (Shift o a) = true
keeps_to lists ss p (Resign b n) = true

-- so does the first of some events
abbrev pub first_keeps : (ℕ → List Path) → List ObjectView → Path → List Event → Bool
first_keeps lists ss p [] = false
first_keeps lists ss p (e ∷ es) = keeps_to lists ss p e

-- a live task is in step with the lists: its next event is allowed and keeps to them
abbrev pub in_step : (ℕ → List Path) → List ObjectView → Seat → Bool
in_step lists ss s = next_free ss s && first_keeps lists ss s.path (upcoming s.walker)

-- there is a live task, and it is
abbrev pub in_step_at : (ℕ → List Path) → List ObjectView → Option Seat → Bool
in_step_at lists ss None = false
in_step_at lists ss (Some s) = in_step lists ss s
