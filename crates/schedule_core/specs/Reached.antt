-- The states that allowed events reach.
use Rattle.std.specs.Prelude.{◌≡◌, ℕ, true, List, ◌∷◌, ◌++◌, ℤ}
use Rattle.jade_syntax.specs.Abstract.{AbstractProgram}
use Rattle.jade_syntax.specs.Objects.{sizes}
use Rattle.jade_meaning.specs.Course.{root_spec, root_course}
use Rattle.jade_meaning.specs.Serial.{zeros}
use Rattle.schedule_core.specs.Core.{Live, State, Bare, starting_with, stepped_with, bare_past, permitted}

pub data Reached (p : AbstractProgram) (ns : List ℤ) (limit : ℕ) : State Bare → Type 0 where
  starts : Reached p ns limit (starting_with (record { spec = root_spec p; course = root_course p ns limit }) tt (zeros (sizes p.items)))
  steps : {st : State Bare} (b l : List (Live Bare)) (c : Live Bare) → Reached p ns limit st → st.roll ≡ b ++ (c ∷ l) → permitted b c l ≡ true → Reached p ns limit (stepped_with bare_past b c l st)
