-- A sound state without places: each place is what the tasks before it leave, and what the task itself has or would be given.
use Rattle.std.specs.Prelude.{◌≡◌, ℕ, length, List, [], ◌++◌, map, ℤ, true, ◌≤◌, ◌<◌}
use Rattle.jade_meaning.specs.Specification.{numbers}
use Rattle.jade_base.specs.Rights.{has_rights}
use Rattle.jade_syntax.specs.Abstract.{AbstractProgram}
use Rattle.jade_syntax.specs.Objects.{sizes}
use Rattle.jade_meaning.specs.Serial.{Path, Store, Mark, marks_at, zeros}
use Rattle.jade_meaning.specs.Turns.{World, turns_on, marks_by}
use Rattle.jade_meaning.specs.Serial.{at_object}
use Rattle.schedule_core.specs.Core.{Cells, Live, State, Bare}
use Rattle.jade_meaning.specs.Laws.{Every}
use Rattle.schedule_core.specs.Sound.{Pairs, Apart, Before, Fresh, Fit, works_on, worked}
use Rattle.schedule_core.specs.Onwards.{onwards_all}

abbrev pub world_of : ℕ → (ℕ → Cells) → World
world_of size f = record { store = map f (numbers 0 size); waiting = [] }

-- what is left of a state, the groups at the end included
abbrev pub to_come : (ℕ → List Path) → ℕ → State Bare → List Mark
to_come turns size st = (onwards_all turns (numbers 0 size) st.roll (world_of size st.contents)).marks

pub record Small (size : ℕ) (u : Live Bare) : Type 0 where
  pub spec : length u.doing.spec ≤ size
  pub rights : (o : ℕ) → has_rights (u.rights o) ≡ true → o < size

pub record Going (turns : ℕ → List Path) (size : ℕ) (serially : List Mark) (zero : Store) (st : State Bare) : Type 0 where
  pub deeds : (p : Path) → marks_at p serially ≡ marks_at p (st.log ++ to_come turns size st)
  pub works : (o : ℕ) → works_on o serially ≡ works_on o (st.log ++ to_come turns size st)
  pub contents : (o : ℕ) → st.contents o ≡ worked (works_on o st.log) (at_object zero o)
  pub small : Every (Small size) st.roll
  pub fits : Every Fit st.roll
  pub apart : Pairs Apart st.roll
  pub before : (o : ℕ) → Pairs (Before o) st.roll
  pub fresh : (o : ℕ) → Every (Fresh o (st.contents o)) st.roll

-- for all lists that extend those of the log
pub record SoundSo (p : AbstractProgram) (ns : List ℤ) (limit : ℕ) (st : State Bare) : Type 0 where
  pub by : (rest : ℕ → List Path) → Going rest (length (sizes p.items)) (marks_by p ns limit (λ o. turns_on o st.log ++ rest o)) (zeros (sizes p.items)) st
