-- A search among the entries of a specification for what has to do with a commuting right.
use Rattle.std.specs.Prelude.{ℕ, not, Bool, List, map}
use Rattle.jade_base.specs.declared.place.ObjectId.{ObjectId}
use Rattle.jade_base.specs.declared.rights.Rights.{Rights}
use Rattle.jade_base.specs.Rights.{is_there}
use Rattle.jade_meaning.specs.Specification.{fits_commuting, rights_on}
use Rattle.jade_meaning.specs.Spread.{spread}
use Rattle.task_machine.specs.steps.Searching.{Tested}

-- the entries of a specification as the objects that they are of
abbrev pub objects_of : List (ObjectId × Rights) → List ObjectId
objects_of es = map (λ x. x.0) es

-- a task commutes on an object
abbrev pub commutes_at : (objects : ℕ) → List (ObjectId × Rights) → ℕ → Bool
commutes_at n es o = is_there (rights_on (spread n es) o).commutes

-- a task that commutes on one object may not have the rights on another
abbrev pub misfits_at : (own objects : ℕ) → List (ObjectId × Rights) → ℕ → Bool
misfits_at own n es o = not (fits_commuting own o (rights_on (spread n es) o))

-- none of the first of them commutes, or none misfits
abbrev pub NoneCommutes : (objects : ℕ) → List (ObjectId × Rights) → (place : ℕ) → Type 0
NoneCommutes n es p = Tested (commutes_at n es) (objects_of es) p

abbrev pub NoneMisfits : (own objects : ℕ) → List (ObjectId × Rights) → (place : ℕ) → Type 0
NoneMisfits own n es p = Tested (misfits_at own n es) (objects_of es) p
