-- The working copy of a specification, which is its draft.
use Rattle.std.specs.Prelude.{◌≡◌, ◌≢◌, ℕ, ◌<◌, ◌≤◌, ◌==◌, nat_le, not, ◌&&◌, List, [], ◌∷◌, Option, Some, None, if◌then◌else◌}
use Rattle.jade_base.specs.declared.place.ObjectId.{ObjectId}
use Rattle.jade_base.specs.declared.rights.Rights.{Rights}
use Rattle.jade_base.specs.Rights.{no_rights, same_rights}
use Rattle.jade_base.specs.Specification.{Specification, rights_in}

-- the rights on an object in the copy, which are none where it has no entry
abbrev pub copied_in : List (ObjectId × Rights) → List Rights → ObjectId → Rights
copied_in [] ds o = no_rights
copied_in (e ∷ es) [] o = no_rights
copied_in (e ∷ es) (d ∷ ds) o = if e.0.0 == o.0 then d else copied_in es ds o

-- the rights on an object in the copy of a specification
abbrev pub copied : Specification → ObjectId → Rights
copied s o = copied_in s.entries s.draft o

-- the copy with other rights on one object
abbrev pub rewritten : List (ObjectId × Rights) → List Rights → ObjectId → Rights → List Rights
rewritten [] ds o r = ds
rewritten (e ∷ es) [] o r = []
rewritten (e ∷ es) (d ∷ ds) o r = if e.0.0 == o.0 then r ∷ ds else d ∷ rewritten es ds o r

-- a specification whose copy has these rights on one object
abbrev pub with_copied : Specification → ObjectId → Rights → Specification
with_copied s o r = record s { draft = rewritten s.entries s.draft o r }

-- the first object, from this number on, whose rights in the copy differ from those it has, with those of the copy
abbrev pub next_changed : List (ObjectId × Rights) → List Rights → ObjectId → Option (ObjectId × Rights)
next_changed [] ds from = None
next_changed (e ∷ es) [] from = None
next_changed (e ∷ es) (d ∷ ds) from =
    if nat_le from.0 e.0.0 && not (same_rights d e.1) then Some (e.0, d) else next_changed es ds from

-- these are the copy's rights on the object, and differ from those it has
pub record IsChange (s : Specification) (o : ObjectId) (r : Rights) : Type 0 where
  pub copy : copied s o ≡ r
  pub differs : rights_in s.entries o ≢ r

-- between two numbers, the upper one left out, the copy has the same rights as there were
abbrev pub IsSameBetween : Specification → ℕ → ℕ → Type 0
IsSameBetween s from to = (o : ObjectId) → from ≤ o.0 → o.0 < to → copied s o ≡ rights_in s.entries o

-- from this number on the copy has the same rights as there were
abbrev pub IsSameFrom : Specification → ℕ → Type 0
IsSameFrom s from = (o : ObjectId) → from ≤ o.0 → copied s o ≡ rights_in s.entries o
