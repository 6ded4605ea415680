-- What a task may touch: its rights on each object.
use Rattle.std.specs.Prelude.{ℕ, zero, suc, Bool, true, false, not, ◌&&◌, List, [], ◌∷◌, length, slice_index_or, Option, Some, None, is_some, nat_eq, if◌then◌else◌}
use Rattle.jade_base.specs.declared.rights.Right.TheVariants.{Deferred}
use Rattle.jade_base.specs.declared.rights.Rights.{Rights}
use Rattle.jade_base.specs.declared.rights.Mode.{Mode}
use Rattle.jade_base.specs.declared.rights.Mode.TheVariants.{Reading, Writing, Commuting}
use Rattle.jade_base.specs.Rights.{no_rights, is_immediate, is_there, same_right, covered, gives_way}

-- the rights on each object, by its number
abbrev pub Specification : Type 0
Specification = List Rights

-- the rights on one object
abbrev pub rights_on : Specification → ℕ → Rights
rights_on spec o = slice_index_or spec o no_rights

-- the numbers from o on, n of them
abbrev pub numbers : (o n : ℕ) → List ℕ
numbers o zero = []
numbers o (suc n) = o ∷ numbers (suc o) n

-- the objects of which a specification tells, ascending
abbrev pub objects : Specification → List ℕ
objects spec = numbers 0 (length spec)

-- these rights, on as many objects as another specification tells of
abbrev pub fitted : Specification → Specification → Specification
fitted [] spec = []
fitted (a ∷ base) [] = no_rights ∷ fitted base []
fitted (a ∷ base) (b ∷ spec) = b ∷ fitted base spec

-- the parent's rights cover the child's on each of these objects
abbrev pub all_covered : Specification → Specification → List ℕ → Bool
all_covered parent child [] = true
all_covered parent child (o ∷ os) = covered (rights_on parent o) (rights_on child o) && all_covered parent child os

-- the parent's rights cover the child's
abbrev pub covers : Specification → Specification → Bool
covers parent child = all_covered parent child (objects child)

-- the first of these objects with a commuting right
abbrev pub commuting_among : Specification → List ℕ → Option ℕ
commuting_among spec [] = None
commuting_among spec (o ∷ os) = if is_there (rights_on spec o).commutes then Some o else commuting_among spec os

-- the object on which a task commutes, if it does
abbrev pub commuting_on : Specification → Option ℕ
commuting_on spec = commuting_among spec (objects spec)

-- a task commutes on some object
abbrev pub is_commuting : Specification → Bool
is_commuting spec = is_some (commuting_on spec)

-- what a task that commutes on an object may have on an object: the commuting right alone on its own, and an immediate read, if any, of another
abbrev pub fits_commuting : (own o : ℕ) → Rights → Bool
fits_commuting own o a =
    if nat_eq own o then not (is_there a.reads) && not (is_there a.writes) && is_immediate a.commutes
    else (not (same_right a.reads Deferred) && not (is_there a.writes) && not (is_there a.commutes))

-- the rights on each of these objects are what a task that commutes on an object may have
abbrev pub all_fit : (own : ℕ) → Specification → List ℕ → Bool
all_fit own spec [] = true
all_fit own spec (o ∷ os) = fits_commuting own o (rights_on spec o) && all_fit own spec os

-- what a task that commutes on this object, if on any, may have
abbrev pub allows_commuting : Option ℕ → Specification → Bool
allows_commuting None spec = true
allows_commuting (Some own) spec = all_fit own spec (objects spec)

-- a specification is one that a task may have: without a commuting right, or with one and nothing else but immediate reads of other objects
abbrev pub may_commute : Specification → Bool
may_commute spec = allows_commuting (commuting_on spec) spec

-- a hold, if there is one, is given up for a child with these rights
abbrev pub yields : Option Mode → Rights → Bool
yields None child = false
yields (Some m) child = gives_way m child

-- the same hold, or none twice
abbrev pub same_hold : Option Mode → Option Mode → Bool
same_hold None None = true
same_hold (Some Reading) (Some Reading) = true
same_hold (Some Writing) (Some Writing) = true
same_hold (Some Commuting) (Some Commuting) = true
same_hold _ _ = false
