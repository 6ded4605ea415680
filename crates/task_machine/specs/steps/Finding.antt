-- What is found among the entries of a specification.
use Rattle.std.specs.Prelude.{◌≡◌, ℕ, ◌<◌, ◌≤◌, true, false, List, Some, length, slice_get}
use Rattle.jade_base.specs.declared.place.ObjectId.{ObjectId}
use Rattle.jade_base.specs.declared.rights.Rights.{Rights}
use Rattle.jade_base.specs.Rights.{no_rights, has_rights, same_rights}
use Rattle.jade_base.specs.Specification.{Specification, rights_in}
use Rattle.access_spec.specs.Copies.{IsSameBetween, copied}

-- each entry below the place is of an object below this one
abbrev pub AreBelow : (from place : ℕ) → List (ObjectId × Rights) → Type 0
AreBelow from place es = (k : ℕ) (e : ObjectId × Rights) → k < place → slice_get es k ≡ Some e → e.0.0 < from

-- each entry from the place on is of this object or one above
abbrev pub AreFrom : (from place : ℕ) → List (ObjectId × Rights) → Type 0
AreFrom from place es = (k : ℕ) (e : ObjectId × Rights) → place ≤ k → slice_get es k ≡ Some e → from ≤ e.0.0

-- the entries from an object on begin at this place
pub record IsPlaceFrom (from place : ℕ) (es : List (ObjectId × Rights)) : Type 0 where
  pub within : place ≤ length es
  pub below : AreBelow from place es
  pub above : AreFrom from place es

-- between two numbers, the upper one left out, no object has an entry
abbrev pub IsFreeBetween : List (ObjectId × Rights) → ℕ → ℕ → Type 0
IsFreeBetween es from to = (o : ObjectId) → from ≤ o.0 → o.0 < to → rights_in es o ≡ no_rights

-- the first object from a number on, among n objects, that has an entry, with its rights
pub record IsNextEntry (es : List (ObjectId × Rights)) (from n : ℕ) (o : ObjectId) (r : Rights) : Type 0 where
  pub reached : from ≤ o.0
  pub within : o.0 < n
  pub rights : rights_in es o ≡ r
  pub some : has_rights r ≡ true
  pub free : IsFreeBetween es from o.0

-- the first object from a number on, among n objects, whose rights in the copy are not those it has, with those of the copy
pub record IsNextChange (s : Specification) (from n : ℕ) (o : ObjectId) (r : Rights) : Type 0 where
  pub reached : from ≤ o.0
  pub within : o.0 < n
  pub copy : copied s o ≡ r
  pub differs : same_rights (rights_in s.entries o) r ≡ false
  pub same : IsSameBetween s from o.0

-- the entries between two places have the same rights in the copy
abbrev pub AreSame : (from to : ℕ) → Specification → Type 0
AreSame from to s = (k : ℕ) (e : ObjectId × Rights) (d : Rights) → from ≤ k → k < to → slice_get s.entries k ≡ Some e → slice_get s.draft k ≡ Some d → e.1 ≡ d

-- a search by halves has come so far: the place lies between these two
pub record IsHalved (from low high : ℕ) (es : List (ObjectId × Rights)) : Type 0 where
  pub order : low ≤ high
  pub within : high ≤ length es
  pub below : AreBelow from low es
  pub above : AreFrom from high es
