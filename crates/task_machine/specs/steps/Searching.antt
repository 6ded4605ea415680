-- Objects among which one is looked for.
use Rattle.std.specs.Prelude.{◌≡◌, ℕ, ◌<◌, ◌≤◌, ◌==◌, Bool, true, false, List, [], ◌∷◌, length, Some, slice_get, if◌then◌else◌}
use Rattle.jade_base.specs.declared.place.ObjectId.{ObjectId}

-- each object is above a number
abbrev pub ObjectsAbove : ℕ → List ObjectId → Type 0
ObjectsAbove n [] = Unit {0}
ObjectsAbove n (x ∷ xs) = (n < x.0) × ObjectsAbove n xs

-- their numbers ascend strictly
abbrev pub ObjectsAscend : List ObjectId → Type 0
ObjectsAscend [] = Unit {0}
ObjectsAscend (x ∷ xs) = ObjectsAbove x.0 xs × ObjectsAscend xs

-- an object is among them
abbrev pub has_object : ℕ → List ObjectId → Bool
has_object o [] = false
has_object o (x ∷ xs) = if x.0 == o then true else has_object o xs

-- the test fails for each of the first of them
abbrev pub Tested : (ℕ → Bool) → List ObjectId → ℕ → Type 0
Tested test xs n = (i : ℕ) (x : ObjectId) → i < n → slice_get xs i ≡ Some x → test x.0 ≡ false

-- each object at a place below this one is below a number, and each from the place on is not
abbrev pub ObjectsBelow : (from place : ℕ) → List ObjectId → Type 0
ObjectsBelow from place xs = (k : ℕ) (x : ObjectId) → k < place → slice_get xs k ≡ Some x → x.0 < from

abbrev pub ObjectsFrom : (from place : ℕ) → List ObjectId → Type 0
ObjectsFrom from place xs = (k : ℕ) (x : ObjectId) → place ≤ k → slice_get xs k ≡ Some x → from ≤ x.0

-- the objects from a number on begin at this place
pub record IsFirstFrom (from place : ℕ) (xs : List ObjectId) : Type 0 where
  pub within : place ≤ length xs
  pub below : ObjectsBelow from place xs
  pub above : ObjectsFrom from place xs

-- a search for the first of them by halves has come so far: the place lies between these two
pub record ObjectsHalved (from low high : ℕ) (xs : List ObjectId) : Type 0 where
  pub order : low ≤ high
  pub within : high ≤ length xs
  pub below : ObjectsBelow from low xs
  pub above : ObjectsFrom from high xs
