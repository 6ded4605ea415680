-- The writes and turns on an object.
use Rattle.std.specs.Prelude.{ℕ, List, [], ◌∷◌, Option, Some, None, ℤ, slice_set, nat_eq, if◌then◌else◌}
use Rattle.std.specs.List.{filter_map}
use Rattle.jade_meaning.specs.Serial.{Path, Deed, DidTurn, DidRead, DidWrite, DidCreate, DidEnd, Mark}

-- a write, by the task at a path after so many creations, or a turn of the task at a path
pub data Work : Type 0 where
  Wrote : (path : Path) → (children cell : ℕ) → ℤ → Work
  Turned : Path → Work

-- the work that a deed is on an object
abbrev pub work_on : ℕ → Deed → Path → ℕ → Option Work
work_on o (DidWrite p c v) q k = if nat_eq p o then Some (Wrote q k c v) else None
work_on o (DidTurn p) q k = if nat_eq p o then Some (Turned q) else None
work_on o (DidRead p c v) q k = None
work_on o (DidCreate t n) q k = None
work_on o (DidEnd b n) q k = None

-- the writes and turns on an object, in their order
abbrev pub works_on : ℕ → List Mark → List Work
works_on o ms = filter_map (λ m. work_on o m.deed m.path m.children) ms

-- cells after some works
abbrev pub worked : List Work → List ℤ → List ℤ
worked [] xs = xs
worked (Wrote q k c v ∷ ws) xs = worked ws (slice_set xs c v)
worked (Turned p ∷ ws) xs = worked ws xs
