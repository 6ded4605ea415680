-- The names of items, each with what the item is, as code keeps them.
use Rattle.std.specs.Prelude.{◌≡◌, ℕ, ◌<◌, List, length, map, slice_get, Option, Some, None, MatchOption}
use Rattle.std.specs.Borrow.{Bor}
use Rattle.std.specs.Map.{lookup}
use Rattle.jade_syntax.specs.Abstract.{Name}
use Rattle.jade_syntax.specs.Numbering.{same_name}
use Rattle.name_scope.specs.Entries.{is_named}

-- a name by its bytes
abbrev pub named : {V : Type 0} → Bor (List ℕ) × V → Name × V
named p = (p.0.now, p.1)

-- this value stands at a place
pub record StandsAt {V : Type 0} (pairs : List (Bor (List ℕ) × V)) (value : Option V) (place : ℕ) : Type 0 where
  pub within : place < length pairs
  pub is : (p : Bor (List ℕ) × V) → slice_get pairs place ≡ Some p → value ≡ Some p.1

-- where the first of each name stands
pub record IsIndexed {V : Type 0} (pairs : List (Bor (List ℕ) × V)) (places : List (Bor (List ℕ) × ℕ)) : Type 0 where
  pub at : (x : Bor (List ℕ)) → let first = lookup (same_name x.now) (map named pairs) in
      MatchOption (lookup (is_named x.now) places) (first ≡ None) (StandsAt pairs first)
