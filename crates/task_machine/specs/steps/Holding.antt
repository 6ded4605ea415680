-- The rows of a table of what is held.
use Rattle.std.specs.Prelude.{◌≡◌, ℕ, suc, ◌<◌, ◌==◌, Bool, true, false, List, [], ◌∷◌, Option, Some, None, ℤ, pos, replicate, if◌then◌else◌}
use Rattle.jade_base.specs.declared.rights.Mode.TheVariants.{Writing}
use Rattle.jade_base.specs.Held.{Held}
use Rattle.task_machine.specs.declared.holdings.Row.{Row}
pub use Rattle.task_machine.specs.Playing.{contents_of}
use Rattle.task_machine.specs.Playing.{Contents, cell_of, writable, put_in, with_cell}

-- each row is of an object above this one
abbrev pub RowsAbove : ℕ → List Row → Type 0
RowsAbove n [] = Unit {0}
RowsAbove n (r ∷ rs) = (n < r.object.0) × RowsAbove n rs

-- the numbers of the objects ascend strictly
abbrev pub RowsAscend : List Row → Type 0
RowsAscend [] = Unit {0}
RowsAscend (r ∷ rs) = RowsAbove r.object.0 rs × RowsAscend rs

-- the first row of an object, from a place on
abbrev pub row_from : ℕ → ℕ → List Row → Option ℕ
row_from o n [] = None
row_from o n (r ∷ rs) = if r.object.0 == o then Some n else row_from o (suc n) rs

-- a cell of an object that is held
abbrev pub cell_in : Option Held → ℕ → Option ℤ
cell_in None c = None
cell_in (Some h) c = Some (cell_of h c)

-- a cell is written, where the object is held for more than reading
abbrev pub written : Option Held → Contents → (o c : ℕ) → ℤ → Bool → Contents → Type 0
written None k o c v r l = (r ≡ false) × (l ≡ k)
written (Some h) k o c v r l = (r ≡ true) × (l ≡ with_cell o c v k)

abbrev pub Written : Contents → (o c : ℕ) → ℤ → Bool → Contents → Type 0
Written k o c v r l = written (writable (k o)) k o c v r l

-- a content is written, where it may be
abbrev pub written_in : Option Held → (old : Option Held) → (c : ℕ) → ℤ → Bool → (new : Option Held) → Type 0
written_in None old c v r new = (r ≡ false) × (new ≡ old)
written_in (Some h) old c v r new = (r ≡ true) × (new ≡ put_in c v old)

abbrev pub WrittenIn : (old : Option Held) → (c : ℕ) → ℤ → Bool → (new : Option Held) → Type 0
WrittenIn old c v r new = written_in (writable old) old c v r new

-- the object of this number, with so many cells, which are zero
abbrev pub whole_row : (number size : ℕ) → Row
whole_row n size = record { object = record { 0 = n }; content = Some (record { mode = Writing; cells = replicate size (pos 0) }) }

-- objects of these sizes, numbered from n on
abbrev pub whole_from : ℕ → List ℕ → List Row
whole_from n [] = []
whole_from n (size ∷ sizes) = whole_row n size ∷ whole_from (suc n) sizes
