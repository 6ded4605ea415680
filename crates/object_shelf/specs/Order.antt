-- The serial order of the entries of a queue, which is that of their tasks.
use Rattle.std.specs.Prelude.{ℕ, Bool, List, map, if◌then◌else◌}
use Rattle.jade_base.specs.declared.rights.Rights.{Rights}
use Rattle.task_roll.specs.Order as order
use Rattle.object_shelf.specs.declared.queue.Entry.{Entry}
use Rattle.object_shelf.specs.Shelves.{entered_in}
pub use Rattle.task_roll.specs.Order.{stands_before}

-- the tasks of entries
abbrev pub paths : List Entry → List (List ℕ)
paths es = map (λ e. e.path) es

-- a task stands before that of each entry
abbrev pub before_all : List ℕ → List Entry → Bool
before_all p es = order.before_all p (paths es)

-- each entry stands before all that come later
abbrev pub is_ordered : List Entry → Bool
is_ordered es = order.is_ordered (paths es)

-- a child stands before its parent's entry, and after all entries before that one
abbrev pub fits : (parent child : List ℕ) → List Entry → Bool
fits p c es = order.fits p c (paths es)

-- the child's entry directly before its parent's, where that keeps the order
abbrev pub fitted_in : (parent child : List ℕ) → Rights → List Entry → List Entry
fitted_in p c a es = if fits p c es then entered_in p c a es else es
