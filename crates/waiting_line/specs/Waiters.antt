-- Tasks that wait for an object, by the object's queue, and those of them that are let go.
use Rattle.std.specs.Prelude.{◌≡◌, ◌<◌, ℕ, Bool, true, false, List, [], ◌∷◌, map, slice_get, Some, None, is_some, is_none, if◌then◌else◌}
use Rattle.jade_base.specs.declared.rights.Mode.{Mode}
use Rattle.jade_base.specs.declared.rights.Mode.TheVariants.{Reading, Writing, Commuting}
use Rattle.jade_base.specs.Rights.{mode_of}
use Rattle.object_shelf.specs.declared.queue.Entry.{Entry}
use Rattle.object_shelf.specs.Shelves.{changes, find, keeper_in}
use Rattle.object_shelf.specs.Order.{is_ordered}
use Rattle.task_roll.specs.Order as order

-- a task that is to take an object, and the mode in which it is to hold it
pub record Waiter : Type 0 where
  pub path : List ℕ
  pub mode : Mode

-- it may take the object now: no entry of the object's queue keeps it from that
abbrev pub may_take : List Entry → Waiter → Bool
may_take es w = is_none (keeper_in w.path w.mode es)

abbrev pub is_reading : Mode → Bool
is_reading Reading = true
is_reading Writing = false
is_reading Commuting = false

-- entries as they stand in every core that events reach: in the serial order, and before one with a version none that may change the object
pub record Standing (es : List Entry) : Type 0 where
  pub ordered : is_ordered es ≡ true
  pub kept : (i j : ℕ) (d e : Entry) → slice_get es i ≡ Some d → slice_get es j ≡ Some e → i < j → is_some e.version ≡ true → changes d.rights ≡ false

-- a task has its entry in a queue, with the right to hold the object in the mode in which it is to take it
pub record Asks (es : List Entry) (w : Waiter) : Type 0 where
  pub entry : Entry
  pub there : find w.path es ≡ Some entry
  pub mode : mode_of entry.rights ≡ Some w.mode

-- the same of one for whom no version is kept
pub record Waits (es : List Entry) (w : Waiter) : Type 0 where
  pub asks : Asks es w
  pub versionless : asks.entry.version ≡ None

-- the first tasks of a line, as far as they are to read
abbrev pub readers : List Waiter → List Waiter
readers [] = []
readers (w ∷ ws) = if is_reading w.mode then w ∷ readers ws else []

-- those of a line that are let go: the first one, and where it is to read the readers right behind it
abbrev pub let_go : List Waiter → List Waiter
let_go [] = []
let_go (w ∷ ws) = if is_reading w.mode then w ∷ readers ws else w ∷ []

-- a line of tasks that wait for the object of a queue, in the serial order
pub record InLine (es : List Entry) (ws : List Waiter) : Type 0 where
  pub all : (i : ℕ) (w : Waiter) → slice_get ws i ≡ Some w → Waits es w
  pub ordered : order.is_ordered (map (λ w. w.path) ws) ≡ true

-- two tasks are to hold an object for commuting
abbrev pub BothCommute : Waiter → Waiter → Type 0
BothCommute v w = (v.mode ≡ Commuting) × (w.mode ≡ Commuting)
