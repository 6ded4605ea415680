-- A whole object: its queue, and its content wherever that is.
use Rattle.std.specs.Prelude.{◌≡◌, ℕ, Bool, true, false, ◌||◌, List, [], ◌∷◌, Option, Some, None, ℤ, slice_set}
use Rattle.jade_base.specs.declared.rights.Mode.{Mode}
use Rattle.jade_base.specs.declared.rights.Mode.TheVariants.{Reading, Writing, Commuting}
use Rattle.jade_base.specs.Held.{Held}
use Rattle.object_shelf.specs.declared.queue.Entry.{Entry}
use Rattle.object_shelf.specs.Views.{ObjectView}
use Rattle.object_shelf.specs.Shelves.{takes_out, at, unturned}

-- the content, at home or in a task's hand
abbrev pub content_of : Option (List ℤ) → Option Held → List ℤ
content_of (Some xs) h = xs
content_of None (Some c) = c.cells
content_of None None = []

-- a mode in which the content itself is held
abbrev pub is_changing : Mode → Bool
is_changing Reading = false
is_changing Writing = true
is_changing Commuting = true

-- the content is at one place, at home or in a hand that may change it
abbrev pub is_one : Option (List ℤ) → Option Held → Bool
is_one (Some xs) None = true
is_one (Some xs) (Some c) = false
is_one None (Some c) = is_changing c.mode
is_one None None = false

-- an entry has the content out
abbrev pub is_out : List Entry → Bool
is_out [] = false
is_out (e ∷ es) = takes_out e.hold || is_out es

-- what was kept for an entry without a hold
abbrev pub was_kept : Option (List ℤ) → Option Entry → Type 0
was_kept v None = ⊥
was_kept v (Some e) = (e.hold ≡ None) × (e.version ≡ v)

-- an entry as it was before its task took the object
abbrev pub reset : Option (List ℤ) → Entry → Entry
reset v e = record e { hold = None; version = v }

-- the object as it was before the path's task took it
abbrev pub untaken : List ℕ → Mode → Option (List ℤ) → ObjectView → ObjectView
untaken p m v s = record s { queue = at p (reset v) s.queue; turns = unturned m s.turns }

-- the content that is in a hand once one is handed out
abbrev pub in_hand_as : Mode → Held → Option Held → Option Held
in_hand_as Reading c h = h
in_hand_as Writing c h = Some c
in_hand_as Commuting c h = Some c

abbrev pub in_hand : Held → Option Held → Option Held
in_hand c h = in_hand_as c.mode c h

-- a content that is out with a number written into a cell
abbrev pub with_cell : ℕ → ℤ → Option Held → Option Held
with_cell n x None = None
with_cell n x (Some c) = Some (record c { cells = slice_set c.cells n x })

-- the version that is kept for an entry
abbrev pub version_in : Option Entry → Option (List ℤ)
version_in None = None
version_in (Some e) = e.version
