-- What the calls of a shelf do with the content.
use Rattle.std.specs.Prelude.{ℕ, List, [], ◌∷◌, Option, Some, None, ℤ, pos, replicate}
use Rattle.jade_base.specs.declared.rights.Rights.{Rights}
use Rattle.jade_base.specs.declared.rights.Mode.{Mode}
use Rattle.jade_base.specs.declared.rights.Mode.TheVariants.{Reading, Writing, Commuting}
use Rattle.jade_base.specs.Held.{Held}
use Rattle.object_shelf.specs.declared.queue.Entry.{Entry}
use Rattle.object_shelf.specs.declared.shelf.Home.{Home}
use Rattle.object_shelf.specs.declared.shelf.Home.TheVariants.{Out, Own, Shared}
use Rattle.object_shelf.specs.Views.{ShelfView}
use Rattle.object_shelf.specs.Shelves.{find, at, held_with, released, turned}

-- the content, where it is at home
abbrev pub home_of : Home → Option (List ℤ)
home_of (Out place) = None
home_of (Own xs) = Some xs
home_of (Shared xs) = Some xs

-- a version, if there is one, or else the content that is at home
abbrev pub or_home : Option (List ℤ) → Option (List ℤ) → Option (List ℤ)
or_home None h = h
or_home (Some xs) h = Some xs

-- what the task of an entry is handed when it takes the object
abbrev pub hand_of : Mode → Option Entry → Option (List ℤ) → Option (List ℤ)
hand_of m None h = None
hand_of Reading (Some e) h = or_home e.version h
hand_of Writing (Some e) h = h
hand_of Commuting (Some e) h = h

abbrev pub hand_in : List ℕ → Mode → ShelfView → Option (List ℤ)
hand_in p m s = hand_of m (find p s.queue) s.home

-- a reader is kept what it was handed, as its version
abbrev pub kept_of : Mode → Option (List ℤ) → Option (List ℤ)
kept_of Reading h = h
kept_of Writing h = None
kept_of Commuting h = None

-- a content that is handed out to be changed is no longer at home
abbrev pub home_after : Mode → Option (List ℤ) → Option (List ℤ)
home_after Reading h = h
home_after Writing h = None
home_after Commuting h = None

-- the object once its content is handed out
abbrev pub handed : List ℕ → Mode → ShelfView → ShelfView
handed p m s =
    record { queue = at p (held_with m (kept_of m (hand_in p m s))) s.queue; home = home_after m s.home; turns = turned p m s.turns }

-- a content that was handed out to be changed comes home
abbrev pub home_with : Mode → List ℤ → Option (List ℤ) → Option (List ℤ)
home_with Reading xs h = h
home_with Writing xs h = Some xs
home_with Commuting xs h = Some xs

-- the object once the path's task has given its content back
abbrev pub returned : List ℕ → Held → ShelfView → ShelfView
returned p c s = record s { queue = at p released s.queue; home = home_with c.mode c.cells s.home }

-- the root's entry alone, zeros at home, and no turn
abbrev pub started : List ℕ → Rights → ℕ → ShelfView
started p a n =
    record { queue = record { path = p; rights = a; hold = None; version = None } ∷ []; home = Some (replicate n (pos 0)); turns = [] }

-- a change of the queue alone
abbrev pub on_queue : (List Entry → List Entry) → ShelfView → ShelfView
on_queue g s = record s { queue = g s.queue }
