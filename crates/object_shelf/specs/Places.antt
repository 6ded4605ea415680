-- What the calls of a shelf do, by the place of an entry.
use Rattle.std.specs.Prelude.{ℕ, zero, suc, List, [], ◌∷◌, Option, Some, None, if◌then◌else◌}
use Rattle.jade_base.specs.declared.rights.Mode.{Mode}
use Rattle.object_shelf.specs.declared.queue.Entry.{Entry}
use Rattle.object_shelf.specs.Shelves.{conflicts, or_else, out_for}

-- a change of the entry at a place, if there is one
abbrev pub at_nth : ℕ → (Entry → Entry) → List Entry → List Entry
at_nth n f [] = []
at_nth zero f (e ∷ es) = f e ∷ es
at_nth (suc n) f (e ∷ es) = e ∷ at_nth n f es

-- the first entry before a place that conflicts
abbrev pub blocker_before : ℕ → Mode → List Entry → Option Entry
blocker_before n m [] = None
blocker_before zero m (e ∷ es) = None
blocker_before (suc n) m (e ∷ es) = if conflicts m e then Some e else blocker_before n m es

-- the entry that keeps the task of the one at a place from a hold in this mode
abbrev pub keeper_before : ℕ → Mode → List Entry → Option Entry
keeper_before n m es = or_else (blocker_before n m es) (out_for m es)
