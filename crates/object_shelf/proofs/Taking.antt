-- What a task finds that may take an object.
use Rattle.std.proofs.Common.{ℕ, List, sym, subst}
use Rattle.jade_base.specs.declared.rights.Mode.{Mode}
use Rattle.object_shelf.specs.declared.queue.Entry.{Entry}
use Rattle.object_shelf.specs.Shelves.{find}
use Rattle.object_shelf.specs.Takes.{MayTake, IsUnheld}

pub unheld : (m : Mode) (p : List ℕ) (es : List Entry) → MayTake m p es → IsUnheld (find p es)
unheld m p es may = subst IsUnheld (sym may.there) may.free
