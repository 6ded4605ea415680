-- How far a queue is clear for a mode, and how many entries have the content out.
use Rattle.std.specs.Prelude.{◌≡◌, ℕ, suc, List, [], ◌∷◌, if◌then◌else◌}
use Rattle.jade_base.specs.declared.rights.Mode.{Mode}
use Rattle.jade_base.specs.declared.rights.Mode.TheVariants.{Reading, Writing, Commuting}
use Rattle.object_shelf.specs.declared.queue.Entry.{Entry}
use Rattle.object_shelf.specs.declared.clear.Clear.{Clear}
use Rattle.object_shelf.specs.Shelves.{conflicts, takes_out}

-- how many entries at the front keep no one from a hold in this mode
abbrev pub clear_for : Mode → List Entry → ℕ
clear_for m [] = 0
clear_for m (e ∷ es) = if conflicts m e then 0 else suc (clear_for m es)

-- how many entries have the content out
abbrev pub out_many : List Entry → ℕ
out_many [] = 0
out_many (e ∷ es) = if takes_out e.hold then suc (out_many es) else out_many es

-- these numbers are those of a queue
pub record IsClear (c : Clear) (es : List Entry) : Type 0 where
  pub reading : c.reading ≡ clear_for Reading es
  pub writing : c.writing ≡ clear_for Writing es
  pub commuting : c.commuting ≡ clear_for Commuting es
  pub out : c.out ≡ out_many es
