-- Rights that fit: what a change may make of them, and what a hold asks of them.
use Rattle.std.specs.Prelude.{◌≡◌, Bool, true, Option, Some, None}
use Rattle.jade_base.specs.declared.rights.Mode.{Mode}
use Rattle.jade_base.specs.declared.rights.Mode.TheVariants.{Reading, Writing, Commuting}
use Rattle.jade_base.specs.declared.rights.Rights.{Rights}
use Rattle.jade_base.specs.Rights.{is_there}
use Rattle.object_shelf.specs.Shelves.{changes}

-- no right to read, to change or to write that was not there; who may write may change by commuting too
pub record Lessened (new old : Rights) : Type 0 where
  pub reads : is_there new.reads ≡ true → is_there old.reads ≡ true
  pub writes : changes new ≡ true → changes old ≡ true
  pub alone : is_there new.writes ≡ true → is_there old.writes ≡ true

-- no right to read, to write or to commute that was not there
pub record Narrowed (new old : Rights) : Type 0 where
  pub reads : is_there new.reads ≡ true → is_there old.reads ≡ true
  pub writes : is_there new.writes ≡ true → is_there old.writes ≡ true
  pub commutes : is_there new.commutes ≡ true → is_there old.commutes ≡ true

-- the rights allow the hold: who holds for reading has a right to read, for writing one to write, for commuting one to commute
abbrev pub may : Option Mode → Rights → Bool
may None a = true
may (Some Reading) a = is_there a.reads
may (Some Writing) a = is_there a.writes
may (Some Commuting) a = is_there a.commutes
