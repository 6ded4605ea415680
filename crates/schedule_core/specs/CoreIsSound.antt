-- What is proved of every core that allowed events reach, clause by clause.
use Rattle.std.specs.Prelude.{ℕ, List, ℤ}
use Rattle.jade_syntax.specs.declared.tree.Program.{Program}
use Rattle.schedule_core.specs.Mirror.{CoreShows}
use Rattle.schedule_core.specs.Tells.{CoreTells, EntriesAreThere}
use Rattle.schedule_core.specs.Serially.{TasksAreSerial, ReadsAreSerial}
use Rattle.schedule_core.specs.EntryRights.{EntriesHaveRights}
use Rattle.schedule_core.specs.EntriesBefore.{EntriesStand, ChildrenAreEntered}
use Rattle.schedule_core.specs.Counts.{Bounded}
use Rattle.schedule_core.specs.Holders.{HoldersAreLive}
use Rattle.schedule_core.specs.Remains.{WritesGoFirst, NotesAreSerial, TurnsAreSerial, ContentsAreSerial, HeldTurns}
use Rattle.schedule_core.specs.Soundness.{ReportsAreSerial, NeverStuck, HeldAlone, InSerialOrder, EntriesAreOwned, StaysEnabled}

pub record CoreIsSound (p : Program) (ns : List ℤ) (limit : ℕ) : Type 0 where
  pub shows : CoreShows p ns limit
  pub tasks : TasksAreSerial p ns limit
  pub reads : ReadsAreSerial p ns limit
  pub entries : EntriesAreOwned p ns limit
  pub rights : EntriesHaveRights p ns limit
  pub entered : ChildrenAreEntered p ns limit
  pub stand : EntriesStand p ns limit
  pub order : InSerialOrder p ns limit
  pub held : HeldAlone p ns limit
  pub holders : HoldersAreLive p ns limit
  pub contents : ContentsAreSerial p ns limit
  pub turns : TurnsAreSerial p ns limit
  pub turns_held : HeldTurns p ns limit
  pub writes : WritesGoFirst p ns limit
  pub notes : NotesAreSerial p ns limit
  pub tells : CoreTells p ns limit
  pub there : EntriesAreThere p ns limit
  pub bounded : Bounded p ns limit
  pub enabled : StaysEnabled p ns limit
  pub goes_on : NeverStuck p ns limit
  pub reports : ReportsAreSerial p ns limit
