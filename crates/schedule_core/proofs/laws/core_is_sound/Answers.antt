use Rattle.schedule_core.proofs.Abreast.{entries_stand}
use Rattle.schedule_core.proofs.Bounded.{bounded}
use Rattle.schedule_core.proofs.Entered.{children_are_entered}
use Rattle.schedule_core.proofs.Contents.{contents_are_serial}
use Rattle.schedule_core.proofs.Enabled.{stays_enabled}
use Rattle.schedule_core.proofs.EntryOwners.{entries_have_rights}
use Rattle.schedule_core.proofs.Following.{tasks_are_serial, reads_are_serial}
use Rattle.schedule_core.proofs.HeldTurns.{held_turns}
use Rattle.schedule_core.proofs.Holders.{holders_are_live}
use Rattle.schedule_core.proofs.Located.{writes_go_first, notes_are_serial}
use Rattle.schedule_core.proofs.Queued.{in_serial_order, entries_are_owned, held_alone}
use Rattle.schedule_core.proofs.Reporting.{reports_are_serial}
use Rattle.schedule_core.proofs.Stuck.{core_shows}
use Rattle.schedule_core.proofs.Tells.{core_tells, entries_are_there}
use Rattle.schedule_core.proofs.Turning.{turns_are_serial}
use Rattle.schedule_core.proofs.laws.core_is_sound.Goals as goal

pub returns : goal.returns
returns c = λ p ns limit. let keeps = c.keeps.ensures in
    let shows = core_shows keeps p ns limit in
    let there = entries_are_there p ns limit shows in
    record {
      shows = shows;
      tasks = tasks_are_serial keeps p ns limit;
      reads = reads_are_serial keeps p ns limit;
      entries = entries_are_owned keeps p ns limit;
      rights = entries_have_rights keeps p ns limit;
      entered = children_are_entered keeps p ns limit;
      stand = entries_stand keeps p ns limit;
      order = in_serial_order keeps p ns limit;
      held = held_alone keeps p ns limit;
      holders = holders_are_live p ns limit shows;
      contents = contents_are_serial keeps p ns limit;
      turns = turns_are_serial keeps p ns limit;
      turns_held = held_turns keeps p ns limit;
      writes = writes_go_first keeps p ns limit;
      notes = notes_are_serial keeps p ns limit;
      tells = core_tells p ns limit shows;
      there = there;
      bounded = bounded keeps p ns limit;
      enabled = stays_enabled p ns limit there;
      goes_on = record { goes_on = shows.first };
      reports = reports_are_serial keeps p ns limit;
    }
