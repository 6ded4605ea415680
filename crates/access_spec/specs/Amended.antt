-- What a change makes of the rights on an object.
use Rattle.std.specs.Prelude.{Option, Some, None}
use Rattle.jade_base.specs.declared.rights.Right.{Right}
use Rattle.jade_base.specs.declared.rights.Right.TheVariants.{Absent}
use Rattle.jade_base.specs.declared.rights.Rights.{Rights}
use Rattle.jade_base.specs.Rights.{at_once}
use Rattle.access_spec.specs.declared.change.Change.{Change}
use Rattle.access_spec.specs.declared.change.Change.TheVariants.{Reads, Writes, Both, NoReads, NoWrites, Neither}

-- the rights with this right to read, if there is one
abbrev pub with_reads : Option Right → Rights → Option Rights
with_reads None a = None
with_reads (Some r) a = Some (record a { reads = r })

-- the rights with this right to write, if there is one
abbrev pub with_writes : Option Right → Rights → Option Rights
with_writes None a = None
with_writes (Some w) a = Some (record a { writes = w })

-- the rights with these two, if both are there
abbrev pub with_both : Option Right → Option Right → Rights → Option Rights
with_both None w a = None
with_both (Some r) w a = with_writes w (record a { reads = r })

-- the rights after a change, unless it asks for a right that is not there
abbrev pub amended : Change → Rights → Option Rights
amended Reads a = with_reads (at_once a.reads) a
amended Writes a = with_writes (at_once a.writes) a
amended Both a = with_both (at_once a.reads) (at_once a.writes) a
amended NoReads a = Some (record a { reads = Absent })
amended NoWrites a = Some (record a { writes = Absent })
amended Neither a = Some (record a { reads = Absent; writes = Absent })
