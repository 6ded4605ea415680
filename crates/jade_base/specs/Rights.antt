-- Rights on one object: how declarations join, what covers what, and the mode in which an object is held.
use Rattle.std.specs.Prelude.{Bool, true, false, not, ◌&&◌, ◌||◌, Option, Some, None, if◌then◌else◌}
use Rattle.jade_base.specs.declared.rights.Right.{Right}
use Rattle.jade_base.specs.declared.rights.Right.TheVariants.{Absent, Deferred, Immediate}
use Rattle.jade_base.specs.declared.rights.Rights.{Rights}
use Rattle.jade_base.specs.declared.rights.Mode.{Mode}
use Rattle.jade_base.specs.declared.rights.Mode.TheVariants.{Reading, Writing, Commuting}

-- no right at all
abbrev pub no_rights : Rights
no_rights = record { reads = Absent; writes = Absent; commutes = Absent }

-- immediate read and write
abbrev pub both_rights : Rights
both_rights = record { reads = Immediate; writes = Immediate; commutes = Absent }

-- it may be used now
abbrev pub is_immediate : Right → Bool
is_immediate Absent = false
is_immediate Deferred = false
is_immediate Immediate = true

-- it may be used, now or once it is asked for
abbrev pub is_there : Right → Bool
is_there Absent = false
is_there Deferred = true
is_there Immediate = true

-- a right that is asked for at once: immediate where there is one, and none where there is none
abbrev pub at_once : Right → Option Right
at_once Absent = None
at_once Deferred = Some Immediate
at_once Immediate = Some Immediate

-- one right declared twice: Immediate beats Deferred, and Deferred beats Absent
abbrev pub joined : Right → Right → Right
joined Immediate r = Immediate
joined Deferred Immediate = Immediate
joined Deferred Absent = Deferred
joined Deferred Deferred = Deferred
joined Absent r = r

-- an object declared twice
abbrev pub join : Rights → Rights → Rights
join a b = record { reads = joined a.reads b.reads; writes = joined a.writes b.writes; commutes = joined a.commutes b.commutes }

-- two rights are one
abbrev pub same_right : Right → Right → Bool
same_right Absent Absent = true
same_right Deferred Deferred = true
same_right Immediate Immediate = true
same_right Absent Deferred = false
same_right Absent Immediate = false
same_right Deferred Absent = false
same_right Deferred Immediate = false
same_right Immediate Absent = false
same_right Immediate Deferred = false

-- the rights on two objects are the same
abbrev pub same_rights : Rights → Rights → Bool
same_rights a b = same_right a.reads b.reads && same_right a.writes b.writes && same_right a.commutes b.commutes

-- some right is there
abbrev pub has_rights : Rights → Bool
has_rights a = is_there a.reads || is_there a.writes || is_there a.commutes

-- each right of the child has one of the parent's; a commuting right needs both
abbrev pub covered : Rights → Rights → Bool
covered parent child =
    (not (is_there child.reads) || is_there parent.reads) && (not (is_there child.writes) || is_there parent.writes)
    && (not (is_there child.commutes) || (is_there parent.reads && is_there parent.writes))

-- a cell may be read now
abbrev pub may_read : Rights → Bool
may_read a = is_immediate a.reads || is_immediate a.commutes

-- a cell may be written now
abbrev pub may_write : Rights → Bool
may_write a = is_immediate a.writes || is_immediate a.commutes

-- the mode in which an object with these rights is held
abbrev pub mode_of : Rights → Option Mode
mode_of a =
    if is_immediate a.commutes then Some Commuting
    else (if is_immediate a.writes then Some Writing else (if is_immediate a.reads then Some Reading else None))

-- a hold in this mode is given up for a child with these rights
abbrev pub gives_way : Mode → Rights → Bool
gives_way Reading child = is_there child.writes || is_there child.commutes
gives_way Writing child = has_rights child
gives_way Commuting child = has_rights child
