-- What the words of a section mean: a child's rights in a `withonly`, changes of the task's own in a `with`.
use Rattle.std.specs.Prelude.{Option, Some, None}
use Rattle.jade_base.specs.declared.rights.Right.TheVariants.{Deferred, Immediate}
use Rattle.jade_base.specs.declared.rights.Rights.{Rights}
use Rattle.jade_base.specs.Rights.{no_rights, both_rights}
use Rattle.access_spec.specs.declared.change.Change.{Change}
use Rattle.access_spec.specs.declared.change.Change.TheVariants.{Reads, Writes, Both, NoReads, NoWrites, Neither}
use Rattle.access_spec.specs.Amended.{amended as amended_by}
use Rattle.jade_syntax.specs.declared.tree.DeclareWord.{DeclareWord}
use Rattle.jade_syntax.specs.declared.tree.DeclareWord.TheVariants.{Rd, Wr, RdWr, DfRd, DfWr, DfRdWr, Cm, NoRd, NoWr, NoRdWr}

-- the rights that a word gives a child
abbrev pub declared : DeclareWord → Rights
declared Rd = record no_rights { reads = Immediate }
declared Wr = record no_rights { writes = Immediate }
declared RdWr = both_rights
declared DfRd = record no_rights { reads = Deferred }
declared DfWr = record no_rights { writes = Deferred }
declared DfRdWr = record no_rights { reads = Deferred; writes = Deferred }
declared Cm = record no_rights { commutes = Immediate }
declared NoRd = no_rights
declared NoWr = no_rights
declared NoRdWr = no_rights

-- the change that a word of a `with` asks for; a deferred or a commuting declaration asks for none
abbrev pub change_of : DeclareWord → Option Change
change_of Rd = Some Reads
change_of Wr = Some Writes
change_of RdWr = Some Both
change_of NoRd = Some NoReads
change_of NoWr = Some NoWrites
change_of NoRdWr = Some Neither
change_of DfRd = None
change_of DfWr = None
change_of DfRdWr = None
change_of Cm = None

-- the rights after a change, if one is asked for
abbrev pub after_change : Option Change → Rights → Option Rights
after_change None a = Some a
after_change (Some change) a = amended_by change a

-- the task's own rights after a word of a `with`; none is the fault `change`
abbrev pub amended : DeclareWord → Rights → Option Rights
amended how a = after_change (change_of how) a
