-- Some modes in which contents are asked for.
use Rattle.std.specs.Prelude.{Bool}
use Rattle.jade_base.specs.declared.rights.Mode.{Mode}
use Rattle.jade_base.specs.declared.rights.Mode.TheVariants.{Reading, Writing, Commuting}
use Rattle.task_suspend.specs.declared.modes.Modes.{Modes}

-- a mode is one of them
abbrev pub has_mode : Modes → Mode → Bool
has_mode ms Reading = ms.reading
has_mode ms Writing = ms.writing
has_mode ms Commuting = ms.commuting
