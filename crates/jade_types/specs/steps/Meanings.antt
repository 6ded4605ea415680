-- What a name stands for and what it is used as, in code and in the definitions of static faults.
use Rattle.jade_syntax.specs.StaticFaults as spec
use Rattle.jade_types.specs.declared.faults.names.Meaning.{Meaning}
use Rattle.jade_types.specs.declared.faults.names.Meaning.TheVariants as meaning
use Rattle.jade_types.specs.declared.faults.names.Use.{Use}
use Rattle.jade_types.specs.declared.faults.names.Use.TheVariants as uses

-- what a name stands for
abbrev pub meant : Meaning → spec.Meaning
meant meaning.Input = spec.Input
meant (meaning.Holds kind) = spec.Holds kind
meant meaning.Turns = spec.Turns
meant meaning.Single = spec.Single
meant meaning.Family = spec.Family

-- what a name is used as
abbrev pub used : Use → spec.Use
used uses.Value = spec.AsValue
used uses.Target = spec.AsTarget
used uses.Handed = spec.Handed
used uses.Single = spec.AsSingle
used uses.Family = spec.AsFamily
