-- The specification that a section has made so far, as code keeps it.
use Rattle.std.specs.Prelude.{List}
use Rattle.jade_base.specs.declared.rights.Rights.{Rights}
use Rattle.jade_meaning.specs.declared.draft.DraftKind.{DraftKind}
use Rattle.jade_meaning.specs.declared.draft.DraftKind.TheVariants as kind
use Rattle.jade_meaning.specs.Course.{Draft, NoDraft, Building, Amending}

-- the draft of a kind, with these rights
abbrev pub draft_of : DraftKind → List Rights → Draft
draft_of kind.Absent spec = NoDraft
draft_of kind.Building spec = Building spec
draft_of kind.Amending spec = Amending spec
