-- What a task has of its own beside its slots: its specification, and that of a section.
use Rattle.std.specs.Prelude.{◌≡◌, ℕ, ◌<◌, ◌≤◌, List}
use Rattle.jade_base.specs.declared.place.ObjectId.{ObjectId}
use Rattle.jade_base.specs.declared.rights.Rights.{Rights}
use Rattle.jade_base.specs.Rights.{both_rights, no_rights}
use Rattle.jade_base.specs.Specification.{rights_in}
use Rattle.jade_meaning.specs.Specification.{Specification}
use Rattle.jade_meaning.specs.Spread.{spread}
use Rattle.jade_meaning.specs.Course.{Draft}
use Rattle.task_machine.specs.declared.section.Own.{Own}
pub use Rattle.task_machine.specs.Stages.{id, copy_spread, drafted_as}

-- the task's specification, object by object
abbrev pub rights_of : Own → Specification
rights_of w = spread w.objects w.spec.entries

-- what the section has made so far
abbrev pub draft_of : Own → Draft
draft_of w = drafted_as w.section w.objects w.child w.spec

-- both rights, immediate, on each object below a number, and none on any other
pub record RightsBelow (n : ℕ) (es : List (ObjectId × Rights)) : Type 0 where
  pub below : (o : ObjectId) → o.0 < n → rights_in es o ≡ both_rights
  pub above : (o : ObjectId) → n ≤ o.0 → rights_in es o ≡ no_rights
