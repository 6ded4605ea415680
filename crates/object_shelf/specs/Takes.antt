-- What a take finds.
use Rattle.std.specs.Prelude.{◌≡◌, ◌≢◌, ℕ, true, false, List, Option, Some, None, is_none}
use Rattle.jade_base.specs.declared.rights.Mode.{Mode}
use Rattle.jade_base.specs.declared.rights.Mode.TheVariants.{Reading}
use Rattle.object_shelf.specs.declared.queue.Entry.{Entry}
use Rattle.object_shelf.specs.Shelves.{find}
use Rattle.object_shelf.specs.Whole.{is_out}

-- what a path's task finds where it may take an object: its entry, without a hold; for reading a version or the content at home, and
-- otherwise the content at home, and no version
pub record MayTake (m : Mode) (p : List ℕ) (es : List Entry) : Type 0 where
  pub entry : Entry
  pub there : find p es ≡ Some entry
  pub free : entry.hold ≡ None
  pub home : is_none entry.version ≡ true → is_out es ≡ false
  pub versionless : m ≢ Reading → entry.version ≡ None

-- there is an entry, and it has no hold
abbrev pub IsUnheld : Option Entry → Type 0
IsUnheld None = ⊥
IsUnheld (Some e) = e.hold ≡ None
