-- All objects of a program held at once.
use Rattle.std.specs.Prelude.{ℕ, List, Option, Some, None, ℤ, nat_eq, slice_get, if◌then◌else◌}
use Rattle.jade_base.specs.declared.rights.Mode.TheVariants.{Writing}
use Rattle.jade_base.specs.Held.{Held}
use Rattle.jade_meaning.specs.Serial.{Store}
use Rattle.task_machine.specs.Playing.{Contents}

-- the cells of an object as they are held
abbrev pub held_of : Option (List ℤ) → Option Held
held_of None = None
held_of (Some cells) = Some (record { mode = Writing; cells = cells })

-- a store as what is held of it
abbrev pub all_held : Store → Contents
all_held store o = held_of (slice_get store o)

-- the contents but for that of one object
abbrev pub without : ℕ → Contents → Contents
without o k j = if nat_eq j o then None else k j
