-- The same code with more steps to begin than there are left.
use Rattle.std.specs.Prelude.{ℕ, Option}
use Rattle.jade_meaning.specs.Specification.{Specification}
use Rattle.jade_meaning.specs.Course.{Draft}
use Rattle.code_meaning.specs.Meaning.{Slots, Go, stepped, lowered}
use Rattle.serial_machine.specs.steps.Settles.{Alike}

module _ {A : Type 0} (pause : A → A) (most : ℕ) where
  abbrev pub AlikeGo : Go → Go → Type 0
  AlikeGo f g = (ss : Slots) (spec : Specification) (d : Draft) → Alike pause most (f ss spec d) (g ss spec d)

  abbrev pub AlikeLower : Option (ℕ → Go) → Option (ℕ → Go) → Type 0
  AlikeLower l m = (pc : ℕ) → AlikeGo (stepped (lowered l pc)) (stepped (lowered m pc))
