-- Who holds what beside whom, by the rule of the table.
use Rattle.std.specs.Prelude.{◌≡◌, ◌≢◌, ℕ, true, Some}
use mathlib.Core.Option.{some}
use lib.ListN.{get_elem?}
use Rattle.atomic_table.specs.Table as table
use Rattle.jade_base.specs.Held.{Held}
use Rattle.jade_base.specs.declared.rights.Mode.TheVariants.{Reading}
use Rattle.object_shelf.specs.Order.{stands_before}
use Rattle.object_shelf.specs.Shelves.{takes_out}
use Rattle.jade_meaning.specs.Plan.{RunPlan}
use Rattle.object_table.specs.Views.{View}
use Rattle.object_table.specs.Touches.{held_at}
use Rattle.object_table.specs.Rule.{Ruled}
use Rattle.object_table.specs.declared.slot.Slot.{Slot}

-- a content that is held beside one that is held for writing or for commuting is held for reading, by a task that stands before the other's
pub record IsBefore (d : Held) (v w : View) : Type 0 where
  pub reads : d.mode ≡ Reading
  pub earlier : stands_before w.seat.path v.seat.path ≡ true

-- Whatever words, slots and passes are at a moment: of two live passes that hold an object, one for writing or for commuting, the other holds it for
-- reading, and its task stands before.
pub record HeldApart (key : RunPlan) : Type 0 where
  pub apart : (s : table.State Slot View) → Ruled key s → (i j : ℕ) (v w : View) → i ≢ j → get_elem? s.views i ≡ some v → get_elem? s.views j ≡ some w
      → v.live ≡ true → w.live ≡ true → (o : ℕ) (c d : Held) → held_at o v.held ≡ Some c → held_at o w.held ≡ Some d → takes_out (Some c.mode) ≡ true
      → IsBefore d v w
