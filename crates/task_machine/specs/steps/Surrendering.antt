-- A content that was surrendered.
use Rattle.std.specs.Prelude.{◌≡◌, Some, None}
use Rattle.jade_base.specs.declared.place.ObjectId.{ObjectId}
use Rattle.jade_base.specs.Held.{Held}
use Rattle.task_machine.specs.declared.machine.Ask.TheVariants as ask
use Rattle.task_machine.specs.Executions.{held_by}
use Rattle.task_machine.specs.Machines.{surrendered}
use Rattle.task_machine.specs.Asks.{Asking}
use Rattle.task_machine.specs.steps.Standing.{IsKept}

-- a machine that was asked for a content, and is known to be one, has given it up
pub record IsSurrendered (o : ObjectId) (x : Held) (before after : Asking) : Type 0 where
  pub asked : before.ask ≡ Some (ask.GiveBack o)
  pub held : held_by before.at.execution o.0 ≡ Some x
  pub after_it : after ≡ record before { at = surrendered o.0 before.at; ask = None }
  pub is_kept : IsKept before
