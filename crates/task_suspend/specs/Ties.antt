-- A pass and a machine at the same ask of one task of one run.
use Rattle.std.specs.Prelude.{◌≡◌, ℕ, true, List, ◌++◌, drop, None, ℤ}
use Rattle.atomic_table.specs.Seated.{TableId}
use Rattle.jade_meaning.specs.Plan.{RunPlan}
use Rattle.jade_meaning.specs.Talk.{Event, talk}
use Rattle.jade_meaning.specs.Walks.{Walk}
use Rattle.jade_meaning.specs.Walk.{task_of}
use Rattle.task_machine.specs.Executions.{held_by}
use Rattle.task_machine.specs.Asks.{Asking, left_from}
use Rattle.object_table.specs.Calls.{Pass}
use Rattle.object_table.specs.Touches.{held_at}
use Rattle.object_table.specs.Views.{count_of}
use Rattle.task_suspend.specs.declared.capsule.Running.{Running}

-- the events of a task from the next one on, where its further reads are answered by this list
abbrev pub to_go : Walk → List ℤ → List Event
to_go w vs = drop w.done (talk (task_of w) (w.answers ++ vs))

-- The pass and the machine are of one task of the run of this table and this plan: the task is live and has no child without a pass;
-- whatever its further reads answer, the events that it has still to do by its pass are those that the machine has left, where what the ask
-- stands for is done on the objects below `from`; it holds by its pass what the machine holds; and so many of its events are done.
pub record Tied (mark : TableId) (plan : RunPlan) (p : Pass) (a : Asking) (from events : ℕ) : Type 0 where
  pub table : p.mark ≡ mark
  pub run : p.shows.key ≡ plan
  pub objects : a.at.execution.stage.objects ≡ count_of plan
  pub live : p.shows.live ≡ true
  pub born : p.shows.unborn ≡ None
  pub left : (vs : List ℤ) → to_go p.shows.seat.walker vs ≡ left_from from a.ask a.at vs
  pub held : (o : ℕ) → held_at o p.shows.held ≡ held_by a.at.execution o
  pub done : p.shows.seat.walker.done ≡ events

-- A task that runs is one of the run of this table and this plan, and its pass and its machine are at the same ask.
abbrev pub TiedTo : TableId → RunPlan → Running → Type 0
TiedTo mark plan r = Tied mark plan r.pass r.machine r.from r.events
