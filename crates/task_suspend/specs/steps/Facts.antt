-- What a type tells is a fact: it has at most one proof.
use Rattle.std.specs.Prelude.{◌≡◌, ℕ}
use Rattle.std.specs.Coded.{Coded-set, coded_ℕ, coded_bool, coded_option}
use Rattle.atomic_table.specs.Seated.{TableId, table_id_coded}
use Rattle.jade_meaning.specs.Plan.{RunPlan}
use Rattle.object_table.specs.Calls.{Pass, IsGone}
use Rattle.object_table.specs.Views.{View}
use Rattle.object_table.specs.Encodings.{coded_plan, coded_seat}
use Rattle.jade_base.specs.contracts.content.Content as content
use Rattle.task_machine.specs.Asks.{Asking}
use Rattle.task_suspend.specs.Ties.{Tied, TiedTo}
use Rattle.task_suspend.specs.declared.capsule.Running.{Running}
use Rattle.task_suspend.specs.steps.Sets.{events_set}

pub Tied-prop : (mark : TableId) (plan : RunPlan) (p : Pass) (a : Asking) (from events : ℕ) → IsProp (Tied mark plan p a from events)
Tied-prop mark plan p a from events = hlevel (
  Coded-set table_id_coded,
  Coded-set coded_plan,
  Coded-set coded_ℕ,
  Coded-set coded_bool,
  Coded-set (coded_option coded_seat),
  events_set,
  Coded-set (coded_option content.the_row.coded),
)

pub TiedTo-prop : (mark : TableId) (plan : RunPlan) (r : Running) → IsProp (TiedTo mark plan r)
TiedTo-prop mark plan r = Tied-prop mark plan r.pass r.machine r.from r.events

pub Gone-prop : (mark own : TableId) (v : View) → IsProp ((own ≡ mark) × IsGone v)
Gone-prop mark own v = hlevel (Coded-set table_id_coded, Coded-set coded_bool, Coded-set (coded_option coded_seat))
