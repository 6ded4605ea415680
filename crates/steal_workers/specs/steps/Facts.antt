-- What the types of the workers tell is a fact: it has at most one proof.
use Rattle.std.specs.Prelude.{◌≡◌, true}
use Rattle.std.specs.Coded.{Coded-set, coded_bool}
use Rattle.atomic_table.specs.Seated.{TableId, table_id_coded}
use Rattle.jade_meaning.specs.Plan.{RunPlan}
use Rattle.object_table.specs.Calls.{Pass}
use Rattle.object_table.specs.Encodings.{coded_plan}

-- a table is of a run: it has its mark and its plan
pub Of-prop : (own mark : TableId) (ours plan : RunPlan) → IsProp ((own ≡ mark) × (ours ≡ plan))
Of-prop own mark ours plan = hlevel (Coded-set table_id_coded, Coded-set coded_plan)

-- a pass is of a run, and knows that all is over
pub Over-prop : (pass : Pass) (mark : TableId) → IsProp ((pass.mark ≡ mark) × (pass.shows.over ≡ true))
Over-prop pass mark = hlevel (Coded-set table_id_coded, Coded-set coded_bool)
