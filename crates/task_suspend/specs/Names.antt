-- What a name of no run tells.
use Rattle.std.specs.Prelude.{[]}
use Rattle.atomic_table.specs.Seated.{TableId}
use Rattle.jade_meaning.specs.Plan.{RunPlan}

abbrev pub no_table : TableId
no_table = record { words = 0; slots = 0; views_name = 0; atom = 0; block = 0; offset = 0; slot_names = [] }

abbrev pub no_plan : RunPlan
no_plan = record { program = record { items = []; main = [] }; numbers = []; limit = 0 }
