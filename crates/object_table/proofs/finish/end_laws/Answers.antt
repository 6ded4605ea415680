use Rattle.jade_meaning.specs.Plan.{RunPlan}
use Rattle.object_table.proofs.finish.end_laws.Goals as goal

pub returns : goal.returns
returns c = λ (key : RunPlan). record {
  reports = c.reports_are_serial.ensures key.program key.numbers key.limit;
  owned = c.entries_are_owned.ensures key.program key.numbers key.limit;
}
