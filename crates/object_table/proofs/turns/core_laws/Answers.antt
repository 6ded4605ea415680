use Rattle.jade_meaning.specs.Plan.{RunPlan}
use Rattle.object_table.proofs.FewNotes.{few_reached}
use Rattle.object_table.proofs.Onces.{once_of}
use Rattle.object_table.proofs.turns.core_laws.Goals as goal

pub returns : goal.returns
returns c = λ (key : RunPlan).
    let there = c.entries_are_there.ensures key.program key.numbers key.limit in
    record {
      tells = c.core_tells.ensures key.program key.numbers key.limit;
      entries = there;
      once = once_of key there;
      holders = c.holders_are_live.ensures key.program key.numbers key.limit;
      few = record { each = λ k roll ss told r. few_reached c.notes_are_serial.ensures c.report_ascends.ensures key.program key.numbers key.limit k roll ss told r };
    }
