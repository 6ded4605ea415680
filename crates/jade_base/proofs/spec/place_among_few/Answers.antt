use Rattle.std.proofs.Common.{subst}
use Rattle.jade_base.specs.Specification.{IsMissing}
use Rattle.jade_base.proofs.Entries.{missing_in_runs}
use Rattle.jade_base.proofs.spec.place_among_few.Goals as goal

pub returns-in-None-place_in_run : goal.returns-in-None-place_in_run
returns-in-None-place_in_run c =
    subst (λ xs. IsMissing xs c.args.object) c.as_slices.ensures.items
    (missing_in_runs c.as_slices.result.0.now c.as_slices.result.1.now c.args.object c.in-None.ensures c.in-None-place_in_run.ensures)
