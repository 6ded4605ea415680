use Rattle.std.proofs.Common.{◌≡◌, ◌-◌, ◌+◌, ◌*◌, ◌≤◌, length, drop}
use Rattle.proc_expand.specs.Refusals.{params_from, with_params}
use Rattle.proc_expand.proofs.procedures.read_params.Given as goal

abbrev pub invariant-listing : goal.invariant-listing
invariant-listing l = record {
  at : l.place ≡ l.fn.start + 3 * l.params;
  within : l.place ≤ length l.signs;
  same : params_from l.fn.start (drop l.fn.start l.signs) ≡ with_params l.params (params_from l.place (drop l.place l.signs));
}

abbrev pub decreases-listing : goal.decreases-listing
decreases-listing l = length l.signs - l.place
