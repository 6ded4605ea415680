use Rattle.std.proofs.Common.{◌≡◌, ◌≤◌}
use Rattle.proc_expand.specs.Words.{some, open_before}
use Rattle.proc_expand.specs.steps.Looking.{tests}
use Rattle.proc_expand.specs.Refusals.{begins, is_outer_main}
use Rattle.proc_expand.proofs.procedures.beginnings.Given as goal

abbrev pub invariant-loop-place : goal.invariant-loop-place
invariant-loop-place l = record {
  found : l.found.items ≡ tests l.place (begins l.signs);
  open_so : l.standing.depth ≡ open_before l.signs l.place;
  few : l.standing.depth ≤ l.place;
  main : l.standing.after_main ≡ some l.place (is_outer_main l.signs);
}
