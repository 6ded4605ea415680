use Rattle.std.proofs.Common.{◌≡◌, ◌+◌, length}
use Rattle.proc_expand.specs.Written.{next_free}
use Rattle.proc_expand.specs.steps.Replaced.{taken_names}
use Rattle.proc_expand.proofs.fresh.next_free.Given as goal

abbrev pub invariant-trying : goal.invariant-trying
invariant-trying l = record {
  same : next_free l.left (taken_names l.taken) l.next ≡ next_free (length (taken_names l.taken)) (taken_names l.taken) l.number;
  sum : l.next + l.left ≡ l.number + length (taken_names l.taken);
}

abbrev pub decreases-trying : goal.decreases-trying
decreases-trying l = l.left
