use Rattle.std.proofs.Common.{ap, arith}
use Rattle.proc_expand.specs.Written.{next_free}
use Rattle.proc_expand.specs.steps.Replaced.{taken_names}
use Rattle.proc_expand.proofs.fresh.next_free.Goals as goal

pub trying-init : goal.trying-init
trying-init c = record {
  same = ap (λ i. next_free i (taken_names c.args.taken.now) c.args.number) c.len-left.ensures;
  sum = let l = c.len-left.ensures in omega (arith, l);
}
