use Rattle.std.proofs.Common.{◌-◌, length, suc}
use Rattle.proc_expand.specs.steps.Replaced.{taken_names, AreFree}
use Rattle.proc_expand.proofs.fresh.free_number.Given as goal

abbrev pub invariant-growing : goal.invariant-growing
invariant-growing l = AreFree (taken_names l.taken) l.numbers.items

abbrev pub decreases-growing : goal.decreases-growing
decreases-growing l = suc l.wanted - length l.numbers.items
