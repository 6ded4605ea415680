use Rattle.std.proofs.Common.{sym, subst}
use Rattle.jade_syntax.specs.Objects.{sizes}
use Rattle.task_machine.specs.steps.Holding.{RowsAscend}
use Rattle.task_machine.proofs.Rows.{whole_ascend, whole_held}
use Rattle.task_machine.proofs.holdings.Holdings.whole.Goals as goal

pub invariant_of-result : goal.invariant_of-result
invariant_of-result c = subst RowsAscend (sym c.in_ok-rows.ensures) (whole_ascend 0 (sizes c.args.checked.now.program.items))

pub returns : goal.returns
returns c = whole_held c.in_ok-rows.rows.items (sizes c.args.checked.now.program.items) c.in_ok-rows.ensures
