use Rattle.std.proofs.Common.{subst}
use Rattle.task_machine.specs.Left.{IsNone}
use Rattle.task_machine.specs.Machines.{is_to_move}
use Rattle.task_machine.proofs.next.next_from.Goals as goal

pub search-requires : goal.search-requires
search-requires c = subst (λ p. IsNone (is_to_move p c.args.execution.now c.args.due.now) c.args.from.0) c.in-Starting.is c.requires

pub search-requires-in-Taking : goal.search-requires-in-Taking
search-requires-in-Taking c = subst (λ p. IsNone (is_to_move p c.args.execution.now c.args.due.now) c.args.from.0) c.in-Taking.is c.requires

pub search-requires-in-Creating : goal.search-requires-in-Creating
search-requires-in-Creating c = subst (λ p. IsNone (is_to_move p c.args.execution.now c.args.due.now) c.args.from.0) c.in-Creating.is c.requires

pub search-requires-in-Changing : goal.search-requires-in-Changing
search-requires-in-Changing c = subst (λ p. IsNone (is_to_move p c.args.execution.now c.args.due.now) c.args.from.0) c.in-Changing.is c.requires

pub search-requires-in-Ending : goal.search-requires-in-Ending
search-requires-in-Ending c = subst (λ p. IsNone (is_to_move p c.args.execution.now c.args.due.now) c.args.from.0) c.in-Ending.is c.requires
