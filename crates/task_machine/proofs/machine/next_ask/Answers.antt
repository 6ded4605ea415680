use Rattle.std.proofs.Common.{subst}
use Rattle.task_machine.specs.Left.{IsNone}
use Rattle.task_machine.specs.Machines.{is_to_move}
use Rattle.task_machine.proofs.machine.next_ask.Goals as goal

pub take_first-requires : goal.take_first-requires
take_first-requires c = record {
  done = subst (λ p. IsNone (is_to_move p c.args.execution.now c.args.due.now) c.args.from.0) c.in-Starting.is c.requires.done;
}

pub take_due-requires : goal.take_due-requires
take_due-requires c = record {
  done = subst (λ p. IsNone (is_to_move p c.args.execution.now c.args.due.now) c.args.from.0) c.in-Taking.is c.requires.done;
}

pub give-requires-clause-done : goal.give-requires-clause-done
give-requires-clause-done c = subst (λ p. IsNone (is_to_move p c.args.execution.now c.args.due.now) c.args.from.0) c.in-Creating.is c.requires.done

pub give-requires-in-Changing-clause-done : goal.give-requires-in-Changing-clause-done
give-requires-in-Changing-clause-done c =
    subst (λ p. IsNone (is_to_move p c.args.execution.now c.args.due.now) c.args.from.0) c.in-Changing.is c.requires.done

pub give-requires-in-Ending-clause-done : goal.give-requires-in-Ending-clause-done
give-requires-in-Ending-clause-done c =
    subst (λ p. IsNone (is_to_move p c.args.execution.now c.args.due.now) c.args.from.0) c.in-Ending.is c.requires.done
