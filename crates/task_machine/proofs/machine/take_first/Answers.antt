use Rattle.task_machine.proofs.Standing.{none_to_start, other_asked, own_asked}
use Rattle.task_machine.proofs.machine.take_first.Goals as goal

pub returns-in-Some-clause-asks : goal.returns-in-Some-clause-asks
returns-in-Some-clause-asks c = other_asked c.args.execution.now c.args.due.now c.in-Some.object c.take.result c.in-Some.ensures.found c.take.ensures

pub returns-in-Some-own_due-clause-asks : goal.returns-in-Some-own_due-clause-asks
returns-in-Some-own_due-clause-asks c =
    own_asked c.args.execution.now c.args.due.now c.in-Some-own_due.object c.take-in-Some-own_due.result c.in-None.ensures.none c.in-Some-own_due.ensures.due
    c.take-in-Some-own_due.ensures

pub returns-in-None-own_due-clause-none : goal.returns-in-None-own_due-clause-none
returns-in-None-own_due-clause-none c = none_to_start c.args.execution.now c.args.due.now c.in-None.ensures.none c.in-None-own_due.ensures.not
