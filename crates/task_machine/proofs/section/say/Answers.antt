use Rattle.std.proofs.Common.{sym, ◌∙◌}
use Rattle.task_machine.proofs.Sections.{said_past}
use Rattle.task_machine.proofs.section.say.Goals as goal

pub returns-else-object-own : goal.returns-else-object-own
returns-else-object-own c = said_past c.args.own.now c.args.word c.args.object c.in-Building.is c.if-object-own.false

pub returns-in-Some : goal.returns-in-Some
returns-in-Some c = c.change.ensures c.args.word (sym c.change_of.ensures ∙ c.in-Some.is)
