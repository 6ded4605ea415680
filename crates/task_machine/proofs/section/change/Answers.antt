use Rattle.std.proofs.Common.{refl}
use Rattle.task_machine.proofs.Sections.{changed, refused, changed_past, refused_past}
use Rattle.task_machine.proofs.section.change.Goals as goal

pub returns-in-Ok : goal.returns-in-Ok
returns-in-Ok c = λ how asks. changed c.args.own.now how c.args.change c.args.object c.requires asks c.change.new.self c.if-object-own.true _ refl
    c.in-Ok.ensures.changed

pub returns-in-Err : goal.returns-in-Err
returns-in-Err c = λ how asks.
    refused c.args.own.now how c.args.change c.args.object c.requires asks c.change.new.self c.if-object-own.true c.in-Err.ensures.refused.0
    c.in-Err.ensures.refused.1

pub returns-in-Ok-amend : goal.returns-in-Ok-amend
returns-in-Ok-amend c = λ how asks. changed_past c.args.own.now how c.args.change c.args.object c.requires asks c.if-object-own.false _ c.in-Ok-amend.ensures

pub returns-in-Err-amend : goal.returns-in-Err-amend
returns-in-Err-amend c = λ how asks. refused_past c.args.own.now how c.args.change c.args.object c.requires asks c.if-object-own.false c.in-Err-amend.ensures
