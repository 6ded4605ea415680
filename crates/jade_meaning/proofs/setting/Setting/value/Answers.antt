use Rattle.std.proofs.Common.{◌∙◌}
use Rattle.jade_syntax.specs.Image.{expression}
use Rattle.jade_meaning.specs.steps.Direct.{worth}
use Rattle.jade_meaning.proofs.Storing.{evaluate_is, got_is, fault_is, never_awaits}
use Rattle.jade_meaning.proofs.setting.Setting.value.Goals as goal

pub unreachable-requires : goal.unreachable-requires
unreachable-requires c =
    never_awaits (worth c.args.self.now.items c.args.task.now.scope c.args.task.now.spec c.args.store.now (expression c.args.e.now)) _ _ 0
    (rw c.in-Err-Awaits.field-0-is at c.in-Err-Awaits.ensures ∙ evaluate_is c.args.self.now.items c.args.task.now.scope c.args.task.now.spec c.args.store.now
    (expression c.args.e.now) 0)

pub returns-in-Ok : goal.returns-in-Ok
returns-in-Ok c =
    got_is (worth c.args.self.now.items c.args.task.now.scope c.args.task.now.spec c.args.store.now (expression c.args.e.now)) c.in-Ok.value _ 0
    (c.in-Ok.ensures ∙ evaluate_is c.args.self.now.items c.args.task.now.scope c.args.task.now.spec c.args.store.now (expression c.args.e.now) 0)

pub returns-in-Err-Fault : goal.returns-in-Err-Fault
returns-in-Err-Fault c =
    fault_is (worth c.args.self.now.items c.args.task.now.scope c.args.task.now.spec c.args.store.now (expression c.args.e.now)) c.in-Err-Fault.blame 0
    (rw c.in-Err-Fault.field-0-is at c.in-Err-Fault.ensures ∙ evaluate_is c.args.self.now.items c.args.task.now.scope c.args.task.now.spec c.args.store.now
    (expression c.args.e.now) 0)
