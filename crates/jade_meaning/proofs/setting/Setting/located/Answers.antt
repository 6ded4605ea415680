use Rattle.std.proofs.Common.{◌∙◌}
use Rattle.jade_syntax.specs.Image.{placed, member}
use Rattle.jade_meaning.specs.steps.Direct.{located}
use Rattle.jade_meaning.proofs.Storing.{place_is, got_is, fault_is, never_awaits}
use Rattle.jade_meaning.proofs.setting.Setting.located.Goals as goal

pub unreachable-requires : goal.unreachable-requires
unreachable-requires c =
    never_awaits (located c.args.self.now.items c.args.task.now.scope c.args.task.now.spec c.args.store.now
    (placed c.args.name.now c.args.at (member c.args.family.now))) _ _ 0
    (rw c.in-Err-Awaits.field-0-is at c.in-Err-Awaits.ensures ∙ place_is c.args.self.now.items c.args.task.now.scope c.args.task.now.spec c.args.store.now
    (placed c.args.name.now c.args.at (member c.args.family.now)) 0)

pub returns-in-Ok : goal.returns-in-Ok
returns-in-Ok c =
    got_is (located c.args.self.now.items c.args.task.now.scope c.args.task.now.spec c.args.store.now
    (placed c.args.name.now c.args.at (member c.args.family.now))) c.in-Ok.found _ 0
    (c.in-Ok.ensures ∙ place_is c.args.self.now.items c.args.task.now.scope c.args.task.now.spec c.args.store.now
    (placed c.args.name.now c.args.at (member c.args.family.now)) 0)

pub returns-in-Err-Fault : goal.returns-in-Err-Fault
returns-in-Err-Fault c =
    fault_is (located c.args.self.now.items c.args.task.now.scope c.args.task.now.spec c.args.store.now
    (placed c.args.name.now c.args.at (member c.args.family.now))) c.in-Err-Fault.blame 0
    (rw c.in-Err-Fault.field-0-is at c.in-Err-Fault.ensures ∙ place_is c.args.self.now.items c.args.task.now.scope c.args.task.now.spec c.args.store.now
    (placed c.args.name.now c.args.at (member c.args.family.now)) 0)
