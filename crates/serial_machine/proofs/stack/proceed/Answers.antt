use Rattle.std.proofs.Common.{length, subst}
use Rattle.task_machine.specs.steps.Holding.{contents_of}
use Rattle.task_machine.proofs.Executing.{runs_on}
use Rattle.serial_machine.specs.steps.Pausing.{Stops}
use Rattle.serial_machine.proofs.Levels.{to_end, to_fault, to_create, to_change, mid_ready, created_there, create_there, change_there}
use Rattle.serial_machine.proofs.stack.proceed.Goals as goal

pub go_on-requires-clause-runs : goal.go_on-requires-clause-runs
go_on-requires-clause-runs c =
    let v = c.args.stack.now.level in
    let ready = c.requires.runs in
    runs_on c.args.code.now v.body c.instructions-body.ensures.valid ready.there c.instructions-body.result.now (length v.frame.slots.items) v.own.objects
    c.instructions-body.ensures.code ready.slots ready.objects

pub push-requires-clause-there : goal.push-requires-clause-there
push-requires-clause-there c =
    let s = c.args.stack.now in
    let stops = subst (λ is. Stops is s.level.own s.level.frame (contents_of c.args.held.now) c.in_ok-go_on.field-0 c.go_on.new.own c.go_on.new.frame
    (contents_of c.go_on.new.held)) c.instructions-body.ensures.code c.in_ok-go_on.ensures in
    (created_there c.args.code.now c.args.numbers.now s (contents_of c.args.held.now) c.requires c.go_on.new.own c.go_on.new.frame
    (contents_of c.go_on.new.held) c.in_ok-go_on.field-0 stops c.in-Create.number c.instructions-body.ensures.valid c.in-Create.is).1

pub push-requires-clause-place : goal.push-requires-clause-place
push-requires-clause-place c =
    let s = c.args.stack.now in
    let stops = subst (λ is. Stops is s.level.own s.level.frame (contents_of c.args.held.now) c.in_ok-go_on.field-0 c.go_on.new.own c.go_on.new.frame
    (contents_of c.go_on.new.held)) c.instructions-body.ensures.code c.in_ok-go_on.ensures in
    create_there c.args.code.now c.args.numbers.now s (contents_of c.args.held.now) c.requires c.go_on.new.own c.go_on.new.frame
    (contents_of c.go_on.new.held) c.in_ok-go_on.field-0 stops c.in-Create.number c.in-Create.is

pub push-requires-clause-ready : goal.push-requires-clause-ready
push-requires-clause-ready c =
    let s = c.args.stack.now in
    let stops = subst (λ is. Stops is s.level.own s.level.frame (contents_of c.args.held.now) c.in_ok-go_on.field-0 c.go_on.new.own c.go_on.new.frame
    (contents_of c.go_on.new.held)) c.instructions-body.ensures.code c.in_ok-go_on.ensures in
    mid_ready c.args.code.now c.args.numbers.now s (contents_of c.args.held.now) c.requires c.go_on.new.own c.go_on.new.frame
    (contents_of c.go_on.new.held) c.in_ok-go_on.field-0 stops

pub change-requires-clause-place : goal.change-requires-clause-place
change-requires-clause-place c =
    let s = c.args.stack.now in
    let stops = subst (λ is. Stops is s.level.own s.level.frame (contents_of c.args.held.now) c.in_ok-go_on.field-0 c.go_on.new.own c.go_on.new.frame
    (contents_of c.go_on.new.held)) c.instructions-body.ensures.code c.in_ok-go_on.ensures in
    change_there c.args.code.now c.args.numbers.now s (contents_of c.args.held.now) c.requires c.go_on.new.own c.go_on.new.frame
    (contents_of c.go_on.new.held) c.in_ok-go_on.field-0 stops c.in-Change.is

pub returns-in_ok-progress-in-End : goal.returns-in_ok-progress-in-End
returns-in_ok-progress-in-End c =
    let s = c.args.stack.now in
    let stops = subst (λ is. Stops is s.level.own s.level.frame (contents_of c.args.held.now) c.in_ok-go_on.field-0 c.go_on.new.own c.go_on.new.frame
    (contents_of c.go_on.new.held)) c.instructions-body.ensures.code c.in_ok-go_on.ensures in
    to_end c.args.code.now c.args.numbers.now s (contents_of c.args.held.now) c.requires c.go_on.new.own c.go_on.new.frame
    (contents_of c.go_on.new.held) c.in_ok-go_on.field-0 stops c.in-End.is c.in_ok-progress-in-End.progress c.pop.new.stack
    c.in_ok-progress-in-End.ensures

pub returns-in-Fault : goal.returns-in-Fault
returns-in-Fault c =
    let s = c.args.stack.now in
    let stops = subst (λ is. Stops is s.level.own s.level.frame (contents_of c.args.held.now) c.in_ok-go_on.field-0 c.go_on.new.own c.go_on.new.frame
    (contents_of c.go_on.new.held)) c.instructions-body.ensures.code c.in_ok-go_on.ensures in
    to_fault c.args.code.now c.args.numbers.now s (contents_of c.args.held.now) c.requires c.go_on.new.own c.go_on.new.frame
    (contents_of c.go_on.new.held) c.in_ok-go_on.field-0 stops c.in-Fault.blame c.in-Fault.is

pub returns-in_ok-push-in-Create : goal.returns-in_ok-push-in-Create
returns-in_ok-push-in-Create c =
    let s = c.args.stack.now in
    let stops = subst (λ is. Stops is s.level.own s.level.frame (contents_of c.args.held.now) c.in_ok-go_on.field-0 c.go_on.new.own c.go_on.new.frame
    (contents_of c.go_on.new.held)) c.instructions-body.ensures.code c.in_ok-go_on.ensures in
    to_create c.args.code.now c.args.numbers.now s (contents_of c.args.held.now) c.requires c.go_on.new.own c.go_on.new.frame
    (contents_of c.go_on.new.held) c.in_ok-go_on.field-0 stops c.in-Create.number c.instructions-body.ensures.valid c.in-Create.is c.push.new.stack
    c.in_ok-push-in-Create.ensures

pub returns-in-Change : goal.returns-in-Change
returns-in-Change c =
    let s = c.args.stack.now in
    let stops = subst (λ is. Stops is s.level.own s.level.frame (contents_of c.args.held.now) c.in_ok-go_on.field-0 c.go_on.new.own c.go_on.new.frame
    (contents_of c.go_on.new.held)) c.instructions-body.ensures.code c.in_ok-go_on.ensures in
    to_change c.args.code.now c.args.numbers.now s (contents_of c.args.held.now) c.requires c.go_on.new.own c.go_on.new.frame
    (contents_of c.go_on.new.held) c.in_ok-go_on.field-0 stops c.in-Change.is c.change.new.level c.change.ensures
