use Rattle.std.proofs.Common.{ap, sym, subst, ◌∙◌}
use Rattle.jade_meaning.specs.Spread.{spread}
use Rattle.task_machine.specs.Machines.{child_of}
use Rattle.task_machine.specs.steps.Standing.{Comes}
use Rattle.task_machine.specs.Executions.{Execution}
use Rattle.task_machine.proofs.Coming.{comes_here, comes_to, comes_past, less_past}
use Rattle.task_machine.proofs.machine.run.Goals as goal

pub run-init : goal.run-init
run-init c = comes_here _

pub declare-requires-clause-within : goal.declare-requires-clause-within
declare-requires-clause-within c = (c.in-Declare.ensures.tells (child_of c.run.execution)).1

pub declare-requires-clause-place : goal.declare-requires-clause-place
declare-requires-clause-place c = c.in-Declare.ensures.there (λ h. cc)

pub run-smaller : goal.run-smaller
run-smaller c =
    let d = c.in_ok-declare-in-Declare.ensures.declared in
    less_past c.run.execution c.advance-pause.new.self c.declare.new.self _ c.in-Declare.ensures (λ h. cc) (ap (λ (e : Execution). e.stage.place) d)
    (ap (λ (e : Execution). e.stage.left) d) (ap (λ (e : Execution). e.stage.code) d)

pub run-preserved : goal.run-preserved
run-preserved c =
    let d = c.in_ok-declare-in-Declare.ensures.declared in
    let on = comes_to c.args.execution.now c.run.execution c.advance-pause.new.self _ c.run.invariant c.in-Declare.ensures in
    subst (Comes c.args.execution.now) (sym d)
    (comes_past c.args.execution.now c.advance-pause.new.self c.in-Declare.object c.in-Declare.rights on _
    (sym (ap (λ (e : Execution). spread e.stage.objects e.stage.child.entries) d) ∙ c.in_ok-declare-in-Declare.ensures.spread))
