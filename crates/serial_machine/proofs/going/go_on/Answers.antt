use Rattle.std.proofs.Common.{subst}
use Rattle.task_machine.specs.steps.Holding.{contents_of}
use Rattle.task_machine.specs.steps.Running.{TellsAt}
use Rattle.serial_machine.proofs.Pausing.{nothing, goes_advanced, goes_declared, all_held, takes_nothing, stops_outside, change_is_no_end}
use Rattle.serial_machine.proofs.going.go_on.Goals as goal

pub declare_for_child-requires : goal.declare_for_child-requires
declare_for_child-requires c =
    let g = c.advance.new.frame in
    (subst (λ p. TellsAt p nothing c.args.code.now c.advance.new.own g.left g.place g.slots.items (contents_of c.advance.new.held)) c.in-Declare.is
    (c.advance.ensures.tells nothing)).1

pub run-preserved : goal.run-preserved
run-preserved c =
    let g = c.advance.new.frame in
    goes_declared c.in-Declare.object c.in-Declare.rights c.declare_for_child.new.own c.go_past.new.frame _
    (goes_advanced c.advance.result c.run.invariant c.advance.ensures)
    (λ child. subst (λ p. TellsAt p child c.args.code.now c.advance.new.own g.left g.place g.slots.items (contents_of c.advance.new.held)) c.in-Declare.is
    (c.advance.ensures.tells child))
    c.in_ok-declare_for_child-in-Declare.ensures.declared c.in_ok-declare_for_child-in-Declare.ensures.spread c.go_past.ensures

pub returns-in-End : goal.returns-in-End
returns-in-End c =
    let g = c.advance.new.frame in
    record {
      on = goes_advanced c.advance.result c.run.invariant c.advance.ensures;
      tells = λ child.
          subst (λ p. TellsAt p child c.args.code.now c.advance.new.own g.left g.place g.slots.items (contents_of c.advance.new.held)) c.in-End.is
          (c.advance.ensures.tells child);
    }

pub returns-in-Fault : goal.returns-in-Fault
returns-in-Fault c =
    let g = c.advance.new.frame in
    record {
      on = goes_advanced c.advance.result c.run.invariant c.advance.ensures;
      tells = λ child.
          subst (λ p. TellsAt p child c.args.code.now c.advance.new.own g.left g.place g.slots.items (contents_of c.advance.new.held)) c.in-Fault.is
          (c.advance.ensures.tells child);
    }

pub returns-in-Create : goal.returns-in-Create
returns-in-Create c =
    let g = c.advance.new.frame in
    record {
      on = goes_advanced c.advance.result c.run.invariant c.advance.ensures;
      tells = λ child.
          let t = subst (λ p. TellsAt p child c.args.code.now c.advance.new.own g.left g.place g.slots.items (contents_of c.advance.new.held)) c.in-Create.is
          (c.advance.ensures.tells child) in
          (t.0, t.2);
    }

pub returns-in-Change : goal.returns-in-Change
returns-in-Change c =
    let g = c.advance.new.frame in
    record {
      on = goes_advanced c.advance.result c.run.invariant c.advance.ensures;
      tells = λ child.
          let t = subst (λ p. TellsAt p child c.args.code.now c.advance.new.own g.left g.place g.slots.items (contents_of c.advance.new.held)) c.in-Change.is
          (c.advance.ensures.tells child) in
          (c.advance.ensures.there (change_is_no_end c.advance.result c.in-Change.is), t.1);
    }

pub unreachable-requires : goal.unreachable-requires
unreachable-requires c =
    let g = c.advance.new.frame in
    takes_nothing c.in-Take.field-0 nothing c.args.code.now c.advance.new.own g (contents_of c.advance.new.held)
    (all_held c.requires.held (goes_advanced c.advance.result c.run.invariant c.advance.ensures))
    (subst (λ p. TellsAt p nothing c.args.code.now c.advance.new.own g.left g.place g.slots.items (contents_of c.advance.new.held)) c.in-Take.is
    (c.advance.ensures.tells nothing))

pub outside-requires-clause-section : goal.outside-requires-clause-section
outside-requires-clause-section c =
    let g = c.advance.new.frame in
    subst (λ p. TellsAt p nothing c.args.code.now c.advance.new.own g.left g.place g.slots.items (contents_of c.advance.new.held)) c.in-Other.is
    (c.advance.ensures.tells nothing)

pub returns-in-Other : goal.returns-in-Other
returns-in-Other c =
    stops_outside c.in_ok-stop-in-Other.stop c.outside.new.own (goes_advanced c.advance.result c.run.invariant c.advance.ensures)
    c.in_ok-stop-in-Other.ensures
