use Rattle.std.proofs.Common.{◌∷◌, map, length, sym, ap, ◌∙◌}
use Rattle.jade_syntax.specs.CheckedProgram.{CheckedProgram}
use Rattle.jade_syntax.specs.Image.{program as abstracted}
use Rattle.jade_syntax.specs.Objects.{sizes}
use Rattle.jade_meaning.specs.Answer.{Cells}
use Rattle.jade_meaning.specs.Serial.{zeros}
use Rattle.task_code.specs.Rules.{TaskCode}
use Rattle.code_keeps.proofs.Inputs.{inputs_many}
use Rattle.task_machine.specs.Whole.{all_held}
use Rattle.task_machine.specs.steps.Holding.{contents_of}
use Rattle.serial_machine.specs.declared.level.Level.{Level}
use Rattle.serial_machine.specs.steps.Settles.{Fault}
use Rattle.serial_machine.specs.steps.Levels.{ended}
use Rattle.serial_machine.proofs.Answering.{fits, fault_answered, whole_holds, whole_answered}
use Rattle.serial_machine.proofs.answer.run_serial.Goals as goal

pub root-requires-clause-numbers : goal.root-requires-clause-numbers
root-requires-clause-numbers c =
    c.requires.given ∙ inputs_many c.args.compiled.now.program.items ∙ sym (ap (λ (x : TaskCode). x.inputs) c.decoded-code.ensures.code)

pub run-requires-clause-fits : goal.run-requires-clause-fits
run-requires-clause-fits c =
    let zero = c.in_ok-held.ensures ∙ ap (λ (q : CheckedProgram). all_held (zeros (sizes q.program.items))) c.checked-2.ensures in
    fits (abstracted c.args.compiled.now.program) c.decoded-code.result.now c.args.numbers.now c.args.limit c.decoded-code.ensures.code c.keeps_rules.ensures
    (c.decoded-code.ensures.follows c.args.limit) (c.requires.given ∙ inputs_many c.args.compiled.now.program.items)
    (record { waiting = c.new.result; level = c.in_ok-root.field-0 }) c.new.ensures.items c.in_ok-root.ensures (contents_of c.in_ok-held.held) zero

pub cells_of-requires : goal.cells_of-requires
cells_of-requires c =
    let zero = c.in_ok-held.ensures ∙ ap (λ (q : CheckedProgram). all_held (zeros (sizes q.program.items))) c.checked-2.ensures in
    let many = c.objects-objects.ensures ∙ ap (λ (q : CheckedProgram). length (sizes q.program.items)) c.checked.ensures in
    let end = c.in_ok-blame.ensures ∙ ap (λ o. ended o c.run.new.stack (contents_of c.run.new.held)) c.in-None.is in
    record {
      held = (whole_holds (abstracted c.args.compiled.now.program) c.decoded-code.result.now c.args.numbers.now c.args.limit c.decoded-code.ensures.code
          c.keeps_rules.ensures (c.decoded-code.ensures.follows c.args.limit) (c.requires.given ∙ inputs_many c.args.compiled.now.program.items)
          (record { waiting = c.new.result; level = c.in_ok-root.field-0 }) c.new.ensures.items c.in_ok-root.ensures (contents_of c.in_ok-held.held) zero
          (contents_of c.run.new.held) c.objects-objects.result many end).held;
    }

pub returns-in_ok-path_of-in-Some : goal.returns-in_ok-path_of-in-Some
returns-in_ok-path_of-in-Some c =
    let zero = c.in_ok-held.ensures ∙ ap (λ (q : CheckedProgram). all_held (zeros (sizes q.program.items))) c.checked-2.ensures in
    let b = c.in-Some.blame in
    let end = c.in_ok-blame.ensures ∙ ap (λ o. ended o c.run.new.stack (contents_of c.run.new.held)) c.in-Some.is
    ∙ ap (λ vs. Fault (0 ∷ map (λ (v : Level). v.children) vs) b) (sym c.as_slice.ensures.value)
    ∙ ap (λ q. Fault q b) (sym c.in_ok-path_of-in-Some.ensures) in
    fault_answered (abstracted c.args.compiled.now.program) c.decoded-code.result.now c.args.numbers.now c.args.limit c.decoded-code.ensures.code
    c.keeps_rules.ensures (c.decoded-code.ensures.follows c.args.limit) (c.requires.given ∙ inputs_many c.args.compiled.now.program.items)
    (record { waiting = c.new.result; level = c.in_ok-root.field-0 }) c.new.ensures.items c.in_ok-root.ensures (contents_of c.in_ok-held.held) zero
    (c.stops_in_order.ensures (abstracted c.args.compiled.now.program) c.args.numbers.now c.args.limit) c.in_ok-path_of-in-Some.field-0 b end

pub returns-in_ok-cells_of-in-None : goal.returns-in_ok-cells_of-in-None
returns-in_ok-cells_of-in-None c =
    let zero = c.in_ok-held.ensures ∙ ap (λ (q : CheckedProgram). all_held (zeros (sizes q.program.items))) c.checked-2.ensures in
    let many = c.objects-objects.ensures ∙ ap (λ (q : CheckedProgram). length (sizes q.program.items)) c.checked.ensures in
    let end = c.in_ok-blame.ensures ∙ ap (λ o. ended o c.run.new.stack (contents_of c.run.new.held)) c.in-None.is in
    ap Cells c.in_ok-cells_of-in-None.ensures
    ∙ whole_answered (abstracted c.args.compiled.now.program) c.decoded-code.result.now c.args.numbers.now c.args.limit c.decoded-code.ensures.code
    c.keeps_rules.ensures (c.decoded-code.ensures.follows c.args.limit) (c.requires.given ∙ inputs_many c.args.compiled.now.program.items)
    (record { waiting = c.new.result; level = c.in_ok-root.field-0 }) c.new.ensures.items c.in_ok-root.ensures (contents_of c.in_ok-held.held) zero
    (c.stops_in_order.ensures (abstracted c.args.compiled.now.program) c.args.numbers.now c.args.limit) (contents_of c.run.new.held)
    c.objects-objects.result many end
