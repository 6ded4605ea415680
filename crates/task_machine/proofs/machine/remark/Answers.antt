use Rattle.std.proofs.Common.{◌≡◌, ◌+◌, suc, ap, arith, length, length-set, refl, ◌∙◌}
use Rattle.std.specs.Prelude.{slice_index_or, slice_set}
use Rattle.task_machine.specs.Machines.{due_in}
use Rattle.task_machine.specs.steps.Standing.{is_due_anew, marks_anew}
use Rattle.task_machine.proofs.Changing.{anew_step, marks_are}
use Rattle.task_machine.proofs.machine.remark.Goals as goal

pub rows-init : goal.rows-init
rows-init c = record { marks = refl; long = c.requires }

pub rows-preserved : goal.rows-preserved
rows-preserved c =
    let e = c.args.execution.now in
    let ds = c.args.due.now.items in
    let now = c.rows.due.items in
    let n = c.rows.place in
    let o = c.object_at.result in
    let b = c.index.result.now in
    let more : suc n ≡ n + 1 = omega arith in
    record {
      marks =
          ap (λ x. slice_set now n x) (c.is_due_anew.ensures ∙ ap (λ x. is_due_anew e x o.0) c.index.ensures)
          ∙ ap (λ l. slice_set l n (is_due_anew e (slice_index_or l n b) o.0)) c.rows.invariant.marks
          ∙ anew_step e n e.rows ds o b c.object_at.ensures c.requires
          ∙ ap (λ k. marks_anew e k e.rows ds) more;
      long = length-set now n c.is_due_anew.result ∙ c.rows.invariant.long;
    }

pub returns : goal.returns
returns c =
    let e = c.args.execution.now in
    let ds = c.args.due.now.items in
    let past = c.rows-test.false in
    let within = c.rows.auto.place-end in
    let count = c.rows-place-end.ensures.count in
    let all : c.rows.place ≡ length e.rows = omega (arith, past, within, count) in
    c.rows.invariant.marks ∙ ap (λ k. marks_anew e k e.rows ds) all
    ∙ marks_are e (due_in e.rows ds) e.rows ds c.rows-place-end.ensures.ascend c.requires (λ j h. refl)
