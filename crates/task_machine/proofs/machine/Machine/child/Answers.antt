use Rattle.std.proofs.Common.{refl, ap, ap₂, length, map, sym, subst, ◌∙◌, true, false}
use Rattle.std.specs.Prelude.{replicate}
use Rattle.jade_base.specs.Specification.{Specification as Sparse}
use Rattle.jade_meaning.specs.Course.{Course}
use Rattle.jade_meaning.specs.Specification.{Specification}
use Rattle.jade_meaning.specs.Talk.{talk}
use Rattle.code_meaning.specs.Meaning.{passed}
use Rattle.task_machine.specs.Playing.{contents_of}
use Rattle.task_machine.specs.Stages.{slots_of}
use Rattle.task_machine.specs.Executions.{body_at, without_content}
use Rattle.task_machine.specs.Machines.{all_due, child_task}
use Rattle.task_machine.specs.Asks.{Asking, BeginsAs, number_of}
use Rattle.task_machine.proofs.Answering.{all_marked, begins_as, create_kept, nothing_held, rows_long}
use Rattle.task_machine.proofs.machine.Machine.child.Goals as goal

pub begun-requires-clause-due : goal.begun-requires-clause-due
begun-requires-clause-due c =
    let es = c.self.inside.execution.stage.child.entries in
    c.in_ok-due.ensures
    ∙ ap (λ n. replicate n true) (c.len.ensures.count ∙ ap (λ (s : Sparse). length s.entries) c.child_spec.ensures ∙ sym (rows_long es))
    ∙ all_marked (map without_content es) ∙ ap all_due (sym c.in_ok-execution.ensures.begun.rows)

pub invariant_of-self-2 : goal.invariant_of-self-2
invariant_of-self-2 c =
    let m = c.self.inside in
    record {
      kept =
          create_kept m.execution m.due.items m.phase m.part m.ask m.asks m.children m.touched _ _ _ c.self.invariant.kept
          (ap (λ (a : Asking). a.ask) c.self.view_is ∙ c.requires) c.in_ok-execution.ensures.moved c.steps_left-self-inside.ensures;
      done = λ j lt. refl {a = false};
      unset = c.self.invariant.unset;
    }

pub returns-clause-begins : goal.returns-clause-begins
returns-clause-begins c =
    let m = c.self.inside.execution in
    let e = c.in_ok-execution.execution in
    let b = c.in_ok-execution.ensures.begun in
    let number = c.number_of-number.result in
    let is = c.begins_its_course.ensures.child m number e c.self.invariant.kept.objects c.creates.ensures.later c.creates.ensures.there b in
    let begins : BeginsAs (child_task number m) c.begun.result =
    begins_as e (child_task number m) _ c.begun.ensures
    (λ vs. c.begins_its_talk.ensures m.program m.numbers m.limit number (passed m.numbers (body_at m.program number).call (slots_of m.stage.slots))
    m.stage.child.entries e b vs
    ∙ ap₂ (λ (s : Specification) (k : Course). talk (record { spec = s; course = k }) vs) is.rights is.course)
    (λ o. ap (λ rs. contents_of rs o) b.rows ∙ nothing_held m.stage.child.entries o) in
    subst (λ (a : Asking). BeginsAs (child_task (number_of a.at.phase) a.at.execution) c.begun.result) c.self.view_is
    (subst (λ n. BeginsAs (child_task n m) c.begun.result) c.number_of-number.ensures begins)
