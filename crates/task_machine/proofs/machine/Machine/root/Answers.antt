use Rattle.std.proofs.Common.{ap, ap₂, length, ◌∙◌, true}
use Rattle.std.specs.Prelude.{replicate}
use Rattle.jade_base.specs.Rights.{both_rights}
use Rattle.jade_meaning.specs.Course.{Course}
use Rattle.jade_meaning.specs.Specification.{Specification}
use Rattle.jade_meaning.specs.Talk.{Task, talk}
use Rattle.code_meaning.specs.Meaning.{code_course}
use Rattle.task_machine.specs.Playing.{contents_of}
use Rattle.task_machine.proofs.Answering.{all_marked, begins_as, nothing_held}
use Rattle.task_machine.proofs.machine.Machine.root.Goals as goal

pub begun-requires-clause-due : goal.begun-requires-clause-due
begun-requires-clause-due c =
    c.in_ok-due.ensures ∙ ap (λ n. replicate n true) c.rows.ensures.count ∙ all_marked c.in_ok-execution.execution.rows

pub returns-clause-begins : goal.returns-clause-begins
returns-clause-begins c =
    let e = c.in_ok-execution.execution in
    let b = c.in_ok-execution.ensures.begun in
    let code = c.args.code.now in
    let rights = c.in_ok-execution.ensures.rights in
    let same : Task = record {
      spec = replicate (length code.sizes) both_rights;
      course = code_course code.bodies c.args.numbers.now c.args.limit
          (replicate (length code.sizes) both_rights);
    } in
    begins_as e same _ c.begun.ensures
    (λ vs. c.begins_its_talk.ensures code c.args.numbers.now c.args.limit 0 _ e.stage.spec.entries e b vs
    ∙ ap₂ (λ (s : Specification) (k : Course). talk (record { spec = s; course = k }) vs) rights
    (c.begins_its_course.ensures.code code c.args.numbers.now c.args.limit e.stage.spec.entries e c.keeps_rules.ensures b
    ∙ ap (code_course code.bodies c.args.numbers.now c.args.limit) rights))
    (λ o. ap (λ rs. contents_of rs o) b.rows ∙ nothing_held e.stage.spec.entries o)
