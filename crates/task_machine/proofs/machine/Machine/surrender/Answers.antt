use Rattle.std.proofs.Common.{None, ap, ◌∙◌}
use Rattle.std.specs.Prelude.{nat_eq, if◌then◌else◌}
use Rattle.task_machine.specs.Executions.{Execution, held_by}
use Rattle.task_machine.specs.Asks.{Asking}
use Rattle.task_machine.proofs.Answering.{give_held, surrender_kept, surrender_held}
use Rattle.task_machine.proofs.Sought.{done_given}
use Rattle.task_machine.proofs.machine.Machine.surrender.Goals as goal

pub take_out-requires : goal.take_out-requires
take_out-requires c =
    let m = c.self.inside in
    give_held m.execution m.due.items m.phase m.part m.ask m.asks m.children m.touched c.args.object c.self.invariant.kept
    (ap (λ (a : Asking). a.ask) c.self.view_is ∙ c.requires)

pub invariant_of-self : goal.invariant_of-self
invariant_of-self c =
    let m = c.self.inside in
    record {
      kept =
          surrender_kept m.execution m.due.items m.phase m.part m.ask m.asks m.children m.touched c.args.object c.self.invariant.kept
          (ap (λ (a : Asking). a.ask) c.self.view_is ∙ c.requires) _ _ c.mark_given-self-inside.ensures.marks c.take_out.ensures.rows;
      done =
          done_given m.execution c.args.object.0 None m.due.items m.phase _ _ m.from.0 _ c.take_out.ensures.rows c.mark_given-self-inside.ensures.marks
          c.below-self-inside.ensures.0 c.below-self-inside.ensures.1 c.self.invariant.done;
      unset = c.mark_given-self-inside.ensures.unset;
    }

pub returns-clause-held : goal.returns-clause-held
returns-clause-held c =
    let m = c.self.inside in
    λ j. ap (λ (e : Execution). held_by e j) c.take_out.ensures.rows
    ∙ surrender_held m.execution m.due.items m.phase m.part m.ask m.asks m.children m.touched c.args.object c.self.invariant.kept
    (ap (λ (a : Asking). a.ask) c.self.view_is ∙ c.requires) j
    ∙ ap (λ (a : Asking). if nat_eq j c.args.object.0 then None else held_by a.at.execution j) c.self.view_is
