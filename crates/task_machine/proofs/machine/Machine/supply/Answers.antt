use Rattle.std.proofs.Common.{Some, false, ap, ◌∙◌}
use Rattle.std.specs.Prelude.{nat_eq, if◌then◌else◌}
use Rattle.task_machine.specs.Executions.{Execution, held_by}
use Rattle.task_machine.specs.Asks.{Asking}
use Rattle.task_machine.proofs.Answering.{supply_kept, supply_held}
use Rattle.task_machine.proofs.Quiet.{still_unmarked}
use Rattle.task_machine.proofs.Sought.{done_marked}
use Rattle.task_machine.proofs.machine.Machine.supply.Goals as goal

pub invariant_of-self : goal.invariant_of-self
invariant_of-self c =
    let m = c.self.inside in
    record {
      kept =
          supply_kept m.execution m.due.items m.phase m.part m.ask m.asks m.children m.touched c.args.object c.args.content _ _
          c.self.invariant.kept (ap (λ (a : Asking). a.ask) c.self.view_is ∙ c.requires) c.set_mark-place.ensures c.supply.ensures;
      done =
          done_marked m.execution c.args.object.0 (Some c.args.content) false m.due.items m.phase _ _ m.from.0 _ c.supply.ensures
          c.set_mark-place.ensures c.below-self-inside.ensures.0 c.below-self-inside.ensures.1 c.self.invariant.done;
      unset = still_unmarked c.args.object.0 m.execution.rows m.due.items _ m.unmarked c.set_mark-place.ensures c.self.invariant.unset;
    }

pub returns-clause-held : goal.returns-clause-held
returns-clause-held c =
    let m = c.self.inside in
    λ j. ap (λ (e : Execution). held_by e j) c.supply.ensures
    ∙ supply_held m.execution m.due.items m.phase m.part m.ask m.asks m.children m.touched c.args.object c.args.content c.self.invariant.kept
    (ap (λ (a : Asking). a.ask) c.self.view_is ∙ c.requires) j
    ∙ ap (λ (a : Asking). if nat_eq j c.args.object.0 then Some c.args.content else held_by a.at.execution j) c.self.view_is
