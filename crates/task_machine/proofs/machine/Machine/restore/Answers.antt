use Rattle.std.proofs.Common.{Some, false, sym, subst}
use Rattle.task_machine.specs.steps.Standing.{IsKept, asking}
use Rattle.task_machine.specs.steps.Surrendering.{IsSurrendered}
use Rattle.task_machine.proofs.Answering.{restored}
use Rattle.task_machine.proofs.Quiet.{still_unmarked}
use Rattle.task_machine.proofs.Sought.{done_marked}
use Rattle.task_machine.proofs.machine.Machine.restore.Goals as goal

pub invariant_of-self : goal.invariant_of-self
invariant_of-self c =
    let m = c.self.inside in
    let before = c.requires.0 in
    let s = subst (IsSurrendered c.args.object c.args.content before) (sym c.self.view_is) c.requires.1 in
    record {
      kept =
          subst IsKept (sym (restored c.args.object c.args.content before
          (asking m.execution m.due.items m.phase m.part m.ask m.asks m.children m.touched) s _ _ c.set_mark-place.ensures c.supply.ensures)) s.is_kept;
      done =
          done_marked m.execution c.args.object.0 (Some c.args.content) false m.due.items m.phase _ _ m.from.0 _ c.supply.ensures
          c.set_mark-place.ensures c.below-self-inside.ensures.0 c.below-self-inside.ensures.1 c.self.invariant.done;
      unset = still_unmarked c.args.object.0 m.execution.rows m.due.items _ m.unmarked c.set_mark-place.ensures c.self.invariant.unset;
    }

pub returns : goal.returns
returns c =
    let m = c.self.inside in
    λ before h.
    restored c.args.object c.args.content before (asking m.execution m.due.items m.phase m.part m.ask m.asks m.children m.touched)
    (subst (IsSurrendered c.args.object c.args.content before) (sym c.self.view_is) h) _ _ c.set_mark-place.ensures c.supply.ensures
