use Rattle.std.proofs.Common.{None, ap, ap₂, subst, ◌∙◌, ◌≡◌}
use Rattle.task_machine.specs.declared.next.Phase.TheVariants as phase
use Rattle.task_machine.specs.Asks.{Asking, changed}
use Rattle.task_machine.specs.steps.Standing.{asking}
use Rattle.task_machine.proofs.Changing.{change_kept}
use Rattle.task_machine.proofs.Quiet.{untaken_below}
use Rattle.task_machine.proofs.machine.Machine.changed.Goals as goal

pub mark_changed-self-inside-requires-clause-held : goal.mark_changed-self-inside-requires-clause-held
mark_changed-self-inside-requires-clause-held c = record { agrees = c.self.invariant.kept.order.agrees }

pub invariant_of-self : goal.invariant_of-self
invariant_of-self c =
    let m = c.self.inside in
    record {
      kept =
          change_kept m.execution m.due.items m.phase m.part m.ask m.asks m.children m.touched _ _ c.self.invariant.kept
          (ap (λ (a : Asking). a.ask) c.self.view_is ∙ c.requires) c.mark_changed-self-inside.ensures.marks c.change.ensures.changed c.change.ensures.rights;
      done = untaken_below c.change.new.self c.mark_changed-self-inside.new.due.items c.mark_changed-self-inside.result _ c.mark_changed-self-inside.ensures.unset c.untaken-self-inside.ensures;
      unset = c.mark_changed-self-inside.ensures.unset;
    }

pub returns : goal.returns
returns c =
    let m = c.self.inside in
    subst (λ (a : Asking). asking c.change.new.self c.mark_changed-self-inside.new.due.items phase.Taking m.part None m.asks m.children m.touched
    ≡ record a { at = changed a.at; ask = None }) c.self.view_is
    (ap₂ (λ y ms. asking y ms phase.Taking m.part None m.asks m.children m.touched) c.change.ensures.changed c.mark_changed-self-inside.ensures.marks)
