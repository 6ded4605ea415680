use Rattle.std.proofs.Common.{◌+◌, ◌-◌, ◌*◌, ◌<◌, ◌≤◌, length, refl, sym, ap, subst, ◌∙◌}
use Rattle.task_machine.specs.Playing.{contents_of, played}
use Rattle.task_machine.specs.Stages.{ahead, Tells}
use Rattle.task_machine.specs.Executions.{Advanced}
use Rattle.task_machine.specs.steps.Running.{stage}
use Rattle.task_machine.specs.steps.Executing.{shown}
use Rattle.task_machine.proofs.Executing.{runs_on}
use Rattle.task_machine.proofs.execution.Execution.advance.Goals as goal

pub go_to_pause-requires : goal.go_to_pause-requires
go_to_pause-requires c =
    let e = c.self.inside in
    record {
      runs = runs_on e.code.now e.body (record {
        fine_at =
            c.instructions-code.ensures.valid.fine_at;
      }) c.self.invariant.there c.instructions-code.result.now (length e.frame.slots.items) e.own.objects
          c.instructions-code.ensures.code c.self.invariant.slots c.self.invariant.objects;
    }

pub returns : goal.returns
returns c =
    let e = c.self.inside in
    let a = c.go_to_pause.ensures.advances in
    let code = c.instructions-code.ensures.code in
    subst (λ old. Advanced old c.go_to_pause.result
    (shown e.code.now e.numbers.now e.limit e.body c.go_to_pause.new.own c.go_to_pause.new.frame c.go_to_pause.new.held))
    c.self.view_is (record {
      plays = λ child n.
          ap (λ is. played (ahead child (stage is e.own e.frame.left e.frame.place e.frame.slots.items)) (contents_of e.held) n e.frame.events) (sym code)
          ∙ a.plays child n
          ∙ ap (λ is. played
          (ahead child (stage is c.go_to_pause.new.own c.go_to_pause.new.frame.left c.go_to_pause.new.frame.place c.go_to_pause.new.frame.slots.items))
          (contents_of c.go_to_pause.new.held) (n + (e.frame.left - c.go_to_pause.new.frame.left)) c.go_to_pause.new.frame.events) code;
      fewer = a.fewer;
      work = subst (λ is. c.go_to_pause.new.frame.left * (length is + 1) + (length is - c.go_to_pause.new.frame.place)
          ≤ e.frame.left * (length is + 1) + (length is - e.frame.place)) code a.work;
      tells = λ child. subst (λ is. Tells c.go_to_pause.result child
          (stage is c.go_to_pause.new.own c.go_to_pause.new.frame.left c.go_to_pause.new.frame.place c.go_to_pause.new.frame.slots.items)
          (contents_of c.go_to_pause.new.held))
          code (a.tells child);
      there = λ ne. subst (λ is. c.go_to_pause.new.frame.place < length is) code (a.there ne);
      task = record { program = refl; numbers = refl; limit = refl; body = refl; objects = a.sized.kept.objects; rights = a.sized.kept.rights };
      rows = c.go_to_pause.ensures.objects;
    })
