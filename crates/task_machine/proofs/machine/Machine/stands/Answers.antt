use Rattle.std.proofs.Common.{Some, subst, ◌≡◌}
use Rattle.task_machine.specs.declared.machine.Ask.{Ask}
use Rattle.task_machine.specs.Asks.{Asking, Stands}
use Rattle.task_machine.specs.steps.Standing.{asking}
use Rattle.task_machine.proofs.Answering.{stands_now}
use Rattle.task_machine.proofs.Changing.{change_stands}
use Rattle.task_machine.proofs.machine.Machine.stands.Goals as goal

pub returns : goal.returns
returns c =
    let m = c.self.inside in
    let a = asking m.execution m.due.items m.phase m.part m.ask m.asks m.children m.touched in
    let all : (k : Ask) → a.ask ≡ Some k → Stands k a =
    λ k is. stands_now a k c.self.invariant.kept is (λ p changes none good vs.
    change_stands m.execution m.due.items m.part p good c.self.invariant.kept.rows changes none c.settles.ensures vs) in
    subst (λ (b : Asking). (k : Ask) → b.ask ≡ Some k → Stands k b) c.self.view_is all
