use Rattle.std.proofs.Common.{Bool, false, List, None, Option, Some, refl, ap, ap₂, sym, subst, ◌∙◌, ◌≡◌, ◌+◌, ◌-◌, ◌<◌, ◌%◌, ◌^◌, ℕ}
use Rattle.std.specs.Prelude.{ℤ}
use Rattle.task_machine.specs.declared.next.Phase.TheVariants as phase
use Rattle.task_machine.specs.declared.machine.Ask.{Ask}
use Rattle.task_machine.specs.Machines.{IsOrdered, NoDue, rest_of}
use Rattle.task_machine.specs.Asks.{Asking, GoesTo}
use Rattle.task_machine.specs.steps.Standing.{Asked, IsKept, RunsOn, asking, machine, phase_of}
use Rattle.task_machine.proofs.Standing.{good1, goes_to, none1, rows1, stops_kept, stops_rest, went_kept, on_err}
use Rattle.task_machine.proofs.Sought.{none_below}
use Rattle.task_machine.proofs.machine.Machine.go_on.Goals as goal

pub invariant_of-self : goal.invariant_of-self
invariant_of-self c =
    let m = c.self.inside in
    let f = c.run.new.execution in
    let runs = subst (λ (a : Asking). RunsOn a.at.phase a.at.execution a.at.due) (sym c.self.view_is) c.requires.runs in
    let asked = ap (λ (a : Asking). a.ask) c.self.view_is ∙ c.requires.asked in
    let stops = c.in_err-pause.ensures.refused in
    let kept =
    stops_kept m.execution f m.due.items m.phase m.part stops.0 stops.1 m.ask m.asks m.children m.touched c.self.invariant.kept runs m.asks m.children
    m.touched in
    record {
      kept =
          subst (λ (k : Option Ask). IsKept (asking f c.settle-self-inside.new.due.items phase.Going m.part k m.asks m.children m.touched)) (sym asked)
          (subst (λ (ds : List Bool). IsKept (asking f ds phase.Going m.part None m.asks m.children m.touched)) (sym c.settle-self-inside.ensures.marks) kept);
      done = λ j lt. refl {a = false};
      unset = c.settle-self-inside.ensures.unset;
    }

pub returns-in_err-pause-clause-refused : goal.returns-in_err-pause-clause-refused
returns-in_err-pause-clause-refused c =
    let m = c.self.inside in
    let f = c.run.new.execution in
    let runs = subst (λ (a : Asking). RunsOn a.at.phase a.at.execution a.at.due) (sym c.self.view_is) c.requires.runs in
    let asked = ap (λ (a : Asking). a.ask) c.self.view_is ∙ c.requires.asked in
    let stops = c.in_err-pause.ensures.refused in
    let rest : (vs : List ℤ) → rest_of (machine f c.settle-self-inside.new.due.items phase.Going m.part) vs ≡ rest_of c.args.self.now.at vs =
    λ vs. stops_rest m.execution f m.due.items m.phase m.part stops.0 stops.1 m.ask m.asks m.children m.touched c.self.invariant.kept runs vs
    ∙ ap (λ (a : Asking). rest_of a.at vs) c.self.view_is in
    on_err c.from_residual-in_err-pause.result _ (asked, ap (λ (a : Asking). a.asks) c.self.view_is, rest)

pub invariant_of-self-2 : goal.invariant_of-self-2
invariant_of-self-2 c =
    let m = c.self.inside in
    let e = m.execution in
    let f = c.run.new.execution in
    let q = c.in_ok-pause.pause in
    let x = c.in_ok-pause.ensures.ran in
    let event = c.in_ok-pause.ensures.event in
    let kept = c.self.invariant.kept in
    let ds = m.due.items in
    let runs = subst (λ (a : Asking). RunsOn a.at.phase a.at.execution a.at.due) (sym c.self.view_is) c.requires.runs in
    let slice = c.as_slice.ensures.value ∙ c.settle-self-inside.ensures.marks in
    let asked =
    subst (λ (ds : List Bool). Asked c.pause_ask-ask.result.0 (phase_of q) (machine f ds (phase_of q) m.part)) slice
    (c.pause_ask-ask.ensures m.part
    (subst (λ (ds : List Bool). IsOrdered (machine f ds (phase_of q) m.part)) (sym slice)
    (good1 e f ds m.phase m.part q x event kept.order kept.knows runs))
    (subst (λ (ds : List Bool). NoDue (machine f ds (phase_of q) m.part)) (sym slice)
    (none1 e f ds m.phase m.part q x event kept.order kept.knows runs))
    (rows1 e f ds m.phase m.part q x event kept.order kept.knows runs kept.rows)) in
    record {
      kept =
          went_kept e f ds m.phase m.part q x event kept.order kept.knows runs m.ask c.pause_ask-ask.result.0 m.asks _ m.children m.touched _ kept asked
          c.settle-self-inside.new.due.items c.phase_of-self-inside.result c.settle-self-inside.ensures.marks c.phase_of-self-inside.ensures;
      done = none_below _ 0 refl;
      unset = c.settle-self-inside.ensures.unset;
    }

pub returns-clause-goes : goal.returns-clause-goes
returns-clause-goes c =
    let m = c.self.inside in
    let f = c.run.new.execution in
    let q = c.in_ok-pause.pause in
    let kept = c.self.invariant.kept in
    let runs = subst (λ (a : Asking). RunsOn a.at.phase a.at.execution a.at.due) (sym c.self.view_is) c.requires.runs in
    let counted = ap₂ (λ (y z : ℕ). (y + (2 ^ 64 - z)) % 2 ^ 64) c.events.ensures c.events-before.ensures in
    let ask = Some c.pause_ask-ask.result.0 in
    let asks = (m.asks + 1) % 2 ^ 64 in
    let touched = (c.events.result + (2 ^ 64 - c.events-before.result)) % 2 ^ 64 in
    let marks = c.settle-self-inside.new.due.items in
    let about = c.phase_of-self-inside.result in
    let before : Asking = asking m.execution m.due.items m.phase m.part m.ask m.asks m.children m.touched in
    let goes : GoesTo before (asking f marks about m.part ask asks m.children touched) =
    goes_to m.execution f m.due.items m.phase m.part q c.in_ok-pause.ensures.ran c.in_ok-pause.ensures.event kept.order kept.knows runs m.ask ask
    m.asks asks m.children m.children m.touched touched
    (subst (λ (y : ℕ). y < 2 ^ 64) c.events-before.ensures c.events-before.type_inv)
    (subst (λ (y : ℕ). y < 2 ^ 64) c.events.ensures c.events.type_inv) c.in_ok-can_count.ensures counted marks about c.settle-self-inside.ensures.marks
    c.phase_of-self-inside.ensures in
    subst (λ (a : Asking). GoesTo a (asking f marks about m.part ask asks m.children touched)) c.self.view_is goes
