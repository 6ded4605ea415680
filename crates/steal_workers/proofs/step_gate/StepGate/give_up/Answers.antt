use Rattle.std.proofs.Common.{sym, ◌∙◌}
use Rattle.steal_workers.specs.Holds.{holds_back}
use Rattle.steal_workers.proofs.Counting.{one_more, no_more}
use Rattle.steal_workers.proofs.step_gate.StepGate.give_up.Goals.{then-holds+then-not-is_seen_set, else-holds}
use Rattle.steal_workers.proofs.step_gate.StepGate.give_up.Goals as goal

pub looks-preserved : goal.looks-preserved
looks-preserved c =
    let p = holds_back c.args.path.now c.args.ask in
    let xs = c.self.inside.holds in
    let x = c.at.result.now in
    let n = c.looks.count in
    let m = c.if-holds.count in
    elim c.if-holds.branch [
      | then-holds+then-not-is_seen_set w ↦ one_more p xs c.looks.i x c.at.ensures n m c.looks.invariant (sym c.holds.ensures ∙ w.if-holds.true) w.count-is
      | else-holds w ↦ no_more p xs c.looks.i x c.at.ensures n m c.looks.invariant w.count-is
    ]
